use native.Mathlib.Omega.{arith}
use borrow.Author.Rules.{rules}
use lib.Count.{ones-le}
use Rattle.sets.proofs.Sizes.{size_is}
use Rattle.signals.proofs.size.Goals as goal

pub overflow_cast-result : goal.overflow_cast-result
overflow_cast-result c = omega (arith, ones-le 32 c.args.s (search rules))

pub returns : goal.returns
returns c = size_is 32 _ (search rules)
