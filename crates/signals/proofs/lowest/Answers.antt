use native.Mathlib.Omega.{arith}
use borrow.Author.Rules.{rules}
use lib.Count.{trailing_le}
use Rattle.sets.proofs.Lowest.{lowest_is}
use Rattle.signals.proofs.lowest.Goals as goal

pub overflow_cast-result : goal.overflow_cast-result
overflow_cast-result c = omega (arith, trailing_le 32 c.args.s)

pub returns : goal.returns
returns c = lowest_is 32 _ (search rules)
