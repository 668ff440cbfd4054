use borrow.Author.Rules.{rules}
use Rattle.spec_base.specs.Sets.{difference}
use Rattle.sets.proofs.Masks.{masked_out}
use Rattle.signals.proofs.difference.Goals as goal

pub returns : goal.returns
unfolding difference
returns c = masked_out 32 c.args.s c.args.t (search rules) (search rules)
