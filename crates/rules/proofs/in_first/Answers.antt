use Rattle.spec_base.specs.Sets.{none}
use Rattle.rules.proofs.CombiningTwo.{seq_stops}
use Rattle.rules.proofs.in_first.Goals as goal

pub returns : goal.returns
unfolding none
returns c u v h t a = seq_stops u t v _ a h (c.around.ensures t a)
