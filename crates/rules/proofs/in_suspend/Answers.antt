use Rattle.spec_base.specs.Sets.{none}
use Rattle.rules.proofs.Combining.{suspend_counts}
use Rattle.rules.proofs.in_suspend.Goals as goal

pub returns : goal.returns
unfolding none
returns c s t a = suspend_counts s t (c.around.ensures t a)
