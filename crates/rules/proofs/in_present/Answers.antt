use Rattle.rules.proofs.Combining.{single_is, present-asks}
use Rattle.rules.proofs.in_present.Goals as goal

pub returns : goal.returns
returns c small t a = present-asks _ (single_is _ small c.single.ensures) t (c.around.ensures t a)
