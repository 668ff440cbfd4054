use Rattle.rules.proofs.Combining.{single_is, stopped-asks}
use Rattle.rules.proofs.stopped.Goals as goal

pub returns : goal.returns
returns c small u = stopped-asks _ (single_is _ small c.single.ensures) _ u c.waiting.ensures
