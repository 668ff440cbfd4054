use Rattle.rules.proofs.Combining.{held_asks}
use Rattle.rules.proofs.in_held.Goals as goal

pub returns : goal.returns
returns c s known t a = held_asks s known t (c.around.ensures t a)
