use Rattle.resume.proofs.KeptSteps.{from_none}
use Rattle.resume.proofs.kept.of_part.Goals as goal

pub returns : goal.returns
returns c base p l = from_none c.empty-found.ensures (c.part.ensures base p l)
