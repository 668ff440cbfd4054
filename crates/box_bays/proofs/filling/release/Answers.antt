use Rattle.box_bays.proofs.Storing.{released}
use Rattle.box_bays.proofs.filling.release.Goals as goal

pub returns : goal.returns
returns c = released _ c.vacate.ensures
