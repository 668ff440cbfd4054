use Rattle.spec_bay.specs.Stretch.{terms}
use Rattle.box_bays.proofs.Storing.{filled-by}
use Rattle.box_bays.proofs.filling.fill.Goals as goal

pub returns : goal.returns
returns c =
    filled-by (terms c.args.sequence.now _ _) _ c.args.stretch.now c.requires.0 c.requires.1 c.vacate.ensures c.put_le.ensures
    c.put_bytes.ensures c.put_le-2.ensures c.put_le-3.ensures c.put_le-4.ensures
