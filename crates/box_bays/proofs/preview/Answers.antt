use Rattle.box_bays.proofs.Previewing.{on_stretch_lem}
use Rattle.box_bays.proofs.preview.Goals as goal

pub returns : goal.returns
returns c =
    on_stretch_lem _ _ _ _ c.sequence.ensures c.state.ensures c.read_back.ensures _ _ c.preview.ensures
