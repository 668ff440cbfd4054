use Rattle.box_bays.proofs.Positioning.{not-waiting, saved}
use Rattle.box_bays.proofs.naming.save.Goals as goal

pub returns-then-phase-ne1 : goal.returns-then-phase-ne1
returns-then-phase-ne1 c = not-waiting _ _ c.state-held.ensures c.phase.ensures c.if-phase-ne1.true

pub returns : goal.returns
returns c =
    saved _ _ c.state-held.ensures c.phase.ensures c.if-phase-ne1.false
    c.labels-labels.ensures _ _ c.save.ensures
