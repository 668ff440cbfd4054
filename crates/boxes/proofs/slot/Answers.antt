use Rattle.boxes.proofs.Entering.{no-bay, other-box, any-bay}
use Rattle.boxes.proofs.slot.Goals as goal

pub returns-then-at-ge-BAYS : goal.returns-then-at-ge-BAYS
returns-then-at-ge-BAYS c = no-bay _ _ c.if-at-ge-BAYS.true

pub returns-then-memory-ne-BOX_LENGTH : goal.returns-then-memory-ne-BOX_LENGTH
returns-then-memory-ne-BOX_LENGTH c = other-box _ _ c.if-at-ge-BAYS.false c.if-memory-ne-BOX_LENGTH.true

pub returns : goal.returns
returns c = any-bay _ _ c.if-at-ge-BAYS.false c.if-memory-ne-BOX_LENGTH.false
