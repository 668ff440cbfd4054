use Rattle.box_bays.proofs.Recording.{not-served, served}
use Rattle.box_bays.proofs.service.Goals as goal

pub returns-then-trace-ne-RECORD_LENGTH : goal.returns-then-trace-ne-RECORD_LENGTH
returns-then-trace-ne-RECORD_LENGTH c = not-served _ _ _ c.then-trace-ne-RECORD_LENGTH.either

pub returns : goal.returns
returns c = served _ _ _ c.if-trace-ne-RECORD_LENGTH.false c.if-view-ne-RECORD_LENGTH.false c.write_service.ensures
