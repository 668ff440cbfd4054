use borrow.Author.Rules.{rules}
use Rattle.box_bays.proofs.Charging.{lent-answer}
use Rattle.box_bays.proofs.Recording.{other-record, recorded-tick, refused-tick}
use Rattle.limits.proofs.Refusals.{handed-on}
use Rattle.box_bays.proofs.tick.Goals as goal

pub returns-then-trace-ne-RECORD_LENGTH : goal.returns-then-trace-ne-RECORD_LENGTH
returns-then-trace-ne-RECORD_LENGTH c = other-record _ _ _ _ c.if-trace-ne-RECORD_LENGTH.true

pub note-requires : goal.note-requires
note-requires c =
    let l = lent-answer _ _ _ c.in_ok-step.ensures in
    search rules

pub returns-in_err-step : goal.returns-in_err-step
returns-in_err-step c =
    rw (handed-on _ _ c.from_residual.ensures.1)
    (refused-tick _ _ _ _ c.requires c.if-trace-ne-RECORD_LENGTH.false _ _ _ c.in_err-step.ensures)

pub returns : goal.returns
returns c =
    recorded-tick _ _ _ _ c.requires c.if-trace-ne-RECORD_LENGTH.false _ _ c.in_ok-step.ensures c.note.ensures
