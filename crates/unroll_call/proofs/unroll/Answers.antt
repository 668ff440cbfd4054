use mathlib.Core.Path.{ap}
use Rattle.std.proofs.lemmas.Result.{err_from_is_err_and}
use Rattle.limits.specs.Rows.{call_number}
use Rattle.checks.proofs.Passing.{passed, as-ready}
use Rattle.unroll_call.proofs.Deciding.{other_length, refused, plain, with_setpause}
use Rattle.unroll_call.proofs.unroll.Goals as goal

pub returns-then-buffer-ne-MAX_BYTES : goal.returns-then-buffer-ne-MAX_BYTES
returns-then-buffer-ne-MAX_BYTES c = other_length _ _ _ c.if-buffer-ne-MAX_BYTES.true

pub returns-in_err-check : goal.returns-in_err-check
returns-in_err-check c =
    let p = err_from_is_err_and c.from_residual.result c.from_residual.ensures.1 in
    rw (p.1, p.2) (refused _ _ _ c.check.ensures c.if-buffer-ne-MAX_BYTES.false _ (ap call_number c.in_err-check.was))

pub returns-then-not-is_empty : goal.returns-then-not-is_empty
returns-then-not-is_empty c = with_setpause _ _ _ c.check.ensures c.if-buffer-ne-MAX_BYTES.false (ap call_number c.in_ok-check.was) c.setpauses-setpauses.ensures c.is_empty.ensures c.if-not-is_empty.true

pub of_plain-requires : goal.of_plain-requires
of_plain-requires c = record { ready = as-ready (passed _ _ _ _ _ c.check.ensures (ap call_number c.in_ok-check.was)); buffer_len = c.if-buffer-ne-MAX_BYTES.false }

pub returns : goal.returns
returns c =
    plain _ _ _ c.check.ensures c.if-buffer-ne-MAX_BYTES.false (ap call_number c.in_ok-check.was) c.setpauses-setpauses.ensures c.is_empty.ensures _
    c.if-not-is_empty.false c.of_plain.ensures
