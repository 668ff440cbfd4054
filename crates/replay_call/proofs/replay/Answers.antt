use mathlib.Core.Path.{sym, ap, ◌∙◌}
use Rattle.std.proofs.lemmas.Result.{err_from_is_err_and}
use Rattle.checks.proofs.Passing.{passed}
use Rattle.limits.specs.Rows.{call_number}
use Rattle.spec_replay.specs.Replay.{replayed}
use Rattle.theory_replay.proofs.Numbers.{refused-replay, cut-replay, placed-replay}
use Rattle.limits.proofs.Refusals.{row_not_0}
use Rattle.replay_call.proofs.replay.Goals as goal

pub returns-in_err-check : goal.returns-in_err-check
returns-in_err-check c =
    let p = err_from_is_err_and c.from_residual.result c.from_residual.ensures.1 in
    let e = ap call_number c.in_err-check.was in
    rw (p.1, p.2) (sym (refused-replay _ _ _ _ (sym e ∙ c.check.ensures.number) (row_not_0 _)))

pub returns-then-recording-ne0 : goal.returns-then-recording-ne0
returns-then-recording-ne0 c = sym (cut-replay _ _ _ (sym c.check.ensures.number ∙ ap call_number c.in_ok-check.was) c.if-recording-ne0.true)

pub first_difference-requires : goal.first_difference-requires
first_difference-requires c = passed _ _ _ _ _ c.check.ensures (ap call_number c.in_ok-check.was)

pub returns : goal.returns
returns c =
    ap (replayed 0) c.first_difference.ensures
    ∙ sym (placed-replay _ _ _ (sym c.check.ensures.number ∙ ap call_number c.in_ok-check.was) c.if-recording-ne0.false)
