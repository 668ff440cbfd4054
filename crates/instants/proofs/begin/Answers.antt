use mathlib.Core.Path.{sym, ap, ◌∙◌}
use Rattle.std.proofs.lemmas.Result.{err_from_is_err_and}
use Rattle.checks.proofs.Passing.{passed, as-sound}
use Rattle.limits.specs.Rows.{call_number}
use Rattle.instants.proofs.Replying.{unchecked, decoded}
use Rattle.instants.proofs.begin.Goals as goal

pub returns-in_err-check : goal.returns-in_err-check
returns-in_err-check c =
    let a = c.args in
    let r = err_from_is_err_and c.from_residual.result c.from_residual.ensures.1 in
    rw (r.1, r.2) (unchecked a.sequence.now a.state.now a.read_back _ (sym (ap (λ x. call_number x) c.in_err-check.was) ∙ c.check.ensures.number))

pub decode-requires : goal.decode-requires
decode-requires c = as-sound (passed _ _ _ _ _ c.check.ensures (ap (λ x. call_number x) c.in_ok-check.was))

pub returns : goal.returns
returns c =
    let h = passed _ _ _ _ _ c.check.ensures (ap (λ x. call_number x) c.in_ok-check.was) in
    decoded _ _ _ h c.decode.result (c.decode.ensures h.p h.known)
