use mathlib.Core.Path.{sym, ◌∙◌, subst}
use Rattle.std.proofs.lemmas.Result.{err_from_is_err_and}
use Rattle.validity.specs.Activity.{ValidityOf}
use Rattle.instants.proofs.Decoding.{was_some, was_none, waiting-as, waiting-invalid, is-fresh, is-over, other-phase, stray-labels}
use Rattle.instants.proofs.decode.Goals as goal

pub returns-in_err-active : goal.returns-in_err-active
returns-in_err-active c p k =
    let r = err_from_is_err_and c.from_residual.result c.from_residual.ensures.1 in
    let n = was_none _ _ _ (sym c.ok_or.ensures.value ∙ c.in_err-active.was) in
    rw (r.1, r.2, n.1) (waiting-invalid p _ _ _ c.phase-phase.ensures c.labels-labels.ensures c.if-phase-eq-WAITING.true (subst (ValidityOf p _) n.0 (c.valid_ranks.ensures p k)))

pub returns-then-phase-eq-WAITING : goal.returns-then-phase-eq-WAITING
returns-then-phase-eq-WAITING c p k =
    let s = was_some _ _ _ (sym c.ok_or.ensures.value ∙ c.in_ok-active.was) in
    waiting-as p _ _ _ c.phase-phase.ensures c.labels-labels.ensures c.if-phase-eq-WAITING.true _ (subst (ValidityOf p _) s (c.valid_ranks.ensures p k))

pub returns-then-phase-eq-FRESH : goal.returns-then-phase-eq-FRESH
returns-then-phase-eq-FRESH c p k = is-fresh p _ _ _ c.phase-phase.ensures c.labels-labels.ensures c.if-phase-eq-WAITING.false c.if-phase-eq-FRESH.true (sym c.is_empty.ensures ∙ c.if-is_empty.true)

pub returns-then-phase-eq-OVER : goal.returns-then-phase-eq-OVER
returns-then-phase-eq-OVER c p k = is-over p _ _ _ c.phase-phase.ensures c.labels-labels.ensures c.if-phase-eq-WAITING.false c.if-phase-eq-OVER.true (sym c.is_empty.ensures ∙ c.if-is_empty.true)

pub returns-else-phase-eq-OVER : goal.returns-else-phase-eq-OVER
returns-else-phase-eq-OVER c p k = other-phase p _ _ _ c.phase-phase.ensures c.labels-labels.ensures c.if-phase-eq-WAITING.false c.if-phase-eq-FRESH.false c.if-phase-eq-OVER.false

pub returns-else-is_empty : goal.returns-else-is_empty
returns-else-is_empty c p k = stray-labels p _ _ _ c.phase-phase.ensures c.labels-labels.ensures c.if-phase-eq-WAITING.false (sym c.is_empty.ensures ∙ c.if-is_empty.false)
