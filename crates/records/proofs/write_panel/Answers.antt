use Prim.Native.Nat.{ℕ}
use mathlib.Core.Path.{ap, ◌∙◌}
use Rattle.spec_base.specs.Sets.{difference}
use Rattle.spec_base.specs.Bytes.{replaced}
use Rattle.spec_tick.specs.AnswerRecord.{code_in, emitted_in}
use Rattle.records.proofs.Panels.{panel_made}
use Rattle.records.proofs.write_panel.Goals as goal

pub returns : goal.returns
returns c =
    let a = c.args in
    let v = a.service_only in
    let told = c.answer-told.ensures in
    c.show.ensures
    ∙ ap (replaced a.view.now)
    (panel_made v a.«record».now c.number.ensures (c.code-code.ensures ∙ ap code_in told)
    (c.difference-inputs.ensures ∙ ap (λ (x : ℕ). difference x v) c.input.ensures)
    (c.difference-emitted.ensures ∙ ap (λ (x : ℕ). difference x v) (c.emitted.ensures ∙ ap emitted_in told)))
