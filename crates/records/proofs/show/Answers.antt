use Prim.Native.Nat.{ℕ}
use native.Mathlib.Omega.{arith}
use mathlib.Core.Path.{ap, ◌∙◌}
use mathlib.Core.List.{List}
use lib.ListN.{set, length-set}
use lib.Seq.{sets}
use Rattle.spec_base.specs.Limits.{signal_bytes, number_bytes}
use Rattle.spec_base.specs.Bytes.{le_bytes}
use Rattle.numbers.proofs.Writing.{left_alone}
use Rattle.spec_tick.specs.Record.{panel_input_at, panel_emitted_at, panel_length, panel_bytes}
use Rattle.records.proofs.Panels.{panel-sized}
use Rattle.records.proofs.RecordStores.{panel-stored}
use Rattle.records.proofs.show.Goals as goal

pub returns-then-view-ne-PANEL_LENGTH : goal.returns-then-view-ne-PANEL_LENGTH
returns-then-view-ne-PANEL_LENGTH c =
    let a = c.args in
    left_alone panel_length a.view.now (panel_bytes a.number a.code a.inputs a.emitted)
    (panel-sized a.number a.code a.inputs a.emitted) c.if-view-ne-PANEL_LENGTH.true

pub put_le-requires-2 : goal.put_le-requires-2
put_le-requires-2 c = simp length-set (omega (arith, c.put_le.auto.buf))

pub put_le-requires-3 : goal.put_le-requires-3
put_le-requires-3 c =
    omega (arith, simp length-set at c.put_le-2.auto.buf, c.put_le.auto.buf)

pub shape_of-view : goal.shape_of-view
shape_of-view c =
    c.put_le-3.auto.buf ∙ c.put_le-2.auto.buf ∙ simp length-set c.put_le.auto.buf

pub returns : goal.returns
returns c =
    let a = c.args in
    c.put_le-3.ensures
    ∙ ap (λ (l : List ℕ). sets l panel_emitted_at (le_bytes signal_bytes a.emitted))
    (c.put_le-2.ensures
    ∙ ap (λ (l : List ℕ). sets (set l number_bytes a.code) panel_input_at (le_bytes signal_bytes a.inputs)) c.put_le.ensures)
    ∙ panel-stored a.number a.code a.inputs a.emitted a.view.now c.if-view-ne-PANEL_LENGTH.false
