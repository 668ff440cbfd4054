use Prim.Native.Nat.{ℕ}
use mathlib.Core.Path.{ap, ◌∙◌}
use mathlib.Core.List.{List}
use lib.Seq.{sets}
use Rattle.spec_base.specs.Limits.{signal_bytes}
use Rattle.spec_base.specs.Bytes.{le_bytes}
use Rattle.numbers.proofs.Writing.{left_alone}
use Rattle.spec_tick.specs.Record.{input_at, answer_at, state_at, recordLength, record_of}
use Rattle.records.proofs.Records.{record_sized}
use Rattle.records.proofs.RecordStores.{record-stored}
use Rattle.records.proofs.write_record.Goals as goal

pub returns-then-buf-ne-RECORD_LENGTH : goal.returns-then-buf-ne-RECORD_LENGTH
returns-then-buf-ne-RECORD_LENGTH c =
    let a = c.args in
    let z = c.requires in
    left_alone recordLength a.buf.now (record_of a.number a.input a.answer.now a.state.now)
    (record_sized a.number a.input a.answer.now a.state.now z.0 z.1) c.if-buf-ne-RECORD_LENGTH.true

pub returns : goal.returns
returns c =
    let a = c.args in
    c.put_bytes-2.ensures
    ∙ ap (λ (l : List ℕ). sets l state_at a.state.now)
    (c.put_bytes.ensures
    ∙ ap (λ (l : List ℕ). sets l answer_at a.answer.now)
    (c.put_le-2.ensures ∙ ap (λ (l : List ℕ). sets l input_at (le_bytes signal_bytes a.input)) c.put_le.ensures))
    ∙ record-stored a.number a.input a.answer.now a.state.now a.buf.now c.requires.0 c.requires.1
    c.if-buf-ne-RECORD_LENGTH.false
