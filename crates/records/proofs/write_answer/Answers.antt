use Prim.Native.Nat.{ℕ}
use native.Mathlib.Omega.{arith}
use mathlib.Core.Path.{ap, ◌∙◌}
use mathlib.Core.List.{List}
use lib.ListN.{length-set}
use lib.Seq.{sets}
use Rattle.spec_base.specs.Bytes.{le_bytes}
use Rattle.spec_base.specs.Limits.{signal_bytes, reactions_bytes}
use Rattle.spec_tick.specs.AnswerRecord.{answer_length, emitted_at, reactions_at, answer_record}
use Rattle.numbers.proofs.Writing.{left_alone}
use Rattle.records.proofs.AnswerStores.{answer_stored}
use Rattle.records.proofs.AnswerLaws.{answer_sized}
use Rattle.records.proofs.write_answer.Goals as goal

pub returns-then-answer-ne-ANSWER_LENGTH : goal.returns-then-answer-ne-ANSWER_LENGTH
returns-then-answer-ne-ANSWER_LENGTH c =
    let a = c.args in
    left_alone answer_length a.answer.now (answer_record a.code a.kind a.place a.emitted a.reactions)
    (answer_sized a.code a.kind a.place a.emitted a.reactions) c.if-answer-ne-ANSWER_LENGTH.true

pub put_le-requires : goal.put_le-requires
put_le-requires c = simp length-set (omega arith)

pub put_le-requires-2 : goal.put_le-requires-2
put_le-requires-2 c = omega (arith, simp length-set at c.put_le.auto.buf)

pub put_le-requires-3 : goal.put_le-requires-3
put_le-requires-3 c =
    omega (arith, c.put_le-2.auto.buf, simp length-set at c.put_le.auto.buf)

pub shape_of-answer : goal.shape_of-answer
shape_of-answer c =
    c.put_le-3.auto.buf ∙ c.put_le-2.auto.buf
    ∙ c.put_le.auto.buf ∙ simp length-set

pub returns : goal.returns
returns c =
    let s = c.args in
    c.put_le-3.ensures
    ∙ ap (λ (l : List ℕ). sets l reactions_at (le_bytes reactions_bytes s.reactions))
    (c.put_le-2.ensures ∙ ap (λ (l : List ℕ). sets l emitted_at (le_bytes signal_bytes s.emitted)) c.put_le.ensures)
    ∙ answer_stored s.code s.kind s.place s.emitted s.reactions s.answer.now c.if-answer-ne-ANSWER_LENGTH.false
