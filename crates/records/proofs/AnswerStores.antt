-- Runs of stores over a whole buffer give the answer record.
use Prim.Native.Nat.{ℕ}
use native.Mathlib.Omega.{arith}
use mathlib.Core.Path.{◌≡◌, sym, ap, ◌∙◌}
use mathlib.Core.List.{List, ◌∷◌, ◌++◌}
use lib.ListN.{length}
use lib.Seq.{sets}
use Rattle.spec_base.specs.Limits.{place_bytes, signal_bytes, reactions_bytes}
use Rattle.spec_base.specs.Bytes.{le_bytes, replaced}
use Rattle.numbers.proofs.Writing.{sets-whole, sets_append, replaced-by}
use Rattle.spec_tick.specs.AnswerRecord.{answer_length, emitted_at, reactions_at, answer_record}
use Rattle.records.proofs.AnswerLaws.{answer_sized}

answer-replaced : (b : List ℕ) (code kind place emitted reactions : ℕ) → length b ≡ answer_length
    → replaced b (answer_record code kind place emitted reactions) ≡ answer_record code kind place emitted reactions
answer-replaced b code kind place emitted reactions =
    replaced-by answer_length b (answer_record code kind place emitted reactions) (answer_sized code kind place emitted reactions)

-- what the writer leaves, c, in a buffer b of the right length
pub answer-written : (b : List ℕ) (code kind place emitted reactions : ℕ) → length b ≡ answer_length → {c : List ℕ}
    → c ≡ replaced b (answer_record code kind place emitted reactions) → c ≡ answer_record code kind place emitted reactions
answer-written b code kind place emitted reactions s h = h ∙ answer-replaced b code kind place emitted reactions s

pub answer_stored : (code kind place emitted reactions : ℕ) (b : List ℕ) → length b ≡ answer_length
    → sets (sets (sets b 0 (code ∷ kind ∷ le_bytes place_bytes place)) emitted_at (le_bytes signal_bytes emitted)) reactions_at (le_bytes reactions_bytes reactions)
    ≡ replaced b (answer_record code kind place emitted reactions)
unfolding le_bytes
answer_stored code kind place emitted reactions b e =
    let h = code ∷ kind ∷ le_bytes place_bytes place in
    ap (λ (l : List ℕ). sets l reactions_at (le_bytes reactions_bytes reactions)) (sets_append b 0 h (le_bytes signal_bytes emitted))
    ∙ sets_append b 0 (h ++ le_bytes signal_bytes emitted) (le_bytes reactions_bytes reactions)
    ∙ sets-whole b ((h ++ le_bytes signal_bytes emitted) ++ le_bytes reactions_bytes reactions) (omega arith)
    ∙ sym (answer-replaced b code kind place emitted reactions e)
