-- Runs of stores over a whole buffer give the state record.
use Prim.Native.Nat.{ℕ, ◌+◌, ◌/◌, ◌%◌, ◌^◌}
use native.Mathlib.Omega.{arith}
use mathlib.Core.Path.{◌≡◌, sym, ap, ◌∙◌}
use mathlib.Core.List.{List}
use lib.ListN.{length}
use lib.Seq.{sets}
use Rattle.spec_base.specs.Limits.{word_labels, word_bytes, label_bytes}
use Rattle.spec_base.specs.Bytes.{le_bytes, replaced}
use Rattle.numbers.proofs.Bytes.{length_le_bytes, le_low, le_append}
use Rattle.numbers.proofs.Writing.{sets-whole, sets_append, replaced-by}
use Rattle.spec_tick.specs.StateRecord.{state_length, state_record}
use Rattle.records.proofs.StateLaws.{state_sized}

state_replaced : (b : List ℕ) (phase labels : ℕ) → length b ≡ state_length
    → replaced b (state_record phase labels) ≡ state_record phase labels
state_replaced b phase labels = replaced-by state_length b (state_record phase labels) (state_sized phase labels)

-- what the writer leaves, c, in a buffer b of the right length
pub state_written : (b : List ℕ) (phase labels : ℕ) → length b ≡ state_length → {c : List ℕ} → c ≡ replaced b (state_record phase labels)
    → {l : ℕ} → labels ≡ l → c ≡ state_record phase l
state_written b phase labels s h e = h ∙ state_replaced b phase labels s ∙ ap (state_record phase) e

-- two words, one behind the other, are the label set
pub words_stored : (b : List ℕ) (at labels : ℕ)
    → sets (sets b at (le_bytes word_bytes (labels % 2 ^ word_labels))) (at + word_bytes) (le_bytes word_bytes (labels / 2 ^ word_labels))
    ≡ sets b at (le_bytes label_bytes labels)
words_stored b at labels =
    let low = le_bytes word_bytes labels in
    let high = le_bytes word_bytes (labels / 2 ^ word_labels) in
    let behind : at + word_bytes ≡ length low + at = omega (arith, length_le_bytes word_bytes labels) in
    ap (λ (l : List ℕ). sets (sets b at l) (at + word_bytes) high) (le_low word_bytes labels)
    ∙ ap (λ (k : ℕ). sets (sets b at low) k high) behind
    ∙ sets_append b at low high
    ∙ ap (sets b at) (sym (le_append word_bytes word_bytes labels))

pub state_stored : (phase labels : ℕ) (b : List ℕ) → length b ≡ state_length
    → sets b 0 (state_record phase labels) ≡ replaced b (state_record phase labels)
state_stored phase labels b e =
    sets-whole b (state_record phase labels) (state_sized phase labels ∙ sym e) ∙ sym (state_replaced b phase labels e)
