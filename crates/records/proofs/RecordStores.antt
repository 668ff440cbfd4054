-- Runs of stores over a whole buffer give a record, and a panel's bytes.
use Prim.Native.Nat.{ℕ, ◌+◌}
use native.Mathlib.Omega.{arith}
use mathlib.Core.Path.{◌≡◌, sym, ap, ◌∙◌}
use mathlib.Core.List.{List, [], ◌∷◌, ◌++◌}
use lib.ListN.{length, length-append}
use lib.Seq.{sets}
use Rattle.spec_base.specs.Limits.{signal_bytes, number_bytes}
use Rattle.spec_base.specs.Bytes.{le_bytes, replaced}
use Rattle.numbers.proofs.Writing.{sets-whole, sets_append, replaced-by}
use Rattle.spec_tick.specs.StateRecord.{state_length}
use Rattle.spec_tick.specs.AnswerRecord.{answer_length}
use Rattle.spec_tick.specs.Record.{input_at, answer_at, state_at, recordLength, record_of, panel_input_at, panel_emitted_at, panel_length, panel_bytes}
use Rattle.records.proofs.Records.{record_sized}
use Rattle.records.proofs.Panels.{panel-sized}

-- ---- a record
module _ (n e : ℕ) (answer state b : List ℕ)
    (a : length answer ≡ answer_length) (s : length state ≡ state_length) (z : length b ≡ recordLength) where
  pub record-stored :
      sets (sets (sets (sets b 0 (le_bytes number_bytes n)) input_at (le_bytes signal_bytes e)) answer_at answer) state_at state
      ≡ replaced b (record_of n e answer state)
  unfolding le_bytes
  record-stored =
      let x = le_bytes number_bytes n in
      let y = x ++ le_bytes signal_bytes e in
      let k : state_at ≡ length (y ++ answer) + 0 = omega (arith, length-append y answer) in
      ap (λ (l : List ℕ). sets (sets l answer_at answer) state_at state) (sets_append b 0 x (le_bytes signal_bytes e))
      ∙ ap (λ (l : List ℕ). sets l state_at state) (sets_append b 0 y answer)
      ∙ ap (λ (m : ℕ). sets (sets b 0 (y ++ answer)) m state) k
      ∙ sets_append b 0 (y ++ answer) state
      ∙ sets-whole b ((y ++ answer) ++ state) (record_sized n e answer state a s ∙ sym z)
      ∙ sym (replaced-by recordLength b (record_of n e answer state) (record_sized n e answer state a s) z)

-- ---- a panel's bytes
module _ (n k i o : ℕ) (b : List ℕ) (z : length b ≡ panel_length) where
  pub panel-stored :
      sets (sets (sets (sets b 0 (le_bytes number_bytes n)) number_bytes (k ∷ [])) panel_input_at (le_bytes signal_bytes i)) panel_emitted_at (le_bytes signal_bytes o)
      ≡ replaced b (panel_bytes n k i o)
  unfolding le_bytes
  panel-stored =
      let x = le_bytes number_bytes n in
      let y = x ++ (k ∷ []) in
      let w = y ++ le_bytes signal_bytes i in
      ap (λ (l : List ℕ). sets (sets l panel_input_at (le_bytes signal_bytes i)) panel_emitted_at (le_bytes signal_bytes o)) (sets_append b 0 x (k ∷ []))
      ∙ ap (λ (l : List ℕ). sets l panel_emitted_at (le_bytes signal_bytes o)) (sets_append b 0 y (le_bytes signal_bytes i))
      ∙ sets_append b 0 w (le_bytes signal_bytes o)
      ∙ sets-whole b (w ++ le_bytes signal_bytes o) (panel-sized n k i o ∙ sym z)
      ∙ sym (replaced-by panel_length b (panel_bytes n k i o) (panel-sized n k i o) z)
