-- One law for each return of the code of a bay's tick with its record and of the two readers, over plain lists.
use Prim.Native.Nat.{ℕ, zero, suc, ◌+◌, ◌≤◌}
use native.Mathlib.Omega.{arith}
use mathlib.Core.Path.{◌≡◌, refl, sym, ap, ap₂, ◌∙◌}
use mathlib.Core.Logic.{◌≢◌, ◌⊎◌, inl, inr}
use mathlib.Core.Bool.{Bool, true, false}
use mathlib.Core.List.{List, [], ◌∷◌}
use lib.ListN.{length}
use lib.Seq.{sets}
use borrow.Author.Tests.{eq-eqb, ne_eqb}
use Rattle.spec_base.specs.Limits.{number_bytes}
use Rattle.spec_base.specs.Bytes.{le_bytes, le_number, replaced}
use Rattle.spec_base.specs.Parts.{slot, put}
use Rattle.numbers.proofs.Bytes.{length_le_bytes}
use Rattle.numbers.proofs.Writing.{replaced-by}
use Rattle.spec_tick.specs.AnswerRecord.{answer_length}
use Rattle.spec_tick.specs.Record.{recordLength, record_of, panel_length, panel_of}
use Rattle.spec_tick.specs.Recording.{following}
use Rattle.records.proofs.Records.{record_sized}
use Rattle.records.proofs.Panels.{length_panel}
use Rattle.numbers.proofs.Putting.{stored, put-slot, length-put, slot-put, put-before, put-behind}
use Rattle.spec_tick.specs.StateRecord.{state_length}
use Rattle.spec_tick.specs.Tick.{Outcome, outcome, tick_of}
use Rattle.spec_tick.specs.Demands.{number, state_afterwards}
use Rattle.theory_tick.proofs.Demand1.{demand_1}
use Rattle.spec_bay.specs.Ledgers.{ledger_length, passes, added}
use Rattle.box_ledgers.proofs.Theorems.{added-sized}
use Rattle.spec_bay.specs.Called.{called}
use Rattle.spec_bay.specs.Stretch.{state_at, count_at, bay_length, stretch_length, sequence_in, read_back_in, state_in, last_number_in, service_only_in, ledger_in, with_ledger}
use Rattle.spec_bay.specs.BayCalls.{delivering, by_outcome, showing, bay_tick_of, bay_service_of, bay_panel_of}
use Rattle.limits.specs.declared.rows.Refusal.{Refusal}
use Rattle.limits.specs.Rows.{row_number}
use Rattle.limits.proofs.Refusals.{row_not_0}
use Rattle.box_bays.specs.Layers.{state_kept, charged, counted, recorded, bay_step_of, bay_charged_of}
use Rattle.theory_bay.proofs.Fields.{ledger_sized, state_sized}
use Rattle.theory_bay.proofs.Ticking.{tick_sized}

-- ---- an instant is counted, and its record is written
module _ (s : List ℕ) (e : ℕ) (answer trace : List ℕ)
    (z : length s ≡ stretch_length) (l : length answer ≡ answer_length) (j : length trace ≡ recordLength) where
  pub noted : {k n : ℕ} → k ≡ last_number_in s → n ≡ following k → {state s' trace' : List ℕ} → state ≡ state_in s
      → trace' ≡ replaced trace (record_of n e answer state) → s' ≡ sets s count_at (le_bytes number_bytes n)
      → called 0 s' (answer ∷ trace' ∷ []) ≡ recorded e trace (called 0 s (answer ∷ []))
  noted {k} {n} a b {state} {s'} {trace'} c h g =
      let m = following (last_number_in s) in
      let x : n ≡ m = b ∙ ap following a in
      let y : s' ≡ counted s =
      g ∙ ap (λ (i : ℕ). sets s count_at (le_bytes number_bytes i)) x
      ∙ stored count_at number_bytes (le_bytes number_bytes m) s (omega arith) (length_le_bytes number_bytes m) in
      let r : trace' ≡ record_of m e answer (state_in s) =
      h ∙ ap₂ (λ (i : ℕ) (q : List ℕ). replaced trace (record_of i e answer q)) x c
      ∙ replaced-by recordLength trace (record_of m e answer (state_in s)) (record_sized m e answer (state_in s) l (state_sized s z)) j in
      ap₂ (λ (p q : List ℕ). called 0 p (answer ∷ q ∷ [])) y r

-- ---- the tick
module _ (s : List ℕ) (e : ℕ) (answer trace : List ℕ) where
  pub other-record : length trace ≢ recordLength → called 1 s (answer ∷ trace ∷ []) ≡ bay_tick_of s e answer trace
  unfolding bay_tick_of
  other-record n = rw (ne_eqb (length trace) recordLength n)

  abbrev x : ℕ → ℕ
  x = delivering s e

  abbrev inner : Outcome
  inner = tick_of (sequence_in s) (state_in s) e (read_back_in s) answer

  -- the layers of the code are the cases of the definition
  module _ (z : length s ≡ stretch_length) where
    module _ (state left : List ℕ) (l : length state ≡ state_length) (below : passes (ledger_in s) (delivering s e) ≡ false) where
      before-ledger : (i m : ℕ) → i + m ≤ bay_length
          → slot i m (with_ledger (added (delivering s e) (ledger_in s)) (put state_at state_length state s)) ≡ slot i m (put state_at state_length state s)
      before-ledger i m h =
          let k = length-put state_at state_length state s (omega arith) l in
          put-before bay_length ledger_length (added x (ledger_in s)) (put state_at state_length state s) (omega arith)
          (added-sized x (ledger_in s) (ledger_sized s z) below) i m h

      instant-noted : recorded e trace (called 0 (with_ledger (added (delivering s e) (ledger_in s)) (put state_at state_length state s)) (left ∷ []))
          ≡ called 0
          (put count_at number_bytes (le_bytes number_bytes (following (last_number_in s)))
          (with_ledger (added (delivering s e) (ledger_in s)) (put state_at state_length state s)))
          (left ∷ record_of (following (last_number_in s)) e left state ∷ [])
      instant-noted =
          ap₂ (λ (c : ℕ) (r : List ℕ).
          called 0 (put count_at number_bytes (le_bytes number_bytes (following c)) (with_ledger (added (delivering s e) (ledger_in s)) (put state_at state_length state s)))
          (left ∷ record_of (following c) e left r ∷ []))
          (ap le_number (before-ledger count_at number_bytes (omega arith)
          ∙ put-behind state_at state_length state s (omega arith) l count_at number_bytes (omega arith)))
          (before-ledger state_at state_length (omega arith) ∙ slot-put state_at state_length state s (omega arith) l)

    by-layers : (o : Outcome) → inner ≡ o → recorded e trace (charged s (delivering s e) answer (state_kept s o)) ≡ by_outcome s e answer trace (delivering s e) o
    by-layers (outcome zero state left) q = go (passes (ledger_in s) (delivering s e)) refl
      where
        sized : length state ≡ state_length
        sized =
            sym (ap (λ (o : Outcome). length (state_afterwards o)) q) ∙ tick_sized (sequence_in s) (state_in s) e (read_back_in s) answer (state_sized s z)

        go : (b : Bool) → passes (ledger_in s) (delivering s e) ≡ b
            → recorded e trace (charged s (delivering s e) answer (state_kept s (outcome zero state left)))
            ≡ by_outcome s e answer trace (delivering s e) (outcome zero state left)
        go true h = rw h
        go false h = rw h (instant-noted state left sized h)
    by-layers (outcome (suc n) state left) q =
        let m : number inner ≡ suc n = ap number q in
        let k = demand_1.refusal_writes_nothing (sequence_in s) (state_in s) e (read_back_in s) answer (λ y. omega arith) in
        let w : outcome (suc n) state left ≡ outcome (suc n) (state_in s) answer =
        sym q ∙ k ∙ ap (λ (i : ℕ). outcome i (state_in s) answer) m in
        ap (λ (o : Outcome). recorded e trace (charged s x answer (state_kept s o))) w
        ∙ ap (λ (r : List ℕ). called (suc n) r (answer ∷ trace ∷ [])) (put-slot state_at state_length s)

    module _ (j : length trace ≡ recordLength) where
      as-recorded : recorded e trace (bay_charged_of s e answer) ≡ bay_tick_of s e answer trace
      unfolding bay_tick_of bay_charged_of bay_step_of
      as-recorded = rw (eq-eqb (length trace) recordLength j) (by-layers inner refl)

      module _ (s' answer' : List ℕ) where
        pub recorded-tick : called 0 s' (answer' ∷ []) ≡ bay_charged_of s e answer → {s'' trace' : List ℕ}
            → called 0 s'' (answer' ∷ trace' ∷ []) ≡ recorded e trace (called 0 s' (answer' ∷ []))
            → called 0 s'' (answer' ∷ trace' ∷ []) ≡ bay_tick_of s e answer trace
        recorded-tick w c = c ∙ ap (recorded e trace) w ∙ as-recorded

        pub refused-tick : (row : Refusal) → called (row_number row) s' (answer' ∷ []) ≡ bay_charged_of s e answer
            → called (row_number row) s' (answer' ∷ trace ∷ []) ≡ bay_tick_of s e answer trace
        refused-tick row w = go (row_number row) (row_not_0 row) ∙ ap (recorded e trace) w ∙ as-recorded
          where
            go : (n : ℕ) → n ≢ 0 → called n s' (answer' ∷ trace ∷ []) ≡ recorded e trace (called n s' (answer' ∷ []))
            go zero h = absurd (h refl)
            go (suc n) h = refl

-- ---- the readers
module _ (s shown : List ℕ) (viewLength : ℕ) (trace view : List ℕ) where
  other-length : length trace ≢ recordLength ⊎ length trace ≡ recordLength × length view ≢ viewLength → called 1 s (view ∷ []) ≡ showing s shown viewLength trace view
  other-length (inl n) = rw (ne_eqb (length trace) recordLength n)
  other-length (inr (j, n)) = rw (eq-eqb (length trace) recordLength j, ne_eqb (length view) viewLength n)

  shows : length trace ≡ recordLength → length view ≡ viewLength → length shown ≡ viewLength → {view' : List ℕ} → view' ≡ replaced view shown
      → called 0 s (view' ∷ []) ≡ showing s shown viewLength trace view
  shows j l m {view'} h =
      rw (eq-eqb (length trace) recordLength j, eq-eqb (length view) viewLength l)
      (ap (λ (r : List ℕ). called 0 s (r ∷ [])) (h ∙ replaced-by viewLength view shown m l))

module _ (s trace view : List ℕ) where
  pub not-served : length trace ≢ recordLength ⊎ length trace ≡ recordLength × length view ≢ recordLength → called 1 s (view ∷ []) ≡ bay_service_of s trace view
  unfolding bay_service_of
  not-served = other-length s trace recordLength trace view

  pub not-paneled : length trace ≢ recordLength ⊎ length trace ≡ recordLength × length view ≢ panel_length → called 1 s (view ∷ []) ≡ bay_panel_of s trace view
  unfolding bay_panel_of
  not-paneled = other-length s (panel_of (service_only_in s) trace) panel_length trace view

  module _ (j : length trace ≡ recordLength) where
    pub served : length view ≡ recordLength → {view' : List ℕ} → view' ≡ replaced view trace → called 0 s (view' ∷ []) ≡ bay_service_of s trace view
    unfolding bay_service_of
    served l h = shows s trace recordLength trace view j l j h

    pub paneled : length view ≡ panel_length → {k : ℕ} → k ≡ service_only_in s → {view' : List ℕ} → view' ≡ replaced view (panel_of k trace)
        → called 0 s (view' ∷ []) ≡ bay_panel_of s trace view
    unfolding bay_panel_of
    paneled l e h =
        shows s (panel_of (service_only_in s) trace) panel_length trace view j l (length_panel (service_only_in s) trace)
        (h ∙ ap (λ (v : ℕ). replaced view (panel_of v trace)) e)
