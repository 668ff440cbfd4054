-- A tick on a bay's slot: turned down, by its row or by the ledger, with nothing written, or an instant that enters its litres, is
-- counted and leaves its record.
use Prim.Native.Nat.{ℕ, zero, suc, ◌+◌, ◌≤◌, ◌<◌}
use native.Mathlib.Omega.{arith}
use native.Mathlib.Decide.{ℕ_discrete}
use mathlib.Core.Path.{◌≡◌, refl, sym, ap, ap₂, ◌∙◌}
use mathlib.Core.Logic.{◌≢◌}
use mathlib.Core.Bool.{Bool, true, false, cond}
use mathlib.Core.List.{List, [], ◌∷◌}
use lib.ListN.{length}
use lib.Dec.{eqb}
use borrow.Author.Tests.{eq-eqb, ne_eqb}
use Rattle.spec_base.specs.Limits.{number_bytes}
use Rattle.spec_sequence.specs.Rows.{rank}
use Rattle.theory_sequence.proofs.Rows.{row-rank}
use Rattle.spec_base.specs.Bytes.{le_bytes, le_number}
use Rattle.numbers.proofs.Bytes.{length_le_bytes}
use Rattle.spec_tick.specs.StateRecord.{state_length}
use Rattle.spec_tick.specs.AnswerRecord.{answer_length}
use Rattle.spec_tick.specs.Record.{recordLength, record_of}
use Rattle.spec_tick.specs.Recording.{following}
use Rattle.spec_base.specs.Parts.{slot, put}
use Rattle.numbers.proofs.Putting.{put-slot, length-put, slot-put, put-before, put-behind}
use Rattle.spec_bay.specs.Ledgers.{ledger_length, passes, added}
use Rattle.box_ledgers.proofs.Theorems.{added-sized}
use Rattle.spec_tick.specs.Tick.{Outcome, outcome, tick_of}
use Rattle.spec_tick.specs.TickRows.{TickRow, row_1, row_2_to_10, row_11, row_12}
use Rattle.spec_tick.specs.Demands as demands
use Rattle.spec_tick.specs.Demands.{state_afterwards, answer_afterwards}
use Rattle.theory_tick.proofs.Sequence.{tick_short}
use Rattle.theory_tick.proofs.Demand1.{demand_1}
use Rattle.spec_bay.specs.Called.{Called, called, number, memory_after, lent_after, first}
use Rattle.spec_bay.specs.Stretch.{state_at, count_at, bay_length, stretch_length, sequence_in, read_back_in, state_in, last_number_in, ledger_in, with_ledger}
use Rattle.spec_bay.specs.BayCalls.{delivering, by_outcome, bay_tick_of}
use Rattle.spec_box.specs.BayRuns.{paper_buffer}
use Rattle.theory_bay.proofs.Fields.{ledger_sized, state_sized}
use Rattle.theory_bay.proofs.Ticking.{tick_sized}

-- ---- the rows of a tick come before 13 and 19
pub tick_range : {sequence : List ℕ} {read_back : ℕ} {state answer : List ℕ} (k : ℕ) → TickRow sequence read_back state answer k → rank k ≤ rank 12
tick_range k (row_1 x) = omega arith
tick_range {sequence} {read_back} k (row_2_to_10 r) = omega (arith, row-rank sequence read_back k r)
tick_range k (row_11 s m) = omega arith
tick_range k (row_12 e) = omega arith

pub own_below : (sequence state : List ℕ) (e read_back : ℕ) (answer : List ℕ) (k : ℕ) → k ≢ 0 → rank 12 < rank k
    → demands.number (tick_of sequence state e read_back answer) ≢ k
own_below sequence state e read_back answer k n l h =
    let r = (((demand_1.tick_by_rows sequence state e read_back answer).refusal k n).0 h).0 in omega (arith, tick_range k r)

module _ (s : List ℕ) (z : length s ≡ stretch_length) (e : ℕ) (answer trace : List ℕ) where
  -- what the tick on the bay's sequence comes to, with the buffer that the paper sees
  abbrev pub inner : Outcome
  inner = tick_of (sequence_in s) (state_in s) e (read_back_in s) (paper_buffer trace answer)

  abbrev x : ℕ → ℕ
  x = delivering s e

  -- the slot after an instant that leaves this state: the state, the litres in the ledger, the number
  abbrev stepped : List ℕ → List ℕ
  stepped state = put state_at state_length state s

  abbrev pub entered : List ℕ → List ℕ
  entered state = with_ledger (added (delivering s e) (ledger_in s)) (stepped state)

  abbrev pub next : ℕ
  next = following (last_number_in s)

  abbrev pub written : List ℕ → List ℕ
  written state = put count_at number_bytes (le_bytes number_bytes next) (entered state)

  pub data Ticked (o : Called) : Type 0 where
    down : (n : ℕ) → n ≢ 0 → n ≢ 19 → inner ≡ outcome n (state_in s) (paper_buffer trace answer) → o ≡ called n s (answer ∷ trace ∷ []) → Ticked o
    full : demands.number inner ≡ 0 → passes (ledger_in s) (delivering s e) ≡ true → o ≡ called 19 s (answer ∷ trace ∷ []) → Ticked o
    instant : (state left : List ℕ) → length state ≡ state_length → length trace ≡ recordLength → passes (ledger_in s) (delivering s e) ≡ false
        → inner ≡ outcome 0 state left → o ≡ called 0 (written state) (left ∷ record_of next e left state ∷ []) → Ticked o

  like-tick : length trace ≡ recordLength → bay_tick_of s e answer trace ≡ by_outcome s e answer trace x inner
  unfolding bay_tick_of
  like-tick j = rw (eq-eqb (length trace) recordLength j)

  pub unlike-tick : length trace ≢ recordLength → bay_tick_of s e answer trace ≡ called 1 s (answer ∷ trace ∷ [])
  unfolding bay_tick_of
  unlike-tick n = rw (ne_eqb (length trace) recordLength n)

  pub like-buffer : length trace ≡ recordLength → (b : List ℕ) → paper_buffer trace b ≡ b
  like-buffer j b = rw (eq-eqb (length trace) recordLength j)

  unlike-inner : length trace ≢ recordLength → inner ≡ outcome 1 (state_in s) (paper_buffer trace answer)
  unlike-inner n =
      let short : length (paper_buffer trace answer) ≡ 0 = rw (ne_eqb (length trace) recordLength n) in
      tick_short (sequence_in s) (state_in s) e (read_back_in s) (paper_buffer trace answer) (λ l. omega arith)

  -- ---- an instant whose litres pass no limit
  pub length-stepped : (state : List ℕ) → length state ≡ state_length → length (stepped state) ≡ stretch_length
  length-stepped state l = length-put state_at state_length state s (omega arith) l ∙ z

  module _ (below : passes (ledger_in s) (delivering s e) ≡ false) (state : List ℕ) (l : length state ≡ state_length) where
    pub new-sized : length (added (delivering s e) (ledger_in s)) ≡ ledger_length
    new-sized = added-sized x (ledger_in s) (ledger_sized s z) below

    pub length-entered : length (entered state) ≡ stretch_length
    length-entered =
        let k = length-stepped state l in length-put bay_length ledger_length (added x (ledger_in s)) (stepped state) (omega arith) new-sized ∙ k

    -- what stands before the ledger
    pub before-ledger : (i m : ℕ) → i + m ≤ bay_length → slot i m (entered state) ≡ slot i m (stepped state)
    before-ledger i m h =
        let k = length-stepped state l in put-before bay_length ledger_length (added x (ledger_in s)) (stepped state) (omega arith) new-sized i m h

  pub ticked : Ticked (bay_tick_of s e answer trace)
  ticked = elim (ℕ_discrete (length trace) recordLength) [
    | yes j ↦ go inner refl j
    | no j ↦ down 1 (λ y. omega arith) (λ y. omega arith) (unlike-inner j) (unlike-tick j)
  ]
    where
      sized : length (state_afterwards inner) ≡ state_length
      sized = tick_sized (sequence_in s) (state_in s) e (read_back_in s) (paper_buffer trace answer) (state_sized s z)

      entering : (state left : List ℕ) → inner ≡ outcome 0 state left → length trace ≡ recordLength
          → (b : Bool) → passes (ledger_in s) (delivering s e) ≡ b → Ticked (bay_tick_of s e answer trace)
      entering state left q j true h = full (ap demands.number q) h (like-tick j ∙ ap (by_outcome s e answer trace x) q ∙ rw h)
      entering state left q j false h =
          let l : length state ≡ state_length = sym (ap (λ (o : Outcome). length (state_afterwards o)) q) ∙ sized in
          instant state left l j h q (like-tick j ∙ ap (by_outcome s e answer trace x) q ∙ rw h)

      go : (o : Outcome) → inner ≡ o → length trace ≡ recordLength → Ticked (bay_tick_of s e answer trace)
      go (outcome zero state left) q j = entering state left q j (passes (ledger_in s) (delivering s e)) refl
      go (outcome (suc n) state left) q j =
          let m : demands.number inner ≡ suc n = ap demands.number q in
          let k = demand_1.refusal_writes_nothing (sequence_in s) (state_in s) e (read_back_in s) (paper_buffer trace answer) (λ y. omega arith) in
          let w : inner ≡ outcome (suc n) (state_in s) (paper_buffer trace answer) =
          k ∙ ap (λ (i : ℕ). outcome i (state_in s) (paper_buffer trace answer)) m in
          down (suc n) (λ y. omega arith)
          (λ y. own_below (sequence_in s) (state_in s) e (read_back_in s) (paper_buffer trace answer) 19 (λ u. omega arith) (omega arith) (m ∙ y)) w
          (like-tick j ∙ ap (by_outcome s e answer trace x) w)

  -- ---- what ledger and record leave of the tick: number and answer, unless the ledger is full; refusals and length
  pub tick-number : number (bay_tick_of s e answer trace) ≢ 19 → number (bay_tick_of s e answer trace) ≡ demands.number inner
  tick-number d = go ticked
    where
      go : Ticked (bay_tick_of s e answer trace) → number (bay_tick_of s e answer trace) ≡ demands.number inner
      go (down n y m q w) = ap number w ∙ sym (ap demands.number q)
      go (full q h w) = absurd (d (ap number w))
      go (instant state left l j h q w) = ap number w ∙ sym (ap demands.number q)

  pub tick-answer : number (bay_tick_of s e answer trace) ≢ 19 → paper_buffer trace (first (lent_after (bay_tick_of s e answer trace))) ≡ answer_afterwards inner
  tick-answer d = go ticked
    where
      go : Ticked (bay_tick_of s e answer trace) → paper_buffer trace (first (lent_after (bay_tick_of s e answer trace))) ≡ answer_afterwards inner
      go (down n y m q w) = ap (λ (o : Called). paper_buffer trace (first (lent_after o))) w ∙ sym (ap answer_afterwards q)
      go (full q h w) = absurd (d (ap number w))
      go (instant state left l j h q w) =
          ap (λ (o : Called). paper_buffer trace (first (lent_after o))) w ∙ like-buffer j left ∙ sym (ap answer_afterwards q)

  pub tick-refused : number (bay_tick_of s e answer trace) ≢ 0
      → bay_tick_of s e answer trace ≡ called (number (bay_tick_of s e answer trace)) s (answer ∷ trace ∷ [])
  tick-refused d = go ticked
    where
      go : Ticked (bay_tick_of s e answer trace) → bay_tick_of s e answer trace ≡ called (number (bay_tick_of s e answer trace)) s (answer ∷ trace ∷ [])
      go (down n y m q w) = w ∙ ap (λ (m : ℕ). called m s (answer ∷ trace ∷ [])) (sym (ap number w))
      go (full q h w) = w ∙ ap (λ (m : ℕ). called m s (answer ∷ trace ∷ [])) (sym (ap number w))
      go (instant state left l j h q w) = absurd (d (ap number w))

  pub tick-keeps-length : length (memory_after (bay_tick_of s e answer trace)) ≡ stretch_length
  tick-keeps-length = go ticked
    where
      go : Ticked (bay_tick_of s e answer trace) → length (memory_after (bay_tick_of s e answer trace)) ≡ stretch_length
      go (down n y m q w) = ap (λ (o : Called). length (memory_after o)) w ∙ z
      go (full q h w) = ap (λ (o : Called). length (memory_after o)) w ∙ z
      go (instant state left l j h q w) =
          let k = length-entered h state l in
          ap (λ (o : Called). length (memory_after o)) w
          ∙ length-put count_at number_bytes (le_bytes number_bytes next) (entered state) (omega arith) (length_le_bytes number_bytes next)
          ∙ k
