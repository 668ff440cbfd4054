-- DEMAND 1, the numbers: a tick's number goes by rows 1 to 12 and 18.
use Prim.Native.Nat.{ℕ, ◌<◌, ◌≤◌}
use native.Mathlib.Omega.{arith}
use mathlib.Core.Path.{◌≡◌, refl, sym, ◌∙◌, subst}
use mathlib.Core.Logic.{◌≢◌, ◌⊎◌, inl, inr}
use mathlib.Core.Bool.{Bool, true, false, ◌&&◌, cond, true≢false}
use mathlib.Core.List.{List}
use lib.ListN.{length}
use lib.Dec.{eqb}
use borrow.Author.Tests.{eqb-true, eqb-false}
use Rattle.spec_base.specs.Sets.{none}
use Rattle.spec_language.specs.Reaction.{inheritanceFirst}
use Rattle.spec_language.specs.Statement.{Statement}
use Rattle.spec_language.specs.States.{Valid}
use Rattle.spec_language.specs.LabelTests.{valid}
use Rattle.spec_language.specs.Machines.{State}
use Rattle.theory_language.proofs.LabelTests.{valid-is}
use Rattle.spec_sequence.specs.Program.{program}
use Rattle.spec_sequence.specs.Check.{Checked, sound, bad, checked}
use Rattle.spec_sequence.specs.Rows.{Spells, rank, ByRows}
use Rattle.theory_sequence.proofs.ByRows.{rank_least, refused_by, accepted_by}
use Rattle.theory_sequence.proofs.Rows.{Decides, decided, row-range, row-rank}
use Rattle.spec_tick.specs.StateRecord.{state_length, Decoded, holds, malformed, decode, decode_state, phase_in, labels_in}
use Rattle.spec_tick.specs.AnswerRecord.{answer_length}
use Rattle.spec_tick.specs.Tick.{outcome, byState, by_check, reply_of, replied, tick_by, tick_of}
use Rattle.spec_tick.specs.TickRows.{Malformed, phase_above, labels_fresh, labels_over, not_valid, TickRow, row_1, row_2_to_10, row_11, row_12}
use Rattle.spec_tick.specs.Demands.{number}
use Rattle.theory_tick.proofs.Sequence.{same_statement}

-- ---- what a record holds, in the words of rows 11 and 12
-- the record holds a state of p, or is malformed
pub data Reading (p : Statement) (phase labels : ℕ) : Decoded → Type 0 where
  reads_fresh : phase ≡ 0 → labels ≡ none → Reading p phase labels (holds State.fresh)
  reads_waiting : phase ≡ 1 → Valid p labels → Reading p phase labels (holds (State.waits labels))
  reads_over : phase ≡ 2 → labels ≡ none → Reading p phase labels (holds State.over)
  reads_malformed : Malformed p phase labels → Reading p phase labels malformed

module _ (p : Statement) (L : ℕ) where
  waiting-reading : (phase : ℕ) → phase ≡ 1 → (b : Bool) → valid p L ≡ b → Reading p phase L (cond b (holds (State.waits L)) malformed)
  waiting-reading phase e true v = reads_waiting e ((valid-is p L).0 v)
  waiting-reading phase e false v = reads_malformed (not_valid e (λ x. true≢false (sym ((valid-is p L).1 x) ∙ v)))

  other-reading : (phase : ℕ) → phase ≢ 1 → (x y z : Bool) → eqb phase 0 ≡ x → eqb phase 2 ≡ y → eqb L none ≡ z
      → Reading p phase L (cond (x && z) (holds State.fresh) (cond (y && z) (holds State.over) malformed))
  other-reading phase n true y true i j k = reads_fresh (eqb-true phase 0 i) (eqb-true L none k)
  other-reading phase n true true false i j k = reads_malformed (labels_fresh (eqb-true phase 0 i) (eqb-false L none k))
  other-reading phase n true false false i j k = reads_malformed (labels_fresh (eqb-true phase 0 i) (eqb-false L none k))
  other-reading phase n false true true i j k = reads_over (eqb-true phase 2 j) (eqb-true L none k)
  other-reading phase n false true false i j k = reads_malformed (labels_over (eqb-true phase 2 j) (eqb-false L none k))
  other-reading phase n false false z i j k =
      reads_malformed (phase_above (above (eqb-false phase 0 i) (eqb-false phase 2 j)))
    where
      above : phase ≢ 0 → phase ≢ 2 → 2 < phase
      above u v = omega arith

  decode-reading : (phase : ℕ) → Reading p phase L (decode p phase L)
  decode-reading phase = go (eqb phase 1) refl
    where
      go : (b : Bool) → eqb phase 1 ≡ b
          → Reading p phase L
          (cond b (cond (valid p L) (holds (State.waits L)) malformed)
          (cond (eqb phase 0 && eqb L none) (holds State.fresh) (cond (eqb phase 2 && eqb L none) (holds State.over) malformed)))
      go true e = waiting-reading phase (eqb-true phase 1 e) (valid p L) refl
      go false e = other-reading phase (eqb-false phase 1 e) (eqb phase 0) (eqb phase 2) (eqb L none) refl refl refl

pub reading : (p : Statement) (state : List ℕ) → Reading p (phase_in state) (labels_in state) (decode_state p state)
unfolding decode_state
reading p state = decode-reading p (labels_in state) (phase_in state)

-- a record that holds a state is not malformed
pub well_formed_lem : {p : Statement} {phase labels : ℕ} {s : State} → Reading p phase labels (holds s) → ¬ Malformed p phase labels
well_formed_lem (reads_fresh e n) (phase_above h) = omega arith
well_formed_lem (reads_fresh e n) (labels_fresh f m) = m n
well_formed_lem (reads_fresh e n) (labels_over f m) = omega arith
well_formed_lem (reads_fresh e n) (not_valid f m) = omega arith
well_formed_lem (reads_waiting e v) (phase_above h) = omega arith
well_formed_lem (reads_waiting e v) (labels_fresh f m) = omega arith
well_formed_lem (reads_waiting e v) (labels_over f m) = omega arith
well_formed_lem (reads_waiting e v) (not_valid f m) = m v
well_formed_lem (reads_over e n) (phase_above h) = omega arith
well_formed_lem (reads_over e n) (labels_fresh f m) = omega arith
well_formed_lem (reads_over e n) (labels_over f m) = m n
well_formed_lem (reads_over e n) (not_valid f m) = omega arith

-- ---- the rows of one tick
module _ (sequence : List ℕ) (read_back : ℕ) (state answer : List ℕ) where
  abbrev Holds : ℕ → Type 0
  Holds = TickRow sequence read_back state answer

  abbrev Sized : Type 0
  Sized = (length state ≡ state_length) × (length answer ≡ answer_length)

  row-positive : (m : ℕ) → Holds m → 1 ≤ m
  row-positive m (row_1 x) = omega arith
  row-positive m (row_2_to_10 r) = omega (arith, row-range sequence read_back m r)
  row-positive m (row_11 s x) = omega arith
  row-positive m (row_12 x) = omega arith

  not-1 : Sized → (length state ≢ state_length) ⊎ (length answer ≢ answer_length) → ⊥
  not-1 z (inl x) = x z.0
  not-1 z (inr x) = x z.1

  by-1 : (length state ≢ state_length) ⊎ (length answer ≢ answer_length) → ByRows 1 Holds
  by-1 x = refused_by 1 Holds (λ r. omega (arith, row-positive 0 r)) (row_1 x) (λ k l r. omega (arith, l, rank_least 1 k (row-positive k r) (omega arith)))

  by_check_lem : Sized → (k : ℕ) → Decides sequence read_back (bad k) → ByRows k Holds
  by_check_lem z k d =
      refused_by k Holds (λ r. omega (arith, row-positive 0 r)) (row_2_to_10 d.0) below
    where
      below : (m : ℕ) → rank m < rank k → ¬ Holds m
      below m l (row_1 x) = not-1 z x
      below m l (row_2_to_10 r) = d.1 m l r
      below m l (row_11 s x) = omega (arith, l, row-rank sequence read_back k d.0)
      below m l (row_12 x) = omega (arith, l, row-rank sequence read_back k d.0)

  module _ (z : Sized) (p : Statement) (c : Decides sequence read_back (sound p)) where
    not-11 : {s : State} {q : Statement} → Reading p (phase_in state) (labels_in state) (holds s) → Spells sequence q
        → Malformed q (phase_in state) (labels_in state) → ⊥
    not-11 {q = q} r t y =
        well_formed_lem r
        (subst (λ (w : Statement). Malformed w (phase_in state) (labels_in state)) (same_statement sequence q p t c.1) y)

    nowhere : {s : State} → Reading p (phase_in state) (labels_in state) (holds s) → phase_in state ≢ 2 → (m : ℕ) → ¬ Holds m
    nowhere r n m (row_1 y) = not-1 z y
    nowhere r n m (row_2_to_10 y) = c.0 m y
    nowhere r n m (row_11 t y) = not-11 r t y
    nowhere r n m (row_12 y) = n y

    by_state : (e : ℕ) (d : Decoded) → Reading p (phase_in state) (labels_in state) d
        → ByRows (number (replied (byState inheritanceFirst (program read_back p) d e) state answer)) Holds
    by_state e d (reads_malformed x) =
        refused_by 11 Holds (λ r. omega (arith, row-positive 0 r)) (row_11 c.1 x) below
      where
        below : (m : ℕ) → rank m < rank 11 → ¬ Holds m
        below m l (row_1 y) = not-1 z y
        below m l (row_2_to_10 r) = c.0 m r
        below m l (row_11 t y) = omega arith
        below m l (row_12 y) = omega arith
    by_state e d (reads_over x n) =
        refused_by 12 Holds (λ r. omega (arith, row-positive 0 r)) (row_12 x) below
      where
        below : (m : ℕ) → rank m < rank 12 → ¬ Holds m
        below m l (row_1 y) = not-1 z y
        below m l (row_2_to_10 r) = c.0 m r
        below m l (row_11 t y) = not-11 (reads_over x n) t y
        below m l (row_12 y) = omega arith
    by_state e d (reads_fresh x n) = accepted_by Holds (nowhere (reads_fresh x n) (omega arith))
    by_state e d (reads_waiting x v) = accepted_by Holds (nowhere (reads_waiting x v) (omega arith))

  pub tick_by_rows : (e : ℕ) → ByRows (number (tick_of sequence state e read_back answer)) Holds
  unfolding tick_by
  tick_by_rows e = go (eqb (length state) state_length) (eqb (length answer) answer_length) refl refl
    where
      checks : Sized → (c : Checked) → Decides sequence read_back c → ByRows (number (replied (by_check inheritanceFirst read_back c state e) state answer)) Holds
      checks z (bad k) d = by_check_lem z k d
      checks z (sound p) d = by_state z p d e (decode_state p state) (reading p state)

      go : (b c : Bool) → eqb (length state) state_length ≡ b → eqb (length answer) answer_length ≡ c
          → ByRows (number (cond (b && c) (replied (reply_of sequence state e read_back) state answer) (outcome 1 state answer))) Holds
      go true true i j =
          checks (eqb-true (length state) state_length i, eqb-true (length answer) answer_length j) (checked sequence read_back) (decided sequence read_back)
      go true false i j = by-1 (inr (eqb-false (length answer) answer_length j))
      go false c i j = by-1 (inl (eqb-false (length state) state_length i))
