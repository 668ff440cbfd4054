-- What the call comes to, return by return, and its number by the rows of 02, item 13.
use Prim.Native.Nat.{ℕ, ◌≤◌, ◌<◌}
use native.Mathlib.Omega.{arith}
use mathlib.Core.Path.{◌≡◌, refl, sym, ap, ◌∙◌, subst}
use mathlib.Core.Logic.{◌≢◌, ◌⊎◌, inl, inr}
use mathlib.Core.Bool.{Bool, true, false, ◌&&◌, cond}
use mathlib.Core.List.{List}
use lib.ListN.{length}
use lib.Dec.{eqb, leb}
use borrow.Author.Tests.{eqb-true, eqb-false, leb-true, leb-false}
use Rattle.spec_base.specs.Limits.{max_bytes, max_depth}
use Rattle.spec_base.specs.Sets.{member, none, empty}
use Rattle.sets.proofs.Booleans.{clash, Tested, tested}
use Rattle.sets.proofs.Members.{in_none}
use Rattle.sets.proofs.Lowest.{some-member}
use Rattle.spec_language.specs.Statement.{Statement}
use Rattle.spec_language.specs.States.{NoSetpause}
use Rattle.spec_language.specs.LabelTests.{setpauses}
use Rattle.theory_language.proofs.LabelTests.{setpauses_is}
use Rattle.spec_sequence.specs.Writer.{bytes_of, size}
use Rattle.spec_language.specs.Sizes.{depth_of}
use Rattle.spec_sequence.specs.Check.{Checked, sound, bad, checked}
use Rattle.spec_sequence.specs.Rows.{rank, ByRows}
use Rattle.theory_sequence.proofs.ByRows.{rank_least, refused_by, accepted_by}
use Rattle.theory_sequence.proofs.Rows.{Decides, decided, row-range, row-rank}
use Rattle.theory_tick.proofs.Sequence.{same_statement}
use Rattle.spec_unroll.specs.Unrolled.{unrolled}
use Rattle.spec_unroll.specs.Call.{Unrolling, number, refused, written, fits, of_plain, of_statement, of_checked, unroll_of}
use Rattle.spec_unroll.specs.Rows.{UnrollRow, row_1, row_2_to_10, row_20, row_21, Fits}

-- ---- a setpause, or none
pub plain_test : (p : Statement) → empty (setpauses p) ≡ true → NoSetpause p
plain_test p h l s =
    in_none l (sym (ap (member l) (eqb-true (setpauses p) none h)) ∙ (setpauses_is p l).1 s)

pub plain-is : (p : Statement) → NoSetpause p → empty (setpauses p) ≡ true
plain-is p n = go (tested (empty (setpauses p)))
  where
    go : Tested (empty (setpauses p)) → empty (setpauses p) ≡ true
    go (Tested.yes h) = h
    go (Tested.no h) =
        let m = some-member (setpauses p) (eqb-false (setpauses p) none h) in
        absurd (n m.0 ((setpauses_is p m.0).0 m.1))

-- ---- the limits
pub fits_test : (p : Statement) → fits p ≡ true → Fits p
fits_test p h = go (leb (size (unrolled p)) max_bytes) (leb (depth_of (unrolled p)) max_depth) refl refl h
  where
    go : (b c : Bool) → leb (size (unrolled p)) max_bytes ≡ b → leb (depth_of (unrolled p)) max_depth ≡ c → (b && c) ≡ true → Fits p
    go true true i j k = record { short = leb-true (size (unrolled p)) max_bytes i; shallow = leb-true (depth_of (unrolled p)) max_depth j }
    go true false i j k = absurd (let z : ◌≡◌ {A = ℕ} 0 1 = cc in omega arith)
    go false c i j k = absurd (let z : ◌≡◌ {A = ℕ} 0 1 = cc in omega arith)

pub fits_not : (p : Statement) → fits p ≡ false → (max_bytes < size (unrolled p)) ⊎ (max_depth < depth_of (unrolled p))
fits_not p h = go (leb (size (unrolled p)) max_bytes) (leb (depth_of (unrolled p)) max_depth) refl refl h
  where
    go : (b c : Bool) → leb (size (unrolled p)) max_bytes ≡ b → leb (depth_of (unrolled p)) max_depth ≡ c → (b && c) ≡ false
        → (max_bytes < size (unrolled p)) ⊎ (max_depth < depth_of (unrolled p))
    go true true i j k = absurd (let z : ◌≡◌ {A = ℕ} 0 1 = cc in omega arith)
    go true false i j k = inr (leb-false (depth_of (unrolled p)) max_depth j)
    go false c i j k = inl (leb-false (size (unrolled p)) max_bytes i)

-- ---- what a call comes to
pub data Comes (sequence : List ℕ) (read_back : ℕ) (buffer : List ℕ) : Unrolling → Type 0 where
  comes_1 : length buffer ≢ max_bytes → Comes sequence read_back buffer (refused 1 buffer)
  comes_2_to_10 : {n : ℕ} → length buffer ≡ max_bytes → Decides sequence read_back (bad n) → Comes sequence read_back buffer (refused n buffer)
  comes_20 : {p : Statement} → length buffer ≡ max_bytes → Decides sequence read_back (sound p) → ¬ NoSetpause p
      → Comes sequence read_back buffer (refused 20 buffer)
  comes_21 : {p : Statement} → length buffer ≡ max_bytes → Decides sequence read_back (sound p) → NoSetpause p
      → (max_bytes < size (unrolled p)) ⊎ (max_depth < depth_of (unrolled p)) → Comes sequence read_back buffer (refused 21 buffer)
  comes_result : {p : Statement} → length buffer ≡ max_bytes → Decides sequence read_back (sound p) → checked sequence read_back ≡ sound p
      → NoSetpause p → Fits p → Comes sequence read_back buffer (written (bytes_of (unrolled p)) buffer)

module _ (sequence : List ℕ) (read_back : ℕ) (buffer : List ℕ) where
  module _ (long : length buffer ≡ max_bytes) where
    by-limits : (p : Statement) → Decides sequence read_back (sound p) → checked sequence read_back ≡ sound p → NoSetpause p → Tested (fits p)
        → Comes sequence read_back buffer (of_plain p buffer)
    by-limits p d e n (Tested.yes h) = rw h (comes_result long d e n (fits_test p h))
    by-limits p d e n (Tested.no h) = rw h (comes_21 long d n (fits_not p h))

    by-setpauses : (p : Statement) → Decides sequence read_back (sound p) → checked sequence read_back ≡ sound p
        → Tested (empty (setpauses p)) → Comes sequence read_back buffer (of_statement p buffer)
    by-setpauses p d e (Tested.yes h) = rw h (by-limits p d e (plain_test p h) (tested (fits p)))
    by-setpauses p d e (Tested.no h) = rw h (comes_20 long d (λ n. clash (empty (setpauses p)) (plain-is p n) h))

    by_check_lem : (c : Checked) → Decides sequence read_back c → checked sequence read_back ≡ c → Comes sequence read_back buffer (of_checked c buffer)
    by_check_lem (bad n) d e = comes_2_to_10 long d
    by_check_lem (sound p) d e = by-setpauses p d e (tested (empty (setpauses p)))

  pub comes : Comes sequence read_back buffer (unroll_of sequence read_back buffer)
  unfolding unroll_of
  comes = go (tested (eqb (length buffer) max_bytes))
    where
      go : Tested (eqb (length buffer) max_bytes)
          → Comes sequence read_back buffer
          (cond (eqb (length buffer) max_bytes) (of_checked (checked sequence read_back) buffer) (refused 1 buffer))
      go (Tested.yes h) = rw h (by_check_lem (eqb-true (length buffer) max_bytes h) (checked sequence read_back) (decided sequence read_back) refl)
      go (Tested.no h) = rw h (comes_1 (eqb-false (length buffer) max_bytes h))

  -- ---- so the number goes by the rows
  abbrev Holds : ℕ → Type 0
  Holds = UnrollRow sequence read_back buffer

  row-positive : (m : ℕ) → Holds m → 1 ≤ m
  row-positive m (row_1 x) = omega arith
  row-positive m (row_2_to_10 r) = omega (arith, row-range sequence read_back m r)
  row-positive m (row_20 s x) = omega arith
  row-positive m (row_21 s x) = omega arith

  refused_as : (n : ℕ) → Holds n → ((k : ℕ) → rank k < rank n → ¬ Holds k) → ByRows n Holds
  refused_as n h below = refused_by n Holds (λ r. omega (arith, row-positive 0 r)) h below

  too_large : (p : Statement) → Fits p → (max_bytes < size (unrolled p)) ⊎ (max_depth < depth_of (unrolled p)) → ⊥
  too_large p f (inl x) = omega (arith, f.short)
  too_large p f (inr x) = omega (arith, f.shallow)

  by_rows : {u : Unrolling} → Comes sequence read_back buffer u → ByRows (number u) Holds
  by_rows (comes_1 x) = refused_as 1 (row_1 x) (λ k l r. omega (arith, l, rank_least 1 k (row-positive k r) (omega arith)))
  by_rows (comes_2_to_10 {n = n} z d) = refused_as n (row_2_to_10 d.0) below
    where
      below : (m : ℕ) → rank m < rank n → ¬ Holds m
      below m l (row_1 x) = x z
      below m l (row_2_to_10 r) = d.1 m l r
      below m l (row_20 s x) = omega (arith, l, row-rank sequence read_back n d.0)
      below m l (row_21 s x) = omega (arith, l, row-rank sequence read_back n d.0)
  by_rows (comes_20 {p = p} z d x) = refused_as 20 (row_20 d.1 x) below
    where
      below : (m : ℕ) → rank m < rank 20 → ¬ Holds m
      below m l (row_1 y) = y z
      below m l (row_2_to_10 r) = d.0 m r
      below m l (row_20 s y) = omega arith
      below m l (row_21 s y) = omega arith
  by_rows (comes_21 {p = p} z d n x) = refused_as 21 (row_21 d.1 x) below
    where
      below : (m : ℕ) → rank m < rank 21 → ¬ Holds m
      below m l (row_1 y) = y z
      below m l (row_2_to_10 r) = d.0 m r
      below m l (row_20 {p = q} s y) = y (subst NoSetpause (same_statement sequence p q d.1 s) n)
      below m l (row_21 s y) = omega arith
  by_rows (comes_result {p = p} z d e n f) = accepted_by Holds none-holds
    where
      none-holds : (m : ℕ) → ¬ Holds m
      none-holds m (row_1 y) = y z
      none-holds m (row_2_to_10 r) = d.0 m r
      none-holds m (row_20 {p = q} s y) = y (subst NoSetpause (same_statement sequence p q d.1 s) n)
      none-holds m (row_21 {p = q} s y) = too_large q (subst Fits (same_statement sequence p q d.1 s) f) y

  pub unroll-by-rows : ByRows (number (unroll_of sequence read_back buffer)) Holds
  unroll-by-rows = by_rows comes

  -- a refusal leaves the buffer, and its length is 0
  left : {u : Unrolling} → Comes sequence read_back buffer u → number u ≢ 0 → u ≡ refused (number u) buffer
  left (comes_1 x) z = refl
  left (comes_2_to_10 x d) z = refl
  left (comes_20 x d y) z = refl
  left (comes_21 x d n y) z = refl
  left (comes_result x d e n f) z = absurd (z refl)

  pub refusal_writes_nothing : number (unroll_of sequence read_back buffer) ≢ 0
      → unroll_of sequence read_back buffer ≡ refused (number (unroll_of sequence read_back buffer)) buffer
  refusal_writes_nothing = left comes
