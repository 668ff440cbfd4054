-- How a call of the code comes to its bay, over plain lists.
use Prim.Native.Nat.{ℕ, ◌*◌, ◌≤◌, ◌<◌}
use native.Mathlib.Omega.{arith}
use mathlib.Core.Path.{◌≡◌, refl, sym, ◌∙◌}
use mathlib.Core.Logic.{◌≢◌}
use mathlib.Core.Bool.{Bool, true, false, not, beq, cond}
use mathlib.Core.List.{List}
use lib.ListN.{length}
use lib.Dec.{eqb, ltb}
use borrow.Author.Tests.{lt-ltb, le-ltb, eq-eqb, ne_eqb}
use Rattle.std.specs.Prelude.{Ok, Err}
use Rattle.limits.specs.declared.rows.Refusal.{Refusal}
use Rattle.limits.specs.declared.rows.Refusal.TheVariants.{Bay, Length}
use Rattle.limits.specs.Rows.{row_number}
use Rattle.limits.proofs.Refusals.{row_not_0}
use Rattle.spec_base.specs.Limits.{bay_count}
use Rattle.spec_bay.specs.Stretch.{stretch_length, is_empty}
use Rattle.spec_box.specs.Box.{box_length, stretch_of}
use Rattle.boxes.specs.Entries.{fits, either, entry_of, Enters}

-- ---- what the code answers, by its tests
module _ (box : List ℕ) (bay : ℕ) where
  pub no-bay : bay_count ≤ bay → Enters (Err Bay) (entry_of box bay either) box bay
  unfolding entry_of
  no-bay h = rw (le-ltb bay bay_count h)

  module _ (b : bay < bay_count) where
    pub other-box : length box ≢ box_length → Enters (Err Length) (entry_of box bay either) box bay
    unfolding entry_of
    other-box n = rw (lt-ltb bay bay_count b, ne_eqb (length box) box_length n)

    pub any-bay : length box ≡ box_length → Enters (Ok (bay * stretch_length)) (entry_of box bay either) box bay
    unfolding entry_of
    any-bay z = (rw (lt-ltb bay bay_count b, eq-eqb (length box) box_length z), b, z, refl)

-- ---- a bay that is entered is as the call wants it
pub wanted-there : (box : List ℕ) (bay : ℕ) (wanted : List ℕ → Bool) → entry_of box bay wanted ≡ 0 → wanted (stretch_of bay box) ≡ true
unfolding entry_of
wanted-there box bay wanted z = go (ltb bay bay_count) (eqb (length box) box_length) (wanted (stretch_of bay box)) refl z
  where
    go : (a b c : Bool) → wanted (stretch_of bay box) ≡ c → ◌≡◌ {A = ℕ} (cond a (cond b (cond c 0 13) 1) 13) 0 → wanted (stretch_of bay box) ≡ true
    go true true true r e = r
    go true true false r e = absurd (omega arith)
    go true false c r e = absurd (omega arith)
    go false b c r e = absurd (omega arith)

-- ---- then whether the bay is as the call wants it
module _ (box : List ℕ) (bay : ℕ) (vacant : Bool) where
  pub turned-away : (row : Refusal) → Enters (Err row) (entry_of box bay either) box bay → Enters (Err row) (entry_of box bay (fits vacant)) box bay
  unfolding entry_of
  turned-away row h = go (ltb bay bay_count) (eqb (length box) box_length) h
    where
      go : (a b : Bool) → cond a (cond b 0 1) 13 ≡ row_number row → cond a (cond b (cond (fits vacant (stretch_of bay box)) 0 13) 1) 13 ≡ row_number row
      go true true e = absurd (row_not_0 row (sym e))
      go true false e = e
      go false b e = e

  module _ {from : ℕ} (h : Enters (Ok from) (entry_of box bay either) box bay) {empty : Bool} (i : empty ≡ is_empty (stretch_of bay box)) where
    by-fit : entry_of box bay (fits vacant) ≡ cond (cond vacant empty (not empty)) 0 13
    unfolding entry_of
    by-fit = rw (lt-ltb bay bay_count h.1, eq-eqb (length box) box_length h.2, i)

    pub not-wanted : not (beq empty vacant) ≡ true → Enters (Err Bay) (entry_of box bay (fits vacant)) box bay
    not-wanted n = by-fit ∙ go empty vacant n
      where
        go : (e v : Bool) → not (beq e v) ≡ true → ◌≡◌ {A = ℕ} (cond (cond v e (not e)) 0 13) 13
        go true true n = absurd (cc)
        go true false n = refl
        go false true n = refl
        go false false n = absurd (cc)

    pub is-wanted : not (beq empty vacant) ≡ false → Enters (Ok from) (entry_of box bay (fits vacant)) box bay
    is-wanted n = (by-fit ∙ go empty vacant n, h.1, h.2, h.3)
      where
        go : (e v : Bool) → not (beq e v) ≡ false → ◌≡◌ {A = ℕ} (cond (cond v e (not e)) 0 13) 0
        go true true n = refl
        go true false n = absurd (cc)
        go false true n = absurd (cc)
        go false false n = refl
