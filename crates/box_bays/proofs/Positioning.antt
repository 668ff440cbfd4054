-- One law for each return of the code, over plain lists.
use Prim.Native.Nat.{ℕ, ◌-◌, ◌<◌}
use mathlib.Core.Path.{◌≡◌, sym, ap, ◌∙◌}
use mathlib.Core.Bool.{cond}
use mathlib.Core.Logic.{◌≢◌}
use mathlib.Core.List.{List, [], ◌++◌}
use lib.ListN.{length, take, drop}
use lib.Dec.{ltb}
use borrow.Author.Tests.{eq-eqb, ne_eqb, lt-ltb}
use Rattle.std.specs.Prelude.{Option, Some, None}
use Rattle.spec_base.specs.Limits.{max_positions}
use Rattle.spec_base.specs.Bytes.{replaced}
use Rattle.spec_base.specs.Parts.{slot, put}
use Rattle.spec_tick.specs.StateRecord.{state_length, state_record, phase_in, labels_in}
use Rattle.records.proofs.StateStores.{state_written}
use Rattle.spec_bay.specs.Table.{saved_labels, cleared, kept, save_of}
use Rattle.box_positions.specs.Places.{place_of, labels_found, place_in, Places}
use Rattle.box_positions.proofs.Searching.{lookup-is, forget_is}
use Rattle.spec_bay.specs.Called.{Called, called}
use Rattle.spec_bay.specs.Stretch.{state_at, count_at, positions_at, bay_length, stretch_length, state_in, positions_in}
use Rattle.spec_bay.specs.BayCalls.{positions_kept, restored, bay_save_of, bay_restore_of, bay_forget_of}
use Rattle.theory_bay.proofs.Fields.{state_sized}

placed : (known : Option ℕ) {n : ℕ} → Places known n → place_in known ≡ n
placed None h = sym h
placed (Some i) h = sym h.1

module _ (s : List ℕ) (name : ℕ) where
  -- the table as it is lent, and the slot when t comes back in its place
  abbrev lent : List ℕ
  lent = slot positions_at (bay_length - positions_at) s

  abbrev back : List ℕ → List ℕ
  back t = take positions_at s ++ (t ++ drop (bay_length - positions_at) (drop positions_at s))

  module _ {state : List ℕ} {phase : ℕ} (a : state ≡ state_in s) (b : phase ≡ phase_in state) where
    pub not-waiting : phase ≢ 1 → called 15 s [] ≡ bay_save_of s name
    unfolding bay_save_of
    not-waiting d = rw (ne_eqb (phase_in (state_in s)) 1 (λ e. d (b ∙ ap phase_in a ∙ e)))

    pub saved : phase ≡ 1 → {labels : ℕ} → labels ≡ labels_in state → (n : ℕ) (t : List ℕ) → kept n t ≡ save_of name labels lent
        → called n (back t) [] ≡ bay_save_of s name
    unfolding bay_save_of put
    saved c g n t h =
        rw (eq-eqb (phase_in (state_in s)) 1 (sym (b ∙ ap phase_in a) ∙ c))
        (ap (positions_kept s) (h ∙ ap (λ (l : ℕ). save_of name l (positions_in s)) (g ∙ ap labels_in a)))

  -- by the place that the search found
  module _ {t : List ℕ} (known : Option ℕ) (a : t ≡ positions_in s) (b : Places known (place_of name t)) where
    pub at_place : Places known (place_of name (positions_in s))
    at_place = rw a at b

    the_place : place_in known ≡ place_of name (positions_in s)
    the_place = placed known at_place

    pub restored_at : {o : Called} → o ≡ restored s (labels_found (place_in known) (positions_in s)) → o ≡ bay_restore_of s name
    unfolding bay_restore_of
    restored_at h =
        h ∙ ap (λ (i : ℕ). restored s (labels_found i (positions_in s))) the_place ∙ ap (restored s) (sym (lookup-is name (positions_in s)))

    pub forgotten : (n : ℕ) (t' : List ℕ)
        → kept n t' ≡ cond (ltb (place_in known) max_positions) (kept 0 (cleared (place_in known) lent)) (kept 15 lent)
        → called n (back t') [] ≡ bay_forget_of s name
    unfolding bay_forget_of put
    forgotten n t' h =
        ap (positions_kept s)
        (h ∙ ap (λ (i : ℕ). cond (ltb i max_positions) (kept 0 (cleared i lent)) (kept 15 lent)) the_place ∙ sym (forget_is name (positions_in s)))

module _ (s : List ℕ) where
  -- the state record is a part of the slot, and is written there
  pub back_at : {k : ℕ} {t : List ℕ} → t ≡ positions_in s → k < max_positions → {labels : ℕ} → labels ≡ saved_labels k t → length s ≡ stretch_length
      → {state : List ℕ} → state ≡ replaced (slot state_at (count_at - state_at) s) (state_record 1 labels)
      → called 0 (take state_at s ++ (state ++ drop (count_at - state_at) (drop state_at s))) [] ≡ restored s (labels_found k (positions_in s))
  unfolding put
  back_at {k} a l {labels} g z h =
      ap (λ (r : List ℕ). called 0 (put state_at state_length r s) [])
      (state_written (state_in s) 1 labels (state_sized s z) h (g ∙ ap (saved_labels k) a))
      ∙ rw (lt-ltb k max_positions l)
