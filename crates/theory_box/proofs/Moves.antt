-- Save, forget, restore and the new year on a bay's slot: turned down, or something behind a field is written there.
use Prim.Native.Nat.{ℕ, ◌+◌, ◌≤◌}
use native.Mathlib.Omega.{arith}
use mathlib.Core.Path.{◌≡◌, refl, sym, ap, ◌∙◌}
use mathlib.Core.Logic.{◌≢◌, ◌⊎◌, inl, inr, ⊎_elim}
use mathlib.Core.Bool.{Bool, true, false, cond}
use mathlib.Core.Option.{Option, some, none}
use mathlib.Core.List.{List, []}
use lib.ListN.{length, drop, length-drop}
use lib.Seq.{length-take-le}
use lib.Dec.{eqb}
use Rattle.spec_tick.specs.StateRecord.{state_length, state_record, phase_in, labels_in}
use Rattle.records.proofs.StateLaws.{state_sized}
use Rattle.spec_base.specs.Parts.{put}
use Rattle.numbers.proofs.Putting.{put-slot, length-put}
use Rattle.spec_bay.specs.Table.{table_length, lookup, Kept, kept, number_kept, table_kept, save_of, forget_of}
use Rattle.box_positions.proofs.Theorems.{save_number, forget_number, save_refused, forget_refused}
use Rattle.box_positions.proofs.TableLaws.{save-sized, forget-sized}
use Rattle.spec_bay.specs.Ledgers.{ledger_length, cleared}
use Rattle.box_ledgers.proofs.Theorems.{cleared_sized}
use Rattle.spec_bay.specs.Called.{Called, called, number, memory_after}
use Rattle.spec_bay.specs.Stretch.{state_at, positions_at, bay_length, stretch_length, state_in, positions_in}
use Rattle.spec_bay.specs.BayCalls.{positions_kept, restored, bay_save_of, bay_forget_of, bay_restore_of, bay_new_year_of}

pub data Moved (from : ℕ) (s : List ℕ) (o : Called) : Type 0 where
  refused : (n : ℕ) → 15 ≤ n → o ≡ called n s [] → Moved from s o
  stored : (at n : ℕ) (bytes : List ℕ) → from ≤ at → at + n ≤ stretch_length → (length s ≡ stretch_length → length bytes ≡ n)
      → o ≡ called 0 (put at n bytes s) [] → Moved from s o

module _ {from : ℕ} {s : List ℕ} {o : Called} (m : Moved from s o) where
  pub moved-refused : number o ≢ 0 → o ≡ called (number o) s []
  moved-refused h = go m
    where
      go : Moved from s o → o ≡ called (number o) s []
      go (refused n d e) = e ∙ ap (λ (k : ℕ). called k s []) (sym (ap number e))
      go (stored at n bytes low high z e) = absurd (h (ap number e))

  pub moved_length : length s ≡ stretch_length → length (memory_after o) ≡ stretch_length
  moved_length y = go m
    where
      go : Moved from s o → length (memory_after o) ≡ stretch_length
      go (refused n d e) = ap (λ (r : Called). length (memory_after r)) e ∙ y
      go (stored at n bytes low high z e) =
          ap (λ (r : Called). length (memory_after r)) e ∙ length-put at n bytes s (omega arith) (z y) ∙ y

  pub moved-not-13 : number o ≢ 13
  moved-not-13 h = go m
    where
      go : Moved from s o → ⊥
      go (refused n d e) = omega (arith, ap number e)
      go (stored at n bytes low high z e) = omega (arith, ap number e)

pub positions_sized : (s : List ℕ) → length s ≡ stretch_length → length (positions_in s) ≡ table_length
positions_sized s z = length-take-le table_length (drop positions_at s) (omega (arith, length-drop positions_at s))

module _ (s : List ℕ) (name : ℕ) where
  table-moved : (o : Kept) → (number_kept o ≡ 0) ⊎ (15 ≤ number_kept o) → (number_kept o ≢ 0 → table_kept o ≡ positions_in s)
      → (length (positions_in s) ≡ table_length → length (table_kept o) ≡ table_length) → Moved positions_at s (positions_kept s o)
  table-moved (kept n t) c same sized =
      ⊎_elim
      (λ e. stored positions_at table_length t (omega arith) (omega arith) (λ z. sized (positions_sized s z))
      (ap (λ (k : ℕ). called k (put positions_at table_length t s) []) e))
      (λ d. refused n d (ap (λ (r : List ℕ). called n (put positions_at table_length r s) []) (same (λ e. omega arith))
      ∙ ap (λ (r : List ℕ). called n r []) (put-slot positions_at table_length s)))
      c

  pub save-moved : Moved positions_at s (bay_save_of s name)
  unfolding bay_save_of
  save-moved = go (eqb (phase_in (state_in s)) 1)
    where
      l : ℕ
      l = labels_in (state_in s)

      go : (b : Bool) → Moved positions_at s (cond b (positions_kept s (save_of name (labels_in (state_in s)) (positions_in s))) (called 15 s []))
      go true =
          table-moved (save_of name l (positions_in s))
          (⊎_elim (λ e. inl e) (λ e. inr (omega arith)) (save_number name l (positions_in s)))
          (save_refused name l (positions_in s)) (save-sized name l (positions_in s))
      go false = refused 15 (omega arith) refl

  pub forget-moved : Moved positions_at s (bay_forget_of s name)
  unfolding bay_forget_of
  forget-moved =
      table-moved (forget_of name (positions_in s))
      (⊎_elim (λ e. inl e) (λ e. inr (omega arith)) (forget_number name (positions_in s)))
      (forget_refused name (positions_in s)) (forget-sized name (positions_in s))

  pub restore-moved : Moved state_at s (bay_restore_of s name)
  unfolding bay_restore_of
  restore-moved = go (lookup name (positions_in s))
    where
      go : (l : Option ℕ) → Moved state_at s (restored s l)
      go none = refused 15 (omega arith) refl
      go (some labels) =
          stored state_at state_length (state_record 1 labels) (omega arith) (omega arith) (λ z. state_sized 1 labels) refl

-- the ledger is behind what a release clears
pub year_moved : (s : List ℕ) → Moved bay_length s (bay_new_year_of s)
unfolding bay_new_year_of
year_moved s = stored bay_length ledger_length cleared (omega arith) (omega arith) (λ z. cleared_sized) refl

-- what is behind the one is behind the other
pub further : {from less : ℕ} {s : List ℕ} {o : Called} → less ≤ from → Moved from s o → Moved less s o
further l (refused n d e) = refused n d e
further l (stored at n bytes low high z e) = stored at n bytes (omega arith) high z e
