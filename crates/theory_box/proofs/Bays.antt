-- Laws of a call on a bay's slot: a refusal leaves the slot, each call keeps its length, and an admission goes by its number.
use Prim.Native.Nat.{ℕ, ◌+◌, ◌≤◌}
use native.Mathlib.Omega.{arith}
use native.Mathlib.Decide.{dec_lt}
use mathlib.Core.Path.{◌≡◌, refl, sym, ap, ◌∙◌}
use mathlib.Core.Logic.{◌≢◌, inl, inr}
use mathlib.Core.Bool.{Bool, true, false, cond}
use mathlib.Core.List.{List, []}
use lib.ListN.{length}
use lib.Dec.{eqb, leb}
use borrow.Author.Tests.{ne_eqb, leb-true}
use Rattle.spec_base.specs.Limits.{max_bytes, shared_ceiling}
use Rattle.spec_sequence.specs.Check.{Checked, sound, bad, checked, check_of}
use Rattle.spec_sequence.specs.Ceilings.{ceiling_of}
use Rattle.spec_sequence.specs.Rows.{row_2}
use Rattle.theory_sequence.proofs.Rows.{Decides, decided, row-range}
use Rattle.theory_tick.proofs.Sequence.{Accepted, accepted}
use Rattle.spec_bay.specs.Called.{Called, called, number, memory_after}
use Rattle.spec_bay.specs.Stretch.{stretch_length, Terms, filled}
use Rattle.spec_bay.specs.BayCalls.{bay_release_of, bay_admit_of}
use Rattle.spec_box.specs.Box.{Call, admit, release, tick, save, restore, forget, service, panel, preview, ledger, new_year, buffers, bay_call, is_for}
use Rattle.theory_bay.proofs.Fields.{length-vacated, length-filled}
use Rattle.theory_box.proofs.Ticks.{tick-refused, tick-keeps-length}
use Rattle.theory_box.proofs.Readers.{service_reads, panel_reads, ledger_reads}
use Rattle.theory_box.proofs.Previews.{preview-stays, preview-refused}
use Rattle.theory_box.proofs.Moves.{moved-refused, moved_length, save-moved, forget-moved, restore-moved, year_moved}

abbrev pub ceiling_for : Terms → ℕ
ceiling_for t = ceiling_of t.read_back (checked t.sequence t.read_back)

-- the bytes of a sequence that passes the check
pub bounds : (t : Terms) → Accepted t.sequence t.read_back → (1 ≤ length t.sequence) × (length t.sequence ≤ max_bytes)
bounds t a = (
  elim (dec_lt 0 (length t.sequence)) [ yes l ↦ l | no l ↦ absurd (a.no_row 2 (row_2 (inl (omega arith)))) ],
  elim (dec_lt max_bytes (length t.sequence)) [ yes l ↦ absurd (a.no_row 2 (row_2 (inr l))) | no l ↦ omega arith ],
)

pub passed : (t : Terms) → Accepted t.sequence t.read_back → check_of t.sequence t.read_back ≡ 0
unfolding check_of
passed t a = rw a.is_checked

-- ---- the admission: turned down, or admits
pub data Admission (present : ℕ) (s : List ℕ) (t : Terms) (o : Called) : Type 0 where
  turned_down : (n : ℕ) → n ≢ 0 → o ≡ called n s [] → Admission present s t o
  admits : check_of t.sequence t.read_back ≡ 0 → present + ceiling_for t ≤ shared_ceiling
      → o ≡ called 0 (filled t (ceiling_for t) s) [] → Admission present s t o

module _ (present : ℕ) (s : List ℕ) (t : Terms) where
  abbrev by_room : Bool → Called
  by_room b = cond b (called 0 (filled t (ceiling_for t) s) []) (called 14 s [])

  -- an accepted sequence goes by the sum
  pub admit-by-sum : Accepted t.sequence t.read_back → bay_admit_of present s t ≡ by_room (leb (present + ceiling_for t) shared_ceiling)
  unfolding bay_admit_of
  admit-by-sum a = rw a.is_checked

  admit-bad : (k : ℕ) → checked t.sequence t.read_back ≡ bad k → bay_admit_of present s t ≡ called k s []
  unfolding bay_admit_of
  admit-bad k e = rw e

  pub admission : Admission present s t (bay_admit_of present s t)
  unfolding check_of
  admission = go (checked t.sequence t.read_back) refl (decided t.sequence t.read_back)
    where
      room : check_of t.sequence t.read_back ≡ 0 → (b : Bool) → leb (present + ceiling_for t) shared_ceiling ≡ b
          → bay_admit_of present s t ≡ by_room b → Admission present s t (bay_admit_of present s t)
      room h false l e = turned_down 14 (λ z. omega arith) e
      room h true l e = admits h (leb-true (present + ceiling_for t) shared_ceiling l) e

      go : (c : Checked) → checked t.sequence t.read_back ≡ c → Decides t.sequence t.read_back c
          → Admission present s t (bay_admit_of present s t)
      go (bad k) e d = turned_down k (λ z. omega (arith, row-range t.sequence t.read_back k d.0)) (admit-bad k e)
      go (sound p) e d =
          let h : check_of t.sequence t.read_back ≡ 0 = rw e in
          room h (leb (present + ceiling_for t) shared_ceiling) refl (admit-by-sum (accepted t.sequence t.read_back h))

-- ---- a call on the bay's slot, with the test that the bay is there for it
abbrev pub on_stretch : (present : ℕ) → Call → List ℕ → Called
on_stretch k c s = cond (is_for c s) (bay_call k c s) (called 13 s (buffers c))

module _ (k : ℕ) (s : List ℕ) (z : length s ≡ stretch_length) where
  abbrev Leaves : Call → Called → Type 0
  Leaves c o = number o ≢ 0 → o ≡ called (number o) s (buffers c)

  pub bay-refused : (c : Call) → Leaves c (bay_call k c s)
  unfolding bay_release_of
  bay-refused (admit t) h = go (admission k s t)
    where
      go : Admission k s t (bay_admit_of k s t) → bay_admit_of k s t ≡ called (number (bay_admit_of k s t)) s []
      go (turned_down n y e) = e ∙ ap (λ (m : ℕ). called m s []) (sym (ap number e))
      go (admits c r e) = absurd (h (ap number e))
  bay-refused release h = absurd (h refl)
  bay-refused (tick e answer trace) h = tick-refused s z e answer trace h
  bay-refused (save name) h = moved-refused (save-moved s name) h
  bay-refused (restore name) h = moved-refused (restore-moved s name) h
  bay-refused (forget name) h = moved-refused (forget-moved s name) h
  bay-refused (service trace view) h = (service_reads s trace view).refused h
  bay-refused (panel trace view) h = (panel_reads s trace view).refused h
  bay-refused (preview e u buffer) h = preview-refused s e u buffer h
  bay-refused (ledger totals) h = (ledger_reads s totals).refused h
  bay-refused new_year h = moved-refused (year_moved s) h

  pub stretch-refused : (c : Call) → Leaves c (on_stretch k c s)
  stretch-refused c = go (is_for c s)
    where
      go : (b : Bool) → Leaves c (cond b (bay_call k c s) (called 13 s (buffers c)))
      go true h = bay-refused c h
      go false h = refl

  bay-sized : (c : Call) → length (memory_after (bay_call k c s)) ≡ stretch_length
  unfolding bay_release_of
  bay-sized (admit t) = go (admission k s t)
    where
      go : Admission k s t (bay_admit_of k s t) → length (memory_after (bay_admit_of k s t)) ≡ stretch_length
      go (turned_down n x e) = ap (λ (o : Called). length (memory_after o)) e ∙ z
      go (admits c r e) =
          ap (λ (o : Called). length (memory_after o)) e
          ∙ length-filled t (ceiling_for t) s z (bounds t (accepted t.sequence t.read_back c)).1
  bay-sized release = length-vacated s z
  bay-sized (tick e answer trace) = tick-keeps-length s z e answer trace
  bay-sized (save name) = moved_length (save-moved s name) z
  bay-sized (restore name) = moved_length (restore-moved s name) z
  bay-sized (forget name) = moved_length (forget-moved s name) z
  bay-sized (service trace view) = ap length (service_reads s trace view).left ∙ z
  bay-sized (panel trace view) = ap length (panel_reads s trace view).left ∙ z
  bay-sized (preview e u buffer) = ap length (preview-stays s e u buffer) ∙ z
  bay-sized (ledger totals) = ap length (ledger_reads s totals).left ∙ z
  bay-sized new_year = moved_length (year_moved s) z

  pub sized_after : (c : Call) → length (memory_after (on_stretch k c s)) ≡ stretch_length
  sized_after c = go (is_for c s)
    where
      go : (b : Bool) → length (memory_after (cond b (bay_call k c s) (called 13 s (buffers c)))) ≡ stretch_length
      go true = bay-sized c
      go false = z

-- what an admission with this number makes of the slot
abbrev pub admitted_as : (s : List ℕ) → Terms → (number : ℕ) → Called
admitted_as s t n = called n (cond (eqb n 0) (filled t (ceiling_for t) s) s) []

pub admission_by_number : (k : ℕ) (s : List ℕ) (t : Terms) → on_stretch k (admit t) s ≡ admitted_as s t (number (on_stretch k (admit t) s))
admission_by_number k s t = go (is_for (admit t) s)
  where
    by_number : (n : ℕ) {o : Called} → o ≡ admitted_as s t n → n ≡ number o → o ≡ admitted_as s t (number o)
    by_number n e m = e ∙ ap (admitted_as s t) m

    of-bay : Admission k s t (bay_admit_of k s t) → bay_admit_of k s t ≡ admitted_as s t (number (bay_admit_of k s t))
    of-bay (turned_down n z e) = by_number n (e ∙ rw (ne_eqb n 0 z)) (sym (ap number e))
    of-bay (admits c r e) = by_number 0 e (sym (ap number e))

    go : (b : Bool) → cond b (bay_admit_of k s t) (called 13 s []) ≡ admitted_as s t (number (cond b (bay_admit_of k s t) (called 13 s [])))
    go true = of-bay (admission k s t)
    go false = refl
