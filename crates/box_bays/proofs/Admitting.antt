-- One law for each return of the code of admission, over plain lists.
use Prim.Native.Nat.{ℕ, ◌+◌, ◌≤◌, ◌<◌}
use native.Mathlib.Omega.{arith}
use native.Mathlib.Decide.{dec_lt}
use mathlib.Core.Logic.{inr}
use mathlib.Core.Path.{◌≡◌, refl, ap, ◌∙◌}
use mathlib.Core.List.{List, []}
use lib.ListN.{length}
use borrow.Author.Tests.{le-leb, lt-leb}
use Rattle.spec_language.specs.Ceiling.{ceiling}
use Rattle.spec_sequence.specs.Program.{program}
use Rattle.spec_sequence.specs.Check.{Checked, sound, bad, checked, number_of, check_of}
use Rattle.spec_sequence.specs.Rows.{row_2}
use Rattle.spec_base.specs.Limits.{max_bytes, shared_ceiling}
use Rattle.theory_tick.proofs.Sequence.{accepted}
use Rattle.std.specs.Prelude.{Result, Ok, Err}
use Rattle.limits.specs.declared.rows.Refusal.{Refusal}
use Rattle.limits.specs.Rows.{row_number}
use Rattle.ceilings.specs.Plans.{PlanOf}
use Rattle.spec_bay.specs.Called.{Called, called}
use Rattle.spec_bay.specs.Stretch.{Terms, filled}
use Rattle.spec_bay.specs.BayCalls.{by_check, bay_admit_of}

-- the bytes of a sequence that passes the check
pub bounds : (sequence : List ℕ) (read_back : ℕ) → number_of (checked sequence read_back) ≡ 0 → length sequence ≤ max_bytes
unfolding check_of
bounds sequence read_back h =
    let a = accepted sequence read_back h in
    elim (dec_lt max_bytes (length sequence)) [ yes l ↦ absurd (a.no_row 2 (row_2 (inr l))) | no l ↦ omega arith ]

pub within : (sequence : List ℕ) (read_back c : ℕ) → PlanOf read_back (checked sequence read_back) (Ok c) → length sequence ≤ max_bytes
within sequence read_back c h = bounds sequence read_back (go (checked sequence read_back) h)
  where
    go : (k : Checked) → PlanOf read_back k (Ok c) → number_of k ≡ 0
    go (bad k) (row, e, m) = absurd (cc)
    go (sound p) e = refl

module _ (present : ℕ) (s : List ℕ) (t : Terms) where
  abbrev Plans : Result ℕ Refusal → Type 0
  Plans r = PlanOf t.read_back (checked t.sequence t.read_back) r

  -- what is shown of every verdict of the check is shown of the admission
  by : (r : Result ℕ Refusal) {o : Called} → ((k : Checked) → PlanOf t.read_back k r → o ≡ by_check present s t k) → Plans r
      → o ≡ bay_admit_of present s t
  unfolding bay_admit_of
  by r f h = f (checked t.sequence t.read_back) h

  pub turned_down : (row : Refusal) → Plans (Err row) → called (row_number row) s [] ≡ bay_admit_of present s t
  turned_down row h = by (Err row) go h
    where
      go : (k : Checked) → PlanOf t.read_back k (Err row) → called (row_number row) s [] ≡ by_check present s t k
      go (bad k) (row', e, m) = let x : row ≡ row' = cc in ap (λ (i : Refusal). called (row_number i) s []) x ∙ ap (λ (i : ℕ). called i s []) m
      go (sound p) e = absurd (cc)

  module _ (c : ℕ) (h : Plans (Ok c)) where
    pub too_many : shared_ceiling < present + c → called 14 s [] ≡ bay_admit_of present s t
    too_many l = by (Ok c) go h
      where
        go : (k : Checked) → PlanOf t.read_back k (Ok c) → called 14 s [] ≡ by_check present s t k
        go (bad k) (row, e, m) = absurd (cc)
        go (sound p) e =
            let x : c ≡ ceiling (program t.read_back p) = cc in rw (lt-leb (present + ceiling (program t.read_back p)) shared_ceiling (omega arith))

    pub admitted : present + c ≤ shared_ceiling → {v : List ℕ} → v ≡ filled t c s → called 0 v [] ≡ bay_admit_of present s t
    admitted l {v} w = by (Ok c) go h
      where
        go : (k : Checked) → PlanOf t.read_back k (Ok c) → called 0 v [] ≡ by_check present s t k
        go (bad k) (row, e, m) = absurd (cc)
        go (sound p) e =
            let x : c ≡ ceiling (program t.read_back p) = cc in
            rw (le-leb (present + ceiling (program t.read_back p)) shared_ceiling (omega arith))
            (ap (λ (r : List ℕ). called 0 r []) (w ∙ ap (λ (y : ℕ). filled t y s) x))
