-- The readers of a record and of the ledger on a bay's slot: they leave it, and show what they show or leave the view.
use Prim.Native.Nat.{ℕ, ◌≤◌}
use native.Mathlib.Omega.{arith}
use native.Mathlib.Decide.{ℕ_discrete}
use mathlib.Core.Path.{◌≡◌, refl}
use mathlib.Core.Logic.{◌≢◌, ◌↔◌}
use mathlib.Core.Bool.{Bool, true, false, ◌&&◌, cond}
use mathlib.Core.List.{List, [], ◌∷◌}
use lib.ListN.{length}
use lib.Dec.{eqb}
use borrow.Author.Tests.{eq-eqb, ne_eqb}
use Rattle.spec_tick.specs.Record.{recordLength, panel_length, panel_of}
use Rattle.spec_bay.specs.Called.{Called, called, number, memory_after}
use Rattle.spec_bay.specs.Ledgers.{reading_length, reading_of}
use Rattle.spec_bay.specs.Stretch.{service_only_in, ledger_in}
use Rattle.spec_bay.specs.BayCalls.{showing, bay_service_of, bay_panel_of, bay_ledger_of}

pub record Reads (s shown view : List ℕ) (o : Called) : Type 0 where
  pub left : memory_after o ≡ s
  pub shows : number o ≡ 0 → o ≡ called 0 s (shown ∷ [])
  pub refused : number o ≢ 0 → o ≡ called (number o) s (view ∷ [])
  pub low : number o ≤ 1

reads_if : (s shown view : List ℕ) (b : Bool) → Reads s shown view (cond b (called 0 s (shown ∷ [])) (called 1 s (view ∷ [])))
reads_if s shown view true = record { left = refl; shows = λ n. refl; refused = λ n. absurd (n refl); low = omega arith }
reads_if s shown view false = record { left = refl; shows = λ n. absurd (omega arith); refused = λ n. refl; low = omega arith }

reads : (s shown : List ℕ) (viewLength : ℕ) (trace view : List ℕ) → Reads s shown view (showing s shown viewLength trace view)
reads s shown viewLength trace view = reads_if s shown view (eqb (length trace) recordLength && eqb (length view) viewLength)

-- the numbers, by the two lengths
abbrev ByLengths : (viewLength : ℕ) (trace view : List ℕ) → Called → Type 0
ByLengths viewLength trace view o =
    ((number o ≡ 0) ↔ ((length trace ≡ recordLength) × (length view ≡ viewLength))) × (number o ≢ 0 → number o ≡ 1)

by_lengths : (s shown : List ℕ) (viewLength : ℕ) (trace view : List ℕ) → ByLengths viewLength trace view (showing s shown viewLength trace view)
by_lengths s shown viewLength trace view =
    elim (ℕ_discrete (length trace) recordLength) [
      | yes i ↦ elim (ℕ_discrete (length view) viewLength) [
        | yes j ↦ rw (eq-eqb (length trace) recordLength i, eq-eqb (length view) viewLength j) ((λ n. (i, j), λ n. refl), λ n. absurd (n refl))
        | no j ↦ rw (eq-eqb (length trace) recordLength i, ne_eqb (length view) viewLength j)
            ((λ n. absurd (omega arith), λ n. absurd (j n.1)), λ n. refl)
      ]
      | no i ↦ rw (ne_eqb (length trace) recordLength i) ((λ n. absurd (omega arith), λ n. absurd (i n.0)), λ n. refl)
    ]

pub service_lengths : (s trace view : List ℕ) → ByLengths recordLength trace view (bay_service_of s trace view)
unfolding bay_service_of
service_lengths s trace view = by_lengths s trace recordLength trace view

pub panel_lengths : (s trace view : List ℕ) → ByLengths panel_length trace view (bay_panel_of s trace view)
unfolding bay_panel_of
panel_lengths s trace view = by_lengths s (panel_of (service_only_in s) trace) panel_length trace view

pub service_reads : (s trace view : List ℕ) → Reads s trace view (bay_service_of s trace view)
unfolding bay_service_of
service_reads s trace view = reads s trace recordLength trace view

pub panel_reads : (s trace view : List ℕ) → Reads s (panel_of (service_only_in s) trace) view (bay_panel_of s trace view)
unfolding bay_panel_of
panel_reads s trace view = reads s (panel_of (service_only_in s) trace) panel_length trace view

-- ---- the ledger
pub ledger_reads : (s totals : List ℕ) → Reads s (reading_of (ledger_in s)) totals (bay_ledger_of s totals)
unfolding bay_ledger_of
ledger_reads s totals = reads_if s (reading_of (ledger_in s)) totals (eqb (length totals) reading_length)

pub ledger_lengths : (s totals : List ℕ)
    → ((number (bay_ledger_of s totals) ≡ 0) ↔ (length totals ≡ reading_length)) × (number (bay_ledger_of s totals) ≢ 0 → number (bay_ledger_of s totals) ≡ 1)
unfolding bay_ledger_of
ledger_lengths s totals =
    elim (ℕ_discrete (length totals) reading_length) [
      | yes i ↦ rw (eq-eqb (length totals) reading_length i) ((λ n. i, λ n. refl), λ n. absurd (n refl))
      | no i ↦ rw (ne_eqb (length totals) reading_length i) ((λ n. absurd (omega arith), λ n. absurd (i n)), λ n. refl)
    ]
