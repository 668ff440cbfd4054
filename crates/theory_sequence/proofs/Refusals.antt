-- The row of a refusal is one of the rows of reading; so it is not 0, and small.
use Prim.Native.Nat.{ℕ, zero, suc, ◌≤◌}
use mathlib.Core.Path.{◌≡◌, subst}
use mathlib.Core.List.{List}
use native.Mathlib.Omega.{arith}
use Rattle.spec_base.specs.Limits.{command_row, missing_row, operand_row, depth_row, litres_row}
use Rattle.spec_sequence.specs.Reader.{Read, accepted, refused, bad, front, read}
use Rattle.theory_sequence.proofs.Front.{Fronts, fronts}
use Rattle.theory_sequence.proofs.Inversion.{Stops, stops, Meets, meets}

-- P holds of the row of a refusal
abbrev pub RowHas : (ℕ → Type 0) → Read → Type 0
RowHas P (accepted p n) = Unit {0}
RowHas P (refused k) = P k

-- what holds of the rows of reading
module _ (P : ℕ → Type 0) (command : P command_row) (missing : P missing_row) (operand : P operand_row) (depth : P depth_row) (litres : P litres_row) where
  front_has : (bs : List ℕ) (k : ℕ) → Fronts bs (bad k) → P k
  front_has bs k (Fronts.empty e) = missing
  front_has bs k (Fronts.unknown l h) = command
  front_has bs k (Fronts.short c l e h) = missing
  front_has bs k (Fronts.outside c e l r) = operand
  front_has bs k (Fronts.unfit c e l r i) = litres

  pub bad_has : (bs : List ℕ) (k : ℕ) → front bs ≡ bad k → P k
  bad_has bs k e = front_has bs k (fronts bs (bad k) e)

  stops_has : (bs : List ℕ) (y : Read) → Stops bs y → RowHas P y
  stops_has bs y (Stops.unsound k e) = bad_has bs k e
  stops_has bs y (Stops.deep c xs e) = depth

  meets_has : (r : (g a : ℕ) → List ℕ → Read) → ((g a : ℕ) (bs : List ℕ) → RowHas P (r g a bs)) → (g a : ℕ) (bs : List ℕ) (y : Read)
      → Meets r g a bs y → RowHas P y
  meets_has r h g a bs y (Meets.unsound k e) = bad_has bs k e
  meets_has r h g a bs y (Meets.crowded c xs e l) = depth
  meets_has r h g a bs y (Meets.leaf c xs l z) = tt
  meets_has r h g a bs y (Meets.one c xs l z p n e) = tt
  meets_has r h g a bs y (Meets.two c xs l z p n e q m f) = tt
  meets_has r h g a bs y (Meets.first_refused c xs l i z k e) = subst (RowHas P) e (h _ _ _)
  meets_has r h g a bs y (Meets.second_refused c xs l z p n e k f) = subst (RowHas P) f (h _ _ _)

  pub row_has : (d g a : ℕ) (bs : List ℕ) → RowHas P (read d g a bs)
  row_has zero g a bs = stops_has bs (read zero g a bs) (stops g a bs)
  row_has (suc d) g a bs = meets_has (read d) (row_has d) g a bs (read (suc d) g a bs) (meets d g a bs)

abbrev pub Small : ℕ → Type 0
Small k = (1 ≤ k) × (k ≤ 18)

abbrev pub Rowed : Read → Type 0
Rowed = RowHas Small

pub front_small : (bs : List ℕ) (k : ℕ) → front bs ≡ bad k → Small k
front_small =
    bad_has Small (omega arith, omega arith) (omega arith, omega arith) (omega arith, omega arith) (omega arith, omega arith) (omega arith, omega arith)

pub rowed : (d g a : ℕ) (bs : List ℕ) → Rowed (read d g a bs)
rowed = row_has Small (omega arith, omega arith) (omega arith, omega arith) (omega arith, omega arith) (omega arith, omega arith) (omega arith, omega arith)
