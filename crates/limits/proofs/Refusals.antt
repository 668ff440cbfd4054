-- The numbers of refusals: none is that of acceptance, and a call that hands a refusal on by `?` has its number.
use native.Mathlib.Omega.{arith}
use mathlib.Core.Logic.{◌≢◌}
use mathlib.Core.Path.{◌≡◌}
use Rattle.std.specs.Prelude.{Result}
use Rattle.std.specs.Result.{IsErrAnd}
use Rattle.std.proofs.lemmas.Result.{err_from_is_err_and}
use Rattle.limits.specs.declared.rows.Refusal.{Refusal}
use Rattle.limits.specs.declared.rows.Refusal.TheVariants as refusals
use Rattle.limits.specs.Rows.{row_number, call_number}

pub row_not_0 : (row : Refusal) → row_number row ≢ 0
row_not_0 refusals.Length = omega arith
row_not_0 _ = omega arith

pub handed-on : {A : Type 0} (r : Result A Refusal) (row : Refusal) → IsErrAnd r (λ given. given ≡ row) → call_number r ≡ row_number row
handed-on r row h = let p = err_from_is_err_and r h in rw (p.1, p.2)
