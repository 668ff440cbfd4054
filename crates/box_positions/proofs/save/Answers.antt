use native.Mathlib.Omega.{arith}
use mathlib.Core.Path.{◌≡◌, subst}
use Rattle.std.specs.Prelude.{Some, None}
use Rattle.std.proofs.lemmas.Result.{err_from_is_err_and}
use Rattle.limits.specs.declared.rows.Refusal.TheVariants.{Positions}
use Rattle.box_positions.specs.Places.{place_for, Places}
use Rattle.box_positions.proofs.Placing.{saved, not_saved}
use Rattle.box_positions.proofs.save.Goals as goal

pub returns-in_err-i : goal.returns-in_err-i
returns-in_err-i c =
    let p = err_from_is_err_and c.from_residual.result c.from_residual.ensures.1 in
    let n : c.place_for.result ≡ None = grind arith in
    let r : c.in_err-i.field-0.0 ≡ Positions = grind arith in
    rw (p.1, p.2, r) (not_saved _ _ _ (let a = c.args in subst (λ o. Places o (place_for a.name a.table.now)) n (c.place_for.ensures _ c.requires.1)))

pub returns : goal.returns
returns c =
    let s : c.place_for.result ≡ Some c.in_ok-i.i = grind arith in
    saved _ _ _ (let a = c.args in subst (λ o. Places o (place_for a.name a.table.now)) s (c.place_for.ensures _ c.requires.1)) c.write.ensures
