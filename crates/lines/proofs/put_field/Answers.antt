use Prim.Native.Nat.{◌≤◌}
use native.Mathlib.Omega.{arith}
use lib.ListN.{length}
use Rattle.spec_programs.specs.Text.{numeral}
use Rattle.lines.proofs.Numerals.{field_fits, field}
use borrow.Author.Rules.{rules}
use Rattle.lines.proofs.put_field.Goals as goal

pub put_numeral-requires : goal.put_numeral-requires
put_numeral-requires c =
    let a = c.args in
    let p = c.put_text-at in
    let h : length (numeral a.base a.width a.x) ≤ 20 = field_fits a.base a.width a.x (search rules) (search rules) (search rules) in
    (search rules, search rules, omega (arith, p.ensures.fits), omega (arith, p.ensures.fits, p.auto.line))

pub returns : goal.returns
returns c =
    let a = c.args in
    let f = field a.base a.width a.x a.after (field_fits a.base a.width a.x (search rules) (search rules) (search rules)) c.put_text-at.ensures c.put_numeral.ensures in
    record { prepended = f.0; end_bound = f.1 }
