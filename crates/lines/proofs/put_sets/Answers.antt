use native.Mathlib.Omega.{arith}
use Rattle.lines.proofs.Numerals.{field_fits}
use Rattle.lines.proofs.Sets.{sets-put}
use borrow.Author.Rules.{rules}
use Rattle.lines.proofs.put_sets.Goals as goal

pub put_numeral-at-requires : goal.put_numeral-at-requires
put_numeral-at-requires c =
    let a = c.args in
    let l = field_fits 16 16 a.high (omega arith) (omega arith) (search rules) in
    let f = c.put_field-at in
    omega (arith, l, f.ensures.prepended.fits, f.ensures.end_bound, f.auto.line)

pub put_field-requires : goal.put_field-requires
put_field-requires c =
    let l = field_fits 16 16 c.args.high (omega arith) (omega arith) (search rules) in
    omega (arith, l, c.put_numeral-at.ensures.fits, c.put_numeral-at.auto.line, c.put_field-at.ensures.end_bound, c.put_field-at.ensures.prepended.fits, c.put_field-at.auto.line)

pub returns : goal.returns
returns c =
    let e = c.put_field.ensures in
    let a = c.args in
    let l = field_fits 16 16 a.high (omega arith) (omega arith) (search rules) in record { prepended = sets-put a.emitted a.low a.high (search rules) c.put_field-at.ensures.prepended c.put_numeral-at.ensures e.prepended; lower_bound = omega (arith, l, c.put_numeral-at.ensures.fits, c.put_field-at.ensures.end_bound, e.end_bound) }
