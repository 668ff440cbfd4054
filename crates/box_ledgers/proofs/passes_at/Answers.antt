use mathlib.Core.Path.{sym}
use native.Mathlib.Omega.{arith}
use borrow.Author.Tests.{eq-eqb, le-ltb}
use Prim.Native.Nat.{◌+◌}
use Rattle.spec_base.specs.Limits.{litres_limit}
use Rattle.spec_bay.specs.Ledgers.{total_in}
use Rattle.box_ledgers.proofs.Totals.{total_most, passes-is, held_whole}
use Rattle.box_ledgers.proofs.passes_at.Goals as goal

pub float_to_int-result : goal.float_to_int-result
float_to_int-result c = (held_whole _ _ c.total.ensures).0

pub overflow_cast-result-then-more-ne0 : goal.overflow_cast-result-then-more-ne0
overflow_cast-result-then-more-ne0 c = let l = (held_whole _ _ c.total.ensures).1 in omega (arith, l)

pub overflow_add-result : goal.overflow_add-result
overflow_add-result c = let l = (held_whole _ _ c.total.ensures).1 in let m = c.ranges in omega (arith, l, m)

pub returns-then-more-ne0 : goal.returns-then-more-ne0
returns-then-more-ne0 c = passes-is _ _ _ c.total.ensures

pub returns-else-more-ne0 : goal.returns-else-more-ne0
returns-else-more-ne0 c =
    let a = c.args in
    let m = total_most a.farm a.ledger.now in
    let z = c.if-more-ne0.false in
    rw (eq-eqb a.more 0 z) (sym (le-ltb litres_limit (total_in a.farm a.ledger.now + a.more) (omega (arith, m, z))))
