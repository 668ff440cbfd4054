use Rattle.wellformed.specs.Rows.{row_of}
use Rattle.wellformed.proofs.Clashes.{clash_at}
use Rattle.wellformed.proofs.clash.clash.Goals as goal

pub returns-then-not-disjoint : goal.returns-then-not-disjoint
returns-then-not-disjoint c =
    let a = c.args in
    rw c.if-not-disjoint.true (clash_at (row_of a.exclusive.now) (row_of a.concurrent.now) _ _ a.k _ _
    c.row-beside.ensures c.row.ensures c.disjoint.ensures c.if-not-disjoint.true)
