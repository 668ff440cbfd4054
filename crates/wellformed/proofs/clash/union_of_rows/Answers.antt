use mathlib.Core.Bool.{not}
use mathlib.Core.Path.{ap}
use Rattle.spec_base.specs.Limits.{label_count}
use Rattle.sets.proofs.Loops.{some_left, none_left, seek-less, seek_hit}
use Rattle.wellformed.proofs.Clashes.{gather, gather-on, gather-end}
use Rattle.wellformed.proofs.clash.union_of_rows.Goals as goal

pub loop-left-init : goal.loop-left-init
loop-left-init c = gather _ _ _ c.empty-all.ensures

pub loop-left-smaller : goal.loop-left-smaller
loop-left-smaller c =
    seek-less _ _ _ c.loop-left.invariant.covers label_count _ c.lowest-l.ensures
    (some_left c.is_empty.ensures (ap not c.loop-left-test.true)) _ c.without-left.ensures

pub loop-left-preserved : goal.loop-left-preserved
loop-left-preserved c =
    gather-on _ _ _ _ c.loop-left.invariant _ _ _ _
    (seek_hit _ _ _ c.loop-left.invariant.covers label_count _ c.lowest-l.ensures
    (some_left c.is_empty.ensures (ap not c.loop-left-test.true)))
    c.row.ensures c.union-all.ensures c.without-left.ensures

pub returns : goal.returns
returns c = gather-end _ _ _ _ c.loop-left.invariant (none_left c.is_empty.ensures (ap not c.loop-left-test.false))
