use mathlib.Core.Bool.{not}
use mathlib.Core.Path.{ap}
use Rattle.spec_base.specs.Limits.{label_count}
use Rattle.sets.proofs.Booleans as Booleans
use Rattle.sets.proofs.Loops.{some_left, none_left, seek, seek-on, seek-less, seek_hit}
use Rattle.wellformed.proofs.Clashes.{clash-found, clear-end}
use Rattle.wellformed.proofs.clash.any_clash.Goals as goal

pub loop-all-init : goal.loop-all-init
loop-all-init c = seek _ _

pub returns-then-clash : goal.returns-then-clash
returns-then-clash c =
    clash-found _ _ _ _ c.union_of_rows-all.ensures c.lowest-k.result
    (seek_hit _ _ _ c.loop-all.invariant label_count _ c.lowest-k.ensures
    (some_left c.is_empty.ensures (ap not c.loop-all-test.true)))
    (c.clash.ensures.0 c.if-clash.true)

pub loop-all-smaller : goal.loop-all-smaller
loop-all-smaller c =
    seek-less _ _ _ c.loop-all.invariant label_count _ c.lowest-k.ensures
    (some_left c.is_empty.ensures (ap not c.loop-all-test.true)) _ c.without-left.ensures

pub loop-all-preserved : goal.loop-all-preserved
loop-all-preserved c =
    seek-on _ _ _ c.loop-all.invariant _ _ c.without-left.ensures
    (λ x. Booleans.clash _ (c.clash.ensures.1 x) c.if-clash.false)

pub returns : goal.returns
returns c = clear-end _ _ _ _ c.union_of_rows-all.ensures _ c.loop-all.invariant (none_left c.is_empty.ensures (ap not c.loop-all-test.false))
