use mathlib.Core.Path.{ap}
use mathlib.Core.Bool.{not}
use mathlib.Core.Path.{sym, ◌∙◌}
use native.Mathlib.Omega.{arith}
use lib.ListN.{get_or}
use borrow.Author.Rules.{rules}
use borrow.Author.Tests.{ltb-true, ltb-false}
use Rattle.spec_base.specs.Limits.{signal_count}
use Rattle.sets.proofs.Loops.{seek, seek-on, seek-end, seek-less, some_left, none_left}
use Rattle.spec_bay.specs.Ledgers.{total_in}
use Rattle.box_ledgers.proofs.Theorems.{none_passes}
use Rattle.box_ledgers.proofs.Totals.{passes_at, farm_below}
use Rattle.box_ledgers.proofs.would_pass.Goals as goal

pub loop-x-init : goal.loop-x-init
loop-x-init c = seek _ _

pub bounds-litres-farm : goal.bounds-litres-farm
bounds-litres-farm c =
    let l = farm_below (search rules) c.loop-x.invariant c.lowest-x.ensures
    (some_left c.is_empty.ensures (ap not c.loop-x-test.true)) in
    omega arith

pub passes_at-requires : goal.passes_at-requires
passes_at-requires c = (
  c.requires.ledger_len,
  farm_below (search rules) c.loop-x.invariant c.lowest-x.ensures
      (some_left c.is_empty.ensures (ap not c.loop-x-test.true)),
)

pub returns-then-passes_at : goal.returns-then-passes_at
returns-then-passes_at c =
    let a = c.args in
    sym (passes_at (λ f. total_in f a.ledger.now) (λ f. get_or a.litres.now f 0) 32 c.lowest-x.result
    (farm_below (search rules) c.loop-x.invariant c.lowest-x.ensures
    (some_left c.is_empty.ensures (ap not c.loop-x-test.true)))
    (ltb-true _ _ (sym c.passes_at.ensures ∙ c.if-passes_at.true)))

pub loop-x-smaller : goal.loop-x-smaller
loop-x-smaller c =
    let l = c.loop-x in
    seek-less _ _ _ l.invariant signal_count _ c.lowest-x.ensures
    (some_left c.is_empty.ensures (ap not c.loop-x-test.true)) _
    c.without-left.ensures

pub loop-x-preserved : goal.loop-x-preserved
loop-x-preserved c =
    seek-on _ _ _ c.loop-x.invariant _ _ c.without-left.ensures
    (ltb-false _ _ (sym c.passes_at.ensures ∙ c.if-passes_at.false))

pub returns : goal.returns
returns c =
    sym (none_passes _ _ _ c.requires.none_outside (seek-end _ _ _ c.loop-x.invariant (none_left c.is_empty.ensures (ap not c.loop-x-test.false))))
