use Prim.Native.Nat.{◌-◌}
use mathlib.Core.Path.{refl}
use native.Mathlib.Omega.{arith}
use borrow.Author.Rules.{rules}
use Rattle.ceilings.proofs.Counting.{starts, here, few-left, one_more, inside, on, leaf-done, two-done, one-done, levels, part, part-inside, part-few, part_low, loop-done, ends}
use Rattle.ceilings.proofs.+of_statement.Goals as goal

pub loop-left-init : goal.loop-left-init
loop-left-init t c = starts c.requires

pub bounds-s-at : goal.bounds-s-at
bounds-s-at t c = here c.loop-left.invariant c.loop-left-test.true

pub overflow_add-commands : goal.overflow_add-commands
overflow_add-commands t c = omega (arith, one_more c.loop-left.invariant c.loop-left-test.true)

pub overflow_add-at : goal.overflow_add-at
overflow_add-at t c =
    let w = c.loop-left.invariant in
    let l = c.loop-left-test.true in
    let f = c.opens-h.ensures in
    omega (arith, inside w l f, w.whole.short)

pub loop-left-smaller-then-h-eq0 : goal.loop-left-smaller-then-h-eq0
loop-left-smaller-then-h-eq0 t c =
    let w = c.loop-left.invariant in
    let l = c.loop-left-test.true in
    let f = c.opens-h.ensures in
    omega (arith, inside w l f, on w l f)

pub loop-left-preserved-then-h-eq0 : goal.loop-left-preserved-then-h-eq0
loop-left-preserved-then-h-eq0 t c =
    let w = c.loop-left.invariant in
    let l = c.loop-left-test.true in
    let f = c.opens-h.ensures in
    leaf-done w l f c.if-h-eq0.true

pub overflow_add-left : goal.overflow_add-left
overflow_add-left t c =
    let w = c.loop-left.invariant in
    let l = c.loop-left-test.true in
    omega (arith, few-left w l)

pub loop-left-smaller-then-h-eq2 : goal.loop-left-smaller-then-h-eq2
loop-left-smaller-then-h-eq2 t c =
    let w = c.loop-left.invariant in
    let l = c.loop-left-test.true in
    let f = c.opens-h.ensures in
    omega (arith, inside w l f, on w l f)

pub loop-left-preserved-then-h-eq2 : goal.loop-left-preserved-then-h-eq2
loop-left-preserved-then-h-eq2 t c =
    let w = c.loop-left.invariant in
    let l = c.loop-left-test.true in
    let f = c.opens-h.ensures in
    two-done w l f c.if-h-eq2.true

pub slice_bounds-of_statement-count : goal.slice_bounds-of_statement-count
slice_bounds-of_statement-count t c =
    let w = c.loop-left.invariant in
    let l = c.loop-left-test.true in
    let f = c.opens-h.ensures in
    omega (arith, inside w l f)

pub slice_bounds-of_statement-start : goal.slice_bounds-of_statement-start
slice_bounds-of_statement-start t c =
    let w = c.loop-left.invariant in
    let l = c.loop-left-test.true in
    let f = c.opens-h.ensures in
    omega (arith, inside w l f)

pub overflow_sub-depth : goal.overflow_sub-depth
overflow_sub-depth t c =
    let w = c.loop-left.invariant in
    let l = c.loop-left-test.true in
    let f = c.opens-h.ensures in
    let b = c.if-b-eq-LOOP.true in
    omega (arith, levels w l f b)

pub of_statement-body-requires : goal.of_statement-body-requires
of_statement-body-requires t c =
    let w = c.loop-left.invariant in
    let l = c.loop-left-test.true in
    let f = c.opens-h.ensures in
    let b = c.if-b-eq-LOOP.true in
    (omega (arith, levels w l f b, c.decreases), part w l f b)

pub overflow_add-at-then-b-eq-LOOP : goal.overflow_add-at-then-b-eq-LOOP
overflow_add-at-then-b-eq-LOOP t c =
    let w = c.loop-left.invariant in
    let l = c.loop-left-test.true in
    let f = c.opens-h.ensures in
    let b = c.if-b-eq-LOOP.true in
    let g = c.of_statement-body.ensures in
    omega (arith, part-inside w l f b g, w.whole.short)

pub overflow_add-commands-then-b-eq-LOOP : goal.overflow_add-commands-then-b-eq-LOOP
overflow_add-commands-then-b-eq-LOOP t c =
    let w = c.loop-left.invariant in
    let l = c.loop-left-test.true in
    let f = c.opens-h.ensures in
    let b = c.if-b-eq-LOOP.true in
    let g = c.of_statement-body.ensures in
    omega (arith, part-few w l f b g)

pub overflow_add-body : goal.overflow_add-body
overflow_add-body t c =
    let w = c.loop-left.invariant in
    let l = c.loop-left-test.true in
    let f = c.opens-h.ensures in
    let b = c.if-b-eq-LOOP.true in
    let g = c.of_statement-body.ensures in
    omega (arith, part_low w l f b g)

pub loop-left-smaller-then-b-eq-LOOP : goal.loop-left-smaller-then-b-eq-LOOP
loop-left-smaller-then-b-eq-LOOP t c =
    let w = c.loop-left.invariant in
    let l = c.loop-left-test.true in
    let f = c.opens-h.ensures in
    let b = c.if-b-eq-LOOP.true in
    let g = c.of_statement-body.ensures in
    omega (arith, part-inside w l f b g, on w l f)

pub loop-left-preserved-then-b-eq-LOOP : goal.loop-left-preserved-then-b-eq-LOOP
loop-left-preserved-then-b-eq-LOOP t c =
    let w = c.loop-left.invariant in
    let l = c.loop-left-test.true in
    let f = c.opens-h.ensures in
    let b = c.if-b-eq-LOOP.true in
    let g = c.of_statement-body.ensures in
    loop-done w l f b g c.max-loops.ensures

pub loop-left-smaller : goal.loop-left-smaller
loop-left-smaller t c =
    let w = c.loop-left.invariant in
    let l = c.loop-left-test.true in
    let f = c.opens-h.ensures in
    omega (arith, inside w l f, on w l f)

pub loop-left-preserved : goal.loop-left-preserved
loop-left-preserved t c =
    let w = c.loop-left.invariant in
    let l = c.loop-left-test.true in
    let f = c.opens-h.ensures in
    one-done w l f c.if-h-eq0.false c.if-h-eq2.false c.if-b-eq-LOOP.false

pub returns : goal.returns
returns t c = ends c.loop-left.invariant (search rules) refl refl refl
