use native.Mathlib.Omega.{arith}
use borrow.Author.Rules.{rules}
use Rattle.layout.proofs.Laid.{first-ready, second-ready}
use Rattle.commands.proofs.Shapes.{found, leaf_small, one_small, two_small, there, one-ready, two_ready}
use Rattle.unroll_call.proofs.Steps.{few, parts_step, leaf_step, loop-step, one-step, two-step}
use Rattle.unroll_call.proofs.sizes.+of_part_of_parts_of_statement.Goals as goal

pub of_part-of_statement-requires : goal.of_part-of_statement-requires
of_part-of_statement-requires t c = (search rules, c.requires.ready)

pub of_part-returns : goal.of_part-returns
of_part-returns t c = c.of_statement.ensures

pub of_parts-offset_bounds-second-at : goal.of_parts-offset_bounds-second-at
of_parts-offset_bounds-second-at t c = record { fits = omega (arith, (first-ready c.requires.pair).fits) }

pub of_parts-bounds-second-at : goal.of_parts-bounds-second-at
of_parts-bounds-second-at t c = let r = first-ready c.requires.pair in omega (arith, r.fits, r.bytes, c.requires.pair.long)

pub of_parts-overflow_cast-m : goal.of_parts-overflow_cast-m
of_parts-overflow_cast-m t c = record { fits = omega (arith, c.requires.pair.two.room) }

pub of_parts-overflow_sub-depth : goal.of_parts-overflow_sub-depth
of_parts-overflow_sub-depth t c = omega (arith, (first-ready c.requires.pair).levels)

pub of_parts-of_part-p-requires : goal.of_parts-of_part-p-requires
of_parts-of_part-p-requires t c = (omega (arith, (first-ready c.requires.pair).levels), (c.requires.pair.there, first-ready c.requires.pair))

pub of_parts-overflow_sub-m : goal.of_parts-overflow_sub-m
of_parts-overflow_sub-m t c = omega (arith, c.requires.pair.two.place)

pub of_parts-overflow_sub-depth-2 : goal.of_parts-overflow_sub-depth-2
of_parts-overflow_sub-depth-2 t c = omega (arith, (first-ready c.requires.pair).levels)

pub of_parts-of_part-q-requires : goal.of_parts-of_part-q-requires
of_parts-of_part-q-requires t c = (omega (arith, (first-ready c.requires.pair).levels), (c.requires.pair.two.within, second-ready c.requires.pair))

pub of_parts-around_two-requires : goal.of_parts-around_two-requires
of_parts-around_two-requires t c = let r = c.requires.pair in
    let p = few (first-ready r) c.of_part-p.ensures in
    let q = few (second-ready r) c.of_part-q.ensures in
    search rules

pub of_parts-returns : goal.of_parts-returns
of_parts-returns t c = λ base p q l. parts_step _ p q (c.of_part-p.ensures base p l.first) (c.of_part-q.ensures _ q l.second) c.around_two.ensures

pub of_statement-overflow_cast-w : goal.of_statement-overflow_cast-w
of_statement-overflow_cast-w t c =
    let r = c.requires in record { fits = omega (arith, leaf_small (found r c.shape_of.ensures c.in-Leaf.is)) }

pub of_statement-overflow_add-at : goal.of_statement-overflow_add-at
of_statement-overflow_add-at t c =
    let r = c.requires in omega (arith, r.fits, there r (found r c.shape_of.ensures c.in-One.is))

pub of_statement-of_part-n-requires : goal.of_statement-of_part-n-requires
of_statement-of_part-n-requires t c =
    let r = c.requires in (search rules, one-ready r (found r c.shape_of.ensures c.in-One.is))

pub of_statement-around_loop-requires : goal.of_statement-around_loop-requires
of_statement-around_loop-requires t c =
    let r = c.requires in few (one-ready r (found r c.shape_of.ensures c.in-One.is)).1 c.of_part-n.ensures

pub of_statement-overflow_cast-w-else-command-eq-LOOP : goal.of_statement-overflow_cast-w-else-command-eq-LOOP
of_statement-overflow_cast-w-else-command-eq-LOOP t c =
    let r = c.requires in record { fits = omega (arith, one_small (found r c.shape_of.ensures c.in-One.is)) }

pub of_statement-around-requires : goal.of_statement-around-requires
of_statement-around-requires t c =
    let r = c.requires in
    let y = found r c.shape_of.ensures c.in-One.is in (few (one-ready r y).1 c.of_part-n.ensures, one_small y)

pub of_statement-of_parts-requires : goal.of_statement-of_parts-requires
of_statement-of_parts-requires t c =
    let r = c.requires in let y = found r c.shape_of.ensures c.in-Two.is in (search rules, (two_small y, two_ready r y))

pub of_statement-returns-in-Leaf : goal.of_statement-returns-in-Leaf
of_statement-returns-in-Leaf t c base p l =
    let r = c.requires in leaf_step r base p l (found r c.shape_of.ensures c.in-Leaf.is) c.capped.ensures

pub of_statement-returns-then-command-eq-LOOP : goal.of_statement-returns-then-command-eq-LOOP
of_statement-returns-then-command-eq-LOOP t c base p l =
    let r = c.requires in
    loop-step r base p l (found r c.shape_of.ensures c.in-One.is) (c.of_part-n.ensures base) c.if-command-eq-LOOP.true c.around_loop.ensures

pub of_statement-returns-else-command-eq-LOOP : goal.of_statement-returns-else-command-eq-LOOP
of_statement-returns-else-command-eq-LOOP t c base p l =
    let r = c.requires in
    one-step r base p l (found r c.shape_of.ensures c.in-One.is) (c.of_part-n.ensures base) c.if-command-eq-LOOP.false c.around.ensures

pub of_statement-returns-in-Two : goal.of_statement-returns-in-Two
of_statement-returns-in-Two t c base p l =
    let r = c.requires in two-step r base p l (found r c.shape_of.ensures c.in-Two.is) (c.of_parts.ensures base)
