use mathlib.Core.Path.{sym, ◌∙◌}
use mathlib.Core.Bool.{true≢false}
use native.Mathlib.Omega.{arith}
use borrow.Author.Rules.{rules}
use Rattle.layout.proofs.Laid.{first-ready, second-ready}
use Rattle.commands.proofs.Shapes.{found, there, one-ready, two_ready}
use Rattle.validity.proofs.Steps.{second-only, first-only, both-active, both-parts, both, neither, leaf_step, one-step, two-step, whole_pair, whole_two}
use Rattle.validity.proofs.Single.{single_step}
use Rattle.validity.proofs.+compatible_compatible_part_compatible_parts.Goals as goal
use Rattle.validity.proofs.+compatible_compatible_part_compatible_parts.Goals.{compatible_parts-then-parallel, compatible_parts-else-parallel}

pub compatible-overflow_add-at : goal.compatible-overflow_add-at
compatible-overflow_add-at t c = let r = c.requires in omega (arith, r.fits, there r (found r c.shape_of.ensures c.in-One.is))

pub compatible-compatible_part-requires : goal.compatible-compatible_part-requires
compatible-compatible_part-requires t c =
    let r = c.requires in (search rules, one-ready r (found r c.shape_of.ensures c.in-One.is))

pub compatible-compatible_parts-requires : goal.compatible-compatible_parts-requires
compatible-compatible_parts-requires t c =
    let r = c.requires in (search rules, whole_pair (two_ready r (found r c.shape_of.ensures c.in-Two.is)))

pub compatible-returns-then-is_empty : goal.compatible-returns-then-is_empty
compatible-returns-then-is_empty t c base p l = single_step _ base _ p c.without.ensures (sym c.is_empty.ensures ∙ c.if-is_empty.true)

pub compatible-returns-in-Leaf : goal.compatible-returns-in-Leaf
compatible-returns-in-Leaf t c base p l =
    let r = c.requires in leaf_step r base _ p l (found r c.shape_of.ensures c.in-Leaf.is)

pub compatible-returns-in-One : goal.compatible-returns-in-One
compatible-returns-in-One t c base p l =
    let r = c.requires in
    one-step r base _ p l (found r c.shape_of.ensures c.in-One.is) (c.compatible_part.ensures base)

pub compatible-returns-in-Two : goal.compatible-returns-in-Two
compatible-returns-in-Two t c base p l =
    let r = c.requires in
    two-step r base _ p l (found r c.shape_of.ensures c.in-Two.is)
    (λ q q' h. c.compatible_parts.ensures base q q' (whole_two h))

pub compatible_part-compatible-requires : goal.compatible_part-compatible-requires
compatible_part-compatible-requires t c = (search rules, c.requires.ready)

pub compatible_part-returns : goal.compatible_part-returns
compatible_part-returns t c = c.compatible.ensures

pub compatible_parts-offset_bounds-second-at : goal.compatible_parts-offset_bounds-second-at
compatible_parts-offset_bounds-second-at t c = record { fits = omega (arith, (first-ready c.requires).fits) }

pub compatible_parts-bounds-second-at : goal.compatible_parts-bounds-second-at
compatible_parts-bounds-second-at t c = let r = first-ready c.requires in omega (arith, r.fits, r.bytes, c.requires.long)

pub compatible_parts-overflow_cast-m : goal.compatible_parts-overflow_cast-m
compatible_parts-overflow_cast-m t c = record { fits = omega (arith, c.requires.two.room) }

pub compatible_parts-overflow_sub-pauses : goal.compatible_parts-overflow_sub-pauses
compatible_parts-overflow_sub-pauses t c = omega (arith, c.requires.two.behind)

pub compatible_parts-offset_bounds-second-m : goal.compatible_parts-offset_bounds-second-m
compatible_parts-offset_bounds-second-m t c = record { fits = omega (arith, c.requires.two.room) }

pub compatible_parts-bounds-second-m : goal.compatible_parts-bounds-second-m
compatible_parts-bounds-second-m t c = omega (arith, c.requires.two.behind, c.requires.two.room, c.requires.long)

pub compatible_parts-overflow_sub-depth : goal.compatible_parts-overflow_sub-depth
compatible_parts-overflow_sub-depth t c = omega (arith, (first-ready c.requires).levels)

pub compatible_parts-compatible_part-requires : goal.compatible_parts-compatible_part-requires
compatible_parts-compatible_part-requires t c = (omega (arith, (first-ready c.requires).levels), (c.requires.two.within, second-ready c.requires))

pub compatible_parts-returns-then-is_empty : goal.compatible_parts-returns-then-is_empty
compatible_parts-returns-then-is_empty t c base p q l =
    second-only base _ p q c.args.parallel _ _ _ l.before c.below-p.ensures c.from-q.ensures (sym c.is_empty.ensures ∙ c.if-is_empty.true)
    (c.compatible_part.ensures _ q l.second)

pub compatible_parts-overflow_sub-depth-then-is_empty-2 : goal.compatible_parts-overflow_sub-depth-then-is_empty-2
compatible_parts-overflow_sub-depth-then-is_empty-2 t c = omega (arith, (first-ready c.requires).levels)

pub compatible_parts-compatible_part-requires-then-is_empty-2 : goal.compatible_parts-compatible_part-requires-then-is_empty-2
compatible_parts-compatible_part-requires-then-is_empty-2 t c = (omega (arith, (first-ready c.requires).levels), (c.requires.there, first-ready c.requires))

pub compatible_parts-returns-then-is_empty-2 : goal.compatible_parts-returns-then-is_empty-2
compatible_parts-returns-then-is_empty-2 t c base p q l =
    first-only base _ p q c.args.parallel _ _ _ l.before c.below-p.ensures c.from-q.ensures (sym c.is_empty.ensures ∙ c.if-is_empty.false)
    (sym c.is_empty-2.ensures ∙ c.if-is_empty-2.true) (c.compatible_part-then-is_empty-2.ensures _ p l.first)

pub compatible_parts-overflow_sub-depth-then-parallel : goal.compatible_parts-overflow_sub-depth-then-parallel
compatible_parts-overflow_sub-depth-then-parallel t c = omega (arith, (first-ready c.requires).levels)

pub compatible_parts-compatible_part-requires-then-parallel : goal.compatible_parts-compatible_part-requires-then-parallel
compatible_parts-compatible_part-requires-then-parallel t c = (omega (arith, (first-ready c.requires).levels), (c.requires.there, first-ready c.requires))

pub compatible_parts-overflow_sub-depth-then-compatible_part : goal.compatible_parts-overflow_sub-depth-then-compatible_part
compatible_parts-overflow_sub-depth-then-compatible_part t c = omega (arith, (first-ready c.requires).levels)

pub compatible_parts-compatible_part-requires-then-compatible_part : goal.compatible_parts-compatible_part-requires-then-compatible_part
compatible_parts-compatible_part-requires-then-compatible_part t c = (omega (arith, (first-ready c.requires).levels), (c.requires.two.within, second-ready c.requires))

pub compatible_parts-returns-then-compatible_part : goal.compatible_parts-returns-then-compatible_part
compatible_parts-returns-then-compatible_part t c base p q l =
    elim c.if-parallel.branch [
      | compatible_parts-then-parallel w ↦
          both-parts base _ p q c.args.parallel _ _ _ l.before c.below-p.ensures c.from-q.ensures (sym c.is_empty.ensures ∙ c.if-is_empty.false)
          (sym c.is_empty-2.ensures ∙ c.if-is_empty-2.false) w.if-parallel.true
          (both (sym (w.compatible_part-then-parallel.ensures _ p l.first) ∙ sym w.value-is ∙ c.if-compatible_part.true) (c.compatible_part-then-compatible_part.ensures _ q l.second))
      | compatible_parts-else-parallel w ↦ absurd (true≢false (sym c.if-compatible_part.true ∙ w.value-is ∙ w.if-parallel.false))
    ]

pub compatible_parts-returns-else-compatible_part : goal.compatible_parts-returns-else-compatible_part
compatible_parts-returns-else-compatible_part t c base p q l =
    elim c.if-parallel.branch [
      | compatible_parts-then-parallel w ↦
          both-parts base _ p q c.args.parallel _ _ _ l.before c.below-p.ensures c.from-q.ensures (sym c.is_empty.ensures ∙ c.if-is_empty.false)
          (sym c.is_empty-2.ensures ∙ c.if-is_empty-2.false) w.if-parallel.true
          (c.if-compatible_part.false ∙ neither _ (sym (w.compatible_part-then-parallel.ensures _ p l.first) ∙ sym w.value-is ∙ c.if-compatible_part.false))
      | compatible_parts-else-parallel w ↦
          both-active base _ p q c.args.parallel _ _ _ l.before c.below-p.ensures c.from-q.ensures (sym c.is_empty.ensures ∙ c.if-is_empty.false)
          (sym c.is_empty-2.ensures ∙ c.if-is_empty-2.false) w.if-parallel.false (w.value-is ∙ w.if-parallel.false)
    ]
