use mathlib.Core.Path.{sym, ◌∙◌}
use native.Mathlib.Omega.{arith}
use borrow.Author.Rules.{rules}
use borrow.Author.Tests.{ltb-true}
use Rattle.spec_language.specs.Statement.{pause}
use Rattle.spec_sequence.specs.Commands.{Command}
use Rattle.layout.proofs.Laid.{taken-apart, begins, first-ready, second-ready}
use Rattle.commands.proofs.Shapes.{found, there, one-ready, two_ready}
use Rattle.resume.proofs.KeptSteps.{here, empty_step, pause_step, parts_step, leaf_step, one-step, two-step}
use Rattle.resume.proofs.kept.+inside_part_parts.Goals as goal

pub inside-returns-then-is_empty : goal.inside-returns-then-is_empty
inside-returns-then-is_empty t c base p l = empty_step base _ p (sym c.is_empty.ensures ∙ c.if-is_empty.true)

pub inside-bounds-s-1 : goal.inside-bounds-s-1
inside-bounds-s-1 t c = (begins c.requires Command.pause (search rules)).there

pub inside-overflow_add-at : goal.inside-overflow_add-at
inside-overflow_add-at t c = let r = c.requires in omega (arith, r.fits, there r (found r c.shape_of.ensures c.in-One.is))

pub inside-part-requires : goal.inside-part-requires
inside-part-requires t c =
    let r = c.requires in (search rules, one-ready r (found r c.shape_of.ensures c.in-One.is))

pub inside-parts-requires : goal.inside-parts-requires
inside-parts-requires t c =
    let r = c.requires in (search rules, two_ready r (found r c.shape_of.ensures c.in-Two.is))

pub inside-returns-then-command-eq-PAUSE : goal.inside-returns-then-command-eq-PAUSE
inside-returns-then-command-eq-PAUSE t c base p l =
    let y = taken-apart c.requires base p l Command.pause c.if-command-eq-PAUSE.true in
    here (pause _) p base _ y.parts (pause_step base _ _ (ltb-true _ _ y.ranged) (sym c.is_empty.ensures ∙ c.if-is_empty.false) c.add.ensures)

pub inside-returns-else-command-eq-PAUSE : goal.inside-returns-else-command-eq-PAUSE
inside-returns-else-command-eq-PAUSE t c base p l =
    let r = c.requires in
    leaf_step r base _ p l (found r c.shape_of.ensures c.in-Leaf.is) c.if-command-eq-PAUSE.false

pub inside-returns-in-One : goal.inside-returns-in-One
inside-returns-in-One t c base p l =
    let r = c.requires in
    one-step r base _ p l (found r c.shape_of.ensures c.in-One.is) (c.part.ensures base)

pub inside-returns-in-Two : goal.inside-returns-in-Two
inside-returns-in-Two t c base p l =
    let r = c.requires in
    two-step r base _ p l (found r c.shape_of.ensures c.in-Two.is) (c.parts.ensures base)

pub parts-overflow_sub-depth : goal.parts-overflow_sub-depth
parts-overflow_sub-depth t c = omega (arith, (first-ready c.requires).levels)

pub parts-part-requires : goal.parts-part-requires
parts-part-requires t c = (omega (arith, (first-ready c.requires).levels), (c.requires.two.within, second-ready c.requires))

pub parts-returns-then-is_empty : goal.parts-returns-then-is_empty
parts-returns-then-is_empty t c base p q l =
    parts_step base _ p q _ l.before c.below-first.ensures c.from-others.ensures
    (empty_step base _ p (sym c.is_empty.ensures ∙ c.if-is_empty.true)) (c.part.ensures _ q l.second)

pub parts-overflow_sub-depth-2 : goal.parts-overflow_sub-depth-2
parts-overflow_sub-depth-2 t c = omega (arith, (first-ready c.requires).levels)

pub parts-part-requires-2 : goal.parts-part-requires-2
parts-part-requires-2 t c = (omega (arith, (first-ready c.requires).levels), (c.requires.there, first-ready c.requires))

pub parts-returns-then-is_empty-2 : goal.parts-returns-then-is_empty-2
parts-returns-then-is_empty-2 t c base p q l =
    parts_step base _ p q _ l.before c.below-first.ensures c.from-others.ensures (c.part-2.ensures base p l.first)
    (empty_step _ _ q (sym c.is_empty-2.ensures ∙ c.if-is_empty-2.true))

pub parts-overflow_sub-depth-3 : goal.parts-overflow_sub-depth-3
parts-overflow_sub-depth-3 t c = omega (arith, (first-ready c.requires).levels)

pub parts-part-requires-3 : goal.parts-part-requires-3
parts-part-requires-3 t c = (omega (arith, (first-ready c.requires).levels), (c.requires.two.within, second-ready c.requires))

pub parts-returns : goal.parts-returns
parts-returns t c base p q l =
    parts_step base _ p q _ l.before c.below-first.ensures c.from-others.ensures
    (c.part-2.ensures base p l.first) (c.part-3.ensures _ q l.second)
