use mathlib.Core.Path.{refl, sym, ◌∙◌}
use native.Mathlib.Omega.{arith}
use lib.ListN.{get_or}
use borrow.Author.Rules.{rules}
use borrow.Author.Tests.{ltb-true}
use Rattle.spec_base.specs.Limits.{signal_count}
use Rattle.spec_language.specs.Statement.{local, nothing, seq, par, present, signal, try, suspend}
use Rattle.spec_sequence.specs.Commands.{Command}
use Rattle.layout.proofs.Laid.{ready, whole_lies, taken-apart, begins}
use Rattle.react_leaves.proofs.Steps.{nothing-step}
use Rattle.react.proofs.Steps.{front-is}
use Rattle.rules.proofs.Combining.{single_is}
use Rattle.resume.proofs.Steps.{
  here,
  seq_first,
  seq_second,
  present_first,
  present_second,
  par-step,
  loop-step,
  try-step,
  signal-step,
  signal-once-step,
  suspend_stopped,
  suspend-resumed,
  side-ended,
  side-active,
  leaf_step,
  pause_step,
}
use Rattle.resume.proofs.+body_declaration_par_parts_part_present_parts_resume_seq_parts_side_signal_rule_suspend_part.Goals as goal
use Rattle.resume.proofs.+body_declaration_par_parts_part_present_parts_resume_seq_parts_side_signal_rule_suspend_part.Goals.{side-then-is_empty-via-then-is_empty, side-then-is_empty-via-else-is_empty+then-s-n-eq-PAUSE}

pub declaration-returns : goal.declaration-returns
declaration-returns t c base p l = c.signal_rule.ensures base p (whole_lies _ _ _ _ _ p l)

pub par_parts-overflow_sub-pauses : goal.par_parts-overflow_sub-pauses
par_parts-overflow_sub-pauses t c = omega (arith, (begins c.requires.0 Command.par c.requires.1).parts.2.1.behind)

pub par_parts-bounds-second-m : goal.par_parts-bounds-second-m
par_parts-bounds-second-m t c = omega (arith, (begins c.requires.0 Command.par c.requires.1).parts.2.1.behind, (begins c.requires.0 Command.par c.requires.1).parts.2.1.room, c.requires.0.long)

pub par_parts-side-p-requires : goal.par_parts-side-p-requires
par_parts-side-p-requires t c = let y = begins c.requires.0 Command.par c.requires.1 in (search rules, (y.there, ready _ y.parts.0 c.requires.0.long y.parts.2.1.first))

pub par_parts-overflow_sub-m : goal.par_parts-overflow_sub-m
par_parts-overflow_sub-m t c = omega (arith, (begins c.requires.0 Command.par c.requires.1).parts.2.1.place)

pub par_parts-side-q-requires : goal.par_parts-side-q-requires
par_parts-side-q-requires t c = let y = begins c.requires.0 Command.par c.requires.1 in (search rules, (y.parts.2.1.within, ready _ y.parts.1 c.requires.0.long y.parts.2.1.second))

pub par_parts-returns : goal.par_parts-returns
par_parts-returns t c base p l f =
    let y = (taken-apart c.requires.0 base p l Command.par c.requires.1).parts in
    here f base _ _ (par y.0 y.1) p y.2.0
    (par-step _ base _ _ y.0 y.1 _ _ y.2.1.before c.below-first.ensures _ c.from-others.ensures (c.side-p.ensures base y.0 y.2.1.first f) (c.side-q.ensures _ y.1 y.2.1.second f) c.in_parallel.ensures)

pub part-returns-then-s-n-eq-PAUSE : goal.part-returns-then-s-n-eq-PAUSE
part-returns-then-s-n-eq-PAUSE t c base p l f =
    pause_step _ _ base _ _ p _ _ _ l (front-is c.args.n c.args.s.now c.if-s-n-eq-PAUSE.true) (nothing-step f nothing _ _ _ refl c.nothing.ensures)

pub present_parts-overflow_sub-pauses : goal.present_parts-overflow_sub-pauses
present_parts-overflow_sub-pauses t c = omega (arith, (begins c.requires.0 Command.present c.requires.1).parts.2.1.behind)

pub present_parts-bounds-second-m : goal.present_parts-bounds-second-m
present_parts-bounds-second-m t c = omega (arith, (begins c.requires.0 Command.present c.requires.1).parts.2.1.behind, (begins c.requires.0 Command.present c.requires.1).parts.2.1.room, c.requires.0.long)

pub present_parts-overflow_sub-m : goal.present_parts-overflow_sub-m
present_parts-overflow_sub-m t c = omega (arith, (begins c.requires.0 Command.present c.requires.1).parts.2.1.place)

pub present_parts-part-requires : goal.present_parts-part-requires
present_parts-part-requires t c = let y = begins c.requires.0 Command.present c.requires.1 in (search rules, (y.parts.2.1.within, ready _ y.parts.1 c.requires.0.long y.parts.2.1.second))

pub present_parts-returns-then-is_empty : goal.present_parts-returns-then-is_empty
present_parts-returns-then-is_empty t c base p l f =
    let y = (taken-apart c.requires.0 base p l Command.present c.requires.1).parts in
    here f base _ _ (present _ y.0 y.1) p y.2.0
    (present_second _ base _ _ y.0 y.1 _ _ y.2.1.before c.below-first.ensures _ c.from-others.ensures _ (sym c.is_empty.ensures ∙ c.if-is_empty.true) (c.part.ensures _ y.1 y.2.1.second f))

pub present_parts-part-requires-2 : goal.present_parts-part-requires-2
present_parts-part-requires-2 t c = let y = begins c.requires.0 Command.present c.requires.1 in (search rules, (y.there, ready _ y.parts.0 c.requires.0.long y.parts.2.1.first))

pub present_parts-returns : goal.present_parts-returns
present_parts-returns t c base p l f =
    let y = (taken-apart c.requires.0 base p l Command.present c.requires.1).parts in
    here f base _ _ (present _ y.0 y.1) p y.2.0
    (present_first _ base _ _ y.0 y.1 _ _ y.2.1.before c.below-first.ensures _ (sym c.is_empty.ensures ∙ c.if-is_empty.false) (c.part-2.ensures base y.0 y.2.1.first f))

pub resume-part-p-requires : goal.resume-part-p-requires
resume-part-p-requires t c =
    let f = c.requires in
    let y = begins f Command.loop c.in-6.is in
    (search rules, (y.there, ready _ y.parts.0 f.long y.parts.1.1))

pub resume-part-requires : goal.resume-part-requires
resume-part-requires t c =
    let f = c.requires in
    let y = begins f Command.try c.in-9.is in
    (search rules, (y.there, ready _ y.parts.0 f.long y.parts.1.1))

pub resume-returns-in-6 : goal.resume-returns-in-6
resume-returns-in-6 t c base p l f =
    let y = (taken-apart c.requires base p l Command.loop c.in-6.is).parts in
    loop-step _ base _ _ y.0 _ p y.1.0 (c.part-p.ensures base y.0 y.1.1 f) (λ i w h. c.after.ensures base p (whole_lies _ _ _ _ _ p l) f i w h)

pub resume-returns-in-9 : goal.resume-returns-in-9
resume-returns-in-9 t c base p l f =
    let y = (taken-apart c.requires base p l Command.try c.in-9.is).parts in
    here f base _ _ (try y.0) p y.1.0 (try-step _ base _ _ y.0 (c.part.ensures base y.0 y.1.1 f) c.in_try.ensures)

pub resume-returns-in_default : goal.resume-returns-in_default
resume-returns-in_default t c base p l f = leaf_step _ _ base _ _ p _ _ _ l (search rules) (nothing-step f nothing _ _ _ refl c.nothing.ensures)

pub seq_parts-overflow_sub-pauses : goal.seq_parts-overflow_sub-pauses
seq_parts-overflow_sub-pauses t c = omega (arith, (begins c.requires.0 Command.seq c.requires.1).parts.2.1.behind)

pub seq_parts-bounds-second-m : goal.seq_parts-bounds-second-m
seq_parts-bounds-second-m t c = omega (arith, (begins c.requires.0 Command.seq c.requires.1).parts.2.1.behind, (begins c.requires.0 Command.seq c.requires.1).parts.2.1.room, c.requires.0.long)

pub seq_parts-overflow_sub-m : goal.seq_parts-overflow_sub-m
seq_parts-overflow_sub-m t c = omega (arith, (begins c.requires.0 Command.seq c.requires.1).parts.2.1.place)

pub seq_parts-part-requires : goal.seq_parts-part-requires
seq_parts-part-requires t c = let y = begins c.requires.0 Command.seq c.requires.1 in (search rules, (y.parts.2.1.within, ready _ y.parts.1 c.requires.0.long y.parts.2.1.second))

pub seq_parts-returns-then-is_empty : goal.seq_parts-returns-then-is_empty
seq_parts-returns-then-is_empty t c base p l f =
    let y = (taken-apart c.requires.0 base p l Command.seq c.requires.1).parts in
    here f base _ _ (seq y.0 y.1) p y.2.0
    (seq_second _ base _ _ y.0 y.1 _ _ y.2.1.before c.below-first.ensures _ c.from-others.ensures (sym c.is_empty.ensures ∙ c.if-is_empty.true) (c.part.ensures _ y.1 y.2.1.second f))

pub seq_parts-part-p-requires : goal.seq_parts-part-p-requires
seq_parts-part-p-requires t c = let y = begins c.requires.0 Command.seq c.requires.1 in (search rules, (y.there, ready _ y.parts.0 c.requires.0.long y.parts.2.1.first))

pub seq_parts-overflow_sub-m-2 : goal.seq_parts-overflow_sub-m-2
seq_parts-overflow_sub-m-2 t c = omega (arith, (begins c.requires.0 Command.seq c.requires.1).parts.2.1.place)

pub seq_parts-after-requires : goal.seq_parts-after-requires
seq_parts-after-requires t c = let y = begins c.requires.0 Command.seq c.requires.1 in record { n_in_bounds = y.parts.2.1.within; ready = ready _ y.parts.1 c.requires.0.long y.parts.2.1.second }

pub seq_parts-returns : goal.seq_parts-returns
seq_parts-returns t c base p l f =
    let y = (taken-apart c.requires.0 base p l Command.seq c.requires.1).parts in
    here f base _ _ (seq y.0 y.1) p y.2.0
    (seq_first _ base _ _ y.0 y.1 _ _ y.2.1.before c.below-first.ensures (sym c.is_empty.ensures ∙ c.if-is_empty.false) (c.part-p.ensures base y.0 y.2.1.first f) (λ i w h. c.after.ensures _ y.1 y.2.1.second f i w h))

pub side-returns-then-is_empty : goal.side-returns-then-is_empty
side-returns-then-is_empty t c base p l f =
    let n = nothing-step f nothing _ _ _ refl c.nothing.ensures in
    elim c.then-is_empty.branch [
      | side-then-is_empty-via-then-is_empty w ↦ side-ended _ base _ _ p (sym c.is_empty.ensures ∙ w.if-is_empty.true) n
      | side-then-is_empty-via-else-is_empty+then-s-n-eq-PAUSE w ↦
          side-active _ base _ _ p (sym c.is_empty.ensures ∙ w.if-is_empty.false)
          (pause_step _ _ base _ _ p _ _ _ l (front-is c.args.n c.args.s.now w.if-s-n-eq-PAUSE.true) n)
    ]

pub side-returns : goal.side-returns
side-returns t c base p l f = side-active _ base _ _ p (sym c.is_empty.ensures ∙ c.if-is_empty.false) (c.resume.ensures base p l f)

pub signal_rule-bounds-s-1 : goal.signal_rule-bounds-s-1
signal_rule-bounds-s-1 t c = (begins c.requires.0 Command.signal c.requires.1).there

pub signal_rule-bounds-litres-n : goal.signal_rule-bounds-litres-n
signal_rule-bounds-litres-n t c =
    let g = c.requires in
    omega (arith, ltb-true (get_or c.args.s.now 1 0) signal_count (begins g.0 Command.signal g.1).ranged)

pub signal_rule-restore-requires : goal.signal_rule-restore-requires
signal_rule-restore-requires t c =
    let g = c.requires in
    ltb-true _ _ (begins g.0 Command.signal g.1).ranged

pub signal_rule-restore-requires-else-asks : goal.signal_rule-restore-requires-else-asks
signal_rule-restore-requires-else-asks t c =
    let g = c.requires in
    ltb-true _ _ (begins g.0 Command.signal g.1).ranged

pub signal_rule-body-p-requires : goal.signal_rule-body-p-requires
signal_rule-body-p-requires t c =
    let f = c.requires in
    let y = begins f.0 Command.signal f.1 in
    (search rules, (y.there, ready _ y.parts.0 f.0.long y.parts.1.1))

pub signal_rule-body-q-requires : goal.signal_rule-body-q-requires
signal_rule-body-q-requires t c =
    let f = c.requires in
    let y = begins f.0 Command.signal f.1 in
    (search rules, (y.there, ready _ y.parts.0 f.0.long y.parts.1.1))

pub signal_rule-returns-then-asks : goal.signal_rule-returns-then-asks
signal_rule-returns-then-asks t c base p l f =
    let g = c.requires in
    let y = taken-apart g.0 base p l Command.signal g.1 in
    let q = y.parts.0 in
    here f base _ _ (signal local _ _ q) p y.parts.1.0
    (signal-step f base _ _ q _ _ (ltb-true _ _ y.ranged) c.without-without.ensures (c.body-p.ensures base q y.parts.1.1 f)
    c.with-with.ensures (c.body-q.ensures base q y.parts.1.1 f)
    c.member.ensures c.select.ensures c.restore.ensures (c.in_signal.ensures f))

pub signal_rule-returns-else-asks : goal.signal_rule-returns-else-asks
signal_rule-returns-else-asks t c base p l f =
    let g = c.requires in
    let y = taken-apart g.0 base p l Command.signal g.1 in
    let q = y.parts.0 in
    here f base _ _ (signal local _ _ q) p y.parts.1.0
    (signal-once-step f base _ _ q _ _ (ltb-true _ _ y.ranged) c.without-without.ensures (c.body-p.ensures base q y.parts.1.1 f)
    (sym c.asks.ensures ∙ c.if-asks.false) c.restore-else-asks.ensures (c.in_signal_once.ensures f _))

pub suspend_part-bounds-s-1 : goal.suspend_part-bounds-s-1
suspend_part-bounds-s-1 t c = (begins c.requires.0 Command.suspend c.requires.1).there

pub suspend_part-of_part-labels-requires : goal.suspend_part-of_part-labels-requires
suspend_part-of_part-labels-requires t c =
    let f = c.requires in
    let y = begins f.0 Command.suspend f.1 in
    record { n_in_bounds = y.there; ready = ready _ y.parts.0 f.0.long y.parts.1.1 }

pub suspend_part-part-requires : goal.suspend_part-part-requires
suspend_part-part-requires t c =
    let f = c.requires in
    let y = begins f.0 Command.suspend f.1 in
    (search rules, (y.there, ready _ y.parts.0 f.0.long y.parts.1.1))

pub suspend_part-returns-then-member : goal.suspend_part-returns-then-member
suspend_part-returns-then-member t c base p l f =
    let g = c.requires in
    let y = taken-apart g.0 base p l Command.suspend g.1 in
    let q = y.parts.0 in
    here f base _ _ (suspend _ q) p y.parts.1.0
    (suspend_stopped f base _ _ _ q _ (sym c.member.ensures ∙ c.if-member.true)
    (c.of_part-labels.ensures base q y.parts.1.1) (c.stopped.ensures (ltb-true _ _ y.ranged)))

pub suspend_part-returns-else-member : goal.suspend_part-returns-else-member
suspend_part-returns-else-member t c base p l f =
    let g = c.requires in
    let y = taken-apart g.0 base p l Command.suspend g.1 in
    let q = y.parts.0 in
    here f base _ _ (suspend _ q) p y.parts.1.0
    (suspend-resumed _ base _ _ _ q (sym c.member.ensures ∙ c.if-member.false)
    (c.part.ensures base q y.parts.1.1 f) (c.in_held.ensures _ (single_is _ (ltb-true _ _ y.ranged) c.single.ensures)))
