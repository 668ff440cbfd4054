use mathlib.Core.Path.{sym, ◌∙◌}
use native.Mathlib.Omega.{arith}
use lib.ListN.{get_or}
use borrow.Author.Rules.{rules}
use borrow.Author.Tests.{ltb-true}
use Rattle.spec_base.specs.Limits.{signal_count}
use Rattle.spec_language.specs.Statement.{local, seq, par, loop, present, signal, try, suspend}
use Rattle.theory_language.specs.Traced.{start_traced}
use Rattle.spec_sequence.specs.Commands.{Command}
use Rattle.layout.proofs.Laid.{ready, taken-apart, begins, whole_lies}
use Rattle.react_leaves.proofs.Steps.{nothing-step}
use Rattle.react.proofs.Steps.{here, loop-step, try-step, suspend-step, signal-step, signal-once-step, seq-step, goes_on, par-step, present-step, absent-step, front-is}
use Rattle.react.proofs.+after_body_declaration_par_parts_part_present_parts_react_seq_parts_signal_rule.Goals as goal

pub after-returns-then-is_ended : goal.after-returns-then-is_ended
after-returns-then-is_ended t c base u l f i w h =
    goes_on f i h u (start_traced f u _) (sym c.is_ended.ensures ∙ c.if-is_ended.true) (c.part.ensures base u l f) (c.in_sequence.ensures u)

pub declaration-returns : goal.declaration-returns
declaration-returns t c base p l = c.signal_rule.ensures base p (whole_lies _ _ _ _ _ p l)

pub par_parts-part-p-requires : goal.par_parts-part-p-requires
par_parts-part-p-requires t c = let y = begins c.requires.0 Command.par c.requires.1 in (search rules, (y.there, ready _ y.parts.0 c.requires.0.long y.parts.2.1.first))

pub par_parts-overflow_sub-m : goal.par_parts-overflow_sub-m
par_parts-overflow_sub-m t c = omega (arith, (begins c.requires.0 Command.par c.requires.1).parts.2.1.place)

pub par_parts-part-q-requires : goal.par_parts-part-q-requires
par_parts-part-q-requires t c = let y = begins c.requires.0 Command.par c.requires.1 in (search rules, (y.parts.2.1.within, ready _ y.parts.1 c.requires.0.long y.parts.2.1.second))

pub par_parts-returns : goal.par_parts-returns
par_parts-returns t c base p l f =
    let y = (taken-apart c.requires.0 base p l Command.par c.requires.1).parts in
    here f (par y.0 y.1) p _ y.2.0
    (par-step _ _ y.0 y.1 (c.part-p.ensures base y.0 y.2.1.first f) (c.part-q.ensures _ y.1 y.2.1.second f) c.in_parallel.ensures)

pub part-returns-then-s-n-eq-NOTHING : goal.part-returns-then-s-n-eq-NOTHING
part-returns-then-s-n-eq-NOTHING t c base p l f =
    nothing-step f p _ _ _ (taken-apart c.requires.ready base p l Command.nothing (front-is c.args.n c.args.s.now c.if-s-n-eq-NOTHING.true)).parts c.nothing.ensures

pub present_parts-bounds-s-1 : goal.present_parts-bounds-s-1
present_parts-bounds-s-1 t c = (begins c.requires.0 Command.present c.requires.1).there

pub present_parts-part-requires : goal.present_parts-part-requires
present_parts-part-requires t c =
    let f = c.requires in
    let y = begins f.0 Command.present f.1 in
    (search rules, (y.there, ready _ y.parts.0 f.0.long y.parts.2.1.first))

pub present_parts-overflow_sub-m : goal.present_parts-overflow_sub-m
present_parts-overflow_sub-m t c =
    let f = c.requires in
    omega (arith, (begins f.0 Command.present f.1).parts.2.1.place)

pub present_parts-part-requires-else-member : goal.present_parts-part-requires-else-member
present_parts-part-requires-else-member t c =
    let f = c.requires in
    let y = begins f.0 Command.present f.1 in
    (search rules, (y.parts.2.1.within, ready _ y.parts.1 f.0.long y.parts.2.1.second))

pub present_parts-returns-then-member : goal.present_parts-returns-then-member
present_parts-returns-then-member t c base p l f =
    let g = c.requires in
    let y = taken-apart g.0 base p l Command.present g.1 in
    let z = y.parts in
    here f (present _ z.0 z.1) p _ z.2.0
    (present-step _ _ _ z.0 z.1 (sym c.member.ensures ∙ c.if-member.true)
    (c.part.ensures base z.0 z.2.1.first f) (c.in_present.ensures (ltb-true _ _ y.ranged)))

pub present_parts-returns-else-member : goal.present_parts-returns-else-member
present_parts-returns-else-member t c base p l f =
    let g = c.requires in
    let y = taken-apart g.0 base p l Command.present g.1 in
    let z = y.parts in
    here f (present _ z.0 z.1) p _ z.2.0
    (absent-step _ _ _ z.0 z.1 (sym c.member.ensures ∙ c.if-member.false)
    (c.part-else-member.ensures _ z.1 z.2.1.second f) (c.in_present-else-member.ensures (ltb-true _ _ y.ranged)))

pub react-part-requires : goal.react-part-requires
react-part-requires t c =
    let f = c.requires in
    let y = begins f Command.loop c.in-6.is in
    (search rules, (y.there, ready _ y.parts.0 f.long y.parts.1.1))

pub react-part-requires-in-9 : goal.react-part-requires-in-9
react-part-requires-in-9 t c =
    let f = c.requires in
    let y = begins f Command.try c.in-9.is in
    (search rules, (y.there, ready _ y.parts.0 f.long y.parts.1.1))

pub react-part-requires-in-11 : goal.react-part-requires-in-11
react-part-requires-in-11 t c =
    let f = c.requires in
    let y = begins f Command.suspend c.in-11.is in
    (search rules, (y.there, ready _ y.parts.0 f.long y.parts.1.1))

pub react-returns-in-6 : goal.react-returns-in-6
react-returns-in-6 t c base p l f =
    let y = (taken-apart c.requires base p l Command.loop c.in-6.is).parts in
    here f (loop _ y.0) p _ y.1.0 (loop-step _ _ _ y.0 (c.part.ensures base y.0 y.1.1 f) c.in_loop.ensures)

pub react-returns-in-9 : goal.react-returns-in-9
react-returns-in-9 t c base p l f =
    let y = (taken-apart c.requires base p l Command.try c.in-9.is).parts in
    here f (try y.0) p _ y.1.0 (try-step _ _ y.0 (c.part-in-9.ensures base y.0 y.1.1 f) c.in_try.ensures)

pub react-returns-in-11 : goal.react-returns-in-11
react-returns-in-11 t c base p l f =
    let y = (taken-apart c.requires base p l Command.suspend c.in-11.is).parts in
    here f (suspend _ y.0) p _ y.1.0 (suspend-step _ _ _ y.0 (c.part-in-11.ensures base y.0 y.1.1 f) (c.in_suspend.ensures _))

pub react-returns-in_default : goal.react-returns-in_default
react-returns-in_default t c base p l = c.alone.ensures _ _ _ _ base p l

pub seq_parts-part-p-requires : goal.seq_parts-part-p-requires
seq_parts-part-p-requires t c = let y = begins c.requires.0 Command.seq c.requires.1 in (search rules, (y.there, ready _ y.parts.0 c.requires.0.long y.parts.2.1.first))

pub seq_parts-overflow_sub-m : goal.seq_parts-overflow_sub-m
seq_parts-overflow_sub-m t c = omega (arith, (begins c.requires.0 Command.seq c.requires.1).parts.2.1.place)

pub seq_parts-after-requires : goal.seq_parts-after-requires
seq_parts-after-requires t c = let y = begins c.requires.0 Command.seq c.requires.1 in (search rules, (y.parts.2.1.within, ready _ y.parts.1 c.requires.0.long y.parts.2.1.second))

pub seq_parts-returns : goal.seq_parts-returns
seq_parts-returns t c base p l f =
    let y = (taken-apart c.requires.0 base p l Command.seq c.requires.1).parts in
    here f (seq y.0 y.1) p _ y.2.0
    (seq-step _ _ y.0 y.1 (c.part-p.ensures base y.0 y.2.1.first f) (λ i w h. c.after.ensures _ y.1 y.2.1.second f i w h))

pub signal_rule-bounds-s-1 : goal.signal_rule-bounds-s-1
signal_rule-bounds-s-1 t c = (begins c.requires.0 Command.signal c.requires.1).there

pub signal_rule-bounds-litres-n : goal.signal_rule-bounds-litres-n
signal_rule-bounds-litres-n t c =
    let g = c.requires in
    omega (arith, ltb-true (get_or c.args.s.now 1 0) signal_count (begins g.0 Command.signal g.1).ranged)

pub signal_rule-restore-requires : goal.signal_rule-restore-requires
signal_rule-restore-requires t c =
    let g = c.requires in
    ltb-true _ _ (begins g.0 Command.signal g.1).ranged

pub signal_rule-restore-requires-else-asks : goal.signal_rule-restore-requires-else-asks
signal_rule-restore-requires-else-asks t c =
    let g = c.requires in
    ltb-true _ _ (begins g.0 Command.signal g.1).ranged

pub signal_rule-body-p-requires : goal.signal_rule-body-p-requires
signal_rule-body-p-requires t c =
    let f = c.requires in
    let y = begins f.0 Command.signal f.1 in
    (search rules, (y.there, ready _ y.parts.0 f.0.long y.parts.1.1))

pub signal_rule-body-q-requires : goal.signal_rule-body-q-requires
signal_rule-body-q-requires t c =
    let f = c.requires in
    let y = begins f.0 Command.signal f.1 in
    (search rules, (y.there, ready _ y.parts.0 f.0.long y.parts.1.1))

pub signal_rule-returns-then-asks : goal.signal_rule-returns-then-asks
signal_rule-returns-then-asks t c base p l f =
    let g = c.requires in
    let y = taken-apart g.0 base p l Command.signal g.1 in
    let q = y.parts.0 in
    here f (signal local _ _ q) p _ y.parts.1.0
    (signal-step f _ _ _ q (ltb-true _ _ y.ranged) c.without-without.ensures (c.body-p.ensures base q y.parts.1.1 f)
    c.with-with.ensures (c.body-q.ensures base q y.parts.1.1 f)
    c.member.ensures c.select.ensures c.restore.ensures (c.in_signal.ensures f))

pub signal_rule-returns-else-asks : goal.signal_rule-returns-else-asks
signal_rule-returns-else-asks t c base p l f =
    let g = c.requires in
    let y = taken-apart g.0 base p l Command.signal g.1 in
    let q = y.parts.0 in
    here f (signal local _ _ q) p _ y.parts.1.0
    (signal-once-step f _ _ _ q (ltb-true _ _ y.ranged) c.without-without.ensures (c.body-p.ensures base q y.parts.1.1 f)
    (sym c.asks.ensures ∙ c.if-asks.false) c.restore-else-asks.ensures (c.in_signal_once.ensures f _))
