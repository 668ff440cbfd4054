use native.Mathlib.Omega.{arith}
use borrow.Author.Rules.{rules}
use borrow.Author.Tests.{ltb-true}
use Rattle.spec_language.specs.Statement.{litres, local, nothing, pause, emit, seq, par, loop, present, signal, try, setpause, suspend}
use Rattle.spec_sequence.specs.Commands.{Command}
use Rattle.layout.proofs.Laid.{ready, begins, by_command}
use Rattle.wellformed.proofs.Passing.{here, nothing-step, pause_step, setpause-step, deliver-step, other_step, loop-step, signal-step, try-step, suspend-step, seq-step, par-step, present-step, parts_step, second_at, standing-first, ends-behind, ends-within, standing-second}
use Rattle.wellformed.proofs.survey.+pass_pass_part_pass_parts.Goals as goal

pub pass-bounds-s-1 : goal.pass-bounds-s-1
pass-bounds-s-1 t c = omega (arith, (begins c.requires.ready Command.pause c.in-1.is).there)

pub pass-overflow_add-at-in-1 : goal.pass-overflow_add-at-in-1
pass-overflow_add-at-in-1 t c = omega (arith, (begins c.requires.ready Command.pause c.in-1.is).there)

pub pass-pass_parts-requires : goal.pass-pass_parts-requires
pass-pass_parts-requires t c =
    let y = begins c.requires.ready Command.seq c.in-4.is in
    (search rules, record { table = _; pair = record { base = _; p = y.parts.0; q = y.parts.1; two = y.parts.2.1; there = y.there; long = c.requires.ready.long } })

pub pass-pass_parts-requires-in-5 : goal.pass-pass_parts-requires-in-5
pass-pass_parts-requires-in-5 t c =
    let y = begins c.requires.ready Command.par c.in-5.is in
    (search rules, record { table = _; pair = record { base = _; p = y.parts.0; q = y.parts.1; two = y.parts.2.1; there = y.there; long = c.requires.ready.long } })

pub pass-pass_part-requires : goal.pass-pass_part-requires
pass-pass_part-requires t c =
    let y = begins c.requires.ready Command.loop c.in-6.is in
    (search rules, (y.there, record { table = _; ready = ready _ y.parts.0 c.requires.ready.long y.parts.1.1 }))

pub pass-pass_parts-requires-in-7 : goal.pass-pass_parts-requires-in-7
pass-pass_parts-requires-in-7 t c =
    let y = begins c.requires.ready Command.present c.in-7.is in
    (search rules, record { table = _; pair = record { base = _; p = y.parts.0; q = y.parts.1; two = y.parts.2.1; there = y.there; long = c.requires.ready.long } })

pub pass-pass_part-requires-in-8 : goal.pass-pass_part-requires-in-8
pass-pass_part-requires-in-8 t c =
    let y = begins c.requires.ready Command.signal c.in-8.is in
    (search rules, (y.there, record { table = _; ready = ready _ y.parts.0 c.requires.ready.long y.parts.1.1 }))

pub pass-pass_part-requires-in-9 : goal.pass-pass_part-requires-in-9
pass-pass_part-requires-in-9 t c =
    let y = begins c.requires.ready Command.try c.in-9.is in
    (search rules, (y.there, record { table = _; ready = ready _ y.parts.0 c.requires.ready.long y.parts.1.1 }))

pub pass-bounds-s-1-in-10 : goal.pass-bounds-s-1-in-10
pass-bounds-s-1-in-10 t c = omega (arith, (begins c.requires.ready Command.setpause c.in-10.is).there)

pub pass-overflow_add-at-in-10 : goal.pass-overflow_add-at-in-10
pass-overflow_add-at-in-10 t c = omega (arith, (begins c.requires.ready Command.setpause c.in-10.is).there)

pub pass-pass_part-requires-in-11 : goal.pass-pass_part-requires-in-11
pass-pass_part-requires-in-11 t c =
    let y = begins c.requires.ready Command.suspend c.in-11.is in
    (search rules, (y.there, record { table = _; ready = ready _ y.parts.0 c.requires.ready.long y.parts.1.1 }))

pub pass-returns-in-0 : goal.pass-returns-in-0
pass-returns-in-0 t c u base p l =
    let y = (by_command u _ base _ _ p l Command.nothing c.in-0.is).parts in
    here _ _ _ _ _ _ _ p (nothing) (y) (nothing-step _ _ _ _ _ c.at_other.ensures)

pub pass-returns-in-1 : goal.pass-returns-in-1
pass-returns-in-1 t c u base p l =
    let y = (by_command u _ base _ _ p l Command.pause c.in-1.is).parts in
    let small = ltb-true _ _ (begins c.requires.ready Command.pause c.in-1.is).ranged in
    here _ _ _ _ _ _ _ p (pause _) (y) (pause_step _ _ _ _ _ _ small _ c.at_pause.ensures.sides _ c.at_pause.ensures.labels c.at_pause.ensures.excludes)

pub pass-returns-in-4 : goal.pass-returns-in-4
pass-returns-in-4 t c u base p l =
    let y = (by_command u _ base _ _ p l Command.seq c.in-4.is).parts in
    here _ _ _ _ _ _ _ p (seq y.0 y.1) y.2.0 (seq-step _ _ _ _ _ _ _ y.0 y.1 (c.pass_parts.ensures u base y.0 y.1 y.2.1))

pub pass-returns-in-5 : goal.pass-returns-in-5
pass-returns-in-5 t c u base p l =
    let y = (by_command u _ base _ _ p l Command.par c.in-5.is).parts in
    here _ _ _ _ _ _ _ p (par y.0 y.1) y.2.0 (par-step _ _ _ _ _ _ _ y.0 y.1 (c.pass_parts-in-5.ensures u base y.0 y.1 y.2.1))

pub pass-returns-in-6 : goal.pass-returns-in-6
pass-returns-in-6 t c u base p l =
    let y = (by_command u _ base _ _ p l Command.loop c.in-6.is).parts in
    here _ _ _ _ _ _ _ p (loop _ y.0) y.1.0 (loop-step _ _ _ _ _ _ _ y.0 _ (c.pass_part.ensures u base y.0 y.1.1))

pub pass-returns-in-7 : goal.pass-returns-in-7
pass-returns-in-7 t c u base p l =
    let y = (by_command u _ base _ _ p l Command.present c.in-7.is).parts in
    here _ _ _ _ _ _ _ p (present _ y.0 y.1) y.2.0 (present-step _ _ _ _ _ _ _ y.0 y.1 _ (c.pass_parts-in-7.ensures u base y.0 y.1 y.2.1))

pub pass-returns-in-8 : goal.pass-returns-in-8
pass-returns-in-8 t c u base p l =
    let y = (by_command u _ base _ _ p l Command.signal c.in-8.is).parts in
    here _ _ _ _ _ _ _ p (signal local _ _ y.0) y.1.0 (signal-step _ _ _ _ _ _ _ y.0 _ _ (c.pass_part-in-8.ensures u base y.0 y.1.1))

pub pass-returns-in-9 : goal.pass-returns-in-9
pass-returns-in-9 t c u base p l =
    let y = (by_command u _ base _ _ p l Command.try c.in-9.is).parts in
    here _ _ _ _ _ _ _ p (try y.0) y.1.0 (try-step _ _ _ _ _ _ _ y.0 (c.pass_part-in-9.ensures u base y.0 y.1.1))

pub pass-returns-in-10 : goal.pass-returns-in-10
pass-returns-in-10 t c u base p l =
    let y = (by_command u _ base _ _ p l Command.setpause c.in-10.is).parts in
    let small = ltb-true _ _ (begins c.requires.ready Command.setpause c.in-10.is).ranged in
    here _ _ _ _ _ _ _ p (setpause _) (y) (setpause-step _ _ _ _ _ _ small _ c.at_setpause.ensures.sides c.at_setpause.ensures.labels)

pub pass-returns-in-11 : goal.pass-returns-in-11
pass-returns-in-11 t c u base p l =
    let y = (by_command u _ base _ _ p l Command.suspend c.in-11.is).parts in
    here _ _ _ _ _ _ _ p (suspend _ y.0) y.1.0 (suspend-step _ _ _ _ _ _ _ y.0 _ (c.pass_part-in-11.ensures u base y.0 y.1.1))

pub pass-returns-in-12 : goal.pass-returns-in-12
pass-returns-in-12 t c u base p l =
    let y = (by_command u _ base _ _ p l Command.deliver c.in-12.is).parts in
    here _ _ _ _ _ _ _ p (emit _ (litres _)) (y) (deliver-step _ _ _ _ _ c.at_other-in-12.ensures _ _)

pub pass-returns-in_default : goal.pass-returns-in_default
pass-returns-in_default t c = other_step c.requires.ready _ _ _ _ c.at_other-in_default.ensures (search rules)

pub pass_part-pass-requires : goal.pass_part-pass-requires
pass_part-pass-requires t c = (search rules, c.requires.standing)

pub pass_part-returns : goal.pass_part-returns
pass_part-returns t c = c.pass.ensures

pub pass_parts-overflow_sub-depth : goal.pass_parts-overflow_sub-depth
pass_parts-overflow_sub-depth t c = omega (arith, (standing-first c.requires).ready.levels)

pub pass_parts-pass_part-p-requires : goal.pass_parts-pass_part-p-requires
pass_parts-pass_part-p-requires t c =
    (omega (arith, (standing-first c.requires).ready.levels), (c.requires.pair.there, standing-first c.requires))

pub pass_parts-overflow_sub-n : goal.pass_parts-overflow_sub-n
pass_parts-overflow_sub-n t c = ends-behind c.requires c.pass_part-p.ensures

pub pass_parts-overflow_sub-depth-2 : goal.pass_parts-overflow_sub-depth-2
pass_parts-overflow_sub-depth-2 t c = omega (arith, (standing-first c.requires).ready.levels)

pub pass_parts-pass_part-q-requires : goal.pass_parts-pass_part-q-requires
pass_parts-pass_part-q-requires t c = (
  omega (arith, (standing-first c.requires).ready.levels),
  (ends-within c.requires c.pass_part-p.ensures, standing-second c.requires c.pass_part-p.ensures),
)

pub pass_parts-returns : goal.pass_parts-returns
pass_parts-returns t c u base p q l =
    let h = c.pass_part-p.ensures u base p l.first in
    parts_step _ _ _ _ _ _ _ p q _ c.args.parallel _ _ _ _ _ h c.before_second-beyond.ensures
    (c.pass_part-q.ensures u _ q (second_at u _ base _ _ c.args.s.now p q l _ h.labels.ends)) c.joined.ensures
