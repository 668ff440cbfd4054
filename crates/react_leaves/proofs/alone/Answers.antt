use borrow.Author.Tests.{ltb-true}
use Rattle.spec_sequence.specs.Commands.{Command}
use Rattle.layout.proofs.Laid.{begins, by_command}
use Rattle.react_leaves.proofs.Values.{pure-emission, litres-emission}
use Rattle.react_leaves.proofs.Steps.{nothing-step, emit-step, exit-step, pause_step, setpause-step, last_leaf}
use Rattle.react_leaves.proofs.alone.Goals as goal

pub bounds-s-0 : goal.bounds-s-0
bounds-s-0 c = c.requires.ready.bytes

pub bounds-s-1 : goal.bounds-s-1
bounds-s-1 c = (begins c.requires.ready Command.pause c.in-1.is).there

pub emitting-requires : goal.emitting-requires
emitting-requires c = (pure-emission c.in-2.is (begins c.requires.ready Command.emit c.in-2.is)).0

pub bounds-s-1-in-3 : goal.bounds-s-1-in-3
bounds-s-1-in-3 c = (begins c.requires.ready Command.exit c.in-3.is).there

pub bounds-s-1-in-10 : goal.bounds-s-1-in-10
bounds-s-1-in-10 c = (begins c.requires.ready Command.setpause c.in-10.is).there

pub emitting-requires-in_default : goal.emitting-requires-in_default
emitting-requires-in_default c =
    let f = c.requires in
    let e = last_leaf f.ready f.partless c.in_default.in_default-own.rest in
    (litres-emission e (begins f.ready Command.deliver e)).0

pub returns-in-0 : goal.returns-in-0
returns-in-0 c t d a e base p l f = nothing-step f p _ _ _ (by_command t d base a _ p l Command.nothing c.in-0.is).parts c.nothing.ensures

pub returns-in-1 : goal.returns-in-1
returns-in-1 c t d a e base p l f =
    let y = by_command t d base a _ p l Command.pause c.in-1.is in
    pause_step f p _ _ _ _ (ltb-true _ _ y.ranged) c.pausing.ensures y.parts

pub returns-in-2 : goal.returns-in-2
returns-in-2 c t d a e base p l f =
    let y = by_command t d base a _ p l Command.emit c.in-2.is in
    emit-step f p _ _ _ _ _ _ (pure-emission c.in-2.is y).1 (ltb-true _ _ y.ranged) (c.emitting.ensures f)

pub returns-in-3 : goal.returns-in-3
returns-in-3 c t d a e base p l f = exit-step f p _ _ _ _ (by_command t d base a _ p l Command.exit c.in-3.is).parts c.leaving.ensures

pub returns-in-10 : goal.returns-in-10
returns-in-10 c t d a e base p l f =
    let y = by_command t d base a _ p l Command.setpause c.in-10.is in
    setpause-step f p _ _ _ _ (ltb-true _ _ y.ranged) c.pausing-in-10.ensures y.parts

pub returns-in_default : goal.returns-in_default
returns-in_default c t d a e base p l f =
    let g = c.requires in
    let b = last_leaf g.ready g.partless c.in_default.in_default-own.rest in
    let y = by_command t d base a _ p l Command.deliver b in
    emit-step f p _ _ _ _ _ _ (litres-emission b y).1 (ltb-true _ _ y.ranged) (c.emitting-in_default.ensures f)
