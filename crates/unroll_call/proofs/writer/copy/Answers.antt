use mathlib.Core.Path.{sym, ◌∙◌}
use native.Mathlib.Omega.{arith}
use borrow.Author.Rules.{rules}
use Rattle.spec_sequence.specs.Commands.{operandCount, partCount}
use Rattle.unroll_call.proofs.Copying.{starts, command, here, inside, copyable, few, goes_on, ends, counted_as}
use Rattle.unroll_call.proofs.writer.copy.Goals as goal

pub loop-left-init : goal.loop-left-init
loop-left-init c = starts c.requires

pub bounds-s-at : goal.bounds-s-at
bounds-s-at c = here c.loop-left.invariant c.loop-left-test.true

pub copied-to-requires : goal.copied-to-requires
copied-to-requires c =
    let w = c.loop-left.invariant in
    let l = c.loop-left-test.true in
    copyable w l (counted_as operandCount _ (command w l) c.operand_count.ensures c.number-n.ensures)

pub overflow_add-at : goal.overflow_add-at
overflow_add-at c = let w = c.loop-left.invariant in omega (arith, here w c.loop-left-test.true, w.short)

pub overflow_add-at-in-loop-left : goal.overflow_add-at-in-loop-left
overflow_add-at-in-loop-left c =
    let w = c.loop-left.invariant in
    let l = c.loop-left-test.true in
    omega (arith, inside w l (counted_as operandCount _ (command w l) c.operand_count.ensures c.number-n.ensures), w.short)

pub overflow_add-left : goal.overflow_add-left
overflow_add-left c =
    let w = c.loop-left.invariant in
    let l = c.loop-left-test.true in
    let o = counted_as operandCount _ (command w l) c.operand_count.ensures c.number-n.ensures in
    let p = counted_as partCount _ (command w l) c.part_count.ensures c.number.ensures in
    omega (arith, few w l o p)

pub loop-left-smaller : goal.loop-left-smaller
loop-left-smaller c =
    let w = c.loop-left.invariant in
    let l = c.loop-left-test.true in
    omega (arith, inside w l (counted_as operandCount _ (command w l) c.operand_count.ensures c.number-n.ensures))

pub loop-left-preserved : goal.loop-left-preserved
loop-left-preserved c =
    let w = c.loop-left.invariant in
    let l = c.loop-left-test.true in
    let o = counted_as operandCount _ (command w l) c.operand_count.ensures c.number-n.ensures in
    let p = counted_as partCount _ (command w l) c.part_count.ensures c.number.ensures in
    goes_on w l o p c.copied-to.ensures

pub shape_of-buffer : goal.shape_of-buffer
shape_of-buffer c = c.loop-left.invariant.room.sized ∙ sym c.requires.room.sized

pub returns : goal.returns
returns c = ends c.loop-left.invariant (search rules)
