use Rattle.std.proofs.Common.{arith}
use Rattle.std.proofs.lemmas.Grind.{common_steps}
use Rattle.vectors_notation.proofs.Reading.{step, ends, fails, no-space, no_digit}
use Rattle.vectors_notation.proofs.number.Goals as goal
use Rattle.vectors_notation.proofs.number.Goals.{then-line-at-ne32-via-then-line-at-ne32, then-line-at-ne32-via-else-line-at-ne32+then-at-end}

pub returns-then-line-at-ne32 : goal.returns-then-line-at-ne32
returns-then-line-at-ne32 c =
    elim c.then-line-at-ne32.branch [
      | then-line-at-ne32-via-then-line-at-ne32 w ↦ no-space _ _ _ _ w.if-line-at-ne32.true
      | then-line-at-ne32-via-else-line-at-ne32+then-at-end w ↦ no_digit _ _ _ _ w.if-line-at-ne32.false w.if-at-end.true
    ]

pub returns-in_err-value : goal.returns-in_err-value
returns-in_err-value c =
    rw c.from_residual.ensures
    (fails _ _ _ _ _ _ c.loop-byte.invariant c.if-line-at-ne32.false c.if-at-end.false (grind (arith, common_steps)) c.in_err-value.ensures)

pub loop-byte-preserved : goal.loop-byte-preserved
loop-byte-preserved c = step _ _ _ _ _ _ c.loop-byte.invariant _ (grind (arith, common_steps)) c.in_ok-value.ensures

pub returns : goal.returns
returns c = ends _ _ _ _ _ _ c.loop-byte.invariant c.if-line-at-ne32.false c.if-at-end.false (grind (arith, common_steps))
