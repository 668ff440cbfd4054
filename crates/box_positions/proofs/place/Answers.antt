use native.Mathlib.Omega.{arith}
use Rattle.box_positions.proofs.Placing.{hit, missed, nowhere}
use Rattle.box_positions.proofs.place.Goals as goal

pub returns-then-get_le-key : goal.returns-then-get_le-key
returns-then-get_le-key c =
    let l = c.loop-i in
    let t = c.loop-i-test.true in
    (omega (arith, t, l.auto.i), hit _ _ _ l.i l.invariant t c.get_le.ensures.value c.if-get_le-key.true)

pub loop-i-preserved : goal.loop-i-preserved
loop-i-preserved c =
    let l = c.loop-i in missed _ _ _ l.i l.invariant c.loop-i-test.true c.get_le.ensures.value c.if-get_le-key.false

pub returns : goal.returns
returns c = let l = c.loop-i in nowhere _ _ _ l.i l.invariant c.loop-i-test.false
