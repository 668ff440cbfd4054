use mathlib.Core.Logic.{inr}
use Rattle.vectors_notation.proofs.Rooms.{append-on, append-end, append-none}
use Rattle.vectors_notation.proofs.append.Goals as goal

pub loop-at-preserved : goal.loop-at-preserved
loop-at-preserved c =
    let w = c.word-word.ensures.value_value in
    let p = c.in_ok-after.ensures in
    (append-on _ _ _ _ _ _ _ c.loop-at-test.true w.0 w.1 p.held c.loop-at.invariant.0, inr p.fits)

pub returns-in_err-after : goal.returns-in_err-after
returns-in_err-after c =
    let w = c.word-word.ensures.value_value in
    rw c.from_residual.ensures
    record {
      held = append-none _ _ _ _ _ _ c.loop-at-test.true w.0 w.1 c.in_err-after.ensures.held c.loop-at.invariant.0;
      fits = tt;
    }

pub returns : goal.returns
returns c =
    record {
      held = append-end _ _ _ _ c.loop-at-test.false c.loop-at.invariant.0;
      fits = c.loop-at.invariant.1;
    }
