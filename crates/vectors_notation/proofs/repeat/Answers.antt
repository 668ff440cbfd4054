use Rattle.std.proofs.Common.{arith, ◌∙◌}
use Rattle.vectors_notation.proofs.Rooms.{again-on, again-none, again-end, repeat-none, repeat_many, repeat-is, kept_or_fits}
use Rattle.vectors_notation.proofs.repeat.Goals as goal

pub returns-then-line-from : goal.returns-then-line-from
returns-then-line-from c = record { held = repeat-none _ _ _ c.if-line-from.true; fits = tt }

pub returns-in_err-times : goal.returns-in_err-times
returns-in_err-times c =
    rw c.from_residual.ensures
    record {
      held = repeat_many _ _ _ _ _ c.if-line-from.false c.find-end.ensures.place c.in_err-times.ensures (omega arith);
      fits = tt;
    }

pub returns-then-times-ge-ROOM : goal.returns-then-times-ge-ROOM
returns-then-times-ge-ROOM c =
    record {
      held = repeat_many _ _ _ _ _ c.if-line-from.false c.find-end.ensures.place c.in_ok-times.ensures c.if-times-ge-ROOM.true;
      fits = tt;
    }

pub loop-preserved : goal.loop-preserved
loop-preserved c =
    let p = c.in_ok-after.ensures in
    (again-on _ _ _ _ _ _ c.loop.invariant.0 _ c.loop-test.true p.held, kept_or_fits p.fits c.loop.invariant.1)

pub returns-in_err-after : goal.returns-in_err-after
returns-in_err-after c =
    rw c.from_residual-in_err-after.ensures
    record {
      held = again-none _ _ _ _ _ _ c.loop.invariant.0 c.loop-test.true c.in_err-after.ensures.held
          ∙ repeat-is _ _ _ _ _ c.if-line-from.false c.find-end.ensures.place c.in_ok-times.ensures c.if-times-ge-ROOM.false;
      fits = tt;
    }

pub returns : goal.returns
returns c =
    record {
      held = again-end _ _ _ _ _ _ c.loop.invariant.0 c.loop-test.false
          ∙ repeat-is _ _ _ _ _ c.if-line-from.false c.find-end.ensures.place c.in_ok-times.ensures c.if-times-ge-ROOM.false;
      fits = c.loop.invariant.1;
    }
