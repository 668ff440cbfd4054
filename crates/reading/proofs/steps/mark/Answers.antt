use Prim.Native.Nat.{◌-◌}
use mathlib.Core.Path.{ap}
use lib.ListN.{set}
use Rattle.reading.proofs.steps.mark.Goals as goal

pub returns : goal.returns
returns c =
    let a = c.args in
    ap (set (set a.second.now a.at a.m) (a.m - 1)) c.count.ensures
