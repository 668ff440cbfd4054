use Prim.Native.Nat.{◌-◌}
use lib.ListN.{length}
use Rattle.unroll_call.proofs.Copying.{Left}
use Rattle.unroll_call.proofs.writer.copy.Given as goal

abbrev pub invariant-loop-left : goal.invariant-loop-left
invariant-loop-left l = Left l.s l.i l.initial.buffer l.at l.to l.left l.buffer

abbrev pub decreases-loop-left : goal.decreases-loop-left
decreases-loop-left l = length l.s - l.at
