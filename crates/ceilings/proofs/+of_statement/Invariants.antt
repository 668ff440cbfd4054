use Prim.Native.Nat.{◌-◌}
use lib.ListN.{length}
use Rattle.ceilings.proofs.Counting.{Left}
use Rattle.ceilings.proofs.+of_statement.Given as goal

abbrev pub decreases-of_statement : goal.decreases-of_statement
decreases-of_statement l = l.depth

abbrev pub invariant-loop-left : goal.invariant-loop-left
invariant-loop-left l = Left l.s l.depth l.at l.left l.commands l.loops

abbrev pub decreases-loop-left : goal.decreases-loop-left
decreases-loop-left l = length l.s - l.at
