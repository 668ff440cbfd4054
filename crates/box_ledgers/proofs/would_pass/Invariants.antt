use Prim.Native.Nat.{◌+◌, ◌≤◌}
use lib.ListN.{get_or}
use Rattle.spec_base.specs.Limits.{litres_limit}
use Rattle.sets.proofs.Loops.{Seeking}
use Rattle.spec_bay.specs.Ledgers.{total_in}
use Rattle.box_ledgers.proofs.would_pass.Given as goal

abbrev pub invariant-loop-x : goal.invariant-loop-x
invariant-loop-x l = Seeking (λ f. total_in f l.ledger + get_or l.litres f 0 ≤ litres_limit) l.farms l.left

abbrev pub decreases-loop-x : goal.decreases-loop-x
decreases-loop-x l = l.left
