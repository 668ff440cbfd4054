use lib.ListN.{get_or}
use Rattle.box_ledgers.proofs.Fields.{Adding}
use Rattle.box_ledgers.proofs.add.Given as goal

abbrev pub invariant-loop-x : goal.invariant-loop-x
invariant-loop-x l = Adding (λ f. get_or l.litres f 0) l.farms l.left l.initial.ledger l.ledger

abbrev pub decreases-loop-x : goal.decreases-loop-x
decreases-loop-x l = l.left
