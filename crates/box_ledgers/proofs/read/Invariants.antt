use Rattle.box_ledgers.proofs.Showing.{Showing}
use Rattle.box_ledgers.proofs.read.Given as goal

abbrev pub invariant-loop-farm : goal.invariant-loop-farm
invariant-loop-farm l = Showing l.ledger l.farm l.t l.reading
