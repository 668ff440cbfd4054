use mathlib.Core.Path.{◌≡◌}
use lib.ListN.{length}
use lib.Seq.{sets}
use Rattle.spec_bay.specs.Ledgers.{ledger_length, totals_bytes}
use Rattle.box_ledgers.proofs.clear.Given as goal

abbrev pub invariant-loop-farm : goal.invariant-loop-farm
invariant-loop-farm l = (length l.ledger ≡ ledger_length) × (l.ledger ≡ sets l.initial.ledger 0 (totals_bytes l.farm (λ f. 0)))
