use mathlib.Core.Path.{refl}
use Rattle.spec_box.specs.Box.{ledger}
use Rattle.boxes.specs.Entries.{either}
use Rattle.boxes.proofs.Calling.{turned_down, read-call}
use Rattle.boxes.proofs.read_ledger.Goals as goal

pub returns-in_err-from : goal.returns-in_err-from
returns-in_err-from c = turned_down _ _ either (ledger _) (λ s. refl) _ _ c.from_residual.ensures.1 c.in_err-from.ensures

pub returns : goal.returns
returns c = read-call _ _ either (ledger _) (λ s. refl) _ c.in_ok-from.ensures _ _ c.read_ledger.ensures
