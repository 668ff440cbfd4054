use mathlib.Core.Path.{refl}
use Rattle.spec_box.specs.Box.{new_year}
use Rattle.boxes.specs.Entries.{either}
use Rattle.boxes.proofs.Calling.{turned_down, lent-call}
use Rattle.boxes.proofs.new_year.Goals as goal

pub returns-in_err-from : goal.returns-in_err-from
returns-in_err-from c = turned_down _ _ either new_year (λ s. refl) _ _ c.from_residual.ensures.1 c.in_err-from.ensures

pub returns : goal.returns
returns c = lent-call _ _ either new_year (λ s. refl) _ c.in_ok-from.ensures _ _ _ c.new_year.ensures
