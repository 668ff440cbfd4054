use mathlib.Core.Path.{refl}
use mathlib.Core.Bool.{false}
use Rattle.spec_box.specs.Box.{tick}
use Rattle.boxes.specs.Entries.{fits}
use Rattle.boxes.proofs.Calling.{turned_down, lent-call}
use Rattle.boxes.proofs.tick.Goals as goal

pub returns-in_err-from : goal.returns-in_err-from
returns-in_err-from c = turned_down _ _ (fits false) (tick _ _ _) (λ s. refl) _ _ c.from_residual.ensures.1 c.in_err-from.ensures

pub returns : goal.returns
returns c = lent-call _ _ (fits false) (tick _ _ _) (λ s. refl) _ c.in_ok-from.ensures _ _ _ c.tick.ensures
