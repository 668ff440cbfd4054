use mathlib.Core.Path.{refl}
use mathlib.Core.Bool.{true}
use Rattle.spec_box.specs.Box.{admit}
use Rattle.boxes.specs.Entries.{fits}
use Rattle.boxes.proofs.Calling.{turned_down, admit_call}
use Rattle.boxes.proofs.admit.Goals as goal

pub returns-in_err-from : goal.returns-in_err-from
returns-in_err-from c = turned_down _ _ (fits true) (admit _) (λ s. refl) _ _ c.from_residual.ensures.1 c.in_err-from.ensures

pub returns : goal.returns
returns c = admit_call _ _ _ _ c.in_ok-from.ensures c.present_in-present.ensures.0 _ _ c.admit.ensures
