use mathlib.Core.Path.{refl}
use Rattle.spec_base.specs.Sets.{none}
use Rattle.signals.proofs.is_empty.Goals as goal

pub returns : goal.returns
unfolding none
returns c = refl
