use mathlib.Core.Path.{refl}
use Rattle.spec_base.specs.Sets.{common}
use Rattle.signals.proofs.common.Goals as goal

pub returns : goal.returns
unfolding common
returns c = refl
