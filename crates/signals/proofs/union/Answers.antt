use mathlib.Core.Path.{refl}
use Rattle.spec_base.specs.Sets.{join}
use Rattle.signals.proofs.union.Goals as goal

pub returns : goal.returns
unfolding join
returns c = refl
