use mathlib.Core.Path.{refl}
use Rattle.spec_base.specs.Sets.{none}
use Rattle.notes.proofs.is_distinct.Goals as goal

pub returns : goal.returns
unfolding none
returns c = refl
