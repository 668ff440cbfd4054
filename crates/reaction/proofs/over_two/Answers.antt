use mathlib.Core.Path.{refl}
use Rattle.reaction.proofs.over_two.Goals as goal

pub returns : goal.returns
returns c = refl
