use mathlib.Core.Path.{refl}
use Rattle.ceilings.proofs.Counting.{extent}
use Rattle.ceilings.proofs.of_sequence.Goals as goal

pub returns : goal.returns
returns c = extent _ c.of_statement-n.ensures refl refl refl
