use mathlib.Core.Path.{refl}
use Rattle.wellformed.proofs.exclusion.at_pause.Goals as goal

pub returns : goal.returns
returns c = record {
  labels = record { ends = refl; paused = c.single-one.ensures; triggering = c.single-one.ensures };
  excludes = c.add_row.ensures;
  sides = c.add_row-2.ensures;
}
