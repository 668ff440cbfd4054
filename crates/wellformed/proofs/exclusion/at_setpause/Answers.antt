use mathlib.Core.Path.{refl}
use Rattle.wellformed.proofs.exclusion.at_setpause.Goals as goal

pub returns : goal.returns
returns c = record { labels = record { ends = refl; paused = c.empty.ensures; triggering = c.single.ensures }; sides = c.add_row.ensures }
