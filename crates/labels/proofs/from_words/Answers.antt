use mathlib.Core.Path.{refl}
use Rattle.labels.specs.Labels.{label_set}
use Rattle.labels.proofs.from_words.Goals as goal

pub returns : goal.returns
unfolding label_set
returns c = refl
