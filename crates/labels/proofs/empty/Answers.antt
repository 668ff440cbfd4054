use Rattle.spec_base.specs.Limits.{word_labels}
use Rattle.labels.specs.Labels.{label_set}
use Rattle.sets.proofs.Words.{words-none}
use Rattle.labels.proofs.empty.Goals as goal

pub returns : goal.returns
unfolding label_set
returns c = words-none word_labels
