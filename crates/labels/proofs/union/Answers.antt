use Rattle.spec_base.specs.Limits.{word_labels}
use Rattle.spec_base.specs.Sets.{join}
use Rattle.sets.proofs.Words.{words-join}
use Rattle.labels.specs.Labels.{label_set}
use borrow.Author.Rules.{rules}
use Rattle.labels.proofs.union.Goals as goal

pub returns : goal.returns
unfolding label_set join
returns c = words-join word_labels _ _ _ _ (search rules) (search rules)
