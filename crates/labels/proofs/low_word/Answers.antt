use Rattle.spec_base.specs.Limits.{word_labels}
use mathlib.Core.Path.{sym}
use Rattle.labels.specs.Labels.{label_set}
use Rattle.sets.proofs.Words.{low_word as word}
use borrow.Author.Rules.{rules}
use Rattle.labels.proofs.low_word.Goals as goal

pub returns : goal.returns
unfolding label_set
returns c = sym (word word_labels _ _ (search rules))
