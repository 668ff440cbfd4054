use Rattle.spec_base.specs.Limits.{label_count, word_labels}
use mathlib.Core.Path.{◌∙◌}
use native.Mathlib.Omega.{arith}
use Rattle.sets.proofs.Widths.{none_only}
use Rattle.sets.proofs.Words.{shifted_low, shifted_high}
use Rattle.labels.specs.Labels.{label_set}
use Rattle.labels.proofs.single.Goals as goal

pub returns-then-i-lt-WORD_LABELS : goal.returns-then-i-lt-WORD_LABELS
unfolding label_set
returns-then-i-lt-WORD_LABELS c = shifted_low word_labels label_count _ c.if-i-lt-WORD_LABELS.true (omega arith)

pub returns-then-i-lt-LABELS : goal.returns-then-i-lt-LABELS
unfolding label_set
returns-then-i-lt-LABELS c = shifted_high word_labels word_labels _ c.if-i-lt-WORD_LABELS.false c.if-i-lt-LABELS.true

pub returns-else-i-lt-LABELS : goal.returns-else-i-lt-LABELS
returns-else-i-lt-LABELS c = c.empty.ensures ∙ none_only label_count _ c.if-i-lt-LABELS.false
