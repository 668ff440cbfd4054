use Rattle.spec_base.specs.Limits.{label_count, word_labels}
use mathlib.Core.Path.{sym, ◌∙◌}
use Rattle.spec_base.specs.Sets.{member}
use Rattle.sets.proofs.Members.{member-high}
use Rattle.sets.proofs.Words.{words-lt, member-low, member-from}
use Rattle.labels.specs.Labels.{label_set}
use borrow.Author.Rules.{rules}
use borrow.Author.Tests.{le-ltb}
use Rattle.labels.proofs.member.Goals as goal

pub returns-then-i-lt-WORD_LABELS : goal.returns-then-i-lt-WORD_LABELS
unfolding label_set member
returns-then-i-lt-WORD_LABELS c = member-low word_labels _ _ (search rules) _ c.if-i-lt-WORD_LABELS.true

pub returns-then-i-lt-LABELS : goal.returns-then-i-lt-LABELS
unfolding label_set member
returns-then-i-lt-LABELS c = member-from word_labels _ _ (search rules) _ c.if-i-lt-WORD_LABELS.false

pub returns-else-i-lt-LABELS : goal.returns-else-i-lt-LABELS
unfolding label_set
returns-else-i-lt-LABELS c =
    le-ltb c.args.i label_count c.if-i-lt-LABELS.false
    ∙ sym (member-high {w = label_count} _ (words-lt word_labels _ _ (search rules) word_labels (search rules)) c.if-i-lt-LABELS.false)
