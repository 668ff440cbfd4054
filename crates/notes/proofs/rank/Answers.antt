use Rattle.spec_base.specs.Limits.{label_count}
use borrow.Author.Tests.{lt-ltb, le-ltb}
use Rattle.notes.proofs.rank.Goals as goal

pub returns-then-l-lt-LABELS : goal.returns-then-l-lt-LABELS
returns-then-l-lt-LABELS c = rw (lt-ltb _ label_count c.if-l-lt-LABELS.true)

pub returns-else-l-lt-LABELS : goal.returns-else-l-lt-LABELS
returns-else-l-lt-LABELS c = rw (le-ltb _ label_count c.if-l-lt-LABELS.false)
