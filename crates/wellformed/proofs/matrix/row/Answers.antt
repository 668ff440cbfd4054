use Rattle.spec_base.specs.Limits.{label_count}
use mathlib.Core.Path.{◌∙◌}
use Rattle.wellformed.proofs.Rows.{row_here, no_row}
use Rattle.wellformed.proofs.matrix.row.Goals as goal

pub returns-then-k-lt-LABELS : goal.returns-then-k-lt-LABELS
returns-then-k-lt-LABELS c = row_here label_count c.args.k c.args.rows.now c.if-k-lt-LABELS.true

pub returns-else-k-lt-LABELS : goal.returns-else-k-lt-LABELS
returns-else-k-lt-LABELS c = c.empty.ensures ∙ no_row label_count c.args.k c.args.rows.now c.if-k-lt-LABELS.false
