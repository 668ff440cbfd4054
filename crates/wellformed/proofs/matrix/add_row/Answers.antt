use Rattle.spec_base.specs.Limits.{label_count}
use Rattle.wellformed.proofs.Rows.{added, kept}
use Rattle.wellformed.proofs.matrix.add_row.Goals as goal

pub returns-then-k-lt-LABELS : goal.returns-then-k-lt-LABELS
returns-then-k-lt-LABELS c =
    added label_count c.args.k _ c.union.result c.args.rows.now c.if-k-lt-LABELS.true c.union.ensures

pub returns-else-k-lt-LABELS : goal.returns-else-k-lt-LABELS
returns-else-k-lt-LABELS c = kept label_count c.args.k _ c.args.rows.now c.if-k-lt-LABELS.false
