use Rattle.labels.specs.Labels.{label_set}
use Rattle.wellformed.specs.Rows.{row_of}
use Rattle.wellformed.proofs.Clashes.{Gathering}
use Rattle.wellformed.proofs.clash.union_of_rows.Given as goal

abbrev pub invariant-loop-left : goal.invariant-loop-left
invariant-loop-left l = Gathering (row_of l.rows) (label_set l.initial.left) (label_set l.left) (label_set l.all)

abbrev pub decreases-loop-left : goal.decreases-loop-left
decreases-loop-left l = label_set l.left
