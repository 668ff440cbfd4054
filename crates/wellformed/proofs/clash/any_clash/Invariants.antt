use Rattle.sets.proofs.Booleans as Booleans
use Rattle.sets.proofs.Loops.{Seeking}
use Rattle.labels.specs.Labels.{label_set}
use Rattle.wellformed.specs.Rows.{row_of}
use Rattle.wellformed.proofs.Clashes.{Clear}
use Rattle.wellformed.proofs.clash.any_clash.Given as goal

abbrev pub invariant-loop-all : goal.invariant-loop-all
invariant-loop-all l =
    Seeking (Clear (row_of l.exclusive) (row_of l.concurrent) (label_set l.all)) (label_set l.initial.left) (label_set l.left)

abbrev pub decreases-loop-all : goal.decreases-loop-all
decreases-loop-all l = label_set l.left
