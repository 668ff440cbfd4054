use Rattle.labels.specs.Labels.{label_set}
use Rattle.validity.proofs.Ranking.{Ranking}
use Rattle.validity.proofs.ranks.Given as goal

abbrev pub invariant-loop-left : goal.invariant-loop-left
invariant-loop-left l = Ranking l.notes (label_set l.initial.left) (label_set l.left) (label_set l.mask)

abbrev pub decreases-loop-left : goal.decreases-loop-left
decreases-loop-left l = label_set l.left
