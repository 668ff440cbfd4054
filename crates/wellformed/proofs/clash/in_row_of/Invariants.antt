use mathlib.Core.Path.{◌≡◌}
use mathlib.Core.Bool.{false}
use Rattle.spec_base.specs.Sets.{member}
use Rattle.sets.proofs.Loops.{Seeking}
use Rattle.labels.specs.Labels.{label_set}
use Rattle.wellformed.specs.Rows.{row_of}
use Rattle.wellformed.proofs.clash.in_row_of.Given as goal

abbrev pub invariant-loop-left : goal.invariant-loop-left
invariant-loop-left l = Seeking (λ i. member l.k (row_of l.rows i) ≡ false) (label_set l.initial.left) (label_set l.left)

abbrev pub decreases-loop-left : goal.decreases-loop-left
decreases-loop-left l = label_set l.left
