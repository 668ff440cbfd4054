use native.Mathlib.Omega.{arith}
use Rattle.boxes.proofs.Summing.{none_present, one_more}
use Rattle.boxes.proofs.present_in.Goals as goal

pub loop-bay-init : goal.loop-bay-init
loop-bay-init c = record { is_present = none_present _; below = omega arith }

pub loop-bay-preserved : goal.loop-bay-preserved
loop-bay-preserved c =
    record { is_present = one_more _ _ _ c.loop-bay.invariant.is_present c.part.ensures; below = omega arith }
