-- The labels of a statement that the survey passed, and what stands before a second part (theory_language, specs/LabelRows).
use Rattle.std.specs.Prelude.{ℕ, ◌≡◌, Bool}
use Rattle.spec_base.specs.Sets.{join}
use Rattle.spec_language.specs.LabelTests.{alternative, parallel}
use Rattle.theory_language.specs.LabelRows.{further}
use Rattle.labels.specs.Labels.{label_set}
use Rattle.layout.specs.Joints.{joint_of}
use Rattle.wellformed.specs.declared.exclusion.Before.{Before}
use Rattle.wellformed.specs.declared.exclusion.Walked.{Walked}

pub record Carries (r : Walked) (end s t : ℕ) : Type 0 where
  pub ends : r.end ≡ end
  pub paused : label_set r.pauses ≡ s
  pub triggering : label_set r.triggers ≡ t

abbrev pub Joins : (p q r : Walked) → Type 0
Joins p q r =
    Carries r q.end (join (label_set p.pauses) (label_set q.pauses)) (join (label_set p.triggers) (label_set q.triggers))

-- what stands before a second part
pub record BeginsSecond (b : Bool) (v : Before) (p : Walked) (r : Before) : Type 0 where
  pub excludes : label_set r.exclusive ≡ further alternative (joint_of b) (label_set v.exclusive) (label_set p.pauses)
  pub sides : label_set r.concurrent ≡ further parallel (joint_of b) (label_set v.concurrent) (label_set p.triggers)
