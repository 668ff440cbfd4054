-- One traversal over the bytes for row 10: the labels of the statement encoded there (layout, specs/Layout), and what it adds to the
-- rows of exclusive pauses and to those of pauses and setpauses aside (theory_language, specs/LabelRows). The traversal does not look
-- into the table of second parts, which is any that fits.
use Rattle.std.specs.Prelude.{ℕ, ◌+◌, Bool, true, false, List}
use Rattle.spec_base.specs.Limits.{max_depth}
use Rattle.spec_base.specs.Sets.{none, join}
use Rattle.spec_language.specs.Statement.{Statement}
use Rattle.spec_language.specs.LabelTests.{labels_of, pauses, triggers, Joint, alternative, parallel}
use Rattle.theory_language.specs.LabelRows.{further, fill}
use Rattle.labels.specs.declared.Labels.{Labels}
use Rattle.labels.specs.Labels.{label_set}
use Rattle.wellformed.specs.Rows.{Updates}
use Rattle.spec_sequence.specs.Writer.{size}
use Rattle.layout.specs.Layout.{Two, Lies, Ready, Pair}
use Rattle.layout.specs.Joints.{joint_of}
use Rattle.wellformed.specs.declared.exclusion.Before.{Before}
use Rattle.wellformed.specs.declared.exclusion.Walked.{Walked}
use Rattle.wellformed.specs.Exclusion.{Carries}

-- ---- what the traversal requires
pub record Standing (d a : ℕ) (bs : List ℕ) : Type 0 where
  pub table : List ℕ
  pub ready : Ready table d a bs

pub record StandingTwo (d a w : ℕ) (bs : List ℕ) : Type 0 where
  pub table : List ℕ
  pub pair : Pair table d a w bs

-- ---- the traversal: the labels of a statement, and what it adds to the rows m and n
pub record Past (p : Statement) (a : ℕ) (v : Before) (r : Walked) (m m' n n' : List Labels) : Type 0 where
  pub labels : Carries r (a + size p) (pauses p) (triggers p)
  pub excludes : Updates (fill true false alternative p (label_set v.exclusive)) m m'
  pub sides : Updates (fill true true parallel p (label_set v.concurrent)) n n'

abbrev pub Passes : (d a : ℕ) (bs : List ℕ) (v : Before) (r : Walked) (m m' n n' : List Labels) → Type 0
Passes d a bs v r m m' n n' = (t : List ℕ) (base : ℕ) (p : Statement) → Lies t d base a bs p → Past p a v r m m' n n'

-- the same of the two parts of a command of w bytes at offset a
abbrev pub fill_two : (x y : Bool) → Joint → (parallel : Bool) (p q : Statement) → ℕ → (ℕ → ℕ) → ℕ → ℕ
fill_two x y j b p q known rows = fill x y j q (further j (joint_of b) known (labels_of x y p)) (fill x y j p known rows)

pub record PastTwo (b : Bool) (p q : Statement) (a w : ℕ) (v : Before) (r : Walked) (m m' n n' : List Labels) : Type 0 where
  pub labels : Carries r (a + (w + (size p + size q))) (join (pauses p) (pauses q)) (join (triggers p) (triggers q))
  pub excludes : Updates (fill_two true false alternative b p q (label_set v.exclusive)) m m'
  pub sides : Updates (fill_two true true parallel b p q (label_set v.concurrent)) n n'

abbrev pub PassesTwo : (d a w : ℕ) (bs : List ℕ) (parallel : Bool) (v : Before) (r : Walked) (m m' n n' : List Labels) → Type 0
PassesTwo d a w bs b v r m m' n n' =
    (t : List ℕ) (base : ℕ) (p q : Statement) → Two (Lies t d) t base a w bs p q → PastTwo b p q a w v r m m' n n'

-- of the whole, where nothing stands before
abbrev pub Surveys : (bs : List ℕ) (m m' n n' : List Labels) → Type 0
Surveys bs m m' n n' =
    (t : List ℕ) (p : Statement) → Lies t max_depth 0 0 bs p
    → Updates (fill true false alternative p none) m m' × Updates (fill true true parallel p none) n n'
