-- The labels of the pauses of a mask, for whatever statement the bytes encode (layout, specs/Layout).
use Rattle.std.specs.Prelude.{ℕ, ◌≡◌, List}
use Rattle.spec_base.specs.Sets.{join, below, from}
use Rattle.spec_language.specs.Statement.{Statement}
use Rattle.theory_language.specs.Ranks.{middle, labels_by}
use Rattle.labels.specs.declared.Labels.{Labels}
use Rattle.labels.specs.Labels.{label_set}
use Rattle.layout.specs.Layout.{Two, Lies}

-- r has the labels of the pauses of the mask m in the statement encoded there
abbrev pub Labelled : (t : List ℕ) (d a : ℕ) (bs : List ℕ) (m : ℕ) (r : Labels) → Type 0
Labelled t d a bs m r = (base : ℕ) (p : Statement) → Lies t d base a bs p → label_set r ≡ labels_by base p m

-- the labels of s are put among those before
pub record Joined (s : ℕ) (before after : Labels) : Type 0 where
  pub adds : label_set after ≡ join (label_set before) s

-- the labels of the pauses of the mask m are put there
abbrev pub Found : (t : List ℕ) (d a : ℕ) (bs : List ℕ) (m : ℕ) (before after : Labels) → Type 0
Found t d a bs m before after = (base : ℕ) (p : Statement) → Lies t d base a bs p → Joined (labels_by base p m) before after

-- the same of the two parts of the command of w bytes at offset a
abbrev pub FoundTwo : (t : List ℕ) (d a w : ℕ) (bs : List ℕ) (m : ℕ) (before after : Labels) → Type 0
FoundTwo t d a w bs m before after =
    (base : ℕ) (p q : Statement) → Two (Lies t d) t base a w bs p q
    → Joined (join (labels_by base p (below (middle base p) m)) (labels_by (middle base p) q (from (middle base p) m))) before after
