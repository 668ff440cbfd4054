-- Row 11 at a mask, for whatever statement the bytes encode (layout, specs/Layout).
use Rattle.std.specs.Prelude.{ℕ, ◌≡◌, Bool, List}
use Rattle.spec_base.specs.Sets.{empty, below, from}
use Rattle.spec_language.specs.Statement.{Statement}
use Rattle.theory_language.specs.Ranks.{middle, ofParts, compatible}
use Rattle.layout.specs.Layout.{Two, Lies}
use Rattle.layout.specs.Joints.{joint_of}

-- r says whether the pauses of the mask m are pairwise compatible in the statement encoded there
abbrev pub TellsCompatible : (t : List ℕ) (d a : ℕ) (bs : List ℕ) (m : ℕ) (r : Bool) → Type 0
TellsCompatible t d a bs m r = (base : ℕ) (p : Statement) → Lies t d base a bs p → r ≡ compatible base p m

-- the same of the two parts of the command of w bytes at offset a
abbrev pub TellsCompatibleTwo : (t : List ℕ) (d a w : ℕ) (bs : List ℕ) (parallel : Bool) (m : ℕ) (r : Bool) → Type 0
TellsCompatibleTwo t d a w bs j m r =
    (base : ℕ) (p q : Statement) → Two (Lies t d) t base a w bs p q
    → r
    ≡ ofParts (joint_of j) (empty (below (middle base p) m)) (empty (from (middle base p) m))
    (compatible base p (below (middle base p) m)) (compatible (middle base p) q (from (middle base p) m))
