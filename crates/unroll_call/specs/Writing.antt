-- Writing a statement worked through (02, item 13): bytes put into a buffer one behind the other.
use Rattle.std.specs.Prelude.{ℕ, List, ◌∷◌, ◌++◌, length}
use Rattle.spec_language.specs.Statement.{Statement}
use Rattle.layout.specs.Layout.{Two, Lies, Ready, Pair}
use Rattle.spec_sequence.specs.Writer.{bytes_of}
use Rattle.spec_unroll.specs.Unrolled.{copied, unrolled}
use Rattle.unroll_call.specs.Putting.{Put, Room}

-- a statement worked through
abbrev pub unrolled_bytes : Statement → List ℕ
unrolled_bytes p = bytes_of (unrolled p)

-- a loop around p
abbrev pub loop_bytes : Statement → List ℕ
loop_bytes p = 6 ∷ 4 ∷ bytes_of (copied p) ++ unrolled_bytes p

-- ---- what the traversal requires and gives: of the statement at offset a, which is put from index i on
pub record Writable (t : List ℕ) (d a : ℕ) (bs : List ℕ) (i : ℕ) (b : List ℕ) : Type 0 where
  pub ready : Ready t d a bs
  pub base : ℕ
  pub p : Statement
  pub lies : Lies t d base a bs p
  pub room : Room i (length (unrolled_bytes p)) b

abbrev pub Writes : (t : List ℕ) (d a : ℕ) (bs : List ℕ) (i : ℕ) (b b' : List ℕ) (r : ℕ) → Type 0
Writes t d a bs i b b' r = (base : ℕ) (p : Statement) → Lies t d base a bs p → Put i (unrolled_bytes p) b b' r

-- of the two parts of a command of w bytes
pub record WritableTwo (t : List ℕ) (d a w : ℕ) (bs : List ℕ) (i : ℕ) (b : List ℕ) : Type 0 where
  pub pair : Pair t d a w bs
  pub room : Room i (length (unrolled_bytes pair.p ++ unrolled_bytes pair.q)) b

abbrev pub WritesTwo : (t : List ℕ) (d a w : ℕ) (bs : List ℕ) (i : ℕ) (b b' : List ℕ) (r : ℕ) → Type 0
WritesTwo t d a w bs i b b' r =
    (base : ℕ) (p q : Statement) → Two (Lies t d) t base a w bs p q → Put i (unrolled_bytes p ++ unrolled_bytes q) b b' r

-- of a loop around the statement at offset a
pub record WritableLoop (t : List ℕ) (d a : ℕ) (bs : List ℕ) (i : ℕ) (b : List ℕ) : Type 0 where
  pub ready : Ready t d a bs
  pub base : ℕ
  pub p : Statement
  pub lies : Lies t d base a bs p
  pub room : Room i (length (loop_bytes p)) b

abbrev pub WritesLoop : (t : List ℕ) (d a : ℕ) (bs : List ℕ) (i : ℕ) (b b' : List ℕ) (r : ℕ) → Type 0
WritesLoop t d a bs i b b' r = (base : ℕ) (p : Statement) → Lies t d base a bs p → Put i (loop_bytes p) b b' r
