-- How long and how deep a statement is with its loops written out (02, item 13), as the traversal over its bytes finds it. Each number
-- stays at one more than its limit.
use Rattle.std.specs.Prelude.{ℕ, ◌+◌, ◌≤◌, min, max, ◌≡◌, List}
use Rattle.spec_language.specs.Statement.{Statement}
use Rattle.spec_base.specs.Limits.{max_bytes, max_depth}
use Rattle.spec_sequence.specs.Writer.{size}
use Rattle.spec_language.specs.Sizes.{depth_of}
use Rattle.layout.specs.Layout.{Two, Lies}
use Rattle.spec_unroll.specs.Unrolled.{copied, unrolled}
use Rattle.unroll_call.specs.declared.sizes.Sizes.{Sizes}

abbrev pub capped_bytes : ℕ → ℕ
capped_bytes n = min n (1 + max_bytes)

abbrev pub capped_depth : ℕ → ℕ
capped_depth n = min n (1 + max_depth)

-- r has these numbers: bytes of the copy, bytes and depth of what is worked through
pub record SizesOf (copy whole depth : ℕ) (r : Sizes) : Type 0 where
  pub copies : r.copy ≡ capped_bytes copy
  pub wholes : r.whole ≡ capped_bytes whole
  pub depths : r.depth ≡ capped_depth depth

-- those of p
abbrev pub Has : Statement → Sizes → Type 0
Has p r = SizesOf (size (copied p)) (size (unrolled p)) (depth_of (unrolled p)) r

-- those of a command of w bytes around p and q
abbrev pub HasTwo : (w : ℕ) (p q : Statement) → Sizes → Type 0
HasTwo w p q r =
    SizesOf (w + size (copied p) + size (copied q)) (w + size (unrolled p) + size (unrolled q))
    (1 + max (depth_of (unrolled p)) (depth_of (unrolled q))) r

-- r has the numbers of the statement encoded there
abbrev pub Measured : (t : List ℕ) (d a : ℕ) (bs : List ℕ) (r : Sizes) → Type 0
Measured t d a bs r = (base : ℕ) (p : Statement) → Lies t d base a bs p → Has p r

-- the same of the command of w bytes at offset a with two parts
abbrev pub MeasuredTwo : (t : List ℕ) (d a w : ℕ) (bs : List ℕ) (r : Sizes) → Type 0
MeasuredTwo t d a w bs r = (base : ℕ) (p q : Statement) → Two (Lies t d) t base a w bs p q → HasTwo w p q r

-- numbers that were capped
pub record Few (n : Sizes) : Type 0 where
  pub copies : n.copy ≤ 1 + max_bytes
  pub wholes : n.whole ≤ 1 + max_bytes
  pub depths : n.depth ≤ 1 + max_depth
