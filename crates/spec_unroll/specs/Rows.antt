-- The rows of the call as propositions, in 02's words (item 13).
use Rattle.std.specs.Prelude.{ℕ, ◌≤◌, ◌<◌, ◌⊎◌, ◌≢◌, List, length}
use Rattle.spec_language.specs.Statement.{Statement}
use Rattle.spec_language.specs.States.{NoSetpause}
use Rattle.spec_base.specs.Limits.{max_bytes, max_depth, length_row, setpause_row, unrolled_row}
use Rattle.spec_sequence.specs.Writer.{size}
use Rattle.spec_language.specs.Sizes.{depth_of}
use Rattle.spec_sequence.specs.Rows.{Spells, Row}
use Rattle.spec_unroll.specs.Unrolled.{unrolled}

pub data UnrollRow (sequence : List ℕ) (read_back : ℕ) (buffer : List ℕ) : (number : ℕ) → Type 0 where
  -- 'another buffer length'
  row_1 : length buffer ≢ max_bytes → UnrollRow sequence read_back buffer length_row
  -- 'the original's own check': every row of it, 18 too
  row_2_to_10 : {number : ℕ} → Row sequence read_back number → UnrollRow sequence read_back buffer number
  -- 'it has a setpause'
  row_20 : {p : Statement} → Spells sequence p → ¬ NoSetpause p → UnrollRow sequence read_back buffer setpause_row
  -- 'the result passes 1,024 bytes or depth 64'
  row_21 : {p : Statement} → Spells sequence p → (max_bytes < size (unrolled p)) ⊎ (max_depth < depth_of (unrolled p))
      → UnrollRow sequence read_back buffer unrolled_row

-- the result passes neither
pub record Fits (p : Statement) : Type 0 where
  pub short : size (unrolled p) ≤ max_bytes
  pub shallow : depth_of (unrolled p) ≤ max_depth
