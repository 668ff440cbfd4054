-- The three numbers of a statement of which its ceiling is made (02, item 6), as the code counts them over the bytes.
use Rattle.std.specs.Prelude.{ℕ, ◌≤◌, ◌≡◌, List, length}
use Rattle.std.proofs.Math.Option.{some}
use Rattle.spec_language.specs.Statement.{Statement}
use Rattle.spec_language.specs.Sizes.{commands, loop_nesting, signal_nesting}
use Rattle.spec_base.specs.Limits.{max_bytes, max_depth}
use Rattle.spec_sequence.specs.Commands.{Command, command_of, partCount, head_length}
use Rattle.spec_sequence.specs.Writer.{size}
use Rattle.layout.specs.Layout.{Lies}
use Rattle.ceilings.specs.declared.Extent.{Extent}
use Rattle.ceilings.specs.declared.Head.{Head}
use Rattle.ceilings.specs.declared.Tally.{Tally}

-- n has the numbers of p
pub record Has (p : Statement) (n : Extent) : Type 0 where
  pub count : n.commands ≡ commands p
  pub loops : n.loops ≡ loop_nesting p
  pub signals : n.signals ≡ signal_nesting p

-- r has the bytes and the parts of the command c
abbrev pub HeadOf : Command → Head → Type 0
HeadOf c r = (r.bytes ≡ head_length c) × (r.parts ≡ partCount c)

-- the same of the command of the byte b, if there is one
abbrev pub HeadAt : (b : ℕ) → Head → Type 0
HeadAt b r = (c : Command) → command_of b ≡ some c → HeadOf c r

-- some statement of at most `depth` levels lies at the front of bs
pub record Countable (depth : ℕ) (bs : List ℕ) : Type 0 where
  pub t : List ℕ
  pub d : ℕ
  pub base : ℕ
  pub a : ℕ
  pub p : Statement
  pub lies : Lies t d base a bs p
  pub levels : d ≤ depth
  pub low : depth ≤ max_depth
  pub short : length bs ≤ max_bytes

-- r has the bytes of p, its commands and the most loops around one
pub record TallyOf (p : Statement) (r : Tally) : Type 0 where
  pub bytes : r.bytes ≡ size p
  pub count : r.commands ≡ commands p
  pub loops : r.loops ≡ loop_nesting p

-- those of the statement that lies at the front of bs
abbrev pub Tallied : (bs : List ℕ) (r : Tally) → Type 0
Tallied bs r = (t : List ℕ) (d base a : ℕ) (p : Statement) → Lies t d base a bs p → TallyOf p r

-- r has the numbers of the statement that lies there, if that of the signals is right
abbrev pub HasWith : (bs : List ℕ) (signals : ℕ) (r : Extent) → Type 0
HasWith bs signals r = (t : List ℕ) (d base a : ℕ) (p : Statement) → Lies t d base a bs p → signals ≡ signal_nesting p → Has p r
