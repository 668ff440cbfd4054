-- What the code's answer stands for: a turn.
use Rattle.std.specs.Prelude.{ℕ, ◌≡◌, List, length, drop}
use Rattle.spec_programs.specs.Stages as Listing
use Rattle.listing.specs.declared.Stage.TheVariants as stages
use Rattle.listing.specs.Stages.{stage_by, stage_in}
use Rattle.lines.specs.Shown.{line_length}
use Rattle.listing.specs.declared.Piece.{Piece}

-- the turn of a run before the instant that i inputs precede
abbrev pub turn_at : (file state : List ℕ) (i : ℕ) → Listing.Turn
turn_at file state i = Listing.turn_of (stage_by file (stages.Running i) state)

-- the piece has the text of t and the next stage of t
pub record Prints (file : List ℕ) (t : Listing.Turn) (piece : Piece) : Type 0 where
  pub result : Listing.turn (drop piece.line.from piece.line.bytes) (stage_in file piece.run) ≡ t
  pub sized : length piece.line.bytes ≡ line_length
