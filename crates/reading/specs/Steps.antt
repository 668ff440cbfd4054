-- What the reading traversal asks of a command's byte, and what it notes at a signal command, before it goes into its part.
use Rattle.std.specs.Prelude.{ℕ, ◌-◌, ◌≤◌, ◌≡◌, Bool, false, ◌&&◌, List, eqb}
use Rattle.std.specs.Prelude as std
use Rattle.std.proofs.Math.Option.{Option, none, some}
use Rattle.spec_base.specs.Limits.{max_signals}
use Rattle.spec_sequence.specs.Commands.{Command, operandCount, partCount, declares}
use Rattle.layout.specs.Notes.{note_signals}

-- has the command of a byte, if there is one, two parts behind an operand?
abbrev pub isChoice : Option Command → Bool
isChoice none = false
isChoice (some c) = eqb (partCount c) 2 && eqb (operandCount c) 1

-- and does it declare a signal?
abbrev pub is_declaration : Option Command → Bool
is_declaration none = false
is_declaration (some c) = eqb (declares c) 1

-- so many signals are left inside a signal command, and the notes m become n; nothing where none was left for it
abbrev pub Declared : (signals : ℕ) (m n : List ℕ) → std.Option ℕ → Type 0
Declared signals m n std.None = signals ≡ 0
Declared signals m n (std.Some left) = (1 ≤ signals) × (left ≡ signals - 1) × (n ≡ note_signals (max_signals - (signals - 1)) m)
