-- The operand bytes and the parts of a byte's command, counted, and the range of its operand; a byte without a command has none of them.
use Rattle.std.specs.Prelude.{ℕ, Bool, false, cond, [], ◌∷◌, eqb, ltb}
use Rattle.std.specs.Prelude as std
use Rattle.std.proofs.Math.Option.{Option, none, some}
use Rattle.spec_base.specs.Limits.{signal_count}
use Rattle.spec_sequence.specs.Commands.{Command, command_of, operandCount, partCount, in_range}

abbrev pub counted : (Command → ℕ) → Option Command → Option ℕ
counted f none = none
counted f (some c) = some (f c)

abbrev pub operands_at : ℕ → Option ℕ
operands_at b = counted operandCount (command_of b)

abbrev pub parts_at : ℕ → Option ℕ
parts_at b = counted partCount (command_of b)

-- a command without parts; a byte without a command is none
abbrev pub is_leaf : Option ℕ → Bool
is_leaf none = false
is_leaf (some n) = eqb n 0

-- is x, the first operand byte of a command, in its range? Where there is no operand, it is asked as of a signal
abbrev pub operand_in_range : Option Command → ℕ → Bool
operand_in_range none x = ltb x signal_count
operand_in_range (some c) x = cond (eqb (operandCount c) 0) (ltb x signal_count) (in_range c (x ∷ []))

-- as the code says it
abbrev pub count_of : Option ℕ → std.Option ℕ
count_of none = std.None
count_of (some n) = std.Some n
