-- A command by the number of its parts, with the bytes of its own: what a traversal goes by.
use Rattle.std.specs.Prelude.{ℕ, ◌≡◌}
use Rattle.std.proofs.Math.Option.{some}
use Rattle.spec_sequence.specs.Commands.{Command, command_of, partCount, head_length}
use Rattle.commands.specs.declared.Shape.{Shape}
use Rattle.commands.specs.declared.Shape.TheVariants.{Leaf, One, Two}

abbrev pub parts_in : Shape → ℕ
parts_in (Leaf w) = 0
parts_in (One w) = 1
parts_in (Two w) = 2

abbrev pub bytes_in : Shape → ℕ
bytes_in (Leaf w) = w
bytes_in (One w) = w
bytes_in (Two w) = w

-- r is the shape of the command that the byte b names
abbrev pub HasShape : (b : ℕ) (r : Shape) → Type 0
HasShape b r = (c : Command) → command_of b ≡ some c → (partCount c ≡ parts_in r) × (head_length c ≡ bytes_in r)
