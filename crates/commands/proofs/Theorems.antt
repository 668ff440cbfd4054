-- The theorem of this crate: for each of the 256 bytes both counts are those of the printed table, and a byte that is not in it
-- has neither.
use Prim.Native.Nat.{ℕ, ◌<◌}
use mathlib.Core.Path.{◌≡◌}
use Rattle.commands.specs.Counts.{operands_at, parts_at}
use Rattle.commands.specs.Printed.{operands_printed, parts_printed}
use Rattle.commands.proofs.Counts as counts

pub as_printed : (b : ℕ) → b < 256 → (operands_at b ≡ operands_printed b) × (parts_at b ≡ parts_printed b)
as_printed = counts.as_printed
