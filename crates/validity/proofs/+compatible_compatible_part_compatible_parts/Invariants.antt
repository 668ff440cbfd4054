use Prim.Native.Nat.{◌+◌, ◌*◌}
use Rattle.validity.proofs.+compatible_compatible_part_compatible_parts.Given as goal

abbrev pub decreases-compatible : goal.decreases-compatible
decreases-compatible l = 3 * l.depth + 1

abbrev pub decreases-compatible_part : goal.decreases-compatible_part
decreases-compatible_part l = 3 * l.depth + 2

abbrev pub decreases-compatible_parts : goal.decreases-compatible_parts
decreases-compatible_parts l = 3 * l.depth
