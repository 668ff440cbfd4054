use Prim.Native.Nat.{◌+◌, ◌*◌}
use Rattle.unroll_call.proofs.sizes.+of_part_of_parts_of_statement.Given as goal

abbrev pub decreases-of_part : goal.decreases-of_part
decreases-of_part l = 3 * l.depth + 2

abbrev pub decreases-of_parts : goal.decreases-of_parts
decreases-of_parts l = 3 * l.depth

abbrev pub decreases-of_statement : goal.decreases-of_statement
decreases-of_statement l = 3 * l.depth + 1
