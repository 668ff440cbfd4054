use Prim.Native.Nat.{◌+◌, ◌*◌}
use Rattle.resume.proofs.kept.+inside_part_parts.Given as goal

abbrev pub decreases-inside : goal.decreases-inside
decreases-inside l = 3 * l.depth + 1

abbrev pub decreases-part : goal.decreases-part
decreases-part l = 3 * l.depth + 2

abbrev pub decreases-parts : goal.decreases-parts
decreases-parts l = 3 * l.depth
