use Prim.Native.Nat.{◌+◌, ◌*◌}
use Rattle.unroll_call.proofs.writer.+looped_part_parts_write.Given as goal

abbrev pub decreases-looped : goal.decreases-looped
decreases-looped l = 3 * l.depth + 3

abbrev pub decreases-part : goal.decreases-part
decreases-part l = 3 * l.depth + 2

abbrev pub decreases-parts : goal.decreases-parts
decreases-parts l = 3 * l.depth

abbrev pub decreases-write : goal.decreases-write
decreases-write l = 3 * l.depth + 1
