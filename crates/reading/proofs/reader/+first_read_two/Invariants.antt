use Prim.Native.Nat.{◌+◌, ◌*◌}
use Rattle.reading.proofs.reader.+first_read_two.Given as goal

abbrev pub decreases-first : goal.decreases-first
decreases-first l = 3 * l.depth + 1

abbrev pub decreases-read : goal.decreases-read
decreases-read l = 3 * l.depth

abbrev pub decreases-two : goal.decreases-two
decreases-two l = 3 * l.depth + 2
