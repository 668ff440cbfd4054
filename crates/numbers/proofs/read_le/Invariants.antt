use Rattle.std.proofs.Common.{◌≡◌, take, drop}
use Rattle.spec_base.specs.Bytes.{le_number}
use Rattle.numbers.proofs.Reading.{upon}
use Rattle.numbers.proofs.read_le.Given as goal

abbrev pub invariant-loop-byte : goal.invariant-loop-byte
invariant-loop-byte l = upon l.byte-iterator.iter.rest.now l.x ≡ le_number (take l.n (drop l.at l.b))
