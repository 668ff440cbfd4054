use Rattle.vectors_notation.proofs.Reading.{GoesOn}
use Rattle.vectors_notation.proofs.number.Given as goal

abbrev pub invariant-loop-byte : goal.invariant-loop-byte
invariant-loop-byte l = GoesOn l.base l.line l.at l.end l.byte-index l.value
