use Prim.Native.Nat.{◌+◌}
use Rattle.spec_sequence.specs.Commands.{bytes_at}
use Rattle.unroll_call.specs.Putting.{Put}
use Rattle.unroll_call.proofs.heads.own.Given as goal

abbrev pub invariant-loop-k : goal.invariant-loop-k
invariant-loop-k g l = Put l.i (bytes_at l.at l.k l.s) l.initial.buffer l.buffer (l.i + l.k)
