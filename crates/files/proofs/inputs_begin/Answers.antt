use Prim.Native.Nat.{ℕ, ◌+◌}
use native.Mathlib.Omega.{arith}
use mathlib.Core.Path.{ap}
use Rattle.files.proofs.inputs_begin.Goals as goal

pub returns : goal.returns
returns c = record { value = ap (λ (n : ℕ). 2 + n + 4) c.sequence_length.ensures.value; upper_bound = omega arith }
