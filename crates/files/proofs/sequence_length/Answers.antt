use native.Mathlib.Omega.{arith}
use Rattle.files.proofs.sequence_length.Goals as goal

pub returns : goal.returns
returns c = record { value = c.get_le.ensures.value; upper_bound = omega (arith, c.get_le.ensures.upper_bound) }
