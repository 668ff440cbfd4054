use native.Mathlib.Omega.{arith}
use Prim.Native.Nat.{◌<◌}
use Rattle.spec_base.specs.Limits.{word_labels}
use Rattle.spec_base.specs.Sets.{only, join}
use Rattle.sets.proofs.Widths.{shifted}
use Rattle.layout.specs.Notes.{noteFarm}
use Rattle.notes.proofs.note_farm.Goals as goal

pub returns : goal.returns
unfolding noteFarm join only
returns c = let h : c.args.s < word_labels = omega (arith, c.requires) in rw (shifted word_labels c.args.s h)
