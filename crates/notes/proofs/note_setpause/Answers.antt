use Rattle.spec_base.specs.Limits.{word_labels}
use Prim.Native.Nat.{◌%◌, ◌<◌}
use native.Mathlib.Omega.{arith}
use Rattle.spec_base.specs.Sets.{only, join}
use Rattle.sets.proofs.Widths.{shifted}
use Rattle.layout.specs.Notes.{noteSetpause}
use Rattle.notes.proofs.note_setpause.Goals as goal

pub returns : goal.returns
unfolding noteSetpause join only
returns c = let h : c.args.l % word_labels < word_labels = omega arith in rw (shifted word_labels (c.args.l % word_labels) h)
