use mathlib.Core.Path.{◌∙◌}
use Rattle.litres.proofs.Four.{four_bytes}
use Rattle.litres.proofs.bits.Goals as goal

pub returns : goal.returns
returns c = c.from_le_bytes.ensures ∙ four_bytes c.args.s.now c.args.at c.requires
