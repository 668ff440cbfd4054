use mathlib.Core.Path.{◌∙◌}
use Rattle.box_bays.proofs.Storing.{cleared_out}
use Rattle.box_bays.proofs.filling.vacate.Goals as goal

pub returns : goal.returns
returns c = c.put_le.ensures ∙ cleared_out c.args.stretch.now c.requires
