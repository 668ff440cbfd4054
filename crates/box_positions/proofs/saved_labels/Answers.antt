use mathlib.Core.Path.{ap, ◌∙◌}
use Rattle.spec_tick.specs.StateRecord.{labels_in}
use Rattle.box_positions.proofs.saved_labels.Goals as goal

pub returns : goal.returns
returns c = c.labels.ensures ∙ ap labels_in c.part.ensures
