use mathlib.Core.Path.{sym, ◌∙◌}
use Rattle.spec_bay.specs.Stretch.{part_of}
use Rattle.box_bays.proofs.fields.part.Goals as goal

pub returns-then-is_empty : goal.returns-then-is_empty
unfolding part_of
returns-then-is_empty c = rw (sym c.is_empty.ensures ∙ c.if-is_empty.true)

pub returns : goal.returns
unfolding part_of
returns c = rw (sym c.is_empty.ensures ∙ c.if-is_empty.false) c.get_le.ensures.value
