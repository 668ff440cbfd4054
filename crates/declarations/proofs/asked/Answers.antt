use mathlib.Core.Path.{ap, ◌∙◌}
use Rattle.spec_base.specs.Sets.{remove}
use Rattle.declarations.proofs.asked.Goals as goal

pub returns : goal.returns
returns c = c.without.ensures ∙ ap (remove _) c.union.ensures
