use mathlib.Core.Path.{ap, ◌∙◌}
use Rattle.spec_base.specs.Sets.{join}
use Rattle.resume.proofs.kept.add.Goals as goal

pub returns : goal.returns
returns c = record { adds = c.union.ensures ∙ ap (join _) c.single.ensures }
