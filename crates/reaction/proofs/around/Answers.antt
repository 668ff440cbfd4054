use mathlib.Core.Path.{◌∙◌}
use Rattle.reaction.proofs.Values.{around_reaction}
use Rattle.reaction.proofs.around.Goals as goal

pub returns : goal.returns
returns c t a = c.made.ensures ∙ around_reaction t _ _ _ _ a c.over_one.ensures c.union.ensures
