use mathlib.Core.Path.{◌∙◌}
use Rattle.spec_base.specs.Sets.{none}
use Rattle.reaction.proofs.Values.{failed_made}
use borrow.Author.Rules.{rules}
use Rattle.reaction.proofs.failing.Goals as goal

pub returns : goal.returns
unfolding none
returns c = c.made.ensures ∙ failed_made _ _ _ _ (search rules, c.empty.ensures)
