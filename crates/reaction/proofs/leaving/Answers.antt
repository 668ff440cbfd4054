use mathlib.Core.Path.{refl, ◌∙◌}
use mathlib.Core.Option.{Option}
use Rattle.spec_base.specs.Sets.{none}
use Rattle.spec_language.specs.Reaction.{leaving}
use Rattle.reaction.proofs.Values.{made}
use borrow.Author.Rules.{rules}
use Rattle.reaction.proofs.leaving.Goals as goal

pub returns : goal.returns
unfolding none
returns c = c.made.ensures ∙ made (leaving _) Option.none 1 none 0 refl (search rules, c.empty.ensures) refl refl refl
