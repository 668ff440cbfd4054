use mathlib.Core.Path.{refl, ◌∙◌}
use mathlib.Core.Option.{Option}
use Rattle.spec_base.specs.Sets.{none}
use Rattle.spec_language.specs.Reaction.{waiting}
use Rattle.reaction.proofs.Values.{made}
use borrow.Author.Rules.{rules}
use Rattle.reaction.proofs.waiting.Goals as goal

pub returns : goal.returns
unfolding none
returns c = c.made.ensures ∙ made waiting Option.none 1 _ 0 refl (search rules, refl) refl refl refl
