use Prim.Native.Nat.{ℕ}
use mathlib.Core.Path.{ap, ◌∙◌}
use Rattle.spec_base.specs.Sets.{none}
use Rattle.spec_language.specs.Statement.{nothing}
use Rattle.spec_language.specs.Reaction.{waiting, gives}
use Rattle.reaction.specs.Reactions.{alone, reaction_of}
use Rattle.reaction.proofs.pausing.Goals as goal

pub returns : goal.returns
unfolding none
returns c = c.waiting.ensures ∙ ap (λ (l : ℕ). reaction_of (alone (gives none waiting l nothing) none 0)) c.single.ensures
