use Prim.Native.Nat.{ℕ}
use mathlib.Core.Path.{ap, ◌∙◌}
use Rattle.spec_base.specs.Sets.{none}
use Rattle.spec_language.specs.Statement.{nothing}
use Rattle.spec_language.specs.Reaction.{ended, gives}
use Rattle.reaction.specs.Reactions.{alone, reaction_of}
use Rattle.react_leaves.proofs.emitting.Goals as goal

pub returns : goal.returns
returns c f = (
  c.ending.ensures ∙ ap (λ (o : ℕ). reaction_of (alone (gives o ended none nothing) none 0)) c.single.ensures,
  c.deliver.ensures f _,
)
