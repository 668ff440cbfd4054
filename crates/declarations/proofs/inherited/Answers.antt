use Rattle.spec_base.specs.Sets.{none}
use Rattle.declarations.proofs.Runs.{inherited_made}
use borrow.Author.Rules.{rules}
use Rattle.declarations.proofs.inherited.Goals as goal

pub returns : goal.returns
unfolding none
returns c = rw (← c.greater_of.ensures) (inherited_made _ _ _ _ (search rules, c.empty.ensures))
