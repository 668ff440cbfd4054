use Rattle.spec_base.specs.Sets.{none}
use Rattle.reaction.proofs.nothing.Goals as goal

pub returns : goal.returns
unfolding none
returns c = c.ending.ensures
