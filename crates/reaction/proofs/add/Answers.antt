use Rattle.reaction.proofs.add.Goals as goal

pub returns : goal.returns
returns c = rw c.together.ensures
