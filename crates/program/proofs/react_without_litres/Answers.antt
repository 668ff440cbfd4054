use Rattle.program.proofs.react_without_litres.Goals as goal

pub returns : goal.returns
returns c p l = (c.react.ensures p l 0).0
