use Rattle.program.proofs.inside.Goals as goal

pub returns-in-Fresh : goal.returns-in-Fresh
returns-in-Fresh c p l f = rw c.in-Fresh.is (c.react.ensures 0 p l f)

pub returns-in-Waiting : goal.returns-in-Waiting
returns-in-Waiting c p l f = rw c.in-Waiting.is (c.resume.ensures 0 p l f)
