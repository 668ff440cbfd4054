use Rattle.program.proofs.+react.Given as goal

abbrev pub decreases-react : goal.decreases-react
decreases-react l = l.read_back
