use Rattle.lines.proofs.line_behind.Goals as goal

pub returns : goal.returns
returns c = c.instant_line.ensures
