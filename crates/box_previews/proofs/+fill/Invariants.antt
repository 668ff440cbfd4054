use Rattle.box_previews.proofs.+fill.Given as goal

-- the open signals lose one at each level
abbrev pub decreases-fill : goal.decreases-fill
decreases-fill l = l.free
