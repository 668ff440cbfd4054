use mathlib.Core.Path.{◌∙◌}
use Rattle.box_positions.proofs.Placing.{forgotten, entry-cleared}
use Rattle.box_positions.proofs.forget.Goals as goal

pub returns-in-Some : goal.returns-in-Some
returns-in-Some c =
    let l = c.if-i-lt-MAX_POSITIONS.true in
    rw c.in-Some.is (forgotten _ _ l (c.put_le.ensures ∙ entry-cleared _ c.args.table.now c.requires l))
