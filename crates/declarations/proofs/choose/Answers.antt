use Rattle.declarations.proofs.choose.Goals as goal
use Rattle.declarations.proofs.choose.Goals.{then-is_wrong-via-then-is_wrong, then-is_wrong-via-else-is_wrong+then-is_wrong-2}

pub returns-then-is_wrong : goal.returns-then-is_wrong
returns-then-is_wrong c =
    elim c.then-is_wrong.branch [
      | then-is_wrong-via-then-is_wrong w ↦ rw (← c.is_wrong.ensures, w.if-is_wrong.true)
      | then-is_wrong-via-else-is_wrong+then-is_wrong-2 w ↦ rw (← c.is_wrong.ensures, w.if-is_wrong.false, ← w.is_wrong-else-is_wrong.ensures, w.if-is_wrong-2.true)
    ]
