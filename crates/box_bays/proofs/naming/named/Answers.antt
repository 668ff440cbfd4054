use Rattle.box_bays.proofs.Positioning.{restored_at, forgotten}
use Rattle.box_bays.proofs.naming.named.Goals as goal

pub returns-in-Restore : goal.returns-in-Restore
returns-in-Restore c =
    rw c.in-Restore.is (restored_at _ _ _ c.table.ensures c.place_of-known.ensures c.restore.ensures)

pub returns-in-Forget : goal.returns-in-Forget
returns-in-Forget c =
    rw c.in-Forget.is (forgotten _ _ _ c.table.ensures c.place_of-known.ensures _ _ c.forget.ensures)
