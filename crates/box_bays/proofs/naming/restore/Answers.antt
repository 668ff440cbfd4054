use mathlib.Core.Path.{◌≡◌, subst}
use native.Mathlib.Omega.{arith}
use Rattle.std.specs.Prelude.{Some}
use Rattle.box_positions.specs.Places.{Places}
use Rattle.box_bays.proofs.Positioning.{back_at}
use Rattle.box_bays.proofs.naming.restore.Goals as goal

pub returns : goal.returns
returns c =
    let k : c.args.known ≡ Some c.in_ok-i.i = grind arith in
    rw k (back_at c.args.stretch.now c.table.ensures (subst (λ x. Places x c.requires.1.0) k c.requires.1.1).0 c.saved_labels-labels.ensures c.requires.0 c.write_state.ensures)
