use Rattle.spec_bay.specs.Preview.{both}
use Rattle.box_previews.proofs.both.Goals.{then-x, else-x}
use Rattle.box_previews.proofs.both.Goals as goal

pub returns : goal.returns
unfolding both
returns c =
    rw (c.common.ensures, c.union.ensures, c.shared.ensures) (elim c.if-x.branch [
      | then-x w ↦ rw (w.result-is, w.if-x.true)
      | else-x w ↦ rw (w.result-is, w.if-x.false)
    ])
