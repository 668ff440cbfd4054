use borrow.Author.Rules.{rules}
use Rattle.box_bays.proofs.Admitting.{turned_down, too_many, admitted, within}
use Rattle.limits.proofs.Refusals.{handed-on}
use Rattle.box_bays.proofs.admission.admit.Goals as goal

pub returns-in_err-ceiling : goal.returns-in_err-ceiling
returns-in_err-ceiling c = rw (handed-on _ _ c.from_residual.ensures.1) (turned_down _ _ _ _ c.in_err-ceiling.ensures)

pub returns-then-present-ceiling-gt-SHARED_CEILING : goal.returns-then-present-ceiling-gt-SHARED_CEILING
returns-then-present-ceiling-gt-SHARED_CEILING c = too_many _ _ _ _ c.in_ok-ceiling.ensures c.if-present-ceiling-gt-SHARED_CEILING.true

pub fill-requires : goal.fill-requires
fill-requires c = (search rules, within _ _ _ c.in_ok-ceiling.ensures)

pub returns : goal.returns
returns c =
    admitted _ _ _ _ c.in_ok-ceiling.ensures c.if-present-ceiling-gt-SHARED_CEILING.false c.fill.ensures
