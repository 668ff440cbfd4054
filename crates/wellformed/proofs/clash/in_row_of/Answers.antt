use Rattle.spec_base.specs.Limits.{label_count}
use mathlib.Core.Path.{refl, sym, ap, ◌∙◌}
use mathlib.Core.Bool.{false, not}
use Rattle.spec_base.specs.Sets.{member}
use Rattle.sets.proofs.Loops.{some_left, none_left, seek, seek-on, seek-end, seek-less, seek_hit}
use Rattle.wellformed.proofs.Clashes.{in_row_end}
use Rattle.wellformed.proofs.clash.in_row_of.Goals as goal

pub loop-left-init : goal.loop-left-init
loop-left-init c = seek _ _

pub returns-then-member : goal.returns-then-member
returns-then-member c = (
  λ _. (
    c.lowest-l.result,
    seek_hit _ _ _ c.loop-left.invariant label_count _ c.lowest-l.ensures (some_left c.is_empty.ensures (ap not c.loop-left-test.true)),
    ap (member _) (sym c.row.ensures) ∙ sym c.member.ensures ∙ c.if-member.true,
  ),
  λ _. refl,
)

pub loop-left-smaller : goal.loop-left-smaller
loop-left-smaller c =
    seek-less _ _ _ c.loop-left.invariant label_count _ c.lowest-l.ensures (some_left c.is_empty.ensures (ap not c.loop-left-test.true)) _ c.without-left.ensures

pub loop-left-preserved : goal.loop-left-preserved
loop-left-preserved c =
    seek-on _ _ _ c.loop-left.invariant _ _ c.without-left.ensures
    (ap (member _) (sym c.row.ensures) ∙ sym c.member.ensures ∙ c.if-member.false)

pub returns : goal.returns
returns c = in_row_end _ _ _ (seek-end _ _ _ c.loop-left.invariant (none_left c.is_empty.ensures (ap not c.loop-left-test.false)))
