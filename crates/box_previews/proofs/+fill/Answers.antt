use mathlib.Core.Path.{sym, ◌∙◌}
use native.Mathlib.Omega.{arith}
use borrow.Author.Rules.{rules}
use borrow.Author.Tests.{eqb-true, eqb-false}
use Rattle.sets.proofs.Lowest.{remove_less}
use Rattle.box_previews.specs.Standing.{answers_at}
use Rattle.box_previews.proofs.Steps.{stands_for_all, hit, still-apart, together}
use Rattle.box_previews.proofs.+fill.Goals as goal

pub returns-then-is_empty : goal.returns-then-is_empty
returns-then-is_empty t c p l =
    let a = c.args in
    stands_for_all a.origin p a.read_back a.e a.free c.requires.disjoint (c.requires.reacted_without_litres p l) c.common-asked.ensures
    (eqb-true _ _ (sym c.is_empty.ensures ∙ c.if-is_empty.true)) c.found.ensures

pub fill-without-requires : goal.fill-without-requires
fill-without-requires t c =
    let a = c.common-asked.ensures in
    let some = eqb-false _ _ (sym c.is_empty.ensures ∙ c.if-is_empty.false) in
    let less = remove_less _ c.args.free (hit c.args.r.asked c.args.free a some c.lowest-x.ensures) in
    let d = still-apart c.args.r.asked c.args.free a some c.lowest-x.ensures (search rules) c.args.e c.without-others.ensures c.with-with.ensures c.requires.disjoint in
    (omega (arith, less, c.decreases, c.without-others.ensures), (c.requires.stands, (d.0, c.requires.reacted_without_litres)))

pub fill-requires : goal.fill-requires
fill-requires t c =
    let a = c.common-asked.ensures in
    let some = eqb-false _ _ (sym c.is_empty.ensures ∙ c.if-is_empty.false) in
    let less = remove_less _ c.args.free (hit c.args.r.asked c.args.free a some c.lowest-x.ensures) in
    let d = still-apart c.args.r.asked c.args.free a some c.lowest-x.ensures (search rules) c.args.e c.without-others.ensures c.with-with.ensures c.requires.disjoint in
    (omega (arith, less, c.decreases, c.without-others.ensures), (c.requires.stands, (d.1, c.react_without_litres-q.ensures)))

pub returns : goal.returns
returns t c p l =
    together c.args.r.asked c.args.free c.common-asked.ensures
    (eqb-false _ _ (sym c.is_empty.ensures ∙ c.if-is_empty.false)) c.lowest-x.ensures (search rules) c.args.e
    c.without-others.ensures c.with-with.ensures
    (answers_at c.args.origin p c.args.read_back) c.requires.disjoint (c.fill-without.ensures p l) (c.fill.ensures p l) c.both.ensures
