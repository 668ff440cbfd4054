use native.Mathlib.Omega.{arith}
use Rattle.sets.proofs.Lowest.{remove_less}
use borrow.Author.Tests.{eqb-true, eqb-false}
use mathlib.Core.Path.{sym, ◌∙◌}
use Rattle.spec_base.specs.Sets.{none}
use Rattle.validity.proofs.Ranking.{ranking_begin, ranking_end, rank-small, ranking-on}
use Rattle.validity.proofs.ranks.Goals as goal

pub loop-left-init : goal.loop-left-init
loop-left-init c = ranking_begin _ _ _ c.empty-mask.ensures

pub overflow_cast-rank : goal.overflow_cast-rank
overflow_cast-rank c = omega (arith, rank-small _ _ _ _ c.loop-left.invariant c.requires _ (c.lowest-l.ensures.found (eqb-false _ none (sym c.is_empty.ensures ∙ c.loop-left-test.true))) _ c.rank-rank.ensures)

pub loop-left-smaller : goal.loop-left-smaller
loop-left-smaller c = omega (arith, c.without-left.ensures, remove_less _ _ (c.lowest-l.ensures.found (eqb-false _ none (sym c.is_empty.ensures ∙ c.loop-left-test.true))))

pub loop-left-preserved : goal.loop-left-preserved
loop-left-preserved c = ranking-on _ _ _ _ c.loop-left.invariant c.requires _ (c.lowest-l.ensures.found (eqb-false _ none (sym c.is_empty.ensures ∙ c.loop-left-test.true))) _ c.rank-rank.ensures _ _ _ c.single.ensures c.union-mask.ensures c.without-left.ensures

pub returns : goal.returns
returns c = ranking_end _ _ _ _ c.loop-left.invariant (eqb-true _ none (sym c.is_empty.ensures ∙ c.loop-left-test.false))
