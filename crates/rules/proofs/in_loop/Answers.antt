use mathlib.Core.Path.{sym, ◌∙◌}
use Rattle.spec_base.specs.Sets.{none}
use Rattle.rules.proofs.Combining.{loop_fails, loop-goes-on}
use Rattle.rules.proofs.in_loop.Goals as goal

pub returns-then-is_ended : goal.returns-then-is_ended
returns-then-is_ended c u i a = loop_fails _ u i _ a _ (sym c.is_ended.ensures ∙ c.if-is_ended.true) c.failing.ensures c.over_one.ensures

pub returns-else-is_ended : goal.returns-else-is_ended
unfolding none
returns-else-is_ended c u i a = loop-goes-on _ u i _ a (sym c.is_ended.ensures ∙ c.if-is_ended.false) (c.around.ensures i a)
