use mathlib.Core.Path.{sym, ◌∙◌}
use Rattle.rules.proofs.CombiningTwo.{seq-goes-on}
use Rattle.rules.proofs.in_sequence.Goals as goal

pub returns-then-is_ended : goal.returns-then-is_ended
returns-then-is_ended c u t v a b =
    seq-goes-on u t v _ a _ b _ _ _ (sym c.is_ended.ensures ∙ c.if-is_ended.true) c.union.ensures
    c.over_two.ensures c.union-then-is_ended.ensures

pub returns-else-is_ended : goal.returns-else-is_ended
returns-else-is_ended c u t v a b = c.in_first.ensures u v (sym c.is_ended.ensures ∙ c.if-is_ended.false) t a
