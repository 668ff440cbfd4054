use Rattle.spec_base.specs.Limits.{word_labels}
use native.Mathlib.Omega.{arith}
use lib.Count.{trailing_le}
use Rattle.spec_base.specs.Sets.{none}
use Rattle.sets.proofs.Lowest.{lowest_is}
use Rattle.sets.proofs.Words.{lowest-low, lowest-high}
use Rattle.labels.specs.Labels.{label_set}
use borrow.Author.Rules.{rules}
use Rattle.labels.proofs.lowest.Goals as goal

pub overflow_cast-result : goal.overflow_cast-result
overflow_cast-result c = omega (arith, trailing_le word_labels c.args.s.high)

pub overflow_add-result : goal.overflow_add-result
overflow_add-result c = omega (arith, trailing_le word_labels c.args.s.high)

pub overflow_cast-result-else-s-eq0 : goal.overflow_cast-result-else-s-eq0
overflow_cast-result-else-s-eq0 c = omega (arith, trailing_le word_labels c.args.s.low)

pub returns-then-s-eq0 : goal.returns-then-s-eq0
unfolding label_set none
returns-then-s-eq0 c = lowest-high word_labels word_labels _ _ (search rules) _ c.if-s-eq0.true (lowest_is word_labels _ (search rules))

pub returns-else-s-eq0 : goal.returns-else-s-eq0
unfolding label_set none
returns-else-s-eq0 c = lowest-low word_labels word_labels _ _ (search rules) _ c.if-s-eq0.false (lowest_is word_labels _ (search rules))
