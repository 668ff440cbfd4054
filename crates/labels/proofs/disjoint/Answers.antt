use Rattle.spec_base.specs.Limits.{word_labels}
use Rattle.labels.specs.Labels.{label_set}
use Rattle.sets.proofs.Words.{disjoint-words, no-disjoint}
use borrow.Author.Rules.{rules}
use borrow.Author.Tests.{ne_eqb}
use lib.Bits.{bit_and}
use Rattle.labels.proofs.disjoint.Goals as goal

pub returns-then-s-t-eq0 : goal.returns-then-s-t-eq0
unfolding label_set
returns-then-s-t-eq0 c = disjoint-words word_labels _ _ _ _ (search rules) (search rules) c.if-s-t-eq0.true

pub returns-else-s-t-eq0 : goal.returns-else-s-t-eq0
unfolding label_set
returns-else-s-t-eq0 c =
    let a = c.args in
    rw (ne_eqb (bit_and a.s.low a.t.low) 0 c.if-s-t-eq0.false)
    (no-disjoint word_labels a.s.low a.s.high a.t.low a.t.high (search rules) (search rules) c.if-s-t-eq0.false)
