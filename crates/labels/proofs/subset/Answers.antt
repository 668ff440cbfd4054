use Rattle.spec_base.specs.Limits.{word_labels}
use Rattle.labels.specs.Labels.{label_set}
use Rattle.sets.proofs.Words.{subset-words, no-subset}
use borrow.Author.Rules.{rules}
use borrow.Author.Tests.{ne_eqb}
use lib.Bits.{bit_and}
use Rattle.labels.proofs.subset.Goals as goal

pub returns-then-s-t : goal.returns-then-s-t
unfolding label_set
returns-then-s-t c = subset-words word_labels _ _ _ _ (search rules) (search rules) c.if-s-t.true

pub returns-else-s-t : goal.returns-else-s-t
unfolding label_set
returns-else-s-t c =
    let a = c.args in
    rw (ne_eqb (bit_and a.s.low a.t.low) a.s.low c.if-s-t.false)
    (no-subset word_labels a.s.low a.s.high a.t.low a.t.high (search rules) (search rules) c.if-s-t.false)
