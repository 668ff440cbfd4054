use Rattle.spec_base.specs.Limits.{word_labels}
use mathlib.Core.Path.{ap, ◌∙◌}
use lib.Dec.{eqb}
use lib.Pow.{pow_pos}
use Rattle.spec_base.specs.Widths.{two_words}
use Rattle.sets.proofs.Words.{words-none, words_same, words-differ}
use Rattle.labels.specs.Labels.{label_set}
use borrow.Author.Rules.{rules}
use borrow.Author.Tests.{ne_eqb}
use Rattle.labels.proofs.is_empty.Goals as goal

pub returns-then-s-eq0 : goal.returns-then-s-eq0
unfolding label_set
returns-then-s-eq0 c =
    let s = c.args.s in
    words_same word_labels s.low s.high 0 0 (search rules) (pow_pos word_labels) c.if-s-eq0.true
    ∙ ap (eqb (two_words word_labels s.low s.high)) (words-none word_labels)

pub returns-else-s-eq0 : goal.returns-else-s-eq0
unfolding label_set
returns-else-s-eq0 c =
    let s = c.args.s in
    ne_eqb s.low 0 c.if-s-eq0.false
    ∙ words-differ word_labels s.low s.high 0 0 (search rules) (pow_pos word_labels) c.if-s-eq0.false
    ∙ ap (eqb (two_words word_labels s.low s.high)) (words-none word_labels)
