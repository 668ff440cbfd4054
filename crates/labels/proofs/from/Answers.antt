use Rattle.spec_base.specs.Limits.{word_labels}
use mathlib.Core.Path.{ap, ◌∙◌}
use lib.Bits.{bit_xor}
use Rattle.spec_base.specs.Sets.{from}
use Rattle.spec_base.specs.Widths.{two_words}
use Rattle.sets.proofs.Words.{words-xor}
use Rattle.labels.specs.Labels.{label_set}
use borrow.Author.Rules.{rules}
use Rattle.labels.proofs.from.Goals as goal

pub returns : goal.returns
unfolding label_set from
returns c =
    let s = c.args.s in
    words-xor word_labels s.low s.high _ _ (search rules) (search rules)
    ∙ ap (bit_xor (two_words word_labels s.low s.high)) c.below-t.ensures
