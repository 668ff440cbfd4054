use Rattle.spec_base.specs.Limits.{label_count, word_labels}
use mathlib.Core.Path.{ap, ap₂, ◌∙◌}
use Prim.Native.Nat.{ℕ}
use lib.Bits.{bit_and, bit_xor}
use Rattle.spec_base.specs.Widths.{two_words}
use Rattle.sets.proofs.Masks.{masked_out}
use Rattle.sets.proofs.Widths.{difference-only}
use Rattle.sets.proofs.Words.{words-lt, words-difference}
use Rattle.labels.specs.Labels.{label_set}
use borrow.Author.Rules.{rules}
use Rattle.labels.proofs.without.Goals as goal

pub returns : goal.returns
unfolding label_set
returns c =
    let a = c.args in
    let s = two_words word_labels a.s.low a.s.high in
    ap₂ (two_words word_labels)
    (masked_out word_labels a.s.low c.single-t.result.low (search rules) (search rules))
    (masked_out word_labels a.s.high c.single-t.result.high (search rules) (search rules))
    ∙ words-difference word_labels a.s.low a.s.high _ _ (search rules) (search rules)
    ∙ ap (λ (x : ℕ). bit_xor s (bit_and s x)) c.single-t.ensures
    ∙ difference-only label_count a.i s (words-lt word_labels a.s.low a.s.high (search rules) word_labels (search rules))
