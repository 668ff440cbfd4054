use Rattle.spec_base.specs.Limits.{label_count, word_labels}
use Prim.Native.Nat.{ℕ, ◌-◌}
use mathlib.Core.Path.{ap, ◌∙◌}
use native.Mathlib.Omega.{arith}
use lib.Pow.{pow_pos}
use Rattle.spec_base.specs.Widths.{two_words}
use Rattle.sets.proofs.Widths.{shifted, masked, all-below}
use Rattle.sets.proofs.Words.{words-lt, below-low, below-high}
use Rattle.labels.specs.Labels.{label_set}
use borrow.Author.Rules.{rules}
use Rattle.labels.proofs.below.Goals as goal

pub overflow_sub-result : goal.overflow_sub-result
overflow_sub-result c = let k = c.args.k in omega (arith, shifted word_labels k (search rules), pow_pos k)

pub returns-then-k : goal.returns-then-k
unfolding label_set
returns-then-k c =
    let a = c.args in
    ap (λ (x : ℕ). two_words word_labels x 0) (masked word_labels a.k a.s.low c.if-k.true)
    ∙ below-low word_labels a.s.low a.s.high (search rules) a.k (omega arith)

pub overflow_sub-result-then-k-2-2 : goal.overflow_sub-result-then-k-2-2
overflow_sub-result-then-k-2-2 c = let k = c.args.k - word_labels in omega (arith, shifted word_labels k (search rules), pow_pos k)

pub returns-then-k-2 : goal.returns-then-k-2
unfolding label_set
returns-then-k-2 c =
    let a = c.args in
    ap (two_words word_labels a.s.low) (masked word_labels (a.k - word_labels) a.s.high (omega arith))
    ∙ below-high word_labels a.s.low a.s.high (search rules) a.k c.if-k.false

pub returns-else-k-2 : goal.returns-else-k-2
unfolding label_set
returns-else-k-2 c = all-below label_count _ _ (words-lt word_labels _ _ (search rules) word_labels (search rules)) c.if-k-2.false
