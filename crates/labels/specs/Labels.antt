-- The set that a value of `Labels` stands for, and the value of a set.
use Rattle.std.specs.Prelude.{ℕ, ◌/◌, ◌%◌, ◌^◌, ◌<◌, ◌≡◌}
use Rattle.spec_base.specs.Limits.{word_labels}
use Rattle.spec_base.specs.Widths.{two_words}
use Rattle.labels.specs.declared.Labels.{Labels}

unfoldable pub label_set : Labels → ℕ
label_set s = two_words word_labels s.low s.high

unfoldable pub labels_with : ℕ → Labels
labels_with n = record { low = n % 2 ^ word_labels; high = n / 2 ^ word_labels }

-- the first word holds no more than it has space for, as in every value of the code
abbrev pub LowFits : Labels → Type 0
LowFits s = s.low < 2 ^ word_labels

-- s is a value of the code that stands for n
abbrev pub Represents : Labels → ℕ → Type 0
Represents s n = LowFits s × (label_set s ≡ n)
