-- A value of `Labels` and the set that it stands for determine each other.
use Prim.Native.Nat.{ℕ, ◌/◌, ◌%◌, ◌^◌}
use mathlib.Core.Path.{◌≡◌, sym, ap, ap₂, ◌∙◌}
use Rattle.spec_base.specs.Limits.{word_labels}
use Rattle.sets.proofs.Words.{words_of, low_fits, low_word, high_word}
use Rattle.labels.specs.declared.Labels.{Labels}
use Rattle.labels.specs.Labels.{label_set, labels_with, LowFits, Represents}

pub label_set_of : (n : ℕ) → label_set (labels_with n) ≡ n
unfolding label_set labels_with
label_set_of n = words_of word_labels n

held_of : (n : ℕ) → LowFits (labels_with n)
unfolding labels_with
held_of n = low_fits word_labels n

pub stands_of : (n : ℕ) → Represents (labels_with n) n
stands_of n = (held_of n, label_set_of n)

pub labels_of_lem : (s : Labels) {n : ℕ} → Represents s n → s ≡ labels_with n
unfolding label_set labels_with
labels_of_lem s {n} (h, e) =
    let l : s.low ≡ n % 2 ^ word_labels = sym (low_word word_labels s.low s.high h) ∙ ap (λ (x : ℕ). x % 2 ^ word_labels) e in
    let u : s.high ≡ n / 2 ^ word_labels = sym (high_word word_labels s.low s.high h) ∙ ap (λ (x : ℕ). x / 2 ^ word_labels) e in
    ap₂ (λ (a b : ℕ). record { low = a; high = b }) l u
