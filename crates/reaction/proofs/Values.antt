-- A value of the code is that of a tree.
use Prim.Native.Nat.{ℕ, ◌+◌}
use mathlib.Core.Path.{◌≡◌}
use mathlib.Core.Option.{Option, some}
use native.Mathlib.Omega.{arith}
use Rattle.spec_base.specs.Sets.{none, only, join, insert}
use Rattle.sets.proofs.Algebra.{join-none_r}
use Rattle.labels.specs.declared.Labels.{Labels}
use Rattle.labels.specs.Labels.{Represents}
use Rattle.labels.proofs.LabelValues.{labels_of_lem}
use Rattle.spec_language.specs.Statement.{nothing}
use Rattle.spec_language.specs.Reaction.{Code, wrong, gives}
use Rattle.spec_language.specs.Errors.{Error}
use Rattle.spec_language.specs.Instants as Instants
use Rattle.theory_language.specs.Traced as Traces
use Rattle.spec_language.specs.Instants.{instant}
use Rattle.theory_language.specs.InstantRules.{present_instant}
use Rattle.theory_language.specs.Traced.{traced}
use Rattle.reaction.specs.declared.Completion.{Completion}
use Rattle.reaction.specs.Completions.{completion_of}
use Rattle.reaction.specs.declared.Reaction.{Reaction}
use Rattle.reaction.specs.Reactions.{kept_of, reaction_of, failed_with, counted_around}

-- what is kept of a sum is that of what was kept of its parts
pub kept_two : (n m : ℕ) → kept_of (1 + kept_of n + kept_of m) ≡ kept_of (1 + n + m)
kept_two n m = omega arith

pub kept_one : (n : ℕ) → kept_of (1 + kept_of n) ≡ kept_of (1 + n)
kept_one n = omega arith

-- a reaction is that of its five values
module _ (k : Code) (x : Option Error) (n a y : ℕ) {o o' : ℕ} {l : Labels} {l' : ℕ} {c : Completion} {m b : ℕ} where
  pub made : o ≡ o' → Represents l l' → c ≡ completion_of k x → m ≡ kept_of n → b ≡ a
      → ◌≡◌ {A = Reaction} (record { emitted = o; labels = l; completion = c; reactions = m; asked = b })
      (reaction_of (traced (instant (gives o' k l' nothing) x n) a y))
  made h b d e f = rw (← h, ← labels_of_lem l b, ← d, ← e, ← f)

-- one that fails, whatever was taken and asked for
pub failed_made : (x : Error) (m a : ℕ) (l : Labels) → Represents l none
    → ◌≡◌ {A = Reaction} (record { emitted = none; labels = l; completion = completion_of wrong (some x); reactions = m; asked = a })
    (failed_with x m a)
failed_made x m a l b = rw (← labels_of_lem l b)

-- ---- a command that only counts, and asks for the signals b
pub around_reaction : (t : Traces.Traced) (p : Reaction) (m a b : ℕ) → p ≡ reaction_of t → m ≡ kept_of (1 + p.reactions) → a ≡ join p.asked b
    → ◌≡◌ {A = Reaction} (record { emitted = p.emitted; labels = p.labels; completion = p.completion; reactions = m; asked = a })
    (reaction_of (counted_around b t))
around_reaction (traced (instant (gives o k l t) x n) a₁ y) p m a b h e f = rw (e, f, h, kept_one n)

-- around an instant whose tree asks for a; where it asks for none itself, nothing is added
pub counts_only : (i : Instants.Instant) (a y : ℕ) → reaction_of (counted_around none (traced i a y)) ≡ reaction_of (traced (present_instant i) a y)
counts_only i a y = rw (join-none_r a)
