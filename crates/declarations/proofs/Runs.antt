-- What is said of both runs, whichever of them answers.
use Prim.Native.Nat.{ℕ, ◌+◌}
use mathlib.Core.Path.{◌≡◌, refl}
use mathlib.Core.Bool.{false, true≢false}
use mathlib.Core.Option.{Option}
use Rattle.spec_base.specs.Sets.{none, join, remove}
use Rattle.labels.specs.declared.Labels.{Labels}
use Rattle.labels.specs.Labels.{labels_with, Represents}
use Rattle.labels.proofs.LabelValues.{labels_of_lem}
use Rattle.spec_language.specs.Reaction.{Code, ended, waiting, leaving, wrong, is_wrong}
use Rattle.spec_language.specs.Errors.{Error}
use Rattle.reaction.specs.declared.Completion.{Completion}
use Rattle.reaction.specs.Completions.{completion_of}
use Rattle.reaction.specs.declared.Reaction.{Reaction}
use Rattle.reaction.specs.Reactions.{kept_of}

-- only a wrong completion shows the error
pub unmoved : (k : Code) (x y : Option Error) → is_wrong k ≡ false → completion_of k x ≡ completion_of k y
unmoved ended x y h = refl
unmoved waiting x y h = refl
unmoved (leaving n) x y h = refl
unmoved wrong x y h = absurd (true≢false h)

-- both runs count, and what they ask for is asked outside but s
abbrev pub Counted : (p q : Reaction) (m : ℕ) → Type 0
Counted p q m = m ≡ kept_of (1 + p.reactions + q.reactions)

abbrev pub Noted : (s : ℕ) (p q : Reaction) (a : ℕ) → Type 0
Noted s p q a = a ≡ remove s (join p.asked q.asked)

-- a wrong run that is inherited
pub inherited_made : (c : Completion) (m a : ℕ) (l : Labels) → Represents l none
    → ◌≡◌ {A = Reaction} (record { emitted = none; labels = l; completion = c; reactions = m; asked = a })
    (record { emitted = none; labels = labels_with none; completion = c; reactions = m; asked = a })
inherited_made c m a l b = rw (← labels_of_lem l b)
