-- Facts on tests, beside those of mathlib.Core.Bool.
use mathlib.Core.Path.{◌≡◌, refl, sym, ◌∙◌}
use mathlib.Core.Logic.{◌⊎◌, inl, inr, ◌↔◌}
use mathlib.Core.Bool.{Bool, true, false, ◌&&◌, ◌||◌, true≢false, false≢true}

pub or_l : (a b : Bool) → a ≡ true → (a || b) ≡ true
or_l a b h = rw h

pub or_r : (a b : Bool) → b ≡ true → (a || b) ≡ true
or_r true b h = refl
or_r false b h = h

pub or_cases : (a b : Bool) → (a || b) ≡ true → (a ≡ true) ⊎ (b ≡ true)
or_cases true b h = inl refl
or_cases false b h = inr h

pub or_first : (a b : Bool) → (a || b) ≡ false → a ≡ false
or_first true b h = h
or_first false b h = refl

pub or_second : (a b : Bool) → (a || b) ≡ false → b ≡ false
or_second true b h = absurd (true≢false h)
or_second false b h = h

pub never : (b : Bool) → (b ≡ true → ⊥) → b ≡ false
never true h = absurd (h refl)
never false h = refl

pub clash {ℓ} : {A : Type ℓ} (b : Bool) → b ≡ true → b ≡ false → A
clash b h k = absurd (true≢false (sym h ∙ k))

-- a case on a test, with its equation
pub data Tested (b : Bool) : Type 0 where
  yes : b ≡ true → Tested b
  no : b ≡ false → Tested b

pub tested : (b : Bool) → Tested b
tested true = Tested.yes refl
tested false = Tested.no refl

-- two tests that are true together are one
pub same_test : (a b : Bool) → (a ≡ true → b ≡ true) → (b ≡ true → a ≡ true) → a ≡ b
same_test true b f g = sym (f refl)
same_test false true f g = g refl
same_test false false f g = refl

-- ---- one test against another
pub implies_is : (a b : Bool) → (a ≡ true → b ≡ true) ↔ ((a && b) ≡ a)
implies_is true b = (λ h. h refl, λ e k. e)
implies_is false b = (λ h. refl, λ e k. absurd (false≢true k))

pub apart_is : (a b : Bool) → (a ≡ true → b ≡ false) ↔ ((a && b) ≡ false)
apart_is true b = (λ h. h refl, λ e k. e)
apart_is false b = (λ h. refl, λ e k. absurd (false≢true k))
