-- The subsets of a set, each once, as numbers from the greatest down to the empty set's.
use Rattle.std.specs.Prelude.{ℕ, zero, suc, ◌-◌, ◌<◌, ◌≡◌, refl, cond, eqb}
use mathlib.Core.List.{List, [], ◌∷◌, Memᴰ}
use Rattle.spec_base.specs.Sets.{common}

-- the greatest subset of u below f
abbrev pub next_subset : (f u : ℕ) → ℕ
next_subset f u = common (f - 1) u

-- those below f, at most n of them
unfoldable pub subsets_below : (n f u : ℕ) → List ℕ
subsets_below zero f u = []
subsets_below (suc n) f u = cond (eqb f 0) [] (next_subset f u ∷ subsets_below n (next_subset f u) u)

abbrev pub subsets_of : (u : ℕ) → List ℕ
subsets_of u = u ∷ subsets_below u u u

-- by hand: of the set of 0 and 2, then 2 alone, 0 alone and none
example : subsets_of 5 ≡ 5 ∷ 4 ∷ 1 ∷ 0 ∷ []
unfolding subsets_below common
example = refl

-- each number of a list is above those behind it, so it stands there once
abbrev pub Falls : List ℕ → Type 0
Falls [] = Unit {0}
Falls (f ∷ fs) = ((g : ℕ) → Memᴰ g fs → g < f) × Falls fs
