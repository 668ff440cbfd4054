-- Sets of numbers below a width w, the least member of one, and a set held in two words.
use Rattle.std.specs.Prelude.{ℕ, ◌+◌, ◌*◌, ◌-◌, ◌^◌, ◌<◌, ◌≡◌, refl, true, false, cond, List, get_or, ltb}
use Rattle.spec_base.specs.Limits.{word_labels}
use Rattle.spec_base.specs.Sets.{member, none, only, insert, difference}

-- a set of numbers below w has no other member
abbrev pub only_below : (w i : ℕ) → ℕ
only_below w i = cond (ltb i w) (only i) none

abbrev pub insert_below : (w i s : ℕ) → ℕ
insert_below w i s = cond (ltb i w) (insert i s) s

unfoldable pub all_below : (w : ℕ) → ℕ
all_below w = 2 ^ w - 1

-- the numbers below w that a set has not
abbrev pub complement : (w s : ℕ) → ℕ
complement w s = difference (all_below w) s

-- i is the least member of s, or w if s is empty
pub record Lowest (w s i : ℕ) : Type 0 where
  pub found : (s ≡ none → ⊥) → member i s ≡ true
  pub least : (j : ℕ) → j < i → member j s ≡ false
  pub absent : s ≡ none → i ≡ w

-- the set held in two words: the members below w, in a first word below 2 ^ w, and those from w on moved down by w
unfoldable pub two_words : (w low high : ℕ) → ℕ
two_words w low high = high * 2 ^ w + low

-- the set in the two words of a list that begin at `at`
abbrev pub set_at : (at : ℕ) → List ℕ → ℕ
set_at at words = two_words word_labels (get_or words at 0) (get_or words (at + 1) 0)

-- by hand: below 3 there are 0, 1 and 2; the set of 0 and 2 has not 1
widths : (all_below 3 ≡ 7) × (complement 3 5 ≡ 2) × (two_words 2 1 3 ≡ 13)
unfolding all_below difference two_words
widths = (refl, refl, refl)
