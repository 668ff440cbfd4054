-- Sets of small numbers, for signals and for labels. A set is a number: `i` is a member if binary digit `i` is 1.
-- No width is fixed here.
use Rattle.std.specs.Prelude.{ℕ, zero, suc, ◌/◌, ◌%◌, ◌^◌, ◌≡◌, refl, Bool, true, false, List, [], ◌∷◌, eqb}
use Rattle.std.specs.Int.Bits.{bit_or, bit_and, bit_xor}

unfoldable pub member : ℕ → ℕ → Bool
member i s = eqb (s / 2 ^ i % 2) 1

unfoldable pub none : ℕ
none = 0

abbrev pub empty : ℕ → Bool
empty s = eqb s none

unfoldable pub only : ℕ → ℕ
only i = 2 ^ i

unfoldable pub join : ℕ → ℕ → ℕ
join s t = bit_or s t

-- what two sets have in common, and what the first has alone
unfoldable pub common : ℕ → ℕ → ℕ
common s t = bit_and s t

unfoldable pub difference : ℕ → ℕ → ℕ
difference s t = bit_xor s (bit_and s t)

-- ---- one number more, one less, and less those of a list
unfoldable pub insert : ℕ → ℕ → ℕ
insert i s = bit_or s (2 ^ i)

unfoldable pub remove : ℕ → ℕ → ℕ
remove i s = bit_xor s (bit_and s (2 ^ i))

unfoldable pub without : List ℕ → ℕ → ℕ
without [] s = s
without (i ∷ is) s = remove i (without is s)

-- ---- two relations, and the tests that tell them
abbrev pub Subset : ℕ → ℕ → Type 0
Subset s t = (i : ℕ) → member i s ≡ true → member i t ≡ true

unfoldable pub subset : ℕ → ℕ → Bool
subset s t = eqb (bit_and s t) s

abbrev pub Disjoint : ℕ → ℕ → Type 0
Disjoint s t = (i : ℕ) → member i s ≡ true → member i t ≡ false

unfoldable pub disjoint : ℕ → ℕ → Bool
disjoint s t = eqb (bit_and s t) none

-- ---- a set in two: the members below k, and the others
unfoldable pub below : (k s : ℕ) → ℕ
below k s = s % 2 ^ k

unfoldable pub from : (k s : ℕ) → ℕ
from k s = bit_xor s (below k s)

-- ---- the members in a list
abbrev pub keep_if : Bool → ℕ → List ℕ → List ℕ
keep_if true i is = i ∷ is
keep_if false i is = is

-- those from i on, n numbers being left; the lowest first
unfoldable pub members_from : (n i s : ℕ) → List ℕ
members_from zero i s = []
members_from (suc n) i s = keep_if (member i s) i (members_from n (suc i) s)

lowest_first : members_from 32 0 37 ≡ 0 ∷ 2 ∷ 5 ∷ []
unfolding members_from member
lowest_first = refl

-- 0 and 2 without 1 and 2
difference_by_hand : difference 5 6 ≡ 1
unfolding difference
difference_by_hand = refl
