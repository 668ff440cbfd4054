-- Bytes at an offset of a list, and bytes put in their place.
use Rattle.std.specs.Prelude.{ℕ, ◌≡◌, refl, List, [], ◌∷◌, ◌++◌, take, drop}
use Rattle.spec_base.specs.Bytes.{le_bytes}

-- the n bytes from `at` on, as far as they are there
abbrev pub slot : (at n : ℕ) → List ℕ → List ℕ
slot at n s = take n (drop at s)

-- others in their place
unfoldable pub put : (at n : ℕ) (bytes s : List ℕ) → List ℕ
put at n bytes s = take at s ++ (bytes ++ drop n (drop at s))

-- n bytes 00
unfoldable pub zeros : ℕ → List ℕ
zeros n = le_bytes n 0

-- by hand: two bytes put in the place of two, and read there
put_by_hand : (put 1 2 (9 ∷ 8 ∷ []) (0 ∷ 1 ∷ 2 ∷ 3 ∷ []) ≡ 0 ∷ 9 ∷ 8 ∷ 3 ∷ []) × (slot 1 2 (0 ∷ 9 ∷ 8 ∷ 3 ∷ []) ≡ 9 ∷ 8 ∷ [])
unfolding put
put_by_hand = (refl, refl)
