-- Where a byte stands among others.
use Rattle.std.specs.Prelude.{ℕ, zero, suc, cond, List, [], ◌∷◌, eqb}

-- the place of the first such byte, or their number where there is none
unfoldable pub index_of : (b : ℕ) → List ℕ → ℕ
index_of b [] = zero
index_of b (x ∷ xs) = cond (eqb x b) zero (suc (index_of b xs))
