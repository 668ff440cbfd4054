-- A search for a byte is the library's.
use Rattle.std.proofs.Common.{◌≡◌, ap, refl, ℕ, suc, ◌+◌, ◌≤◌, List, [], ◌∷◌, length, arith}
use Rattle.std.specs.Prelude.{◌==◌, nat_lt, cond, Some, None}
use Rattle.std.specs.List.{position, position_or_len}
use Rattle.std.specs.Option.{unwrap_or}
use Rattle.std.proofs.lemmas.List.Recursion.{is_position_or_len}
use Rattle.std.proofs.lemmas.Bool.Decides.{nat_tests}
use Rattle.vectors_notation.specs.Scan.{index_of}

at_most : (b : ℕ) (xs : List ℕ) → index_of b xs ≤ length xs
unfolding index_of
at_most b [] = omega arith
at_most b (x ∷ xs) = let h = at_most b xs in grind (arith, nat_tests, h)

library : (b : ℕ) (xs : List ℕ) → index_of b xs ≡ position_or_len (λ (x : ℕ). x == b) xs
unfolding index_of
library b xs = is_position_or_len (index_of b) (λ (x : ℕ). x == b) refl (λ x ys. later x (index_of b ys)) xs
  where
    later : (x n : ℕ) → cond (x == b) 0 (suc n) ≡ cond (x == b) 0 (1 + n)
    later x n = let e : suc n ≡ 1 + n = omega arith in ap (λ (k : ℕ). cond (x == b) 0 k) e

chosen : (n m : ℕ) → n ≤ m → unwrap_or (cond (nat_lt n m) (Some n) None) m ≡ n
chosen n m h = grind (arith, nat_tests)

pub found : (b : ℕ) (xs : List ℕ) → unwrap_or (position (λ (x : ℕ). x == b) xs) (length xs) ≡ index_of b xs
found b xs = rw (← library b xs) (chosen (index_of b xs) (length xs) (at_most b xs))
