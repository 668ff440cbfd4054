-- The litres of a command 0C as bytes (02, item 12): 'a single-precision number in 4 bytes, lowest first', by the kit's floats.
use Rattle.std.specs.Prelude.{ℕ, ◌≤◌, ◌≡◌, refl, Bool, true, ◌&&◌, List, [], ◌∷◌, ltb, pos, Float}
use Rattle.std.proofs.Common.{arith}
use Rattle.std.specs.Float.{binary32}
use Rattle.std.specs.Float.Ieee.{of_bits, to_bits, of_int, in_unsigned, to_unsigned}
use Rattle.spec_base.specs.Limits.{litres_limit}
use Rattle.spec_base.specs.Bytes.{le_bytes, le_number}

abbrev pub amount_size : ℕ
amount_size = 4

-- n as a single-precision number in 4 bytes
abbrev pub amount_bytes : ℕ → List ℕ
amount_bytes n = le_bytes amount_size (to_bits binary32 (of_int binary32 (pos n)))

-- these bytes are a whole number of litres from 0 to 16,777,216. All others, minus zero's among them, are turned down with 18
pub record IsAmount (xs : List ℕ) : Type 0 where
  pub number : ℕ
  pub at_most : number ≤ litres_limit
  pub bytes : xs ≡ amount_bytes number

-- ---- as the reader tests it
abbrev pub float_in : List ℕ → Float
float_in xs = of_bits binary32 (le_number xs)

-- as the bytes of a slice are
abbrev pub are_bytes : List ℕ → Bool
are_bytes [] = true
are_bytes (x ∷ xs) = ltb x 256 && are_bytes xs

abbrev pub is_amount : List ℕ → Bool
is_amount xs = are_bytes xs && in_unsigned binary32 32 (float_in xs)

abbrev pub amount_in : List ℕ → ℕ
amount_in xs = to_unsigned 32 (float_in xs)

-- by hand: 16,777,216 is an amount
limit-is-amount : IsAmount (amount_bytes litres_limit)
limit-is-amount = record { number = litres_limit; at_most = omega arith; bytes = refl }
