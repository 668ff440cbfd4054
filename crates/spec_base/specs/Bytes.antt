-- Numbers as bytes, lowest first, for any number of bytes, and a buffer that bytes are written to.
use Rattle.std.specs.Prelude.{ℕ, zero, suc, ◌+◌, ◌*◌, ◌/◌, ◌%◌, cond, List, [], ◌∷◌, length, take, drop, eqb, leb}

-- the n lowest bytes of x
unfoldable pub le_bytes : (n x : ℕ) → List ℕ
le_bytes zero x = []
le_bytes (suc n) x = x % 256 ∷ le_bytes n (x / 256)

-- the number that the bytes are
unfoldable pub le_number : List ℕ → ℕ
le_number [] = 0
le_number (b ∷ bs) = b + 256 * le_number bs

-- the number of n bytes from `at` on, of those that are there; a number of the code has at most eight
abbrev pub at_most8 : ℕ → ℕ
at_most8 n = cond (leb n 8) n 8

abbrev pub number_at : (at n : ℕ) → List ℕ → ℕ
number_at at n bs = le_number (take (at_most8 n) (drop at bs))

-- a buffer that a record is written to; one of another length is left
abbrev pub replaced : (buffer bytes : List ℕ) → List ℕ
replaced buffer bytes = cond (eqb (length buffer) (length bytes)) bytes buffer
