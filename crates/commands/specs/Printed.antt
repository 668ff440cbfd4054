-- 01's table of commands as it is printed, with the rows of 02, items 1 and 12: a byte, then a letter for each operand and each part.
use Rattle.std.specs.Prelude.{ℕ, ◌+◌, Bool, true, false, not, cond, List, [], ◌∷◌, eqb}
use Rattle.std.proofs.Math.Option.{Option, none, some}

-- l is a label, s a signal, n the number of an exit, v litres; p and q are parts
pub data Letter : Type 0 where
  l s n v p q : Letter

pub data Printed : Type 0 where
  row : (byte : ℕ) (letters : List Letter) → Printed

abbrev pub printed : List Printed
printed =
    row 0x00 []
    ∷ row 0x01 (l ∷ [])
    ∷ row 0x02 (s ∷ [])
    ∷ row 0x03 (n ∷ [])
    ∷ row 0x04 (p ∷ q ∷ [])
    ∷ row 0x05 (p ∷ q ∷ [])
    ∷ row 0x06 (p ∷ [])
    ∷ row 0x07 (s ∷ p ∷ q ∷ [])
    ∷ row 0x08 (s ∷ p ∷ [])
    ∷ row 0x09 (p ∷ [])
    ∷ row 0x0A (l ∷ [])
    ∷ row 0x0B (s ∷ p ∷ [])
    ∷ row 0x0C (s ∷ v ∷ [])
    ∷ []

abbrev pub is_part : Letter → Bool
is_part l = false
is_part s = false
is_part n = false
is_part v = false
is_part p = true
is_part q = true

-- 01: 'operands take one byte each'; 02: litres 'in 4 bytes'
abbrev pub bytes : Letter → ℕ
bytes l = 1
bytes s = 1
bytes n = 1
bytes v = 4
bytes p = 1
bytes q = 1

-- the letters of which f says true, counted, an operand by its bytes
abbrev pub count : (Letter → Bool) → List Letter → ℕ
count f [] = 0
count f (x ∷ xs) = cond (f x) (bytes x + count f xs) (count f xs)

-- the count in the row of a byte, if the table has one
abbrev pub letters_in : (Letter → Bool) → ℕ → List Printed → Option ℕ
letters_in f b [] = none
letters_in f b (row a xs ∷ rows) = cond (eqb a b) (some (count f xs)) (letters_in f b rows)

abbrev pub operands_printed : ℕ → Option ℕ
operands_printed b = letters_in (λ x. not (is_part x)) b printed

abbrev pub parts_printed : ℕ → Option ℕ
parts_printed b = letters_in is_part b printed
