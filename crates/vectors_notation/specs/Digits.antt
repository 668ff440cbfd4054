-- The numbers that a line of the vectors names, by their digits.
use Rattle.std.specs.Prelude.{ℕ, zero, suc, ◌+◌, ◌*◌, ◌-◌, ◌&&◌, cond, List, get_or, eqb, leb}

-- more than any number that a line may name: what stands there is no number
abbrev pub no_number : ℕ
no_number = 0x100000000

-- what stands for no digit
abbrev pub not_a_digit : ℕ
not_a_digit = 16

-- the digit that a byte is, 0 to 9 and A to F
unfoldable pub digit_of : ℕ → ℕ
digit_of b = cond (leb 48 b && leb b 57) (b - 48) (cond (leb 65 b && leb b 70) (b - 55) not_a_digit)

-- the number that a value becomes with one digit more behind it; it has at most eight digits
unfoldable pub extended_by : (base value byte : ℕ) → ℕ
extended_by base value b = cond (leb base (digit_of b)) no_number (cond (leb 0x10000000 value) no_number (value * base + digit_of b))

-- with n digits more, which begin at i
unfoldable pub number_from : (base : ℕ) (line : List ℕ) (n i value : ℕ) → ℕ
number_from base line zero i value = value
number_from base line (suc n) i value = number_from base line n (i + 1) (extended_by base value (get_or line i 0))

-- the digits stand behind a space at `at` and before `end`, and there is one
unfoldable pub number_in : (base : ℕ) (line : List ℕ) (at end : ℕ) → ℕ
number_in base line at end =
    cond (eqb (get_or line at 0) 32) (cond (eqb (at + 1) end) no_number (number_from base line (end - (at + 1)) (at + 1) 0)) no_number
