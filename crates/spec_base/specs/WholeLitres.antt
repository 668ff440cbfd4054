-- Litres as single-precision numbers, over the values of the kit's `lib.Ieee`. Definitions only.
use Rattle.std.specs.Prelude.{ℕ, zero, suc, ◌+◌, ◌*◌, ◌≤◌, ◌<◌, ◌≡◌, refl, Bool, true, false, T, pos, Float}
use Rattle.std.proofs.Common.{true≢false, arith}
use Rattle.std.specs.Float.{nan, inf, fin, binary32}
use Rattle.std.specs.Float.Ieee.{up, down, in_unsigned, to_unsigned, add}

-- x is a whole number from 0 to 2 ^ 24, and not minus zero
abbrev pub whole : Float → Bool
whole x = in_unsigned binary32 32 x

-- the number that it is
abbrev pub litres : Float → ℕ
litres x = to_unsigned 32 x

-- the exact sum of the first n of some totals
unfoldable pub exact : ℕ → (ℕ → Float) → ℕ
exact zero f = 0
exact (suc n) f = exact n f + litres (f n)

-- the sum in single precision of the totals 0 to n, each added in its turn
unfoldable pub ordered : ℕ → (ℕ → Float) → Float
ordered zero f = f 0
ordered (suc n) f = add binary32 (ordered n f) (f (suc n))

-- the first n of them are whole
abbrev pub Whole : ℕ → (ℕ → Float) → Type 0
Whole n f = (i : ℕ) → i < n → T (whole (f i))

-- x is the whole number n: finite, with no minus sign and no fraction. A finite x is m times 2 to the power e, which is m * up e / down e
abbrev pub IsNumber : Float → (n : ℕ) → Type 0
IsNumber nan n = ⊥
IsNumber (inf minus) n = ⊥
IsNumber (fin minus m e) n = (minus ≡ false) × (m * up e ≡ n * down e)

-- x 'lies within' k litres of n: it is a whole number, at most k above n and at most k below it
pub record Near (k : ℕ) (x : Float) (n : ℕ) : Type 0 where
  pub number : ℕ
  pub is_number : IsNumber x number
  pub not_above : number ≤ n + k
  pub not_below : n ≤ number + k

-- by hand: 5 is a whole number, and 'lies within' 1 of 4; minus zero is none
five : IsNumber (fin false 5 (pos 0)) 5
five = (refl, refl)

five_near_four : Near 1 (fin false 5 (pos 0)) 4
five_near_four = record { number = 5; is_number = five; not_above = omega arith; not_below = omega arith }

minus_zero : ¬ IsNumber (fin true 0 (pos 0)) 0
minus_zero h = true≢false h.0
