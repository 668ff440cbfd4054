-- The year's ledger of one bay number (02, item 12): a total for each farm, a single-precision number in 4 bytes, lowest first.
use Rattle.std.specs.Prelude.{ℕ, zero, suc, ◌+◌, ◌*◌, ◌<◌, ◌≡◌, Bool, true, false, ◌||◌, cond, List, [], ◌++◌, pos, eqb, ltb, Float}
use Rattle.std.proofs.lemmas.List.Edits.{sets}
use Rattle.std.specs.Float.{binary32}
use Rattle.std.specs.Float.Ieee.{of_bits, to_bits, of_int}
use Rattle.spec_base.specs.Limits.{signal_count, litres_limit, farm_count}
use Rattle.spec_base.specs.Sets.{member}
use Rattle.spec_base.specs.Bytes.{le_bytes, number_at}
use Rattle.spec_base.specs.WholeLitres.{whole, litres, ordered}
use Rattle.spec_sequence.specs.Amounts.{amount_size, amount_bytes}

abbrev pub ledger_length : ℕ
ledger_length = farm_count * amount_size

-- the totals, and the ledger's total behind them
abbrev pub reading_length : ℕ
reading_length = ledger_length + amount_size

-- ---- totals
-- what the 4 bytes of a farm hold
abbrev pub field_in : (farm : ℕ) → List ℕ → Float
field_in f bs = of_bits binary32 (number_at (f * 4) 4 bs)

-- a farm's total; bytes that are no whole number up to the limit were written by no call, and count as 0
unfoldable pub total_in : (farm : ℕ) → List ℕ → ℕ
total_in f bs = cond (whole (field_in f bs)) (litres (field_in f bs)) 0

-- the same as a single-precision number
abbrev pub total_float : (farm : ℕ) → List ℕ → Float
total_float f bs = of_int binary32 (pos (total_in f bs))

-- each total is held as the whole number that it is
abbrev pub Exact : List ℕ → Type 0
Exact bs = (f : ℕ) → f < farm_count → whole (field_in f bs) ≡ true

-- the bytes of totals t of the farms below n
unfoldable pub totals_bytes : (n : ℕ) → (t : ℕ → ℕ) → List ℕ
totals_bytes zero t = []
totals_bytes (suc n) t = totals_bytes n t ++ amount_bytes (t n)

-- 02: '0 at first and cleared only by a call for the new year'
abbrev pub cleared : List ℕ
cleared = totals_bytes farm_count (λ f. 0)

-- ---- adding the litres x of an instant
-- 19: would the exact sum of a farm's total and its litres pass the limit, for a farm below n?
unfoldable pub would_pass : (n : ℕ) → (t x : ℕ → ℕ) → Bool
would_pass zero t x = false
would_pass (suc n) t x = would_pass n t x || ltb litres_limit (t n + x n)

abbrev pub passes : List ℕ → (x : ℕ → ℕ) → Bool
passes bs x = would_pass farm_count (λ f. total_in f bs) x

-- only farms of a set have litres
abbrev pub NoneOutside : (farms : ℕ) → (x : ℕ → ℕ) → Type 0
NoneOutside farms x = (f : ℕ) → f < farm_count → member f farms ≡ false → x f ≡ 0

-- one farm's; a farm without litres keeps its bytes
abbrev pub added_to : (farm more : ℕ) → List ℕ → List ℕ
added_to f n bs = cond (eqb n 0) bs (sets bs (f * 4) (amount_bytes (total_in f bs + n)))

-- those of the farms below n, in their order
unfoldable pub added_below : (n : ℕ) → (x : ℕ → ℕ) → List ℕ → List ℕ
added_below zero x bs = bs
added_below (suc n) x bs = added_to n (x n) (added_below n x bs)

abbrev pub added : (x : ℕ → ℕ) → List ℕ → List ℕ
added x bs = added_below farm_count x bs

-- ---- reading
-- the exact sum of the farms' totals
unfoldable pub exact_total : (n : ℕ) → List ℕ → ℕ
exact_total zero bs = 0
exact_total (suc n) bs = exact_total n bs + total_in n bs

-- 02: 'The ledger's total, added over farms 0 to 31 in that order', in single precision
abbrev pub shown_total : List ℕ → Float
shown_total bs = ordered 31 (λ f. total_float f bs)

-- 02: 'the 32 totals, then the ledger's total', which is added in single precision over farms 0 to 31
abbrev pub reading_for : (t : ℕ → ℕ) → List ℕ
reading_for t = totals_bytes farm_count t ++ le_bytes amount_size (to_bits binary32 (ordered 31 (λ f. of_int binary32 (pos (t f)))))

abbrev pub reading_of : List ℕ → List ℕ
reading_of bs = reading_for (λ f. total_in f bs)

-- the ledger's total in a reading
abbrev pub total_read : List ℕ → Float
total_read reading = of_bits binary32 (number_at ledger_length amount_size reading)
