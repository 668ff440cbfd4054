-- A whole number of litres up to the limit and its 4 bytes: each is read from the other.
use Prim.Native.Nat.{ℕ, zero, suc, ◌+◌, ◌*◌, ◌/◌, ◌%◌, ◌^◌, ◌≤◌, ◌<◌}
use mathlib.Core.Path.{◌≡◌, refl, sym, ap, ◌∙◌}
use mathlib.Core.Logic.{◌↔◌}
use mathlib.Core.Bool.{Bool, true, false, not, and-eq-true_iff}
use mathlib.Core.List.{List, [], ◌∷◌}
use native.Mathlib.Nat.{pow-suc}
use native.Mathlib.Omega.{arith}
use lib.ListN.{length}
use lib.IntN.{pos}
use lib.Dec.{T, ltb, leb}
use lib.Ieee.{Float, nan, inf, fin, binary32, of_bits, to_bits, of_int, in_unsigned, in_float, is_nan}
use lib.Ieee.Bits.{is_true, of_bits-to_bits, to_bits-lt, to_bits-of_bits, of_bits-fits}
use lib.Ieee.Fits.{of_int-fits}
use lib.Ieee.Back.{unsigned_back, Float-back_unsigned}
use borrow.Author.Tests.{ltb-true, lt-ltb, le-leb, leb-true}
use Rattle.spec_base.specs.Limits.{litres_limit}
use Rattle.spec_base.specs.Bytes.{le_bytes, le_number}
use Rattle.numbers.proofs.Bytes.{le_round_trip}
use Rattle.spec_sequence.specs.Amounts.{amount_size, float_in, are_bytes, IsAmount, is_amount, amount_in, amount_bytes}

holds : (b : Bool) → b ≡ true → T b
holds true h = tt
holds false h = absurd (let z : ◌≡◌ {A = ℕ} 0 1 = cc in omega arith)

-- ---- written, then read
pattern : (n : ℕ) → le_number (amount_bytes n) ≡ to_bits binary32 (of_int binary32 (pos n))
pattern n = le_round_trip 4 (to_bits binary32 (of_int binary32 (pos n))) (to_bits-lt binary32 (of_int binary32 (pos n)) (of_int-fits binary32 (pos n)))

pub float_written : (n : ℕ) → float_in (amount_bytes n) ≡ of_int binary32 (pos n)
float_written n = ap (of_bits binary32) (pattern n) ∙ of_bits-to_bits binary32 (of_int binary32 (pos n)) (of_int-fits binary32 (pos n))

in-float : (n : ℕ) → n ≤ litres_limit → T (in_float binary32 (pos n))
unfolding in_float
in-float n h = holds (leb n 16777216) (le-leb n 16777216 h)

bytes_written : (k x : ℕ) → are_bytes (le_bytes k x) ≡ true
unfolding le_bytes
bytes_written zero x = refl
bytes_written (suc k) x = rw (lt-ltb (x % 256) 256 (omega arith), bytes_written k (x / 256))

pub amount-written : (n : ℕ) → n ≤ litres_limit → (is_amount (amount_bytes n) ≡ true) × (amount_in (amount_bytes n) ≡ n)
amount-written n h =
    let b = unsigned_back binary32 32 n (in-float n h) (omega arith) in (
      rw (bytes_written 4 (to_bits binary32 (of_int binary32 (pos n))), float_written n) (is_true (in_unsigned binary32 32 (of_int binary32 (pos n))) b.0),
      rw (float_written n) b.1,
    )

-- ---- read, then written
below_all : (xs : List ℕ) → are_bytes xs ≡ true → le_number xs < 256 ^ length xs
unfolding le_number
below_all [] h = omega arith
below_all (x ∷ xs) h =
    let r = (and-eq-true_iff (ltb x 256) (are_bytes xs)).0 h in
    let l = ltb-true x 256 r.0 in
    let m = below_all xs r.1 in
    let g : x + 256 * le_number xs < 256 ^ length xs * 256 = omega arith in
    rw (pow-suc 256 (length xs)) g

bytes_back : (xs : List ℕ) → are_bytes xs ≡ true → le_bytes (length xs) (le_number xs) ≡ xs
unfolding le_bytes le_number
bytes_back [] h = refl
bytes_back (x ∷ xs) h =
    let r = (and-eq-true_iff (ltb x 256) (are_bytes xs)).0 h in
    let l = ltb-true x 256 r.0 in
    let n = le_number xs in
    let i : (x + 256 * n) % 256 ≡ x = omega arith in
    let j : (x + 256 * n) / 256 ≡ n = omega arith in
    rw (i, j) (ap (λ (t : List ℕ). x ∷ t) (bytes_back xs r.1))

not-nan : (w : ℕ) (x : Float) → T (in_unsigned binary32 w x) → T (not (is_nan x))
unfolding in_unsigned is_nan
not-nan w nan h = absurd h
not-nan w (inf s) h = absurd h
not-nan w (fin s m e) h = tt

pub amount-read : (xs : List ℕ) → length xs ≡ amount_size → is_amount xs ≡ true → (amount_in xs ≤ litres_limit) × (amount_bytes (amount_in xs) ≡ xs)
amount-read xs n h =
    let r = (and-eq-true_iff (are_bytes xs) (in_unsigned binary32 32 (float_in xs))).0 h in
    let u : T (in_unsigned binary32 32 (float_in xs)) = holds (in_unsigned binary32 32 (float_in xs)) r.1 in
    let b = Float-back_unsigned binary32 32 (float_in xs) (of_bits-fits binary32 (le_number xs)) u in
    let m : le_number xs < 256 ^ 4 = rw n at (below_all xs r.0) in
    let back : to_bits binary32 (float_in xs) ≡ le_number xs = to_bits-of_bits binary32 (le_number xs) m (not-nan 32 (float_in xs) u) in (
      most (amount_in xs) b.0,
      ap (le_bytes 4) (ap (to_bits binary32) b.1 ∙ back) ∙ ap (λ (k : ℕ). le_bytes k (le_number xs)) (sym n) ∙ bytes_back xs r.0,
    )
  where
    most : (k : ℕ) → T (in_float binary32 (pos k)) → k ≤ litres_limit
    most k t = unfold in_float in leb-true k 16777216 (is_true (leb k 16777216) t)

-- TAKEN: the reader's test is that the bytes are a whole number of litres up to the limit
pub amount-passes : (xs : List ℕ) → IsAmount xs → is_amount xs ≡ true
amount-passes xs a = ap is_amount a.bytes ∙ (amount-written a.number a.at_most).0

pub litres_taken : (xs : List ℕ) → length xs ≡ amount_size → (is_amount xs ≡ true) ↔ IsAmount xs
litres_taken xs l = (λ h. let r = amount-read xs l h in record { number = amount_in xs; at_most = r.0; bytes = sym r.1 }, amount-passes xs)

-- and the number read is that one
pub litres_read : (xs : List ℕ) (a : IsAmount xs) → (amount_in xs ≡ a.number) × (float_in xs ≡ of_int binary32 (pos a.number))
litres_read xs a = (ap amount_in a.bytes ∙ (amount-written a.number a.at_most).1, ap float_in a.bytes ∙ float_written a.number)
