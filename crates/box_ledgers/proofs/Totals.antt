-- A farm's total as the code has it: in single precision, exact up to the limit; and sums of totals.
use Prim.Native.Nat.{ℕ, zero, suc, ◌+◌, ◌*◌, ◌/◌, ◌%◌, ◌^◌, ◌≤◌, ◌<◌}
use mathlib.Core.Path.{◌≡◌, refl, sym, ap, ap₂, ◌∙◌, subst}
use mathlib.Core.Bool.{Bool, true, false, not, cond}
use native.Mathlib.Decide.{ℕ_discrete}
use mathlib.Core.List.{List, ◌++◌}
use native.Mathlib.Omega.{arith}
use native.Mathlib.Numerals.{add-one}
use lib.ListN.{length, set, length-append}
use lib.Seq.{sets, length-sets}
use lib.IntN.{pos}
use lib.Dec.{T, ltb}
use lib.Ieee.{Float, binary32, of_bits, to_bits, of_int, add, is_nan, in_float}
use lib.Ieee as Ieee
use lib.Ieee.Bits.{of_bits-fits}
use lib.Ieee.Back.{Float-back_unsigned}
use borrow.Author.Tests.{ltb-false, lt-ltb, le-ltb}
use Rattle.sets.proofs.Booleans.{or_l, or_r, or_first, or_second}
use Rattle.spec_base.specs.Limits.{signal_count, litres_limit, farm_count}
use Rattle.spec_base.specs.Sets.{none}
use Rattle.spec_base.specs.Widths.{Lowest}
use Rattle.sets.proofs.Members.{member_lt}
use Rattle.sets.proofs.Loops.{Seeking, seek_hit}
use Rattle.spec_base.specs.Bytes.{le_bytes, number_at}
use Rattle.numbers.proofs.Bytes.{length_le_bytes}
use Rattle.numbers.proofs.Writing.{sets_append, sets-whole}
use Rattle.spec_sequence.specs.Amounts.{amount_bytes}
use Rattle.spec_base.specs.WholeLitres.{whole, litres, exact, Whole}
use Rattle.litres.proofs.Sums.{value_of, sum_is, int_is, to_float, whole_no_nan}
use Rattle.spec_bay.specs.Ledgers.{reading_length, field_in, total_in, total_float, totals_bytes, would_pass, exact_total}

pub holds : (b : Bool) → b ≡ true → T b
holds true h = tt
holds false h = absurd (let z : ◌≡◌ {A = ℕ} 0 1 = cc in omega arith)

back : (n : ℕ) → T (whole (of_bits binary32 n)) → of_bits binary32 n ≡ of_int binary32 (pos (litres (of_bits binary32 n)))
back n t = sym (Float-back_unsigned binary32 32 (of_bits binary32 n) (of_bits-fits binary32 n) t).1

pub zero-whole : T (whole (of_bits binary32 0))
unfolding Ieee.in_unsigned of_bits Ieee.whole of_int Ieee.to_unsigned
zero-whole = tt

zero_litres : litres (of_bits binary32 0) ≡ 0
unfolding Ieee.in_unsigned of_bits Ieee.whole of_int Ieee.to_unsigned
zero_litres = refl

zero_float : of_bits binary32 0 ≡ of_int binary32 (pos 0)
zero_float = back 0 zero-whole ∙ ap (λ (k : ℕ). of_int binary32 (pos k)) zero_litres

module _ (f : ℕ) (bs : List ℕ) where
  total-by : (b : Bool) → whole (field_in f bs) ≡ b → total_in f bs ≡ cond b (litres (field_in f bs)) 0
  unfolding total_in
  total-by b h = ap (λ (c : Bool). cond c (litres (field_in f bs)) 0) h

  pub total-whole : whole (field_in f bs) ≡ true → total_in f bs ≡ litres (field_in f bs)
  total-whole h = total-by true h

  pub total_most : total_in f bs ≤ litres_limit
  total_most = go (whole (field_in f bs)) refl
    where
      go : (b : Bool) → whole (field_in f bs) ≡ b → total_in f bs ≤ litres_limit
      go true h = subst (λ (n : ℕ). n ≤ litres_limit) (sym (total-by true h)) (value_of (field_in f bs) (holds (whole (field_in f bs)) h)).1
      go false h = subst (λ (n : ℕ). n ≤ litres_limit) (sym (total-by false h)) (omega arith)

  -- the bits are read
  pub read_whole : {n : ℕ} → n ≡ number_at (f * 4) 4 bs → whole (of_bits binary32 n) ≡ true → of_bits binary32 n ≡ total_float f bs
  read_whole {n} e h =
      let w : whole (field_in f bs) ≡ true = ap (λ (k : ℕ). whole (of_bits binary32 k)) (sym e) ∙ h in
      back n (holds (whole (of_bits binary32 n)) h)
      ∙ ap (λ (k : ℕ). of_int binary32 (pos (litres (of_bits binary32 k)))) e ∙ ap (λ (k : ℕ). of_int binary32 (pos k)) (sym (total-whole w))

  pub read-other : {n : ℕ} → n ≡ number_at (f * 4) 4 bs → whole (of_bits binary32 n) ≡ false → of_bits binary32 0 ≡ total_float f bs
  read-other {n} e h =
      let w : whole (field_in f bs) ≡ false = ap (λ (k : ℕ). whole (of_bits binary32 k)) (sym e) ∙ h in
      zero_float ∙ ap (λ (k : ℕ). of_int binary32 (pos k)) (sym (total-by false w))

  pub float-total : T (whole (total_float f bs)) × (litres (total_float f bs) ≡ total_in f bs)
  float-total = int_is (total_in f bs) total_most

-- ---- sums
-- n litres more, below the limit
pub float_in : (n : ℕ) → n ≤ litres_limit → T (in_float binary32 (pos n))
float_in = to_float

module _ (f : ℕ) (bs : List ℕ) (n : ℕ) (small : total_in f bs + n ≤ litres_limit) where
  pub sum-total : add binary32 (total_float f bs) (of_int binary32 (pos n)) ≡ of_int binary32 (pos (total_in f bs + n))
  sum-total =
      let x = float-total f bs in
      let y = int_is n (omega arith) in
      sum_is (total_float f bs) (of_int binary32 (pos n)) x.0 y.0
      ∙ ap₂ (λ (a b : ℕ). of_int binary32 (pos (a + b))) x.1 y.1

  -- as the code has it, from a total t
  module _ {t : Float} (e : t ≡ total_float f bs) where
    sum-is-total : add binary32 t (of_int binary32 (pos n)) ≡ of_int binary32 (pos (total_in f bs + n))
    sum-is-total = ap (λ (x : Float). add binary32 x (of_int binary32 (pos n))) e ∙ sum-total

    pub sum-no-nan : T (not (is_nan (add binary32 t (of_int binary32 (pos n)))))
    sum-no-nan = subst (λ (x : Float). T (not (is_nan x))) (sym sum-is-total) (whole_no_nan (of_int binary32 (pos (total_in f bs + n))) (int_is (total_in f bs + n) small).0)

    pub sum-bits : to_bits binary32 (add binary32 t (of_int binary32 (pos n))) ≡ to_bits binary32 (of_int binary32 (pos (total_in f bs + n)))
    sum-bits = ap (to_bits binary32) sum-is-total

pub int_no_nan : (n : ℕ) → n ≤ litres_limit → T (not (is_nan (of_int binary32 (pos n))))
int_no_nan n h = whole_no_nan (of_int binary32 (pos n)) (int_is n h).0

-- ---- the limit
module _ (t x : ℕ → ℕ) where
  pub passes-not : (n : ℕ) → would_pass n t x ≡ false → (f : ℕ) → f < n → t f + x f ≤ litres_limit
  unfolding would_pass
  passes-not zero h f l = absurd (omega arith)
  passes-not (suc n) h f l =
      elim (ℕ_discrete f n) [
        | yes e ↦ subst (λ (j : ℕ). t j + x j ≤ litres_limit) (sym e) (ltb-false litres_limit (t n + x n) (or_second (would_pass n t x) (ltb litres_limit (t n + x n)) h))
        | no e ↦ passes-not n (or_first (would_pass n t x) (ltb litres_limit (t n + x n)) h) f (omega arith)
      ]

  pub passes_none : would_pass 0 t x ≡ false
  unfolding would_pass
  passes_none = refl

  -- one farm more
  pub passes-next : (n : ℕ) → would_pass n t x ≡ false → t n + x n ≤ litres_limit → would_pass (n + 1) t x ≡ false
  unfolding would_pass
  passes-next n h l = rw (add-one n, h, le-ltb litres_limit (t n + x n) l)

  -- a farm that passes it
  pub passes_at : (n f : ℕ) → f < n → litres_limit < t f + x f → would_pass n t x ≡ true
  unfolding would_pass
  passes_at zero f h l = absurd (omega arith)
  passes_at (suc n) f h l =
      elim (ℕ_discrete f n) [
        | yes e ↦ or_r (would_pass n t x) (ltb litres_limit (t n + x n)) (lt-ltb litres_limit (t n + x n) (subst (λ (j : ℕ). litres_limit < t j + x j) e l))
        | no e ↦ or_l (would_pass n t x) (ltb litres_limit (t n + x n)) (passes_at n f (omega arith) l)
      ]

-- ---- the ledger's total
pub totals_whole : (bs : List ℕ) → Whole farm_count (λ f. total_float f bs)
totals_whole bs f h = (float-total f bs).0

pub exact-is : (bs : List ℕ) (n : ℕ) → exact n (λ f. total_float f bs) ≡ exact_total n bs
unfolding exact exact_total
exact-is bs zero = refl
exact-is bs (suc n) = ap₂ ◌+◌ (exact-is bs n) (float-total n bs).1

-- ---- the bytes of totals
pub length_totals : (n : ℕ) (t : ℕ → ℕ) → length (totals_bytes n t) ≡ n * 4
unfolding totals_bytes
length_totals zero t = refl
length_totals (suc n) t =
    length-append (totals_bytes n t) (amount_bytes (t n))
    ∙ let a = length_totals n t in let b = length_le_bytes 4 (to_bits binary32 (of_int binary32 (pos (t n)))) in omega (arith, a, b)

-- written one by one
pub totals_none : (out : List ℕ) (t : ℕ → ℕ) → out ≡ sets out 0 (totals_bytes 0 t)
unfolding totals_bytes
totals_none out t = refl

pub totals_next : (out : List ℕ) (n : ℕ) (t : ℕ → ℕ) → sets (sets out 0 (totals_bytes n t)) (n * 4) (amount_bytes (t n)) ≡ sets out 0 (totals_bytes (n + 1) t)
unfolding totals_bytes
totals_next out n t =
    let e : n * 4 ≡ length (totals_bytes n t) + 0 = let l = length_totals n t in omega (arith, l) in
    ap (λ (k : ℕ). sets (sets out 0 (totals_bytes n t)) k (amount_bytes (t n))) e
    ∙ sets_append out 0 (totals_bytes n t) (amount_bytes (t n)) ∙ ap (λ (k : ℕ). sets out 0 (totals_bytes k t)) (sym (add-one n))

pub totals_all : (out : List ℕ) (n : ℕ) (t : ℕ → ℕ) → length out ≡ n * 4 → sets out 0 (totals_bytes n t) ≡ totals_bytes n t
totals_all out n t e = sets-whole out (totals_bytes n t) (length_totals n t ∙ sym e)

-- no litres are four bytes 00
pub zero_bytes : le_bytes 4 0 ≡ amount_bytes 0
unfolding to_bits of_int
zero_bytes = refl

-- ---- a turn of the loops that write totals
pub written_next : (t : ℕ → ℕ) (k n : ℕ) (l₀ l l' : List ℕ) → length l ≡ k → l ≡ sets l₀ 0 (totals_bytes n t) → l' ≡ sets l (n * 4) (amount_bytes (t n))
    → (length l' ≡ k) × (l' ≡ sets l₀ 0 (totals_bytes (n + 1) t))
written_next t k n l₀ l l' z e h = (
  ap length h ∙ length-sets l (n * 4) (amount_bytes (t n)) ∙ z,
  h ∙ ap (λ (m : List ℕ). sets m (n * 4) (amount_bytes (t n))) e ∙ totals_next l₀ n t,
)

-- the totals and the ledger's total behind them
pub written_all : (t : ℕ → ℕ) (vs l₀ l : List ℕ) → length l₀ ≡ reading_length → length vs ≡ 4 → l ≡ sets l₀ 0 (totals_bytes farm_count t)
    → sets l 128 vs ≡ totals_bytes farm_count t ++ vs
written_all t vs l₀ l z v e =
    let a = length_totals farm_count t in
    let k : 128 ≡ length (totals_bytes farm_count t) + 0 = omega (arith, a) in
    let b = length-append (totals_bytes farm_count t) vs in
    ap (λ (m : List ℕ). sets m 128 vs) e
    ∙ ap (λ (i : ℕ). sets (sets l₀ 0 (totals_bytes farm_count t)) i vs) k
    ∙ sets_append l₀ 0 (totals_bytes farm_count t) vs
    ∙ sets-whole l₀ (totals_bytes farm_count t ++ vs) (omega (arith, a, b, z, v))

-- ---- four bytes, one by one
pub four_written : (b : List ℕ) (i x : ℕ) → x < 4294967296
    → set (set (set (set b i (x % 256)) (i + 1) (x / 256 % 256)) (i + 2) (x / 65536 % 256)) (i + 3) (x / 16777216) ≡ sets b i (le_bytes 4 x)
unfolding le_bytes
four_written b i x h =
    let one : i + 1 ≡ suc i = omega arith in
    let two : i + 2 ≡ suc (suc i) = omega arith in
    let three : i + 3 ≡ suc (suc (suc i)) = omega arith in
    let d : x / 65536 % 256 ≡ x / 256 / 256 % 256 = omega arith in
    let t : x / 16777216 ≡ x / 256 / 256 / 256 % 256 = omega arith in
    rw (one, two, three, d, t)

-- ---- the lowest farm that is left
pub farm_below : {P : ℕ → Type 0} {farms left f : ℕ} → farms < 2 ^ signal_count → Seeking P farms left → Lowest signal_count left f → (left ≡ none → ⊥) → f < farm_count
farm_below {P} {farms} {left} {f} h s low g = member_lt {w = signal_count} f h (seek_hit P farms left s signal_count f low g)

-- ---- would a farm pass the limit?
pub passes-is : (f : ℕ) (bs : List ℕ) (n : ℕ) {t : Float} → t ≡ total_float f bs → ltb litres_limit (litres t + n) ≡ ltb litres_limit (total_in f bs + n)
passes-is f bs n e = ap (λ (k : ℕ). ltb litres_limit (k + n)) (ap litres e ∙ (float-total f bs).1)

pub held_whole : (f : ℕ) (bs : List ℕ) {t : Float} → t ≡ total_float f bs → T (whole t) × (litres t ≤ litres_limit)
held_whole f bs e =
    let w = float-total f bs in
    (subst (λ (x : Float). T (whole x)) (sym e) w.0, subst (λ (n : ℕ). n ≤ litres_limit) (sym (ap litres e ∙ w.1)) (total_most f bs))
