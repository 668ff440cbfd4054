-- Which bit patterns of binary32 are whole numbers from 0 to 2 ^ 24. Assumes nothing.
use mathlib.Core.Path.{◌≡◌, refl, sym, ap, ◌∙◌, subst}
use mathlib.Core.Logic.{◌⊎◌, inl, inr}
use Prim.Native.Nat.{ℕ, zero, suc, ◌+◌, ◌-◌, ◌*◌, ◌/◌, ◌%◌, ◌^◌, ◌≤◌, ◌<◌}
use native.Mathlib.Nat.{mul-one, one-mul, mul_assoc, mul_right_comm, mul-mod_left, mod-eq_of_lt, zero-lt-suc, not-le_of_lt, lt_of_lt_of_le, le_trans, eq_of_mul-eq-mul_right, div-add-mod', div-one, add-zero, mul-le-mul_left, eq-or-lt_of_le, div-le_self}
use native.Mathlib.Omega.{arith}
use mathlib.Core.Bool.{Bool, true, false, not, ◌&&◌, cond}
use lib.IntN.{ℤ, pos}
use lib.Dec.{T, leb, ltb, eqb, leb→le, le→leb, ltb→lt, lt→ltb, nltb→le, eqb→eq, not_T, lit<, lit≤}
use lib.Pow.{pow_pos, pow-add, pow_mono, shl_exact}
use lib.Ieee.{Float, nan, inf, fin, binary32, up, down, odd, of_fields, of_bits, in_unsigned}
use lib.Ieee as Ieee
use lib.Ieee.Fits.{down_pos, and_i, and_l, eq→eqb}
use lib.Ieee.Bits.{is_true, is_false, cond_no}
use lib.Ieee.Exact.{HasValue, odd_sign}
use lib.Ieee.Nearest.{div_same}
use Rattle.spec_base.specs.WholeLitres.{whole}

-- ---- `whole` of a value known as a fraction
same_test : (b c : Bool) → (T b → T c) → (T c → T b) → b ≡ c
same_test true true h k = refl
same_test true false h k = absurd (h tt)
same_test false true h k = absurd (k tt)
same_test false false h k = refl

no_rest : (a d A L : ℕ) → 0 < d → a * L ≡ A * d → a % d ≡ 0 → A % L ≡ 0
no_rest a d A L D h z =
    let q = a / d in
    let e : q * d ≡ a = sym (add-zero (q * d)) ∙ ap (λ (r : ℕ). q * d + r) (sym z) ∙ div-add-mod' a d in
    let k : A ≡ q * L = eq_of_mul-eq-mul_right d D A (q * L) (sym h ∙ ap (λ (x : ℕ). x * L) (sym e) ∙ mul_right_comm q d L) in
    ap (λ (x : ℕ). x % L) k ∙ mul-mod_left q L

rest_test : (a d A L : ℕ) → 0 < d → 0 < L → a * L ≡ A * d → eqb (a % d) 0 ≡ eqb (A % L) 0
rest_test a d A L D P h = same_test (eqb (a % d) 0) (eqb (A % L) 0)
    (λ t. eq→eqb (no_rest a d A L D h (eqb→eq (a % d) 0 t)))
    (λ t. eq→eqb (no_rest A L a d P (sym h) (eqb→eq (A % L) 0 t)))

-- the test of a number n and of what is cut off, whether it is nothing
abbrev tested : Bool → ℕ → Bool
tested b n = b && leb n 16777216 && true && (true && ltb n 4294967296)

pub whole_is : (x : Float) (A L : ℕ) → 0 < L → HasValue x false A L → whole x ≡ tested (eqb (A % L) 0) (A / L)
unfolding in_unsigned Ieee.whole
whole_is nan A L P v = absurd v
whole_is (inf s) A L P v = absurd v
whole_is (fin true m e) A L P v = absurd (let z : true ≡ false = v.0 in let o : ◌≡◌ {A = ℕ} 0 1 = cc in omega arith)
whole_is (fin false m e) A L P v =
    ap (λ (b : Bool). tested b (m * up e / down e)) (rest_test (m * up e) (down e) A L (down_pos e) P v.1)
    ∙ ap (λ (n : ℕ). tested (eqb (A % L) 0) n) (div_same (m * up e) (down e) A L (down_pos e) P v.1)

tested_small : (b : Bool) (n : ℕ) → n ≤ 16777216 → tested b n ≡ b
tested_small false n h = refl
tested_small true n h =
    is_true (tested true n) (and_i (leb n 16777216 && true) (ltb n 4294967296) (and_i (leb n 16777216) true (le→leb n 16777216 h) tt) (lt→ltb n 4294967296 (omega arith)))

tested_large : (b : Bool) (n : ℕ) → 16777216 < n → tested b n ≡ false
tested_large false n h = refl
tested_large true n h =
    is_false (tested true n) (not_T (tested true n) (λ (t : T (tested true n)). not-le_of_lt h (leb→le n 16777216 (and_l (leb n 16777216) true (and_l (leb n 16777216 && true) (ltb n 4294967296) t)))))

-- ---- the fields of a pattern
of_bits_is : (b : ℕ) → of_bits binary32 b ≡ of_fields binary32 (leb 2147483648 b) (b % 2147483648 / 8388608) (b % 8388608)
unfolding of_bits
of_bits_is b = refl

clear : (b : ℕ) → b < 2147483648 → of_bits binary32 b ≡ of_fields binary32 false (b / 8388608) (b % 8388608)
clear b h =
    of_bits_is b
    ∙ ap (λ (s : Bool). of_fields binary32 s (b % 2147483648 / 8388608) (b % 8388608)) (is_false (leb 2147483648 b) (not_T (leb 2147483648 b) (λ (u : T (leb 2147483648 b)). not-le_of_lt h (leb→le 2147483648 b u))))
    ∙ ap (λ (x : ℕ). of_fields binary32 false (x / 8388608) (b % 8388608)) (mod-eq_of_lt h)

differ : (x : ℕ) → suc x < 255 → suc x ≡ 255 → ⊥
differ x h e = omega arith

under_ones : (t x : ℕ) → suc x < 255 → of_fields binary32 false (suc x) t ≡ odd 24 false (8388608 + t) x 149
unfolding of_fields
under_ones t x h = cond_no (eqb (suc x) 255) (cond (eqb t 0) (inf false) nan) (odd 24 false (8388608 + t) x 149) (not_T (eqb (suc x) 255) (λ (u : T (eqb (suc x) 255)). differ x h (eqb→eq (suc x) 255 u)))

at_zero : (t : ℕ) → of_fields binary32 false 0 t ≡ odd 24 false t 0 149
unfolding of_fields
at_zero t = refl

-- a / b with a common factor taken out of both
shrink : (x : Float) (a b p : ℕ) → 0 < p → HasValue x false (a * p) (b * p) → HasValue x false a b
shrink nan a b p P v = v
shrink (inf s) a b p P v = v
shrink (fin s m e) a b p P v =
    (v.0, eq_of_mul-eq-mul_right p P (m * up e * b) (a * down e) (mul_assoc (m * up e) b p ∙ v.1 ∙ mul_right_comm a p (down e)))

-- a field from 1 to 150: (2 ^ 23 + t) / 2 ^ (150 - x)
back : (x : ℕ) → x < 150 → 150 - suc x + x ≡ 149
back x h = omega arith

pub below_one : (x t : ℕ) → x < 150 → HasValue (of_fields binary32 false (suc x) t) false (8388608 + t) (2 ^ (150 - suc x))
below_one x t h =
    let q = 8388608 + t in
    let v : HasValue (of_fields binary32 false (suc x) t) false (q * 2 ^ x) (2 ^ 149) = subst (λ (z : Float). HasValue z false (q * 2 ^ x) (2 ^ 149)) (sym (under_ones t x (omega arith))) (odd_sign 24 false q x 149) in
    let e : 2 ^ 149 ≡ 2 ^ (150 - suc x) * 2 ^ x = ap (λ (z : ℕ). 2 ^ z) (sym (back x h)) ∙ pow-add 2 (150 - suc x) x in
    shrink (of_fields binary32 false (suc x) t) q (2 ^ (150 - suc x)) (2 ^ x) (pow_pos x) (subst (λ (z : ℕ). HasValue (of_fields binary32 false (suc x) t) false (q * 2 ^ x) z) e v)

-- a field above 150: (2 ^ 23 + t) * 2 ^ (x - 150)
ahead : (x : ℕ) → 149 ≤ x → x - 149 + 149 ≡ x
ahead x h = omega arith

pub above_one : (x t : ℕ) → 149 ≤ x → suc x < 255 → HasValue (of_fields binary32 false (suc x) t) false ((8388608 + t) * 2 ^ (x - 149)) 1
above_one x t h k =
    let q = 8388608 + t in
    let F = of_fields binary32 false (suc x) t in
    let v : HasValue F false (q * 2 ^ x) (2 ^ 149) = subst (λ (z : Float). HasValue z false (q * 2 ^ x) (2 ^ 149)) (sym (under_ones t x k)) (odd_sign 24 false q x 149) in
    let e : q * 2 ^ x ≡ q * 2 ^ (x - 149) * 2 ^ 149 = ap (λ (z : ℕ). q * 2 ^ z) (sym (ahead x h)) ∙ ap (λ (z : ℕ). q * z) (pow-add 2 (x - 149) 149) ∙ sym (mul_assoc q (2 ^ (x - 149)) (2 ^ 149)) in
    shrink F (q * 2 ^ (x - 149)) 1 (2 ^ 149) (pow_pos 149) (subst (λ (z : ℕ). HasValue F false (q * 2 ^ (x - 149) * 2 ^ 149) z) (sym (one-mul (2 ^ 149))) (subst (λ (z : ℕ). HasValue F false z (2 ^ 149)) e v))

-- ---- the rows of the test
eqb_no : (a b : ℕ) → (a ≡ b → ⊥) → eqb a b ≡ false
eqb_no a b h = is_false (eqb a b) (not_T (eqb a b) (λ (t : T (eqb a b)). h (eqb→eq a b t)))

-- above 0 and below 1
fraction : (x : Float) (A L : ℕ) → 0 < A → A < L → HasValue x false A L → whole x ≡ false
fraction x A L a l v =
    whole_is x A L (omega arith) v
    ∙ ap (λ (b : Bool). tested b (A / L)) (eqb_no (A % L) 0 (λ (z : A % L ≡ 0). some A (sym (mod-eq_of_lt l) ∙ z) a))
  where
    some : (n : ℕ) → n ≡ 0 → 0 < n → ⊥
    some n e h = omega arith

small_fields : (x t : ℕ) → x < 127 → t < 8388608 → 0 < x + t → whole (of_fields binary32 false x t) ≡ false
small_fields zero t h k p =
    fraction (of_fields binary32 false 0 t) (t * 2 ^ 0) (2 ^ 149) (subst (λ (z : ℕ). 0 < z) (sym (mul-one t)) (omega arith)) (subst (λ (z : ℕ). z < 2 ^ 149) (sym (mul-one t)) (lt_of_lt_of_le k (lit≤ tt)))
    (subst (λ (z : Float). HasValue z false (t * 2 ^ 0) (2 ^ 149)) (sym (at_zero t)) (odd_sign 24 false t 0 149))
small_fields (suc x) t h k p =
    fraction (of_fields binary32 false (suc x) t) (8388608 + t) (2 ^ (150 - suc x)) (omega arith) (lt_of_lt_of_le (twice t k) (pow_mono {i = 24} (omega arith))) (below_one x t (omega arith))
  where
    twice : (n : ℕ) → n < 8388608 → 8388608 + n < 16777216
    twice n l = omega arith

zero_is : whole (of_bits binary32 0) ≡ true
unfolding in_unsigned Ieee.whole of_bits
zero_is = refl

pub small : (v : ℕ) → v < 1065353216 → eqb v 0 ≡ whole (of_bits binary32 v)
small zero h = sym zero_is
small (suc v) h =
    eqb_no (suc v) 0 (λ (e : suc v ≡ 0). no_way v e)
    ∙ sym (ap (λ (z : Float). whole z) (clear (suc v) (wide (suc v) h)) ∙ small_fields (suc v / 8388608) (suc v % 8388608) (low (suc v) h) (digits (suc v)) (some v))
  where
    no_way : (n : ℕ) → suc n ≡ 0 → ⊥
    no_way n e = omega arith

    wide : (n : ℕ) → n < 1065353216 → n < 2147483648
    wide n l = omega arith

    low : (n : ℕ) → n < 1065353216 → n / 8388608 < 127
    low n l = omega arith

    digits : (n : ℕ) → n % 8388608 < 8388608
    digits n = omega arith

    some : (n : ℕ) → 0 < suc n / 8388608 + suc n % 8388608
    some n = omega arith

-- from 1 up to below 2 ^ 24
middle_fields : (x t : ℕ) → x < 150 → t < 8388608 → whole (of_fields binary32 false (suc x) t) ≡ eqb ((8388608 + t) % 2 ^ (150 - suc x)) 0
middle_fields x t h k =
    let U = 2 ^ (150 - suc x) in
    whole_is (of_fields binary32 false (suc x) t) (8388608 + t) U (pow_pos (150 - suc x)) (below_one x t h)
    ∙ tested_small (eqb ((8388608 + t) % U) 0) ((8388608 + t) / U) (le_trans (div-le_self (8388608 + t) U) (omega arith))

pub middle : (v : ℕ) → 1065353216 ≤ v → v < 1266679808 → eqb ((8388608 + v % 8388608) % 2 ^ (150 - v / 8388608)) 0 ≡ whole (of_bits binary32 v)
middle v l h =
    sym (ap (λ (z : Float). whole z) (clear v (wide v h))
    ∙ ap (λ (x : ℕ). whole (of_fields binary32 false x (v % 8388608))) (sym (next v l))
    ∙ middle_fields (v / 8388608 - 1) (v % 8388608) (low v l h) (digits v)
    ∙ ap (λ (x : ℕ). eqb ((8388608 + v % 8388608) % 2 ^ (150 - x)) 0) (next v l))
  where
    wide : (n : ℕ) → n < 1266679808 → n < 2147483648
    wide n k = omega arith

    next : (n : ℕ) → 1065353216 ≤ n → suc (n / 8388608 - 1) ≡ n / 8388608
    next n k = omega arith

    low : (n : ℕ) → 1065353216 ≤ n → n < 1266679808 → n / 8388608 - 1 < 150
    low n k j = omega arith

    digits : (n : ℕ) → n % 8388608 < 8388608
    digits n = omega arith

-- above 2 ^ 24
top_is : whole (of_bits binary32 1266679808) ≡ true
unfolding in_unsigned Ieee.whole of_bits
top_is = refl

large_value : (x : Float) (n : ℕ) → 16777216 < n → HasValue x false n 1 → whole x ≡ false
large_value x n h v = whole_is x n 1 (zero-lt-suc 0) v ∙ tested_large (eqb (n % 1) 0) (n / 1) (subst (λ (z : ℕ). 16777216 < z) (sym (div-one n)) h)

large_fields : (x t : ℕ) → 150 ≤ x → suc x < 255 → (x ≡ 150 → 0 < t) → whole (of_fields binary32 false (suc x) t) ≡ false
large_fields x t h k s = go (eq-or-lt_of_le h)
  where
    over : (n : ℕ) → 0 < n → 16777216 < (8388608 + n) * 2
    over n l = omega arith

    more : (n : ℕ) → 16777216 < (8388608 + n) * 4
    more n = omega arith

    go : (150 ≡ x) ⊎ (150 < x) → whole (of_fields binary32 false (suc x) t) ≡ false
    go (inl e) = large_value (of_fields binary32 false (suc x) t) ((8388608 + t) * 2 ^ (x - 149)) (subst (λ (z : ℕ). 16777216 < (8388608 + t) * 2 ^ (z - 149)) e (over t (s (sym e)))) (above_one x t (omega arith) k)
    go (inr l) = large_value (of_fields binary32 false (suc x) t) ((8388608 + t) * 2 ^ (x - 149)) (lt_of_lt_of_le (more t) (mul-le-mul_left (8388608 + t) (pow_mono {i = 2} (omega arith)))) (above_one x t (omega arith) k)

ones_no : (t : ℕ) → whole (of_fields binary32 false 255 t) ≡ false
unfolding of_fields in_unsigned
ones_no t = go (eqb t 0)
  where
    go : (b : Bool) → whole (cond b (inf false) nan) ≡ false
    go true = refl
    go false = refl

fin_neg : (m : ℕ) (e : ℤ) → whole (fin true m e) ≡ false
unfolding in_unsigned
fin_neg m e = go (Ieee.whole binary32 (fin true m e))
  where
    go : (b : Bool) → (b && false) ≡ false
    go true = refl
    go false = refl

odd_neg : (d q k l : ℕ) → whole (odd d true q k l) ≡ false
unfolding odd
odd_neg d zero k l = fin_neg 0 (pos 0)
odd_neg d (suc q) k l = fin_neg (suc q / 2 ^ _) _

neg_fields : (x t : ℕ) → whole (of_fields binary32 true x t) ≡ false
unfolding of_fields in_unsigned
neg_fields zero t = odd_neg 24 t 0 149
neg_fields (suc x) t = go (eqb (suc x) 255) (eqb t 0)
  where
    go : (a b : Bool) → whole (cond a (cond b (inf true) nan) (odd 24 true (8388608 + t) x 149)) ≡ false
    go true true = refl
    go true false = refl
    go false b = odd_neg 24 (8388608 + t) x 149

-- n is k, or above it
here_or_above : (k n : ℕ) → k ≤ n → (k ≡ n) ⊎ (k < n)
here_or_above k n h = eq-or-lt_of_le h

below_or_from : (n k : ℕ) → (n < k) ⊎ (k ≤ n)
below_or_from n k = go (ltb n k) (ltb→lt n k) (nltb→le n k)
  where
    go : (b : Bool) → (T b → n < k) → (T (not b) → k ≤ n) → (n < k) ⊎ (k ≤ n)
    go true f g = inl (f tt)
    go false f g = inr (g tt)

finite_no : (v : ℕ) → 1266679808 < v → v < 2139095040 → whole (of_bits binary32 v) ≡ false
finite_no v l h =
    ap (λ (z : Float). whole z) (clear v (wide v h))
    ∙ ap (λ (x : ℕ). whole (of_fields binary32 false x (v % 8388608))) (sym (next v l))
    ∙ large_fields (v / 8388608 - 1) (v % 8388608) (low v l) (high v l h) (some v l)
  where
    wide : (n : ℕ) → n < 2139095040 → n < 2147483648
    wide n k = omega arith

    next : (n : ℕ) → 1266679808 < n → suc (n / 8388608 - 1) ≡ n / 8388608
    next n k = omega arith

    low : (n : ℕ) → 1266679808 < n → 150 ≤ n / 8388608 - 1
    low n k = omega arith

    high : (n : ℕ) → 1266679808 < n → n < 2139095040 → suc (n / 8388608 - 1) < 255
    high n k j = omega arith

    some : (n : ℕ) → 1266679808 < n → n / 8388608 - 1 ≡ 150 → 0 < n % 8388608
    some n k e = omega arith

infinite_no : (v : ℕ) → 2139095040 ≤ v → v < 2147483648 → whole (of_bits binary32 v) ≡ false
infinite_no v l h =
    ap (λ (z : Float). whole z) (clear v h)
    ∙ ap (λ (x : ℕ). whole (of_fields binary32 false x (v % 8388608))) (field v l h)
    ∙ ones_no (v % 8388608)
  where
    field : (n : ℕ) → 2139095040 ≤ n → n < 2147483648 → n / 8388608 ≡ 255
    field n k j = omega arith

negative_no : (v : ℕ) → 2147483648 ≤ v → whole (of_bits binary32 v) ≡ false
negative_no v l =
    ap (λ (z : Float). whole z) (of_bits_is v ∙ ap (λ (s : Bool). of_fields binary32 s (v % 2147483648 / 8388608) (v % 8388608)) (is_true (leb 2147483648 v) (le→leb 2147483648 v l)))
    ∙ neg_fields (v % 2147483648 / 8388608) (v % 8388608)

above_no : (v : ℕ) → 1266679808 < v → whole (of_bits binary32 v) ≡ false
above_no v l = elim (below_or_from v 2139095040) [
  | inl h ↦ finite_no v l h
  | inr h ↦ elim (below_or_from v 2147483648) [ inl g ↦ infinite_no v h g | inr g ↦ negative_no v g ]
]

pub large : (v : ℕ) → 1266679808 ≤ v → eqb v 1266679808 ≡ whole (of_bits binary32 v)
large v l = go (here_or_above 1266679808 v l)
  where
    unlike : (n : ℕ) → 1266679808 < n → n ≡ 1266679808 → ⊥
    unlike n k e = omega arith

    go : (1266679808 ≡ v) ⊎ (1266679808 < v) → eqb v 1266679808 ≡ whole (of_bits binary32 v)
    go (inl e) = subst (λ (z : ℕ). eqb z 1266679808 ≡ whole (of_bits binary32 z)) e (sym top_is)
    go (inr k) = eqb_no v 1266679808 (unlike v k) ∙ sym (above_no v k)

-- ---- the unit that the code makes
pub unit_is : (v : ℕ) → 1065353216 ≤ v → 1 * 2 ^ (150 - v / 8388608) % 4294967296 ≡ 2 ^ (150 - v / 8388608)
unit_is v l = shl_exact 1 (150 - v / 8388608) 32 (lit< tt) (few v l) ∙ one-mul (2 ^ (150 - v / 8388608))
  where
    few : (n : ℕ) → 1065353216 ≤ n → 1 + (150 - n / 8388608) ≤ 32
    few n k = omega arith

pub unit_pos : (v : ℕ) → 1065353216 ≤ v → 0 < 1 * 2 ^ (150 - v / 8388608) % 4294967296
unit_pos v l = subst (λ (z : ℕ). 0 < z) (sym (unit_is v l)) (pow_pos (150 - v / 8388608))

pub middle_code : (v : ℕ) → 1065353216 ≤ v → v < 1266679808 → eqb ((8388608 + v % 8388608) % (1 * 2 ^ (150 - v / 8388608) % 4294967296)) 0 ≡ whole (of_bits binary32 v)
middle_code v l h = ap (λ (z : ℕ). eqb ((8388608 + v % 8388608) % z) 0) (unit_is v l) ∙ middle v l h

-- ---- what `whole` means: the value is a number from 0 to 2 ^ 24 (`Sums.value_of_lem` is the other way)
pub whole_from : (x : Float) (n : ℕ) → n ≤ 16777216 → HasValue x false n 1 → T (whole x)
whole_from x n h v =
    subst T
    (sym (whole_is x n 1 (zero-lt-suc 0) v ∙ tested_small (eqb (n % 1) 0) (n / 1) (subst (λ (z : ℕ). z ≤ 16777216) (sym (div-one n)) h)))
    (eq→eqb (no-left n))
  where
    no-left : (k : ℕ) → k % 1 ≡ 0
    no-left k = omega arith
