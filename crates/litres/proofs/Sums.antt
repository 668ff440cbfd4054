-- Sums of whole single-precision numbers. Assumes nothing.
use mathlib.Core.Path.{◌≡◌, refl, sym, ap, ◌∙◌, subst}
use Prim.Native.Nat.{ℕ, zero, suc, ◌+◌, ◌-◌, ◌*◌, ◌/◌, ◌%◌, ◌^◌, ◌≤◌, ◌<◌}
use native.Mathlib.Nat.{mul-one, mul_comm, mul_assoc, mul_left_comm, add-mul, mul-pos, zero-lt-suc, add-zero, zero-add, div-add-mod'}
use native.Mathlib.Omega.{arith}
use native.Mathlib.Numerals.{add-one}
use mathlib.Core.Bool.{Bool, true, false, not, ◌&&◌}
use lib.IntN.{pos}
use lib.Dec.{T, leb, ltb, eqb, eqb→eq, leb→le, le→leb, lit<, lit≤}
use lib.Ieee.{Float, nan, inf, fin, Format, binary32, up, down, round, sum, add, of_int, in_unsigned, in_float, is_nan, nan_bits, of_bits, to_bits}
use lib.Ieee.Bits.{nan_bits_is, of_bits-to_bits}
use lib.Ieee.Fits.{add-fits, down_pos, and_l, and_r}
use lib.Ieee.Exact.{HasValue}
use lib.Ieee.Back.{unsigned_back}
use lib.Ieee.Casts.{to_unsigned_cut}
use lib.Ieee as Ieee
use lib.Ieee.Scale.{round_same}
use Rattle.litres.proofs.Rounding.{rounded}
use Rattle.spec_base.specs.WholeLitres.{whole, litres, exact, ordered, Whole, IsNumber, Near}

-- ---- the sum of two whole numbers is their exact sum, rounded
cross : (m u d n v e a b : ℕ) → m * u * 1 ≡ a * d → n * v * 1 ≡ b * e → (m * u * e + n * v * d) * 1 ≡ (a + b) * (d * e)
cross m u d n v e a b h k =
    let h' : m * u ≡ a * d = sym (mul-one (m * u)) ∙ h in
    let k' : n * v ≡ b * e = sym (mul-one (n * v)) ∙ k in
    mul-one (m * u * e + n * v * d)
    ∙ ap (λ (x : ℕ). x * e + n * v * d) h'
    ∙ ap (λ (x : ℕ). a * d * e + x * d) k'
    ∙ simp (add-mul, mul_assoc, mul_comm, mul_left_comm)

pub add-whole : (f : Format) (x y : Float) (a b : ℕ) → HasValue x false a 1 → HasValue y false b 1 → add f x y ≡ round f false (a + b) 1
unfolding add sum
add-whole f nan y a b v w = absurd v
add-whole f (inf s) y a b v w = absurd v
add-whole f (fin s m e) nan a b v w = absurd w
add-whole f (fin s m e) (inf t) a b v w = absurd w
add-whole f (fin true m e) (fin t n d) a b v w = absurd (let z : true ≡ false = v.0 in let o : ◌≡◌ {A = ℕ} 0 1 = cc in omega arith)
add-whole f (fin false m e) (fin true n d) a b v w = absurd (let z : true ≡ false = w.0 in let o : ◌≡◌ {A = ℕ} 0 1 = cc in omega arith)
add-whole f (fin false m e) (fin false n d) a b v w =
    round_same f false (m * up e * down d + n * up d * down e) (down e * down d) (a + b) 1 (mul-pos (down_pos e) (down_pos d)) (zero-lt-suc 0) (cross m (up e) (down e) n (up d) (down d) a b v.1 w.1)

-- ---- a whole number's value
pub to_float : (n : ℕ) → n ≤ 2 ^ 24 → T (in_float binary32 (pos n))
unfolding in_float
to_float n h = le→leb n (2 ^ 24) h

-- what `whole` says of a number: that it is one, with nothing cut off
pub value_of : (x : Float) → T (whole x) → HasValue x false (litres x) 1 × (litres x ≤ 16777216)
unfolding in_unsigned Ieee.whole
value_of nan t = absurd t
value_of (inf s) t = absurd t
value_of (fin true m e) t = absurd (and_r (Ieee.whole binary32 (fin true m e)) false t)
value_of (fin false m e) t =
    let n = m * up e / down e in
    let A = eqb (m * up e % down e) 0 in
    let B = leb n 16777216 in
    let w : T (A && B) = and_l (A && B) true (and_l (A && B && true) (true && ltb n 4294967296) t) in
    let c : litres (fin false m e) ≡ n = to_unsigned_cut binary32 32 false m e t in
    let z : m * up e % down e ≡ 0 = eqb→eq (m * up e % down e) 0 (and_l A B w) in
    let q : m * up e ≡ n * down e = sym (sym (add-zero (n * down e)) ∙ ap (λ (r : ℕ). n * down e + r) (sym z) ∙ div-add-mod' (m * up e) (down e)) in
    ((refl, mul-one (m * up e) ∙ q ∙ ap (λ (y : ℕ). y * down e) (sym c)), subst (λ (y : ℕ). y ≤ 16777216) (sym c) (leb→le n 16777216 (and_r A B w)))

round-is_int : (n : ℕ) → round binary32 false n 1 ≡ of_int binary32 (pos n)
unfolding of_int
round-is_int n = refl

pub sum_is : (x y : Float) → T (whole x) → T (whole y) → add binary32 x y ≡ of_int binary32 (pos (litres x + litres y))
sum_is x y t u = add-whole binary32 x y (litres x) (litres y) (value_of x t).0 (value_of y u).0 ∙ round-is_int (litres x + litres y)

narrow : (n : ℕ) → n ≤ 16777216 → n < 4294967296
narrow n h = omega arith

pub int_is : (n : ℕ) → n ≤ 16777216 → T (whole (of_int binary32 (pos n))) × (litres (of_int binary32 (pos n)) ≡ n)
int_is n h = unsigned_back binary32 32 n (to_float n h) (narrow n h)

pub sum-exact : (x y : Float) → T (whole x) → T (whole y) → litres x + litres y ≤ 16777216
    → T (whole (add binary32 x y)) × (litres (add binary32 x y) ≡ litres x + litres y)
sum-exact x y t u h =
    subst (λ (z : Float). T (whole z) × (litres z ≡ litres x + litres y)) (sym (sum_is x y t u)) (int_is (litres x + litres y) h)

-- ---- the running sum of the first i totals
abbrev pub Running : Float → ℕ → ℕ → Type 0
Running t i S = (R : ℕ) × HasValue t false R 1 × (R ≤ i * 16777216) × (R ≤ S + 16 * (i - 1)) × (S ≤ R + 16 * (i - 1))

pub first : (x : Float) → T (whole x) → Running x 1 (litres x)
first x t = let v = value_of x t in (litres x, v.0, omega arith, omega arith, omega arith)

pub step : (t x : Float) (i S : ℕ) → 0 < i → i < 32 → Running t i S → T (whole x) → Running (add binary32 t x) (suc i) (S + litres x)
step t x i S p h r w =
    let v = value_of x w in
    let X = litres x in
    let R = r.0 in
    let z = rounded (R + X) (omega (arith, r.2, v.1)) in
    let m : z.0 ≤ suc i * 16777216 = z.4 (suc i) (omega (arith, r.2, v.1)) in (
      z.0,
      subst (λ (y : Float). HasValue y false z.0 1) (sym (add-whole binary32 t x R X r.1 v.0)) z.1,
      m,
      omega (arith, r.3, r.4, z.2, z.3),
      omega (arith, r.3, r.4, z.2, z.3),
    )

pub is_number : (x : Float) (n : ℕ) → HasValue x false n 1 → IsNumber x n
is_number nan n v = v
is_number (inf s) n v = v
is_number (fin s m e) n v = (v.0, sym (mul-one (m * up e)) ∙ v.1)

pub last : (t : Float) (S : ℕ) → Running t 32 S → Near 496 t S
last t S r = record { number = r.0; is_number = is_number t r.0 r.1; not_above = r.3; not_below = r.4 }

-- the same with the totals numbered
abbrev pub Added : (ℕ → Float) → Float → ℕ → Type 0
Added f t i = (0 < i) × (i ≤ 32) × Running t i (exact i f) × (t ≡ ordered (i - 1) f)

pub added-first : (f : ℕ → Float) → Whole 32 f → Added f (f 0) 1
unfolding exact ordered
added-first f w = (zero-lt-suc 0, lit≤ tt, subst (λ (n : ℕ). Running (f 0) 1 n) (sym (zero-add (litres (f 0)))) (first (f 0) (w 0 (lit< tt))), refl)

ordered_next : (f : ℕ → Float) (i : ℕ) → 0 < i → add binary32 (ordered (i - 1) f) (f i) ≡ ordered i f
unfolding ordered
ordered_next f zero p = absurd (omega arith)
ordered_next f (suc k) p = let e : suc k - 1 ≡ k = omega arith in ap (λ (n : ℕ). add binary32 (ordered n f) (f (suc k))) e

pub added_next : (f : ℕ → Float) (t : Float) (i : ℕ) → Whole 32 f → i < 32 → Added f t i → Added f (add binary32 t (f i)) (i + 1)
unfolding exact
added_next f t i w h a =
    let e : i ≡ suc i - 1 = omega arith in
    subst (λ (n : ℕ). Added f (add binary32 t (f i)) n) (sym (add-one i))
    (zero-lt-suc i, h, step t (f i) i (exact i f) a.0 h a.2 (w i h), ap (λ (x : Float). add binary32 x (f i)) a.3 ∙ ordered_next f i a.0 ∙ ap (λ (n : ℕ). ordered n f) e)

pub added-all : (f : ℕ → Float) (t : Float) (i : ℕ) → 32 ≤ i → Added f t i → (t ≡ ordered 31 f) × Near 496 t (exact 32 f)
added-all f t i h a =
    let e : i ≡ 32 = omega arith in
    (subst (λ (n : ℕ). t ≡ ordered (n - 1) f) e a.3, last t (exact 32 f) (subst (λ (n : ℕ). Running t n (exact n f)) e a.2))

-- ---- what a conversion asks, and what it gives
no_nan : (x : Float) (s : Bool) (a c : ℕ) → HasValue x s a c → T (not (is_nan x))
unfolding is_nan
no_nan nan s a c v = absurd v
no_nan (inf t) s a c v = tt
no_nan (fin t m e) s a c v = tt

pub whole_no_nan : (x : Float) → T (whole x) → T (not (is_nan x))
whole_no_nan x t = no_nan x false (litres x) 1 (value_of x t).0

pub added_no_nan : (f : ℕ → Float) (t : Float) (i : ℕ) → Added f t i → T (not (is_nan t))
added_no_nan f t i a = no_nan t false a.2.0 1 a.2.1

pub whole_pattern : (v : ℕ) → T (whole (of_bits binary32 v)) → T (not (nan_bits binary32 v))
whole_pattern v t = subst (λ (b : Bool). T (not b)) (sym (nan_bits_is binary32 v)) (whole_no_nan (of_bits binary32 v) t)

-- a sum with an integer
pub plus_exact : (x : Float) (n : ℕ) → T (whole x) → litres x + n ≤ 16777216
    → T (whole (add binary32 x (of_int binary32 (pos n)))) × (litres (add binary32 x (of_int binary32 (pos n))) ≡ litres x + n)
plus_exact x n t h =
    let y = of_int binary32 (pos n) in
    let k = int_is n (omega arith) in
    let g : litres x + litres y ≡ litres x + n = ap (λ (z : ℕ). litres x + z) k.1 in
    let s = sum-exact x y t k.0 (subst (λ (z : ℕ). z ≤ 16777216) (sym g) h) in
    (s.0, s.1 ∙ g)

pub plus_bits : (x : Float) (n : ℕ) → T (whole x) → litres x + n ≤ 16777216
    → T (whole (of_bits binary32 (to_bits binary32 (add binary32 x (of_int binary32 (pos n)))))) × (litres (of_bits binary32 (to_bits binary32 (add binary32 x (of_int binary32 (pos n))))) ≡ litres x + n)
plus_bits x n t h =
    subst (λ (z : Float). T (whole z) × (litres z ≡ litres x + n)) (sym (of_bits-to_bits binary32 (add binary32 x (of_int binary32 (pos n))) (add-fits binary32 x (of_int binary32 (pos n))))) (plus_exact x n t h)
