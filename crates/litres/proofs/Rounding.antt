-- A whole number up to 2 ^ 29, rounded to single precision, is off by at most 16, and does not pass a multiple of 2 ^ 24 that it does not pass itself. Assumes nothing.
use mathlib.Core.Path.{◌≡◌, refl, sym, ap, ◌∙◌, subst}
use mathlib.Core.Logic.{◌⊎◌, inl, inr}
use Prim.Native.Nat.{ℕ, zero, suc, ◌+◌, ◌-◌, ◌*◌, ◌/◌, ◌%◌, ◌^◌, ◌≤◌, ◌<◌, compare, Ordering}
use native.Mathlib.Nat.{one-mul, mul_comm, mul_assoc, mul_right_comm, mul-pos, zero-lt-suc, not-le_of_lt, lt_of_lt_of_le, le_of_eq, eq_of_mul-eq-mul_right, div-add-mod', div-one, mod-lt, mul-le-mul_right, eq-or-lt_of_le, suc-mul, add-zero, le_of_lt, le_of_suc-le-suc, lt_of_mul-lt-mul_right, pow-succ', lt_of_not-le}
use native.Mathlib.Omega.{arith}
use mathlib.Core.Bool.{Bool, true, false, not}
use lib.Dec.{T, is_le, compare_is_eq, ltb, eqb, leb→le, nleb→lt, ltb→lt, nltb→le, eqb→eq, eqb_refl, lit<, lit≤}
use lib.Arith.{lt_of_le-ne}
use lib.Pow.{pow_pos, pow-add, pow_mono, shl_lt}
use lib.Ieee.{Float, nan, inf, fin, binary32, up, down, size, nearest, round}
use lib.Ieee.Digits.{size-lt, size-le}
use lib.Ieee.Exact.{HasValue, round_exact}
use lib.Ieee.Nearest.{closest, closest_same}
use lib.Ieee.Scale.{grid, overflow, round_val}
use lib.Ieee.Back.{round_whole}

below_or_from : (n k : ℕ) → (n < k) ⊎ (k ≤ n)
below_or_from n k = go (ltb n k) (ltb→lt n k) (nltb→le n k)
  where
    go : (b : Bool) → (T b → n < k) → (T (not b) → k ≤ n) → (n < k) ⊎ (k ≤ n)
    go true f g = inl (f tt)
    go false f g = inr (g tt)

-- ---- a / b to the nearest whole number is off by at most half of b
abbrev Cmp : Ordering → ℕ → ℕ → Type 0
Cmp Ordering.lt a b = a < b
Cmp Ordering.eq a b = a ≡ b
Cmp Ordering.gt a b = b < a

cmp : (a b : ℕ) → Cmp (compare a b) a b
cmp a b = go (compare a b) (leb→le a b) (nleb→lt a b) (eqb→eq a b) (λ (e : a ≡ b). subst (λ (x : ℕ). T (eqb a x)) e (eqb_refl a))
  where
    go : (o : Ordering) → (T (is_le o) → a ≤ b) → (T (not (is_le o)) → b < a) → (T (compare_is_eq o) → a ≡ b) → (a ≡ b → T (compare_is_eq o)) → Cmp o a b
    go Ordering.lt h k e n = lt_of_le-ne (h tt) n
    go Ordering.eq h k e n = e tt
    go Ordering.gt h k e n = k tt

-- c is at most h away from n
abbrev pub Close : ℕ → ℕ → ℕ → Type 0
Close h c n = (c ≤ n + h) × (n ≤ c + h)

-- p stands for q * b
module _ (p r b h n : ℕ) (e : p + r ≡ n) (l : r < b) (u : b ≤ 2 * h) where
  near-low : r * 2 ≤ b → Close h p n
  near-low k = (omega arith, omega arith)

  near-high : b ≤ r * 2 → Close h (p + b) n
  near-high k = (omega arith, omega arith)

next : (q b : ℕ) → suc q * b ≡ q * b + b
next q b = suc-mul q b

near_tie : (q m r b h n : ℕ) → m < 2 → q * b + r ≡ n → r < b → b ≤ 2 * h → r * 2 ≡ b → Close h ((q + m) * b) n
near_tie q zero r b h n s e l u k = subst (λ (z : ℕ). Close h (z * b) n) (sym (add-zero q)) (near-low (q * b) r b h n e l u (le_of_eq k))
near_tie q (suc zero) r b h n s e l u k = subst (λ (z : ℕ). Close h z n) (sym (next q b) ∙ ap (λ (z : ℕ). z * b) one) (near-high (q * b) r b h n e l u (le_of_eq (sym k)))
  where
    one : suc q ≡ q + 1
    one = omega arith
near_tie q (suc (suc m)) r b h n s e l u k = absurd (omega arith)

near_by : (q r b h n : ℕ) (o : Ordering) → Cmp o (r * 2) b → q * b + r ≡ n → r < b → b ≤ 2 * h → Close h (nearest q o * b) n
near_by q r b h n Ordering.lt k e l u = near-low (q * b) r b h n e l u (le_of_lt k)
near_by q r b h n Ordering.eq k e l u = near_tie q (q % 2) r b h n (omega arith) e l u k
near_by q r b h n Ordering.gt k e l u = subst (λ (z : ℕ). Close h z n) (sym (next q b)) (near-high (q * b) r b h n e l u (le_of_lt k))

pub near_closest : (a b h : ℕ) → 0 < b → b ≤ 2 * h → Close h (closest a b * b) a
near_closest a b h B u = near_by (a / b) (a % b) b h a (compare (a % b * 2) b) (cmp (a % b * 2) b) (div-add-mod' a b) (mod-lt a B) u

-- what does not pass a multiple of b = 2 * h does not pass it when it is rounded to a multiple of b
under : (x a h b y z : ℕ) → x ≤ a + h → a ≤ y → z ≡ y + b → 0 < b → b ≡ 2 * h → x < z
under x a h b y z g l k B e = omega arith

pub stays : (a b h c : ℕ) → 0 < b → b ≡ 2 * h → a ≤ c * b → closest a b * b ≤ c * b
stays a b h c B e l =
    mul-le-mul_right b (le_of_suc-le-suc (lt_of_mul-lt-mul_right b (under (closest a b * b) a h b (c * b) (suc c * b) (near_closest a b h B (le_of_eq e)).0 l (next c b) B e)))

-- ---- a whole number, rounded: within 16 up to 2 ^ 29, and no multiple of 2 ^ 24 is passed
abbrev pub Rounded : ℕ → Type 0
Rounded N = (R : ℕ) × HasValue (round binary32 false N 1) false R 1 × (R ≤ N + 16) × (N ≤ R + 16) × ((i : ℕ) → N ≤ i * 16777216 → R ≤ i * 16777216)

more : (n k : ℕ) → n ≤ n + k
more n k = omega arith

exactly : (N : ℕ) → HasValue (round binary32 false N 1) false N 1 → Rounded N
exactly N v = (N, v, more N 16, more N 16, λ i l. l)

shrink : (x : Float) (a b p : ℕ) → 0 < p → HasValue x false (a * p) (b * p) → HasValue x false a b
shrink nan a b p P v = v
shrink (inf s) a b p P v = v
shrink (fin s m e) a b p P v =
    (v.0, eq_of_mul-eq-mul_right p P (m * up e * b) (a * down e) (mul_assoc (m * up e) b p ∙ v.1 ∙ mul_right_comm a p (down e)))

-- k digits are dropped: 149 and j more
rounded_by : (N j : ℕ) → size (N * 2 ^ 149 / 1) - 24 ≡ suc j + 149 → j < 5 → N < 2 ^ 29 → Rounded N
rounded_by N j d s u =
    let L = 2 ^ 149 in
    let U = 2 ^ suc j in
    let R = closest N U * U in
    let near = near_closest N U 16 (pow_pos (suc j)) (pow_mono {j = 5} s) in
    let e : grid binary32 N 1 ≡ R * L =
    ap (λ (k : ℕ). closest (N * L) (1 * 2 ^ k) * 2 ^ k) d
    ∙ ap (λ (w : ℕ). closest (N * L) (1 * w) * w) (pow-add 2 (suc j) 149)
    ∙ ap (λ (c : ℕ). c * (U * L)) (closest_same (N * L) (1 * (U * L)) N U (mul-pos (zero-lt-suc 0) (mul-pos (pow_pos (suc j)) (pow_pos 149))) (pow_pos (suc j)) (lay N L U))
    ∙ sym (mul_assoc (closest N U) U L) in
    let fine : grid binary32 N 1 < overflow binary32 = subst (λ (w : ℕ). w < 2 ^ 277) (sym e) (lt_of_lt_of_le (shl_lt 30 149 (room R N near.0 u)) (pow_mono {i = 179} {j = 277} (lit≤ tt))) in
    let v : HasValue (round binary32 false N 1) false (R * L) (1 * L) = subst (λ (w : ℕ). HasValue (round binary32 false N 1) false (R * L) w) (sym (one-mul L)) (subst (λ (w : ℕ). HasValue (round binary32 false N 1) false w L) e (round_val binary32 N 1 fine)) in
    (R, shrink (round binary32 false N 1) R 1 L (pow_pos 149) v, near.0, near.1, λ i l. keep i l)
  where
    lay : (n l w : ℕ) → n * l * w ≡ n * (1 * (w * l))
    lay n l w = simp (one-mul, mul_assoc, mul_comm)

    room : (r n : ℕ) → r ≤ n + 16 → n < 536870912 → r < 1073741824
    room r n a b = omega arith

    split : 16777216 ≡ 2 ^ (24 - suc j) * 2 ^ suc j
    split = let e : 24 ≡ 24 - suc j + suc j = omega arith in ap (λ (w : ℕ). 2 ^ w) e ∙ pow-add 2 (24 - suc j) (suc j)

    keep : (i : ℕ) → N ≤ i * 16777216 → closest N (2 ^ suc j) * 2 ^ suc j ≤ i * 16777216
    keep i l =
        let e : i * 16777216 ≡ i * 2 ^ (24 - suc j) * 2 ^ suc j = ap (λ (w : ℕ). i * w) split ∙ sym (mul_assoc i (2 ^ (24 - suc j)) (2 ^ suc j)) in
        subst (λ (w : ℕ). closest N (2 ^ suc j) * 2 ^ suc j ≤ w) (sym e) (stays N (2 ^ suc j) (2 ^ j) (i * 2 ^ (24 - suc j)) (pow_pos (suc j)) (pow-succ' 2 j) (subst (λ (w : ℕ). N ≤ w) e l))

-- the number of digits
dropped : (N : ℕ) → 2 ^ 24 ≤ N → N < 2 ^ 29 → (j : ℕ) × (j < 5) × (size (N * 2 ^ 149 / 1) - 24 ≡ suc j + 149)
dropped N l h = (z - 174, few z lo hi, is z lo hi)
  where
    z : ℕ
    z = size (N * 2 ^ 149 / 1)

    one : N * 2 ^ 149 / 1 ≡ N * 2 ^ 149
    one = div-one (N * 2 ^ 149)

    hi : z ≤ 178
    hi = size-le (N * 2 ^ 149 / 1) 178 (subst (λ (y : ℕ). y < 2 ^ 178) (sym one) (shl_lt 29 149 h))

    lo : 173 < z
    lo = lt_of_not-le (λ (g : z ≤ 173). not-le_of_lt (lt_of_lt_of_le (size-lt (N * 2 ^ 149 / 1)) (pow_mono g)) (subst (λ (y : ℕ). 2 ^ 173 ≤ y) (sym one) (mul-le-mul_right (2 ^ 149) l)))

    few : (y : ℕ) → 173 < y → y ≤ 178 → y - 174 < 5
    few y a b = omega arith

    is : (y : ℕ) → 173 < y → y ≤ 178 → y - 24 ≡ suc (y - 174) + 149
    is y a b = omega arith

top_exact : HasValue (round binary32 false 536870912 1) false 536870912 1
top_exact = round_exact binary32 false 536870912 1 1 178 (zero-lt-suc 0) (lit< tt) (lit< tt) refl

pub rounded : (N : ℕ) → N ≤ 536870912 → Rounded N
rounded N h = go (eq-or-lt_of_le h)
  where
    mid : N < 536870912 → (N < 16777216) ⊎ (16777216 ≤ N) → Rounded N
    mid u (inl s) = exactly N (round_whole binary32 false N (le_of_lt s))
    mid u (inr l) = let z = dropped N l u in rounded_by N z.0 z.2 z.1 u

    go : (N ≡ 536870912) ⊎ (N < 536870912) → Rounded N
    go (inl e) = subst Rounded (sym e) (exactly 536870912 top_exact)
    go (inr u) = mid u (below_or_from N 16777216)
