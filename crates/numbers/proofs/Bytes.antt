-- What is written as bytes is what is read, of a number that fits; of any other the lowest bytes.
use Prim.Native.Nat.{ℕ, zero, suc, ◌+◌, ◌*◌, ◌/◌, ◌%◌, ◌^◌, ◌<◌}
use native.Mathlib.Nat.{pow-suc, one-le-pow, div-div-eq-div-mul, mul_comm, mul_assoc}
use native.Mathlib.Omega.{arith}
use mathlib.Core.Path.{◌≡◌, refl, sym, ap, ◌∙◌}
use mathlib.Core.List.{List, [], ◌∷◌, ◌++◌}
use lib.Arith.{mod-mul}
use lib.ListN.{length, take, drop}
use Rattle.spec_base.specs.Bytes.{le_bytes, le_number}

pub length_le_bytes : (n x : ℕ) → length (le_bytes n x) ≡ n
unfolding le_bytes
length_le_bytes zero x = refl
length_le_bytes (suc n) x = ap suc (length_le_bytes n (x / 256))

pub le_round_trip : (n x : ℕ) → x < 256 ^ n → le_number (le_bytes n x) ≡ x
unfolding le_bytes le_number
le_round_trip zero x h = omega arith
le_round_trip (suc n) x h =
    let i : x < 256 ^ n * 256 = rw pow-suc at h in
    let j : x / 256 < 256 ^ n = omega arith in
    rw (le_round_trip n (x / 256) j) (omega arith)

-- n bytes of a number are those of what n bytes hold of it
pub le_low : (n x : ℕ) → le_bytes n (x % 256 ^ n) ≡ le_bytes n x
unfolding le_bytes
le_low zero x = refl
le_low (suc n) x =
    let y = x / 256 % 256 ^ n in
    let e : x % 256 ^ suc n ≡ y * 256 + x % 256 = ap (λ (m : ℕ). x % m) (pow-suc 256 n) ∙ mod-mul x (one-le-pow n 256 (omega arith)) (omega arith) in
    let a : (y * 256 + x % 256) % 256 ≡ x % 256 = omega arith in
    let b : (y * 256 + x % 256) / 256 ≡ y = omega arith in
    rw (e, a, b, le_low n (x / 256))

-- ---- n bytes, and those behind them
sum-suc : (n m : ℕ) → suc n + m ≡ suc (n + m)
sum-suc n m = omega arith

next_power : (n x : ℕ) → x / 256 / 256 ^ n ≡ x / 256 ^ suc n
next_power n x = div-div-eq-div-mul x 256 (256 ^ n) ∙ ap (λ (y : ℕ). x / y) (mul_comm 256 (256 ^ n) ∙ sym (pow-suc 256 n))

pub le_append : (n m x : ℕ) → le_bytes (n + m) x ≡ le_bytes n x ++ le_bytes m (x / 256 ^ n)
unfolding le_bytes
le_append zero m x = let z : 0 + m ≡ m = omega arith in let e : x / 256 ^ 0 ≡ x = omega arith in rw (z, e)
le_append (suc n) m x =
    ap (λ (k : ℕ). le_bytes k x) (sum-suc n m)
    ∙ ap (λ (l : List ℕ). x % 256 ∷ l) (le_append n m (x / 256) ∙ ap (λ (y : ℕ). le_bytes n (x / 256) ++ le_bytes m y) (next_power n x))

pub le_behind : (n m : ℕ) (bs : List ℕ) → le_number (take (n + m) bs) ≡ le_number (take m (drop n bs)) * 256 ^ n + le_number (take n bs)
unfolding le_number
le_behind zero m bs = let z : 0 + m ≡ m = omega arith in rw z (omega arith)
le_behind (suc n) m [] = rw (sum-suc n m) (go m)
  where
    go : (m : ℕ) → 0 ≡ le_number (take m []) * 256 ^ suc n + 0
    go zero = omega arith
    go (suc m) = omega arith
le_behind (suc n) m (b ∷ bs) =
    let e = le_behind n m bs in
    let t = le_number (take m (drop n bs)) in
    let p : t * 256 ^ suc n ≡ t * 256 ^ n * 256 = ap (λ (y : ℕ). t * y) (pow-suc 256 n) ∙ sym (mul_assoc t (256 ^ n) 256) in
    rw (sum-suc n m) (omega arith)
