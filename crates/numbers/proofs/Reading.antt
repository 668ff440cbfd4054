-- Laws of the loop that reads a number from bytes, over every number of bytes.
use mathlib.Core.Path.{◌≡◌, refl, sym, ap, subst}
use mathlib.Core.List.{List, [], ◌∷◌, ◌++◌}
use Prim.Native.Nat.{ℕ, zero, suc, ◌+◌, ◌*◌, ◌^◌, ◌≤◌, ◌<◌}
use native.Mathlib.Nat.{pow-suc, pow-le-pow_right}
use native.Mathlib.Omega.{arith}
use lib.ListN.{length, get_or, take, drop}
use lib.Seq.{get_or-drop}
use Rattle.spec_base.specs.Bytes.{le_number}

front_lt : (m : ℕ) (b : List ℕ) → ((i : ℕ) → get_or b i 0 < 256) → le_number (take m b) < 256 ^ m
unfolding le_number
front_lt zero b h = omega arith
front_lt (suc m) [] h = subst (λ (x : ℕ). 0 < x) (sym (pow-suc 256 m)) (omega (arith, front_lt m [] h))
front_lt (suc m) (a ∷ b) h =
    subst (λ (x : ℕ). a + 256 * le_number (take m b) < x) (sym (pow-suc 256 m)) (omega (arith, h 0, front_lt m b (λ i. h (suc i))))

pub le_number_lt : (b : List ℕ) (k m : ℕ) → ((i : ℕ) → get_or b i 0 < 256) → le_number (take m (drop k b)) < 256 ^ m
le_number_lt b k m h = front_lt m (drop k b) (λ i. subst (λ (x : ℕ). x < 256) (sym (get_or-drop k b i 0)) (h (k + i)))

-- the number whose lowest bytes these are, with x above them
abbrev pub upon : List ℕ → ℕ → ℕ
upon [] x = x
upon (b ∷ bs) x = b + 256 * upon bs x

pub upon_none : (bs : List ℕ) → upon bs 0 ≡ le_number bs
unfolding le_number
upon_none [] = refl
upon_none (b ∷ bs) = ap (λ (x : ℕ). b + 256 * x) (upon_none bs)

-- the last byte, read
pub upon_last : (bs : List ℕ) (a x : ℕ) → upon (bs ++ (a ∷ [])) x ≡ upon bs (x * 256 + a)
upon_last [] a x = omega arith
upon_last (b ∷ bs) a x = ap (λ (y : ℕ). b + 256 * y) (upon_last bs a x)

pub upon_end : (bs : List ℕ) (x : ℕ) → length bs ≡ 0 → x ≡ upon bs x
upon_end [] x h = refl
upon_end (b ∷ bs) x h = absurd (omega (arith, h))

le_upon : (bs : List ℕ) (x : ℕ) → x ≤ upon bs x
le_upon [] x = omega arith
le_upon (b ∷ bs) x = omega (arith, le_upon bs x)

-- what was read fits a word
pub read_fits : (b : List ℕ) (at n : ℕ) → ((i : ℕ) → get_or b i 0 < 256) → n ≤ 8 → (bs : List ℕ) (x : ℕ) → upon bs x ≡ le_number (take n (drop at b)) → x < 2 ^ 64
read_fits b at n h small bs x e =
    let p = le_number_lt b at n h in
    let q : 256 ^ n ≤ 256 ^ 8 = pow-le-pow_right {n = 256} (omega arith) {i = n} {j = 8} small in
    omega (arith, le_upon bs x, p, q, e)
