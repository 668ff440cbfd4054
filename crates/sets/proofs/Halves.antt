-- Laws of the two halves of a set, the members below k and those from k, as numbers.
use Prim.Native.Nat.{ℕ, ◌+◌, ◌*◌, ◌-◌, ◌/◌, ◌%◌, ◌^◌, ◌<◌}
use mathlib.Core.Path.{◌≡◌, sym, ap, ap₂, ◌∙◌}
use native.Mathlib.Omega.{arith}
use lib.Bits.{bit_or, bit_and, bit_xor, or_shifted_r, and_mask, xor_block, xor_self, xor_zero_r}
use lib.Pow.{pow_pos, low, split}
use Rattle.spec_base.specs.Sets.{none, only, join, below, from}

pub none_over : (k : ℕ) → none % 2 ^ k ≡ 0
unfolding none
none_over k = ap (λ (c : ℕ). c % 2 ^ k) (let e : 0 ≡ 0 * 2 ^ k + 0 = omega arith in e) ∙ low 0 k (pow_pos k)

pub only-over : (k : ℕ) → only k % 2 ^ k ≡ 0
unfolding only
only-over k = ap (λ (c : ℕ). c % 2 ^ k) (let e : 2 ^ k ≡ 1 * 2 ^ k + 0 = omega arith in e) ∙ low 1 k (pow_pos k)

-- ---- a set of numbers below k and one of numbers from k
-- the upper digits of a number
upper : (k a h : ℕ) → a < 2 ^ k → bit_xor (h * 2 ^ k + a) a ≡ h * 2 ^ k
upper k a h under =
    ap (bit_xor (h * 2 ^ k + a)) (let e : a ≡ 0 * 2 ^ k + a = omega arith in e)
    ∙ xor_block k h 0 a a under under
    ∙ ap₂ (λ (c d : ℕ). c * 2 ^ k + d) (xor_zero_r h) (xor_self a)
    ∙ (let e : h * 2 ^ k + 0 ≡ h * 2 ^ k = omega arith in e)

module _ (k a b : ℕ) (under : a < 2 ^ k) (over : b % 2 ^ k ≡ 0) where
  multiple : b / 2 ^ k * 2 ^ k ≡ b
  multiple = omega (arith, split b k)

  joined : join a b ≡ b / 2 ^ k * 2 ^ k + a
  unfolding join
  joined = ap (λ (c : ℕ). bit_or a c) (sym multiple) ∙ or_shifted_r (b / 2 ^ k) k a under

  pub below-join : below k (join a b) ≡ a
  unfolding below
  below-join = ap (λ (c : ℕ). c % 2 ^ k) joined ∙ low (b / 2 ^ k) k under

  pub from-join : from k (join a b) ≡ b
  unfolding from
  from-join = ap₂ bit_xor joined below-join ∙ upper k a (b / 2 ^ k) under ∙ multiple

-- ---- the numbers that code computes
-- m & (2 ^ k - 1), and m itself where k is past the width
pub below-and : (k m : ℕ) → bit_and m (2 ^ k - 1) ≡ below k m
unfolding below
below-and k m = and_mask m k

pub below_all : (k m : ℕ) → m < 2 ^ k → below k m ≡ m
unfolding below
below_all k m h = ap (λ (c : ℕ). c % 2 ^ k) (let e : m ≡ 0 * 2 ^ k + m = omega arith in e) ∙ low 0 k h
