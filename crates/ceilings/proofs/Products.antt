-- That the product fits into 32 bits.
use Prim.Native.Nat.{ℕ, ◌+◌, ◌*◌, ◌%◌, ◌^◌, ◌≤◌, ◌<◌}
use mathlib.Core.Path.{◌≡◌, ◌∙◌}
use native.Mathlib.Omega.{arith}
use native.Mathlib.Nat.{mul-le-mul, one-mul}
use lib.Pow.{pow_mono, shl_exact}
use Rattle.spec_base.specs.Limits.{max_bytes, max_depth, max_signals}

-- the power, as the code shifts it
pub power : (i : ℕ) → i ≤ max_signals → (1 * 2 ^ i) % 2 ^ 32 ≡ 2 ^ i
power i h = shl_exact {a = 1} 1 i 32 (omega arith) (omega arith) ∙ one-mul (2 ^ i)

module _ (x y : ℕ) (c : x ≤ max_bytes + max_signals) (l : y ≤ max_depth) where
  pub product-fits : x * y < 2 ^ 32
  product-fits = omega (arith, mul-le-mul c l)

  pub ceiling-fits : (i : ℕ) → i ≤ max_signals → x * y * ((1 * 2 ^ i) % 2 ^ 32) < 2 ^ 32
  ceiling-fits i h = rw (power i h) (omega (arith, mul-le-mul (mul-le-mul c l) (pow_mono h)))
