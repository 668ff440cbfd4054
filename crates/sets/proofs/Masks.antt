-- What the code computes with `!t`, which is 2 ^ w - 1 - t at w bits.
use Prim.Native.Nat.{ℕ, ◌+◌, ◌-◌, ◌*◌, ◌^◌, ◌<◌}
use native.Mathlib.Omega.{arith}
use mathlib.Core.Path.{◌≡◌, refl, sym, ap, ◌∙◌}
use lib.Pow.{pow_pos}
use lib.Bits.{bit_and, bit_xor}
use Rattle.std.specs.Int.Bits.{and_self, xor_add_and}
use Rattle.std.proofs.lemmas.Nat.{and_comm, and_assoc, and-not}
use Rattle.spec_base.specs.Sets.{difference}
use Rattle.spec_base.specs.Widths.{all_below, complement}

-- `s & !t`
pub masked_out : (w s t : ℕ) → s < 2 ^ w → t < 2 ^ w → bit_and s (2 ^ w - 1 - t) ≡ bit_xor s (bit_and s t)
masked_out w s t h k =
    let x : bit_xor s (bit_and s t) + bit_and s (bit_and s t) * 2 ≡ s + bit_and s t = xor_add_and s (bit_and s t) in
    let twice : bit_and s (bit_and s t) ≡ bit_and s t = sym (and_assoc t s s) ∙ ap (λ (y : ℕ). bit_and y t) (and_self s) in
    let n : bit_and (2 ^ w - 1 - t) s + bit_and t s ≡ s = and-not w t s k h in
    let turned : bit_and t s ≡ bit_and s t = and_comm t s in
    let turned_too : bit_and s (2 ^ w - 1 - t) ≡ bit_and (2 ^ w - 1 - t) s = and_comm s (2 ^ w - 1 - t) in
    omega (arith, x, twice, n, turned, turned_too)

-- `!s`
pub all_others : (w s : ℕ) → s < 2 ^ w → 2 ^ w - 1 - s ≡ complement w s
unfolding difference all_below
all_others w s h =
    let o : ℕ = 2 ^ w - 1 in
    let p : 0 < 2 ^ w = pow_pos w in
    let e : 2 ^ w - 1 - 0 ≡ 2 ^ w - 1 = omega arith in
    let none : bit_and 0 (2 ^ w - 1 - s) ≡ 0 = refl in
    let z : bit_and (2 ^ w - 1 - 0) (2 ^ w - 1 - s) + bit_and 0 (2 ^ w - 1 - s) ≡ 2 ^ w - 1 - s = and-not w 0 (2 ^ w - 1 - s) p (omega arith) in
    let q : bit_and (2 ^ w - 1) (2 ^ w - 1 - s) ≡ 2 ^ w - 1 - s = ap (λ (y : ℕ). bit_and y (2 ^ w - 1 - s)) (sym e) ∙ omega (arith, z, none) in
    sym q ∙ masked_out w (2 ^ w - 1) s (omega arith) h
