-- The number of members of a set is the number of its set digits.
use Prim.Native.Nat.{ℕ, zero, suc, ◌+◌, ◌*◌, ◌/◌, ◌%◌, ◌^◌, ◌<◌}
use mathlib.Core.Path.{◌≡◌, refl, sym, ap, ◌∙◌}
use mathlib.Core.List.{List}
use native.Mathlib.Nat.{pow-suc, div-div-eq-div-mul}
use native.Mathlib.Omega.{arith}
use lib.Dec.{eqb}
use lib.ListN.{length}
use lib.Arith.{bin_ind}
use lib.Bits.{bit_or, bit_and, or_step, and_step, or_zero_l}
use lib.Pow.{pow_pos}
use lib.Count.{ones, ones_step, ones_cat}
use borrow.Author.Tests.{eqb-true}
use Rattle.spec_base.specs.Sets.{member, none, only, join, Disjoint, disjoint, keep_if, members_from}
use Rattle.sets.proofs.Tests.{disjoint-is}

-- the digits above the first i, and above one more
next_half : (i s : ℕ) → s / 2 ^ i / 2 ≡ s / 2 ^ suc i
next_half i s = div-div-eq-div-mul s (2 ^ i) 2 ∙ ap (λ (x : ℕ). s / x) (sym (pow-suc 2 i))

kept : (d i : ℕ) (is : List ℕ) → d < 2 → length (keep_if (eqb d 1) i is) ≡ d + length is
kept zero i is h = omega arith
kept (suc zero) i is h = omega arith
kept (suc (suc d)) i is h = absurd (omega arith)

pub size_none : ones none ≡ 0
unfolding none ones
size_none = refl

size_from : (n i s : ℕ) → s / 2 ^ i < 2 ^ n → length (members_from n i s) ≡ ones (s / 2 ^ i)
unfolding members_from member none
size_from zero i s h = let z : s / 2 ^ i ≡ 0 = omega arith in sym (ap ones z ∙ size_none)
size_from (suc n) i s h =
    let e = next_half i s in
    let p : 2 ^ suc n ≡ 2 ^ n * 2 = pow-suc 2 n in
    kept (s / 2 ^ i % 2) i (members_from n (suc i) s) (omega arith)
    ∙ ap (λ (x : ℕ). s / 2 ^ i % 2 + x) (size_from n (suc i) s (omega arith) ∙ ap ones (sym e))
    ∙ sym (ones_step (s / 2 ^ i))

pub size_is : (n s : ℕ) → s < 2 ^ n → ones s ≡ length (members_from n 0 s)
size_is n s h =
    let z : s / 2 ^ 0 ≡ s = omega arith in
    sym (size_from n 0 s (omega arith) ∙ ap ones z)

-- ---- one number, and two sets that share none
pub size-only : (i : ℕ) → ones (only i) ≡ 1
unfolding only ones
size-only i = let e : 2 ^ i ≡ 1 * 2 ^ i + 0 = omega arith in ap ones e ∙ ones_cat i 1 0 (pow_pos i)

size_apart : (s t : ℕ) → bit_and s t ≡ 0 → ones (bit_or s t) ≡ ones s + ones t
unfolding none
size_apart = bin_ind (λ (s : ℕ). (t : ℕ) → bit_and s t ≡ 0 → ones (bit_or s t) ≡ ones s + ones t)
    (λ t h. let e = ap ones (or_zero_l t) in omega (arith, size_none)) step
  where
    step : (s : ℕ) → ((t : ℕ) → bit_and (s / 2) t ≡ 0 → ones (bit_or (s / 2) t) ≡ ones (s / 2) + ones t)
        → (t : ℕ) → bit_and s t ≡ 0 → ones (bit_or s t) ≡ ones s + ones t
    step s ih t h =
        let z : bit_and (s / 2) (t / 2) ≡ 0 = omega (arith, and_step s t) in
        let d : bit_or s t / 2 ≡ bit_or (s / 2) (t / 2) = omega (arith, or_step s t) in
        let m : bit_or s t % 2 ≡ s % 2 + t % 2 = omega (arith, or_step s t, and_step s t) in
        let e = ap ones d in
        omega (arith, ones_step s, ones_step t, ones_step (bit_or s t), ih (t / 2) z)

pub size-join : (s t : ℕ) → Disjoint s t → ones (join s t) ≡ ones s + ones t
unfolding join disjoint none
size-join s t h = size_apart s t (eqb-true (bit_and s t) 0 ((disjoint-is s t).1 h))
