-- Sets of numbers below a width w, and what the code computes of them with bits.
use Prim.Native.Nat.{ℕ, zero, suc, ◌*◌, ◌-◌, ◌/◌, ◌%◌, ◌^◌, ◌≤◌, ◌<◌}
use native.Mathlib.Nat.{pow-suc, lt_of_lt_of_le, one-mul}
use native.Mathlib.Omega.{arith}
use mathlib.Core.Path.{◌≡◌, refl, sym, ap, ◌∙◌}
use mathlib.Core.Bool.{Bool, true, false, not, ◌&&◌, cond}
use lib.Dec.{eqb, ltb}
use lib.Pow.{pow_pos, pow-lt, pow_mono, shl_exact}
use lib.Bits.{bit_and, bit_xor, and_zero_r, xor_zero_r, or_lt, xor_lt, and_le_l}
use borrow.Author.Tests.{lt-ltb, le-ltb, ltb-true, ltb-false}
use Rattle.spec_base.specs.Sets.{member, none, only, join, difference, insert, remove, below}
use Rattle.spec_base.specs.Widths.{only_below, insert_below, all_below, complement}
use Rattle.sets.proofs.Members.{member-zero, member-step, member-high, member-difference, in_none, same_set}
use Rattle.sets.proofs.Algebra.{join-none_r, remove_absent}
use Rattle.sets.proofs.Halves.{below-and, below_all}

-- one, shifted
pub shifted : (w i : ℕ) → i < w → (1 * 2 ^ i) % 2 ^ w ≡ 2 ^ i
shifted w i h = shl_exact {a = 1} 1 i w (omega arith) (omega arith) ∙ one-mul (2 ^ i)

pub shifted_only : (w i : ℕ) → i < w → (1 * 2 ^ i) % 2 ^ w ≡ only_below w i
unfolding only
shifted_only w i h = shifted w i h ∙ rw (lt-ltb i w h)

pub none_only : (w i : ℕ) → w ≤ i → none ≡ only_below w i
none_only w i h = rw (le-ltb i w h)

pub join-only : (w i s : ℕ) → join s (only_below w i) ≡ insert_below w i s
join-only w i s = go (ltb i w)
  where
    go : (b : Bool) → join s (cond b (only i) none) ≡ cond b (insert i s) s
    go true = unfold join only insert in refl
    go false = join-none_r s

pub difference-only : (w i s : ℕ) → s < 2 ^ w → bit_xor s (bit_and s (only_below w i)) ≡ remove i s
unfolding remove only none
difference-only w i s h = go (ltb i w) refl
  where
    go : (b : Bool) → ltb i w ≡ b → bit_xor s (bit_and s (cond b (only i) none)) ≡ remove i s
    go true e = refl
    go false e =
        ap (bit_xor s) (and_zero_r s) ∙ xor_zero_r s
        ∙ sym (remove_absent i s (member-high i h (ltb-false i w e)))

-- the digits below k
pub masked : (w k s : ℕ) → k < w → bit_and s ((1 * 2 ^ k) % 2 ^ w - 1) ≡ below k s
masked w k s h = ap (λ (x : ℕ). bit_and s (x - 1)) (shifted w k h) ∙ below-and k s

pub all-below : (w k s : ℕ) → s < 2 ^ w → w ≤ k → s ≡ below k s
all-below w k s h l = sym (below_all k s (lt_of_lt_of_le h (pow_mono l)))

-- ---- a set of numbers below w is a number below 2 ^ w
pub none_lt : (w : ℕ) → none < 2 ^ w
unfolding none
none_lt w = pow_pos w

pub only_lt : (w i : ℕ) → i < w → only i < 2 ^ w
unfolding only
only_lt w i h = pow-lt h

pub join_lt : (w s t : ℕ) → s < 2 ^ w → t < 2 ^ w → join s t < 2 ^ w
unfolding join
join_lt w s t h k = or_lt w s t h k

pub difference_lt : (w s t : ℕ) → s < 2 ^ w → difference s t < 2 ^ w
unfolding difference
difference_lt w s t h = xor_lt w s (bit_and s t) h (omega (arith, and_le_l s t))

pub remove_lt : (w i s : ℕ) → s < 2 ^ w → remove i s < 2 ^ w
unfolding remove difference
remove_lt w i s h = difference_lt w s (2 ^ i) h

pub all_lt : (w : ℕ) → all_below w < 2 ^ w
unfolding all_below
all_lt w = let p = pow_pos w in omega arith

no_members : (s : ℕ) → ((i : ℕ) → member i s ≡ true → i < 0) → s ≡ none
no_members s h = same_set s none (λ i m. absurd (omega (arith, h i m))) (λ i m. in_none i m)

pub members_lt : (w s : ℕ) → ((i : ℕ) → member i s ≡ true → i < w) → s < 2 ^ w
unfolding none
members_lt zero s h = omega (arith, no_members s h)
members_lt (suc w) s h =
    let i : s / 2 < 2 ^ w = members_lt w (s / 2) (λ j m. omega (arith, h (suc j) (member-step j s ∙ m))) in
    rw pow-suc (omega arith)

-- ---- all numbers below a width
half-all : (w : ℕ) → (2 ^ suc w - 1) / 2 ≡ 2 ^ w - 1
half-all w = let e : 2 ^ suc w ≡ 2 ^ w * 2 = pow-suc 2 w in let p = pow_pos w in omega arith

odd-all : (w : ℕ) → (2 ^ suc w - 1) % 2 ≡ 1
odd-all w = let e : 2 ^ suc w ≡ 2 ^ w * 2 = pow-suc 2 w in let p = pow_pos w in omega arith

in_all : (w i : ℕ) → i < w → member i (all_below w) ≡ true
unfolding all_below
in_all zero i h = absurd (omega arith)
in_all (suc w) zero h = member-zero (2 ^ suc w - 1) ∙ ap (λ (x : ℕ). eqb x 1) (odd-all w)
in_all (suc w) (suc i) h = member-step i (2 ^ suc w - 1) ∙ ap (member i) (half-all w) ∙ in_all w i (omega arith)

pub member-all : (w i : ℕ) → member i (all_below w) ≡ ltb i w
member-all w i = go (ltb i w) refl
  where
    go : (b : Bool) → ltb i w ≡ b → member i (all_below w) ≡ b
    go true e = in_all w i (ltb-true i w e)
    go false e = member-high i (all_lt w) (ltb-false i w e)

pub member-complement : (w s i : ℕ) → member i (complement w s) ≡ (ltb i w && not (member i s))
member-complement w s i = member-difference i (all_below w) s ∙ ap (λ (b : Bool). b && not (member i s)) (member-all w i)
