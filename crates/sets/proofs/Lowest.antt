-- The lowest member of a set, and that a set without one of its members is a lesser number.
use mathlib.Core.Path.{◌≡◌, refl, sym, ap, ◌∙◌}
use mathlib.Core.Logic.{◌↔◌}
use mathlib.Core.Bool.{true, false, not, ◌&&◌, and-true, and-false, and-eq-true_iff}
use Prim.Native.Nat.{ℕ, zero, suc, ◌*◌, ◌/◌, ◌%◌, ◌^◌, ◌<◌}
use native.Mathlib.Nat.{pow-suc, not-suc-le-zero, le_of_suc-le-suc}
use native.Mathlib.Omega.{arith}
use lib.Dec.{eqb, eqb-suc-suc, eqb-zero-suc}
use lib.Count.{count_trailing_zeros, under, trailing_of_zero}
use borrow.Author.Tests.{eq-eqb, eqb-true, eqb-false, ne_eqb, not-true}
use Rattle.spec_base.specs.Sets.{member, none, empty, common, remove, Disjoint}
use Rattle.spec_base.specs.Widths.{Lowest}
use Rattle.sets.proofs.Booleans.{apart_is}
use Rattle.sets.proofs.Members.{member-zero, member-step, member-none, member-common, member-remove, in_none, ext}

-- digit 0 tells odd from even
odd : (s : ℕ) → s % 2 ≡ 1 → member 0 s ≡ true
odd s e = member-zero s ∙ eq-eqb (s % 2) 1 e

even : (s : ℕ) → s % 2 ≡ 0 → member 0 s ≡ false
even s e = member-zero s ∙ ap (λ (x : ℕ). eqb x 1) e

pub half-below : (k s : ℕ) → s < 2 ^ suc k → s / 2 < 2 ^ k
half-below k s h = let e : 2 ^ suc k ≡ 2 ^ k * 2 = pow-suc 2 k in omega arith

found : (k s : ℕ) → s < 2 ^ k → (s ≡ 0 → ⊥) → member (count_trailing_zeros k s) s ≡ true
unfolding count_trailing_zeros
found zero s h f = absurd (f (omega arith))
found (suc k) s h f = go (s % 2) refl (λ g. found k (s / 2) (half-below k s h) g)
  where
    go : (d : ℕ) → s % 2 ≡ d → ((s / 2 ≡ 0 → ⊥) → member (count_trailing_zeros k (s / 2)) (s / 2) ≡ true)
        → member (under d (count_trailing_zeros k (s / 2))) s ≡ true
    go zero e ih = member-step (count_trailing_zeros k (s / 2)) s ∙ ih (λ z. f (omega arith))
    go (suc d) e ih = odd s (omega arith)

least : (k s j : ℕ) → j < count_trailing_zeros k s → member j s ≡ false
unfolding count_trailing_zeros
least zero s j h = absurd (not-suc-le-zero h)
least (suc k) s j h = go (s % 2) refl j h (λ i g. least k (s / 2) i g)
  where
    go : (d : ℕ) → s % 2 ≡ d → (j : ℕ) → j < under d (count_trailing_zeros k (s / 2))
        → ((i : ℕ) → i < count_trailing_zeros k (s / 2) → member i (s / 2) ≡ false) → member j s ≡ false
    go zero e zero g ih = even s e
    go zero e (suc j) g ih = member-step j s ∙ ih j (le_of_suc-le-suc g)
    go (suc d) e j g ih = absurd (not-suc-le-zero g)

pub lowest_is : (w s : ℕ) → s < 2 ^ w → Lowest w s (count_trailing_zeros w s)
unfolding none
lowest_is w s h =
    record {
      found = found w s h;
      least = least w s;
      absent = λ e. ap (count_trailing_zeros w) e ∙ trailing_of_zero w;
    }

pub lt_power : (n : ℕ) → n < 2 ^ n
lt_power zero = omega arith
lt_power (suc n) = let e : 2 ^ suc n ≡ 2 ^ n * 2 = pow-suc 2 n in omega (arith, lt_power n)

-- a set that is not empty has a member
pub some-member : (s : ℕ) → (s ≡ none → ⊥) → (i : ℕ) × (member i s ≡ true)
unfolding none
some-member s f = (count_trailing_zeros s s, found s s (lt_power s) f)

pub some_is : (s : ℕ) → (not (empty s) ≡ true) ↔ ((i : ℕ) × (member i s ≡ true))
some_is s = (
  λ h. some-member s (eqb-false s none (not-true (empty s) h)),
  λ m. ap not (ne_eqb s none (λ e. in_none m.0 (ap (member m.0) (sym e) ∙ m.1))),
)

-- and so have two sets that are not disjoint
pub some-common : (s t : ℕ) → (Disjoint s t → ⊥) → (i : ℕ) × (member i s ≡ true) × (member i t ≡ true)
some-common s t f =
    let x = some-member (common s t) (λ e. f (λ i. (apart_is (member i s) (member i t)).1
    (sym (member-common i s t) ∙ ap (member i) e ∙ member-none i))) in
    let y = (and-eq-true_iff (member x.0 s) (member x.0 t)).0 (sym (member-common x.0 s t) ∙ x.1) in
    (x.0, y.0, y.1)

-- ---- a set without one of its members is a lesser number
half_removed : (i s : ℕ) → remove (suc i) s / 2 ≡ remove i (s / 2)
half_removed i s =
    ext (remove (suc i) s / 2) (remove i (s / 2))
    (λ j. sym (member-step j (remove (suc i) s)) ∙ member-remove (suc i) s (suc j)
    ∙ (λ x. member-step j s x && not (eqb-suc-suc i j x))
    ∙ sym (member-remove i (s / 2) j))

low_removed : (s : ℕ) → remove 0 s / 2 ≡ s / 2
low_removed s =
    ext (remove 0 s / 2) (s / 2)
    (λ j. sym (member-step j (remove 0 s)) ∙ member-remove 0 s (suc j) ∙ (λ x. member-step j s x && not (eqb-zero-suc j x))
    ∙ and-true (member j (s / 2)))

pub remove_less : (i s : ℕ) → member i s ≡ true → remove i s < s
remove_less zero s h =
    let e = low_removed s in
    let z = eqb-false (remove 0 s % 2) 1 (sym (member-zero (remove 0 s)) ∙ member-remove 0 s 0 ∙ and-false (member 0 s)) in
    let o : s % 2 ≡ 1 = eqb-true (s % 2) 1 (sym (member-zero s) ∙ h) in
    omega arith
remove_less (suc i) s h =
    let l = remove_less i (s / 2) (sym (member-step i s) ∙ h) in
    let e = half_removed i s in
    omega arith
