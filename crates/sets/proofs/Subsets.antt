-- The list of the subsets of a set has each of them once and nothing else, from the greatest down.
use Prim.Native.Nat.{ℕ, zero, suc, ◌+◌, ◌*◌, ◌-◌, ◌/◌, ◌%◌, ◌^◌, ◌≤◌, ◌<◌, min}
use native.Mathlib.Decide.{ℕ_discrete}
use native.Mathlib.Omega.{arith}
use mathlib.Core.Path.{◌≡◌, refl, sym, ap, ap₂, ◌∙◌, subst}
use mathlib.Core.Logic.{◌≢◌, ◌↔◌, ◌⊎◌, ⊎_elim}
use mathlib.Core.Bool.{Bool, true, false, cond, and-eq-true_iff}
use mathlib.Core.List.Memᴰ
use mathlib.Core.List.{List, [], ◌∷◌, Memᴰ}
use lib.Dec.{eqb}
use lib.Bits.{bit_and, and_step, and_le_l, and_le_r, and_self}
use borrow.Author.Tests.{eq-eqb, eqb-true, eqb-false, ne_eqb}
use Rattle.spec_base.specs.Sets.{member, common, Subset, subset}
use Rattle.spec_base.specs.Subsets.{next_subset, subsets_below, subsets_of, Falls}
use Rattle.sets.proofs.Members.{member-common}
use Rattle.sets.proofs.Tests.{subset-is}
use Rattle.sets.proofs.Lowest.{half-below, lt_power}

-- ---- a subset, by its digits
abbrev pub Within : (f u : ℕ) → Type 0
Within f u = bit_and f u ≡ f

pub to_within : (f u : ℕ) → Subset f u → Within f u
unfolding subset
to_within f u h = eqb-true (bit_and f u) f ((subset-is f u).1 h)

from_within : (f u : ℕ) → Within f u → Subset f u
unfolding subset
from_within f u h = (subset-is f u).0 (eq-eqb (bit_and f u) f h)

pub half_within : (f u : ℕ) → Within f u → Within (f / 2) (u / 2)
half_within f u h = omega (arith, and_step f u)

pub low_within : (g u : ℕ) → Within g u → g % 2 ≤ u % 2
low_within g u h = omega (arith, and_step g u)

-- the next one is the greatest below f
greatest : (w f g u : ℕ) → f < 2 ^ w → Within f u → Within g u → g < f → g ≤ bit_and (f - 1) u
greatest zero f g u b hf hg l = absurd (omega arith)
greatest (suc w) f g u b hf hg l =
    go (f % 2) refl (λ q. greatest w (f / 2) (g / 2) (u / 2) (half-below w f b) (half_within f u hf) (half_within g u hg) q)
  where
    go : (d : ℕ) → f % 2 ≡ d → (g / 2 < f / 2 → g / 2 ≤ bit_and (f / 2 - 1) (u / 2)) → g ≤ bit_and (f - 1) u
    go zero e ih =
        let q : (f - 1) / 2 ≡ f / 2 - 1 = omega arith in
        let m : (f - 1) % 2 ≡ 1 = omega arith in
        let i : g / 2 ≤ bit_and (f / 2 - 1) (u / 2) = ih (omega arith) in
        let s : bit_and (f - 1) u ≡ bit_and (f / 2 - 1) (u / 2) * 2 + min 1 (u % 2) =
        and_step (f - 1) u ∙ ap₂ (λ (x y : ℕ). bit_and x (u / 2) * 2 + min y (u % 2)) q m in
        omega (arith, low_within g u hg)
    go (suc d) e ih =
        let q : (f - 1) / 2 ≡ f / 2 = omega arith in
        let h : bit_and (f / 2) (u / 2) ≡ f / 2 = half_within f u hf in
        let s : bit_and (f - 1) u ≡ bit_and (f / 2) (u / 2) * 2 + min ((f - 1) % 2) (u % 2) =
        and_step (f - 1) u ∙ ap (λ (x : ℕ). bit_and x (u / 2) * 2 + min ((f - 1) % 2) (u % 2)) q in
        omega arith

next_within : (f u : ℕ) → Within (bit_and (f - 1) u) u
unfolding common
next_within f u =
    to_within (bit_and (f - 1) u) u (λ i h. ((and-eq-true_iff (member i (f - 1)) (member i u)).0 (sym (member-common i (f - 1) u) ∙ h)).1)

-- ---- the list
module _ (u : ℕ) where
  below-within : (n f : ℕ) (g : ℕ) → Memᴰ g (subsets_below n f u) → Within g u
  unfolding subsets_below common
  below-within zero f g m = absurd (Memᴰ.not-nil m)
  below-within (suc n) f g m = go (eqb f 0) m (λ t. below-within n (next_subset f u) g t)
    where
      go : (x : Bool) → Memᴰ g (cond x [] (next_subset f u ∷ subsets_below n (next_subset f u) u))
          → (Memᴰ g (subsets_below n (next_subset f u) u) → Within g u) → Within g u
      go true m ih = absurd (Memᴰ.not-nil m)
      go false m ih = ⊎_elim (λ e. subst (λ (x : ℕ). Within x u) (sym e) (next_within f u)) ih (Memᴰ.cases_cons m)

  reached : (n f g : ℕ) → f ≤ n → Within f u → Within g u → g < f → Memᴰ g (subsets_below n f u)
  unfolding subsets_below common
  reached zero f g a hf hg l = absurd (omega arith)
  reached (suc n) f g a hf hg l =
      rw (ne_eqb f 0 (λ e. omega arith)) (
      elim (ℕ_discrete g (next_subset f u)) [
        | yes e ↦ Memᴰ.head e
        | no e ↦ Memᴰ.tail (reached n (next_subset f u) g (omega (arith, and_le_l (f - 1) u)) (next_within f u) hg
            (omega (arith, greatest f f g u (lt_power f) hf hg l)))
      ])

  below_less : (n f g : ℕ) → Memᴰ g (subsets_below n f u) → g < f
  unfolding subsets_below common
  below_less zero f g m = absurd (Memᴰ.not-nil m)
  below_less (suc n) f g m = go (eqb f 0) refl m (λ t. below_less n (next_subset f u) g t)
    where
      go : (x : Bool) → eqb f 0 ≡ x → Memᴰ g (cond x [] (next_subset f u ∷ subsets_below n (next_subset f u) u))
          → (Memᴰ g (subsets_below n (next_subset f u) u) → g < next_subset f u) → g < f
      go true e m ih = absurd (Memᴰ.not-nil m)
      go false e m ih =
          let z : f ≢ 0 = eqb-false f 0 e in
          let l : next_subset f u ≤ f - 1 = and_le_l (f - 1) u in
          ⊎_elim (λ q. omega arith) (λ t. omega (arith, ih t)) (Memᴰ.cases_cons m)

  below-falls : (n f : ℕ) → Falls (subsets_below n f u)
  unfolding subsets_below common
  below-falls zero f = tt
  below-falls (suc n) f = go (eqb f 0) (below-falls n (next_subset f u))
    where
      go : (x : Bool) → Falls (subsets_below n (next_subset f u) u) → Falls (cond x [] (next_subset f u ∷ subsets_below n (next_subset f u) u))
      go true h = tt
      go false h = (λ g m. below_less n (next_subset f u) g m, h)

  -- each stands in the list once
  pub subsets-fall : Falls (subsets_of u)
  subsets-fall = (λ g m. below_less u u g m, below-falls u u)

  -- the list has the subsets and nothing else
  pub subsets-are : (g : ℕ) → Memᴰ g (subsets_of u) ↔ Subset g u
  subsets-are g = (there, back)
    where
      there : Memᴰ g (subsets_of u) → Subset g u
      there m =
          ⊎_elim (λ e i h. ap (member i) (sym e) ∙ h) (λ t. from_within g u (below-within u u g t)) (Memᴰ.cases_cons m)

      back : Subset g u → Memᴰ g (subsets_of u)
      back s =
          let w = to_within g u s in
          elim (ℕ_discrete g u) [
            | yes e ↦ Memᴰ.head e
            | no e ↦ Memᴰ.tail (reached u u g (omega arith) (and_self u) w (omega (arith, and_le_r g u)))
          ]
