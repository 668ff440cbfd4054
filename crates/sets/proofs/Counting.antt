-- The number of subsets in the list: at most 2 ^ n of a set of n members.
use Prim.Native.Nat.{ℕ, zero, suc, ◌+◌, ◌*◌, ◌/◌, ◌%◌, ◌^◌, ◌≤◌, ◌<◌}
use native.Mathlib.Nat.{pow-suc}
use native.Mathlib.Decide.{ℕ_discrete}
use native.Mathlib.Omega.{arith}
use mathlib.Core.Path.{◌≡◌, refl, ap, ◌∙◌}
use mathlib.Core.List.{List, [], ◌∷◌, Memᴰ}
use lib.ListN.{length}
use lib.Bits.{and_le_r}
use lib.Count.{ones, ones_step}
use Rattle.spec_base.specs.Sets.{none}
use Rattle.spec_base.specs.Subsets.{subsets_of, Falls}
use Rattle.sets.proofs.Lowest.{half-below}
use Rattle.sets.proofs.Sizes.{size_none}
use Rattle.sets.proofs.Subsets.{Within, to_within, half_within, low_within, subsets-are, subsets-fall}

-- the digits of f at the places of u, moved together
abbrev place : (d b rest : ℕ) → ℕ
place zero b rest = rest
place (suc d) b rest = rest * 2 + b

packed : (w f u : ℕ) → ℕ
packed zero f u = 0
packed (suc w) f u = place (u % 2) (f % 2) (packed w (f / 2) (u / 2))

packed_lt : (w f u : ℕ) → u < 2 ^ w → packed w f u < 2 ^ ones u
unfolding packed none
packed_lt zero f u h =
    let z : u ≡ 0 = omega arith in
    let o : ones u ≡ 0 = ap ones z ∙ size_none in
    rw o (omega arith)
packed_lt (suc w) f u h =
    go (u % 2) refl (packed_lt w (f / 2) (u / 2) (half-below w u h))
  where
    go : (d : ℕ) → u % 2 ≡ d → packed w (f / 2) (u / 2) < 2 ^ ones (u / 2) → place d (f % 2) (packed w (f / 2) (u / 2)) < 2 ^ ones u
    go zero e l = let o : ones u ≡ ones (u / 2) = omega (arith, ones_step u) in rw o l
    go (suc zero) e l =
        let o : ones u ≡ suc (ones (u / 2)) = omega (arith, ones_step u) in
        let q : 2 ^ suc (ones (u / 2)) ≡ 2 ^ ones (u / 2) * 2 = pow-suc 2 (ones (u / 2)) in
        rw o (omega arith)
    go (suc (suc d)) e l = absurd (omega arith)

packed_less : (w f g u : ℕ) → g < 2 ^ w → Within f u → Within g u → f < g → packed w f u < packed w g u
unfolding packed
packed_less zero f g u b hf hg l = absurd (omega arith)
packed_less (suc w) f g u b hf hg l =
    go (u % 2) refl (λ q. packed_less w (f / 2) (g / 2) (u / 2) (half-below w g b) (half_within f u hf) (half_within g u hg) q)
  where
    go : (d : ℕ) → u % 2 ≡ d → (f / 2 < g / 2 → packed w (f / 2) (u / 2) < packed w (g / 2) (u / 2))
        → place d (f % 2) (packed w (f / 2) (u / 2)) < place d (g % 2) (packed w (g / 2) (u / 2))
    go zero e ih = ih (omega (arith, low_within f u hf, low_within g u hg))
    go (suc d) e ih =
        elim (ℕ_discrete (f / 2) (g / 2)) [
          | yes q ↦ (
              let r : packed w (f / 2) (u / 2) ≡ packed w (g / 2) (u / 2) = ap (λ (x : ℕ). packed w x (u / 2)) q in
              omega arith)
          | no q ↦ (let r = ih (omega arith) in omega arith)
        ]

-- a falling list of subsets is no longer than what bounds their packed digits
falling : (w u n : ℕ) (fs : List ℕ) → Falls fs → ((f : ℕ) → Memᴰ f fs → (f < 2 ^ w) × Within f u × (packed w f u < n)) → length fs ≤ n
falling w u n [] h k = omega arith
falling w u n (f ∷ fs) (l, h) k =
    let a = k f (Memᴰ.head refl) in
    let r = falling w u (packed w f u) fs h
    (λ g m. let b = k g (Memᴰ.tail m) in (b.0, b.1, packed_less w g f u a.0 b.1 a.1 (l g m))) in
    let c : packed w f u < n = a.2 in
    omega arith

pub subsets_few : (w u : ℕ) → u < 2 ^ w → length (subsets_of u) ≤ 2 ^ ones u
subsets_few w u h =
    falling w u (2 ^ ones u) (subsets_of u) (subsets-fall u)
    (λ f m. let i : Within f u = to_within f u ((subsets-are u f).0 m) in
    (omega (arith, and_le_r f u), i, packed_lt w f u h))
