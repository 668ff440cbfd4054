-- Lists with each name once: the same names, the same length.
use Prim.Native.Nat.{ℕ, suc, ◌≤◌}
use native.Mathlib.Omega.{arith}
use native.Mathlib.Decide.{ℕ_discrete}
use mathlib.Core.Path.{◌≡◌, refl, sym, ap, ◌∙◌}
use mathlib.Core.Logic.{◌≢◌, ⊎_elim}
use mathlib.Core.List.Memᴰ
use mathlib.Core.List.{List, [], ◌∷◌, Memᴰ}
use lib.ListN.{length}
use Rattle.spec_bay.specs.Names.{Once}

-- ys without one n
record Others (n : ℕ) (ys : List ℕ) : Type 0 where
  rest : List ℕ
  shorter : length ys ≡ suc (length rest)
  stays : (m : ℕ) → m ≢ n → Memᴰ m ys → Memᴰ m rest

others : (n : ℕ) (ys : List ℕ) → Memᴰ n ys → Others n ys
others n [] h = absurd (Memᴰ.not-nil h)
others n (y ∷ ys) h = elim (ℕ_discrete n y) [
  | yes e ↦ record {
    rest = ys;
    shorter = refl;
    stays = λ m d k. ⊎_elim (λ q. absurd (d (q ∙ sym e))) (λ q. q) (Memᴰ.cases_cons k);
  }
  | no e ↦
      let o = others n ys (⊎_elim (λ q. absurd (e q)) (λ q. q) (Memᴰ.cases_cons h)) in
      record {
        rest = y ∷ o.rest;
        shorter = ap suc o.shorter;
        stays = λ m d k. ⊎_elim (λ q. Memᴰ.head q) (λ q. Memᴰ.tail (o.stays m d q)) (Memᴰ.cases_cons k);
      }
]

pub fewer : (xs ys : List ℕ) → Once xs → ((n : ℕ) → Memᴰ n xs → Memᴰ n ys) → length xs ≤ length ys
fewer [] ys o h = omega arith
fewer (x ∷ xs) ys o h =
    let r = others x ys (h x (Memᴰ.head refl)) in
    let k = fewer xs r.rest o.1 (λ n m. r.stays n (λ e. o.0 (Memᴰ.cast (sym e) m)) (h n (Memᴰ.tail m))) in
    omega (arith, k, r.shorter)
