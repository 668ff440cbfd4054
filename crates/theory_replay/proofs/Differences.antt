-- The first difference of two lists of records: it is 0 exactly if none differs, and else the least place at which one does.
use Prim.Native.Nat.{ℕ, zero, suc, ◌+◌, ◌≤◌, ◌<◌}
use native.Mathlib.Omega.{arith}
use native.Mathlib.Decide.{dec_lt}
use mathlib.Core.Path.{◌≡◌, refl, sym, ap, ◌∙◌, subst}
use mathlib.Core.Logic.{◌↔◌}
use mathlib.Core.Bool.{Bool, true, false, cond, and-eq-true_iff, false≢true}
use mathlib.Core.Option.{Option, some, none-ne-some}
use mathlib.Core.List.{List, [], ◌∷◌}
use lib.ListN.{length}
use lib.Dec.{eqb}
use borrow.Author.Tests.{eq-eqb, eqb-true}
use Rattle.spec_replay.specs.Replay.{same, first_difference}
use Rattle.spec_replay.specs.ReplayClaims.{SameAt, DiffersFirst}

-- ---- two records

pub same_to : (x y : List ℕ) → same x y ≡ true → x ≡ y
unfolding same
same_to [] [] h = refl
same_to [] (b ∷ y) h = absurd (false≢true h)
same_to (a ∷ x) [] h = absurd (false≢true h)
same_to (a ∷ x) (b ∷ y) h =
    let s = (and-eq-true_iff (eqb a b) (same x y)).0 h in
    let e = eqb-true a b s.0 in
    let f = same_to x y s.1 in
    rw (e, f)

pub same_self : (x : List ℕ) → same x x ≡ true
unfolding same
same_self [] = refl
same_self (a ∷ x) = rw (eq-eqb a a refl) (same_self x)

different : {x y : List ℕ} → same x y ≡ false → ¬ (◌≡◌ {A = Option (List ℕ)} (some x) (some y))
different {x} {y} h e =
    let q : x ≡ y = cc in
    let s : same x y ≡ true = subst (λ (z : List ℕ). same x z ≡ true) q (same_self x) in
    let z : true ≡ false = sym s ∙ h in
    let a : ◌≡◌ {A = ℕ} 0 1 = cc in omega arith

-- ---- two lists of records, counted from k
data Placed (k : ℕ) (g m : List (List ℕ)) (r : ℕ) : Type 0 where
  nowhere : r ≡ 0 → ((i : ℕ) → i < length g → SameAt i g m) → Placed k g m r
  somewhere : (j : ℕ) → r ≡ k + j → DiffersFirst j g m → Placed k g m r

placed : (k : ℕ) (g m : List (List ℕ)) → Placed k g m (first_difference k g m)
unfolding first_difference
placed k [] m = nowhere refl (λ i h. absurd (omega arith))
placed k (r ∷ g) [] =
    somewhere 0 (omega arith) (record { within = omega arith; here = λ e. none-ne-some r (sym e); before = λ i h. absurd (omega arith) })
placed k (r ∷ g) (x ∷ m) = go (same r x) refl (placed (k + 1) g m)
  where
    go : (b : Bool) → same r x ≡ b → Placed (k + 1) g m (first_difference (k + 1) g m)
        → Placed k (r ∷ g) (x ∷ m) (cond b (first_difference (k + 1) g m) k)
    go false e p =
        somewhere 0 (omega arith) (record { within = omega arith; here = different e; before = λ i h. absurd (omega arith) })
    go true e (nowhere z f) = nowhere z at
      where
        at : (i : ℕ) → i < suc (length g) → SameAt i (r ∷ g) (x ∷ m)
        at zero h = ap some (same_to r x e)
        at (suc i) h = f i (omega arith)
    go true e (somewhere j z d) =
        somewhere (suc j) (omega arith) (record { within = omega (arith, d.within); here = d.here; before = at })
      where
        at : (i : ℕ) → i < suc j → SameAt i (r ∷ g) (x ∷ m)
        at zero h = ap some (same_to r x e)
        at (suc i) h = d.before i (omega arith)

-- ---- counted from 1
module _ (g m : List (List ℕ)) where
  pub none-differs : (first_difference 1 g m ≡ 0) ↔ ((i : ℕ) → i < length g → SameAt i g m)
  none-differs = (there (placed 1 g m), back (placed 1 g m))
    where
      there : {r : ℕ} → Placed 1 g m r → r ≡ 0 → (i : ℕ) → i < length g → SameAt i g m
      there (nowhere z f) e = f
      there (somewhere j z d) e = absurd (omega arith)

      back : {r : ℕ} → Placed 1 g m r → ((i : ℕ) → i < length g → SameAt i g m) → r ≡ 0
      back (nowhere z f) h = z
      back (somewhere j z d) h = absurd (d.here (h j d.within))

  one-first : (j i : ℕ) → DiffersFirst j g m → DiffersFirst i g m → j ≡ i
  one-first j i d c =
      elim (dec_lt j i) [
        | yes q ↦ absurd (d.here (c.before j q))
        | no q ↦ elim (dec_lt i j) [
          | yes p ↦ absurd (c.here (d.before i p))
          | no p ↦ omega arith
        ]
      ]

  pub first-differs : (j : ℕ) → (first_difference 1 g m ≡ j + 1) ↔ DiffersFirst j g m
  first-differs j = (there (placed 1 g m), back (placed 1 g m))
    where
      there : {r : ℕ} → Placed 1 g m r → r ≡ j + 1 → DiffersFirst j g m
      there (nowhere z f) e = absurd (omega arith)
      there (somewhere i z d) e = let q : i ≡ j = omega arith in subst (λ (x : ℕ). DiffersFirst x g m) q d

      back : {r : ℕ} → Placed 1 g m r → DiffersFirst j g m → r ≡ j + 1
      back (nowhere z f) d = absurd (d.here (f j d.within))
      back (somewhere i z c) d = omega (arith, one-first j i d c)

-- ---- a list that is not longer, and has the same records, is the same list
pub alike : (g m : List (List ℕ)) → length m ≤ length g → ((i : ℕ) → i < length g → SameAt i g m) → g ≡ m
alike [] [] l h = refl
alike [] (x ∷ m) l h = absurd (omega arith)
alike (r ∷ g) [] l h = absurd (none-ne-some r (sym (h 0 (omega arith))))
alike (r ∷ g) (x ∷ m) l h =
    let f : ◌≡◌ {A = Option (List ℕ)} (some r) (some x) = h 0 (omega arith) in
    let e : r ≡ x = cc in
    let t = alike g m (omega arith) (λ i q. h (suc i) (omega arith)) in
    rw (e, t)
