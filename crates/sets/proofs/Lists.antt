-- The members of a set in a list, and a set without the numbers of a list.
use Prim.Native.Nat.{ℕ, zero, suc, ◌+◌, ◌≤◌, ◌<◌}
use native.Mathlib.Decide.{ℕ_discrete}
use native.Mathlib.Omega.{arith}
use mathlib.Core.Path.{◌≡◌, refl, sym, ap, ap₂, ◌∙◌}
use mathlib.Core.Logic.{◌⊎◌, inl, inr, ⊎_elim}
use mathlib.Core.Bool.{Bool, true, false, and-true, and-false}
use mathlib.Core.List.Memᴰ
use mathlib.Core.List.{List, [], ◌∷◌, Memᴰ}
use borrow.Author.Tests.{eq-eqb, ne_eqb}
use Rattle.spec_base.specs.Sets.{member, none, remove, without, keep_if, members_from}
use Rattle.sets.proofs.Members.{member-none, member-remove}
use Rattle.sets.proofs.Algebra.{remove_absent}

-- ---- an empty set has no members
pub members_none : (n i : ℕ) → members_from n i none ≡ []
unfolding members_from
members_none zero i = refl
members_none (suc n) i = rw (member-none i) (members_none n (suc i))

-- ---- the lowest member comes first
members_same : (n j s t : ℕ) → ((k : ℕ) → j ≤ k → member k s ≡ member k t) → members_from n j s ≡ members_from n j t
unfolding members_from
members_same zero j s t h = refl
members_same (suc n) j s t h =
    ap₂ (λ (b : Bool) (is : List ℕ). keep_if b j is) (h j (omega arith)) (members_same n (suc j) s t (λ k l. h k (omega arith)))

pub members_lowest : (n j s i : ℕ) → j ≤ i → i < j + n → member i s ≡ true → ((k : ℕ) → k < i → member k s ≡ false)
    → members_from n j s ≡ i ∷ members_from n j (remove i s)
unfolding members_from
members_lowest zero j s i l m h f = absurd (omega arith)
members_lowest (suc n) j s i l m h f =
    elim (ℕ_discrete i j) [
      | yes e ↦ here e
      | no e ↦ rw (f j (omega arith), member-remove i s j, f j (omega arith)) (members_lowest n (suc j) s i (omega arith) (omega arith) h f)
    ]
  where
    kept : (k : ℕ) → suc i ≤ k → member k s ≡ member k (remove i s)
    kept k g = sym (member-remove i s k ∙ rw (ne_eqb i k (omega arith)) (and-true (member k s)))

    here : i ≡ j → members_from (suc n) j s ≡ i ∷ members_from (suc n) j (remove i s)
    here e =
        rw (← e, h, member-remove i s i, eq-eqb i i refl, and-false (member i s))
        (ap (λ (is : List ℕ). i ∷ is) (members_same n (suc i) s (remove i s) kept))

-- ---- the members of a set without those of a list
pub listed : (i : ℕ) (is : List ℕ) → Memᴰ i is ⊎ (¬ Memᴰ i is)
listed i [] = inr Memᴰ.not-nil
listed i (j ∷ is) =
    elim (ℕ_discrete i j) [
      | yes e ↦ inl (Memᴰ.head e)
      | no n ↦ ⊎_elim (λ m. inl (Memᴰ.tail m)) (λ m. inr (λ k. ⊎_elim n m (Memᴰ.cases_cons k))) (listed i is)
    ]

pub without-listed : (i : ℕ) (is : List ℕ) (s : ℕ) → Memᴰ i is → member i (without is s) ≡ false
unfolding without
without-listed i [] s m = absurd (Memᴰ.not-nil m)
without-listed i (j ∷ is) s m =
    member-remove j (without is s) i
    ∙ ⊎_elim (λ e. rw (eq-eqb j i (sym e)) (and-false (member i (without is s)))) (λ k. rw (without-listed i is s k))
    (Memᴰ.cases_cons m)

pub without_other : (i : ℕ) (is : List ℕ) (s : ℕ) → (¬ Memᴰ i is) → member i (without is s) ≡ member i s
unfolding without
without_other i [] s n = refl
without_other i (j ∷ is) s n =
    member-remove j (without is s) i
    ∙ rw (ne_eqb j i (λ e. n (Memᴰ.head (sym e))))
    (and-true (member i (without is s)) ∙ without_other i is s (λ k. n (Memᴰ.tail k)))

pub without-none : (is : List ℕ) → without is none ≡ none
unfolding without
without-none [] = refl
without-none (j ∷ is) = ap (remove j) (without-none is) ∙ remove_absent j none (member-none j)
