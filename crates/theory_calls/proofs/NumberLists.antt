-- Numbers that are in a list, by a bound and a computed test of every number below it.
use Prim.Native.Nat.{ℕ, zero, suc, ◌<◌}
use native.Mathlib.Omega.{arith}
use native.Mathlib.Decide.{ℕ_discrete}
use mathlib.Core.Path.{◌≡◌, sym, ap, ◌∙◌}
use mathlib.Core.Bool.{Bool, true, ◌&&◌, ◌||◌, and-eq-true_iff}
use mathlib.Core.List.{List}
use lib.Dec.{ltb}
use borrow.Author.Tests.{le-ltb}
use Rattle.spec_sequence.specs.Rows.{Row, rank}
use Rattle.theory_sequence.proofs.Rows.{row-range, row-rank}
use Rattle.spec_calls.specs.Numbers.{one_of}

unfoldable pub all : (n : ℕ) → (ℕ → Bool) → Bool
all zero P = true
all (suc n) P = all n P && P n

each_below : (n : ℕ) (P : ℕ → Bool) → all n P ≡ true → (k : ℕ) → k < n → P k ≡ true
unfolding all
each_below zero P h k l = absurd (omega arith)
each_below (suc n) P h k l =
    let s = (and-eq-true_iff (all n P) (P n)).0 h in
    elim (ℕ_discrete k n) [
      | yes e ↦ ap P e ∙ s.1
      | no e ↦ each_below n P s.0 k (omega arith)
    ]

pub is : {n : ℕ} (k : ℕ) (l : List ℕ) → one_of k l ≡ true → n ≡ k → one_of n l ≡ true
is k l h e = ap (λ (m : ℕ). one_of m l) e ∙ h

-- a list that has the refusals of the check
abbrev tested : List ℕ → ℕ → Bool
tested l k = (ltb k 2 || ltb 20 (rank k)) || one_of k l

abbrev pub HasRefusals : List ℕ → Type 0
HasRefusals l = all 19 (λ k. (ltb k 2 || ltb 20 (rank k)) || one_of k l) ≡ true

pub refusal_in : (l : List ℕ) → HasRefusals l → (sequence : List ℕ) (read_back k : ℕ) → Row sequence read_back k → one_of k l ≡ true
refusal_in l h sequence read_back k r =
    let range = row-range sequence read_back k r in
    let b = each_below 19 (tested l) h k (omega (arith, range)) in
    let low = le-ltb k 2 range.0 in
    let high = le-ltb 20 (rank k) (row-rank sequence read_back k r) in
    sym (rw (low, high)) ∙ b
