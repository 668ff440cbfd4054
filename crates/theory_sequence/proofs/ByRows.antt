-- How a number goes by rows, from the row that holds first or from none.
use Prim.Native.Nat.{ℕ, ◌*◌, ◌≤◌, ◌<◌}
use native.Mathlib.Omega.{arith}
use native.Mathlib.Decide.{dec_lt}
use mathlib.Core.Path.{◌≡◌, refl, sym, ◌∙◌, subst}
use mathlib.Core.Bool.{Bool, true, false, cond}
use lib.Dec.{eqb}
use borrow.Author.Tests.{eqb-true}
use Rattle.spec_sequence.specs.Rows.{rank, ByRows}

-- ---- each number has a place of its own
pub rank_one : (n m : ℕ) → rank n ≡ rank m → n ≡ m
rank_one n m = go (eqb n 18) (eqb m 18) refl refl
  where
    go : (b c : Bool) → eqb n 18 ≡ b → eqb m 18 ≡ c → cond b 11 (2 * n) ≡ cond c 11 (2 * m) → n ≡ m
    go true true i j e = eqb-true n 18 i ∙ sym (eqb-true m 18 j)
    go true false i j e = absurd (let z : 11 ≡ 2 * m = e in omega arith)
    go false true i j e = absurd (let z : 2 * n ≡ 11 = e in omega arith)
    go false false i j e = let z : 2 * n ≡ 2 * m = e in omega arith

-- a place from below
pub rank_least : (n m : ℕ) → n ≤ m → n ≤ 5 → 2 * n ≤ rank m
rank_least n m h l = go (eqb m 18)
  where
    go : (b : Bool) → 2 * n ≤ cond b 11 (2 * m)
    go true = omega arith
    go false = omega arith

module _ (Holds : ℕ → Type 0) where
  abbrev First : ℕ → Type 0
  First n = Holds n × ((k : ℕ) → rank k < rank n → ¬ Holds k)

  first-unique : (n m : ℕ) → First n → First m → n ≡ m
  first-unique n m x y =
      elim (dec_lt (rank n) (rank m)) [
        | yes i ↦ absurd (y.1 n i x.0)
        | no i ↦ elim (dec_lt (rank m) (rank n)) [
          | yes j ↦ absurd (x.1 m j y.0)
          | no j ↦ rank_one n m (omega arith)
        ]
      ]

pub refused_by : (n : ℕ) (Holds : ℕ → Type 0) → ¬ Holds 0 → Holds n → ((k : ℕ) → rank k < rank n → ¬ Holds k) → ByRows n Holds
refused_by n Holds none h below =
    record {
      refusal = λ m nz. (λ e. subst (First Holds) e (h, below), λ x. first-unique Holds n m (h, below) x);
      acceptance = (λ e. absurd (none (subst Holds e h)), λ x. absurd (x n h));
    }

pub accepted_by : (Holds : ℕ → Type 0) → ((m : ℕ) → ¬ Holds m) → ByRows 0 Holds
accepted_by Holds none =
    record {
      refusal = λ m nz. (λ e. absurd (nz (sym e)), λ x. absurd (none m x.0));
      acceptance = (λ e. none, λ x. refl);
    }
