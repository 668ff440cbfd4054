-- Sums of numbers, one for each index below a bound: what they come to where one of the numbers changes.
use Prim.Native.Nat.{ℕ, zero, suc, ◌+◌, ◌<◌}
use native.Mathlib.Omega.{arith}
use native.Mathlib.Decide.{ℕ_discrete, dec_lt}
use mathlib.Core.Path.{◌≡◌, refl, ap}
use mathlib.Core.Logic.{◌≢◌}

unfoldable pub sum_of : (ℕ → ℕ) → (n : ℕ) → ℕ
sum_of f zero = 0
sum_of f (suc n) = sum_of f n + f n

pub same_sum : (f g : ℕ → ℕ) (n : ℕ) → ((j : ℕ) → j < n → f j ≡ g j) → sum_of f n ≡ sum_of g n
unfolding sum_of
same_sum f g zero h = refl
same_sum f g (suc n) h = omega (arith, same_sum f g n (λ j l. h j (omega arith)), h n (omega arith))

pub one_changed : (f g : ℕ → ℕ) (i n : ℕ) → i < n → ((j : ℕ) → j ≢ i → j < n → f j ≡ g j) → sum_of f n + g i ≡ sum_of g n + f i
unfolding sum_of
one_changed f g i zero l h = absurd (omega arith)
one_changed f g i (suc n) l h =
    elim (ℕ_discrete n i) [
      | yes e ↦ omega (arith, same_sum f g n (λ j k. h j (λ q. omega arith) (omega arith)), ap f e, ap g e)
      | no e ↦
          let k : i < n = elim (dec_lt i n) [ yes q ↦ q | no q ↦ absurd (e (omega arith)) ] in
          omega (arith, one_changed f g i n k (λ j d m. h j d (omega arith)), h n e (omega arith))
    ]
