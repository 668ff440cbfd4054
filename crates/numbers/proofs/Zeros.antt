-- Laws of bytes 00.
use Prim.Native.Nat.{ℕ, zero, suc, ◌+◌, ◌-◌, ◌≤◌}
use native.Mathlib.Omega.{arith}
use mathlib.Core.Path.{◌≡◌, refl, ap, ◌∙◌}
use mathlib.Core.List.{List, ◌∷◌}
use lib.ListN.{length, take, drop}
use Rattle.spec_base.specs.Bytes.{le_bytes, le_number}
use Rattle.numbers.proofs.Bytes.{length_le_bytes}
use Rattle.spec_base.specs.Parts.{slot, zeros}

pub length-zeros : (n : ℕ) → length (zeros n) ≡ n
unfolding zeros
length-zeros n = length_le_bytes n 0

drop-zeros : (i n : ℕ) → drop i (zeros n) ≡ zeros (n - i)
unfolding zeros le_bytes
drop-zeros zero n = let e : n ≡ n - 0 = omega arith in ap zeros e
drop-zeros (suc i) zero = let e : ◌≡◌ {A = ℕ} 0 (0 - suc i) = omega arith in ap zeros e
drop-zeros (suc i) (suc n) = let e : n - i ≡ suc n - suc i = omega arith in drop-zeros i n ∙ ap zeros e

take-zeros : (m n : ℕ) → m ≤ n → take m (zeros n) ≡ zeros m
unfolding zeros le_bytes
take-zeros zero n h = refl
take-zeros (suc m) zero h = absurd (omega arith)
take-zeros (suc m) (suc n) h = ap (λ (l : List ℕ). 0 ∷ l) (take-zeros m n (omega arith))

pub slot-zeros : (i m n : ℕ) → i + m ≤ n → slot i m (zeros n) ≡ zeros m
slot-zeros i m n h = ap (take m) (drop-zeros i n) ∙ take-zeros m (n - i) (omega arith)

-- as a number
pub zeros_number : (n : ℕ) → le_number (zeros n) ≡ 0
unfolding zeros le_bytes le_number
zeros_number zero = refl
zeros_number (suc n) = let e = zeros_number n in omega arith
