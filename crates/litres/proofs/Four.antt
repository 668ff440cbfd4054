-- Four bytes as one number.
use Prim.Native.Nat.{ℕ, suc, ◌+◌, ◌*◌, ◌≤◌}
use mathlib.Core.Path.{◌≡◌, ap, ◌∙◌}
use mathlib.Core.List.{List, ◌∷◌}
use native.Mathlib.Omega.{arith}
use lib.ListN.{length, get_or, take, drop}
use lib.Seq.{drop-cons}
use Rattle.spec_base.specs.Bytes.{le_number}

four : (s : List ℕ) (i : ℕ) → i + 4 ≤ length s
    → drop i s ≡ get_or s i 0 ∷ get_or s (suc i) 0 ∷ get_or s (suc (suc i)) 0 ∷ get_or s (suc (suc (suc i))) 0 ∷ drop (suc (suc (suc (suc i)))) s
four s i h =
    drop-cons s i 0 (omega arith)
    ∙ ap (λ (l : List ℕ). get_or s i 0 ∷ l)
    (drop-cons s (suc i) 0 (omega arith)
    ∙ ap (λ (l : List ℕ). get_or s (suc i) 0 ∷ l)
    (drop-cons s (suc (suc i)) 0 (omega arith)
    ∙ ap (λ (l : List ℕ). get_or s (suc (suc i)) 0 ∷ l) (drop-cons s (suc (suc (suc i))) 0 (omega arith))))

pub four_bytes : (s : List ℕ) (i : ℕ) → i + 4 ≤ length s
    → get_or s i 0 + get_or s (i + 1) 0 * 256 + get_or s (i + 2) 0 * 65536 + get_or s (i + 3) 0 * 16777216 ≡ le_number (take 4 (drop i s))
unfolding le_number
four_bytes s i h =
    let one : i + 1 ≡ suc i = omega arith in
    let two : i + 2 ≡ suc (suc i) = omega arith in
    let three : i + 3 ≡ suc (suc (suc i)) = omega arith in
    rw (one, two, three, four s i h) (omega arith)
