-- The order of completion codes is that of their numbers in 01, whatever number greater than all stands for wrong.
use Prim.Native.Nat.{ℕ, ◌+◌, ◌<◌, ◌≤◌, max}
use mathlib.Core.Path.{◌≡◌, refl}
use native.Mathlib.Omega.{arith}
use Rattle.spec_language.specs.Reaction.{Code, ended, waiting, leaving, wrong, greater}

-- 01: ended 0, waiting 1, leaving n is n + 1
abbrev pub number_of : ℕ → Code → ℕ
number_of top ended = 0
number_of top waiting = 1
number_of top (leaving n) = n + 1
number_of top wrong = top

-- exits start at 1, and top is greater than all other numbers
abbrev pub Below : ℕ → Code → Type 0
Below top ended = 0 < top
Below top waiting = 1 < top
Below top (leaving n) = (1 ≤ n) × (n + 1 < top)
Below top wrong = Unit {0}

-- 003: max
pub greater_number : (top : ℕ) (j k : Code) → Below top j → Below top k
    → number_of top (greater j k) ≡ max (number_of top j) (number_of top k)
greater_number top ended ended g h = refl
greater_number top ended waiting g h = refl
greater_number top ended (leaving n) g h = omega arith
greater_number top ended wrong g h = omega arith
greater_number top waiting ended g h = refl
greater_number top waiting waiting g h = refl
greater_number top waiting (leaving n) g h = omega arith
greater_number top waiting wrong g h = omega arith
greater_number top (leaving m) ended g h = omega arith
greater_number top (leaving m) waiting g h = omega arith
greater_number top (leaving m) (leaving n) g h = omega arith
greater_number top (leaving m) wrong g h = omega arith
greater_number top wrong ended g h = omega arith
greater_number top wrong waiting g h = omega arith
greater_number top wrong (leaving n) g h = omega arith
greater_number top wrong wrong g h = omega arith
