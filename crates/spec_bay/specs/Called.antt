-- What a call comes to: its number, the memory after it (a box, or the slot of a bay), and the other buffers that were lent for
-- writing after it, in their order.
use Rattle.std.specs.Prelude.{ℕ, List, [], ◌∷◌}

pub data Called : Type 0 where
  called : (number : ℕ) (memory : List ℕ) (lent : List (List ℕ)) → Called

abbrev pub number : Called → ℕ
number (called n memory lent) = n

abbrev pub memory_after : Called → List ℕ
memory_after (called n memory lent) = memory

abbrev pub lent_after : Called → List (List ℕ)
lent_after (called n memory lent) = lent

-- the first of the buffers
abbrev pub first : List (List ℕ) → List ℕ
first [] = []
first (b ∷ bs) = b
