-- What the search for a clash finds in the rows of exclusive pauses and of concurrent triggers.
use Rattle.std.specs.Prelude.{ℕ, ◌≡◌, Bool, true, ◌||◌, ◌↔◌, ◌⊎◌}
use Rattle.spec_base.specs.Sets.{member}

-- k is in the row of a label of s
abbrev pub InRowOf : (rows : ℕ → ℕ) (s k : ℕ) → Type 0
InRowOf rows s k = (l : ℕ) × (member l s ≡ true) × (member k (rows l) ≡ true)

-- only labels of s have a row
abbrev pub RowsWithin : (rows : ℕ → ℕ) (s : ℕ) → Type 0
RowsWithin rows s = (l k : ℕ) → member k (rows l) ≡ true → member l s ≡ true

-- t has the labels that stand in the rows of the labels of s, and no other
abbrev pub RowsOf : (rows : ℕ → ℕ) (s t : ℕ) → Type 0
RowsOf rows s t = (k : ℕ) → (member k t ≡ true) ↔ InRowOf rows s k

-- a label concurrent with k has a pause exclusive with that of k
abbrev pub Clash : (exclusive concurrent : ℕ → ℕ) → ℕ → Type 0
Clash exclusive concurrent k =
    (l : ℕ) × (member l (concurrent k) ≡ true) × ((member l (exclusive k) || member k (exclusive l)) ≡ true)

-- the same, the rows of other labels being asked for k only if P
abbrev pub ClashIf : (exclusive concurrent : ℕ → ℕ) (P : Type 0) (k : ℕ) → Type 0
ClashIf exclusive concurrent P k =
    (l : ℕ) × (member l (concurrent k) ≡ true) × ((member l (exclusive k) ≡ true) ⊎ (P × (member k (exclusive l) ≡ true)))

-- r says whether a label of s clashes, k being looked for in other rows if it is in the row of a label of s
abbrev pub Clashes : (exclusive concurrent : ℕ → ℕ) (s : ℕ) (r : Bool) → Type 0
Clashes exclusive concurrent s r =
    (r ≡ true) ↔ ((k : ℕ) × (member k s ≡ true) × ClashIf exclusive concurrent (InRowOf exclusive s k) k)
