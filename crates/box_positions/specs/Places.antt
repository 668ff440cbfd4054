-- The table of positions as the code goes through it, with 16 for no entry; and tables that saving and forgetting leave.
use Rattle.std.specs.Prelude.{ℕ, zero, suc, ◌+◌, ◌-◌, ◌^◌, ◌<◌, ◌≡◌, cond, ◌⊎◌, List, [], ◌∷◌, length, eqb, ltb}
use Rattle.std.specs.Prelude as std
use Rattle.std.proofs.Math.Option.{Option, some, none}
use Rattle.spec_base.specs.Limits.{max_positions, name_bytes}
use Rattle.spec_bay.specs.Names.{Position, find, names_of, Once}
use Rattle.spec_bay.specs.Table.{table_length, key_in, saved_labels, lookup}

-- the number of a used entry, by its name and back
abbrev pub key_of : (name : ℕ) → ℕ
key_of name = name + 256 ^ name_bytes

abbrev pub name_of : (key : ℕ) → ℕ
name_of key = key - 256 ^ name_bytes

-- an entry with this key among the first n, or 16
unfoldable pub place : (n key : ℕ) → List ℕ → ℕ
place zero key t = max_positions
place (suc n) key t = cond (eqb (key_in n t) key) n (place n key t)

abbrev pub place_of : (name : ℕ) → List ℕ → ℕ
place_of name t = place max_positions (key_of name) t

-- the entry that the code answers, with 16 for none; and that it is entry n, or that n is 16
abbrev pub place_in : std.Option ℕ → ℕ
place_in std.None = max_positions
place_in (std.Some i) = i

abbrev pub Places : std.Option ℕ → (n : ℕ) → Type 0
Places std.None n = n ≡ max_positions
Places (std.Some i) n = (i < max_positions) × (n ≡ i)

-- where a known name is, else a free entry
abbrev pub place_for : (name : ℕ) → List ℕ → ℕ
place_for name t = cond (ltb (place_of name t) max_positions) (place_of name t) (place max_positions 0 t)

abbrev pub labels_found : (i : ℕ) → List ℕ → Option ℕ
labels_found i t = cond (ltb i max_positions) (some (saved_labels i t)) none

-- ---- the names known
unfoldable pub names_below : (n : ℕ) → List ℕ → List ℕ
names_below zero t = []
names_below (suc n) t = cond (eqb (key_in n t) 0) (names_below n t) (name_of (key_in n t) ∷ names_below n t)

abbrev pub names : List ℕ → List ℕ
names t = names_below max_positions t

-- a table that saving and forgetting leave: an entry is free or has a name, and a name has one entry
abbrev pub FreeOrNamed : ℕ → Type 0
FreeOrNamed key = (key ≡ 0) ⊎ ((name : ℕ) × (name < 256 ^ name_bytes) × (key ≡ key_of name))

pub record Formed (t : List ℕ) : Type 0 where
  pub sized : length t ≡ table_length
  pub single : (name i j : ℕ) → i < max_positions → j < max_positions → key_in i t ≡ key_of name → key_in j t ≡ key_of name → i ≡ j
  pub named : (i : ℕ) → i < max_positions → FreeOrNamed (key_in i t)

-- the table and the positions by name are the same
pub record Agrees (t : List ℕ) (ps : List (Position ℕ)) : Type 0 where
  pub formed : Formed t
  pub alike : (name : ℕ) → lookup name t ≡ find name ps
  pub once : Once (names_of ps)
