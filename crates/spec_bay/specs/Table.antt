-- The positions of a bay as bytes (02, item 9): 16 entries, each a name and the state record of a machine that waits. Its phase
-- byte, 1, marks the entry as used, whatever the name; a free entry is all 00.
use Rattle.std.specs.Prelude.{ℕ, zero, suc, ◌+◌, ◌-◌, ◌*◌, ◌^◌, ◌≡◌, Bool, ◌&&◌, cond, length, eqb, leb}
use Rattle.std.proofs.Math.Option.{Option, some, none}
use mathlib.Core.List.{List, [], ◌∷◌, ◌++◌, Memᴰ}
use Rattle.spec_base.specs.Limits.{max_positions, name_bytes, position_row, positions_row}
use Rattle.spec_base.specs.Bytes.{le_bytes, le_number}
use Rattle.spec_tick.specs.StateRecord.{state_length, labels_in, state_record}
use Rattle.spec_base.specs.Parts.{slot, put, zeros}
use Rattle.spec_bay.specs.Names.{Once}

-- name and phase
abbrev pub key_bytes : ℕ
key_bytes = name_bytes + 1

abbrev pub entry_length : ℕ
entry_length = name_bytes + state_length

abbrev pub table_length : ℕ
table_length = max_positions * entry_length

abbrev pub entry_of : (name labels : ℕ) → List ℕ
entry_of name labels = le_bytes name_bytes name ++ state_record 1 labels

-- ---- an entry: its name and its phase as one number, 0 if it is free; the phase of one that is used counts 256 ^ 4
abbrev pub key_in : (i : ℕ) → List ℕ → ℕ
key_in i t = le_number (slot (i * entry_length) key_bytes t)

abbrev pub is_free : List ℕ → (i : ℕ) → Bool
is_free t i = eqb (key_in i t) 0

abbrev pub used : (i : ℕ) → List ℕ → Bool
used i t = leb (256 ^ name_bytes) (key_in i t)

abbrev pub name_at : (i : ℕ) → List ℕ → ℕ
name_at i t = key_in i t - 256 ^ name_bytes

abbrev pub is_of : (name : ℕ) → List ℕ → (i : ℕ) → Bool
is_of name t i = used i t && eqb (name_at i t) name

abbrev pub saved_labels : (i : ℕ) → List ℕ → ℕ
saved_labels i t = labels_in (slot (i * entry_length + name_bytes) state_length t)

-- ---- where an entry is: the last of the first n that is such, if there is one
unfoldable pub last_such : (n : ℕ) → (such : ℕ → Bool) → Option ℕ
last_such zero such = none
last_such (suc n) such = cond (such n) (some n) (last_such n such)

abbrev pub where_is : (name : ℕ) → List ℕ → Option ℕ
where_is name t = last_such max_positions (is_of name t)

-- where a known name is, else a free entry
abbrev pub or_else : Option ℕ → Option ℕ → Option ℕ
or_else none other = other
or_else (some i) other = some i

abbrev pub where_for : (name : ℕ) → List ℕ → Option ℕ
where_for name t = or_else (where_is name t) (last_such max_positions (is_free t))

abbrev pub there : {A : Type 0} → (nowhere : A) → ((i : ℕ) → A) → Option ℕ → A
there nowhere made none = nowhere
there nowhere made (some i) = made i

-- the labels saved under a name
unfoldable pub lookup : (name : ℕ) → List ℕ → Option ℕ
lookup name t = there none (λ i. some (saved_labels i t)) (where_is name t)

-- ---- a number and the table after it
pub data Kept : Type 0 where
  kept : (number : ℕ) (table : List ℕ) → Kept

abbrev pub number_kept : Kept → ℕ
number_kept (kept number t) = number

abbrev pub table_kept : Kept → List ℕ
table_kept (kept number t) = t

abbrev pub written : (i name labels : ℕ) → List ℕ → List ℕ
written i name labels t = put (i * entry_length) entry_length (entry_of name labels) t

abbrev pub cleared : (i : ℕ) → List ℕ → List ℕ
cleared i t = put (i * entry_length) entry_length (zeros entry_length) t

-- 'Saving under a known name replaces it'; '16 for a seventeenth name'
unfoldable pub save_of : (name labels : ℕ) → List ℕ → Kept
save_of name labels t = there (kept positions_row t) (λ i. kept 0 (written i name labels t)) (where_for name t)

-- '15 .. for an unknown name'
unfoldable pub forget_of : (name : ℕ) → List ℕ → Kept
forget_of name t = there (kept position_row t) (λ i. kept 0 (cleared i t)) (where_is name t)

-- 16 names, each once, are known
abbrev pub SixteenKnown : List ℕ → Type 0
SixteenKnown t =
    (ns : List ℕ) × Once ns × (length ns ≡ max_positions) × ((n : ℕ) → Memᴰ n ns → (labels : ℕ) × (lookup n t ≡ some labels))
