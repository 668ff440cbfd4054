-- The theorems of this crate (02, item 9): the table is a map from names to label sets, with at most 16 names.
use Prim.Native.Nat.{ℕ, ◌^◌, ◌≤◌, ◌<◌}
use mathlib.Core.Path.{◌≡◌}
use mathlib.Core.Logic.{◌≢◌, ◌↔◌, ◌⊎◌}
use mathlib.Core.Option.{some, none}
use mathlib.Core.List.{List, [], Memᴰ}
use lib.ListN.{length}
use Rattle.spec_base.specs.Limits.{label_bytes, max_positions, name_bytes}
use Rattle.spec_base.specs.Parts.{zeros}
use Rattle.spec_bay.specs.Names.{Position, save_named, forget_named, number_answered, positions_after, Once}
use Rattle.spec_bay.specs.Table.{table_length, lookup, number_kept, table_kept, save_of, forget_of, SixteenKnown}
use Rattle.box_positions.specs.Places.{names, Formed, Agrees}
use Rattle.box_positions.proofs.TableLaws as laws
use Rattle.box_positions.proofs.Known as known
use Rattle.box_positions.proofs.ByNames as by_names

-- THE TABLE AND THE POSITIONS BY NAME are the same when it is cleared, and stay so over a save and a forget, with the same numbers
pub cleared-agrees : Agrees (zeros table_length) []
cleared-agrees = by_names.cleared-agrees

pub save_agrees : (t : List ℕ) (ps : List (Position ℕ)) → Agrees t ps → (name labels : ℕ) → name < 256 ^ name_bytes → labels < 256 ^ label_bytes
    → (number_kept (save_of name labels t) ≡ number_answered (save_named name labels ps))
    × Agrees (table_kept (save_of name labels t)) (positions_after (save_named name labels ps))
save_agrees = by_names.save_agrees

pub forget_agrees : (t : List ℕ) (ps : List (Position ℕ)) → Agrees t ps → (name : ℕ)
    → (number_kept (forget_of name t) ≡ number_answered (forget_named name ps))
    × Agrees (table_kept (forget_of name t)) (positions_after (forget_named name ps))
forget_agrees = by_names.forget_agrees

-- WHAT IS FOUND after a save
pub lookup-saved : (name labels : ℕ) (t : List ℕ) → Formed t → name < 256 ^ name_bytes → number_kept (save_of name labels t) ≡ 0
    → labels < 256 ^ label_bytes → lookup name (table_kept (save_of name labels t)) ≡ some labels
lookup-saved = laws.lookup-saved

pub lookup_others_saved : (name labels : ℕ) (t : List ℕ) → Formed t → name < 256 ^ name_bytes
    → (other : ℕ) → other ≢ name → lookup other (table_kept (save_of name labels t)) ≡ lookup other t
lookup_others_saved = laws.lookup_others_saved

-- after a forget
pub lookup-forgotten : (name : ℕ) (t : List ℕ) → Formed t → lookup name (table_kept (forget_of name t)) ≡ none
lookup-forgotten = laws.lookup-forgotten

pub lookup_others_forgotten : (name : ℕ) (t : List ℕ) → Formed t
    → (other : ℕ) → other ≢ name → lookup other (table_kept (forget_of name t)) ≡ lookup other t
lookup_others_forgotten = laws.lookup_others_forgotten

-- in a cleared table
pub lookup-zeros : (name : ℕ) → lookup name (zeros table_length) ≡ none
lookup-zeros = laws.lookup-zeros

-- TABLES stay formed
pub formed_zeros : Formed (zeros table_length)
formed_zeros = laws.formed_zeros

pub formed_saved : (name labels : ℕ) (t : List ℕ) → Formed t → name < 256 ^ name_bytes → Formed (table_kept (save_of name labels t))
formed_saved = laws.formed_saved

pub formed_forgotten : (name : ℕ) (t : List ℕ) → Formed t → Formed (table_kept (forget_of name t))
formed_forgotten = laws.formed_forgotten

-- THE NAMES of a table are those known, each once, at most 16
pub names_known : (t : List ℕ) → Formed t → (name : ℕ) → Memᴰ name (names t) ↔ ((labels : ℕ) × (lookup name t ≡ some labels))
names_known = known.names_known

pub names-once : (t : List ℕ) → Formed t → Once (names t)
names-once = known.names-once

pub at_most_16 : (t : List ℕ) → length (names t) ≤ max_positions
at_most_16 = known.at_most_16

-- NUMBERS, of all bytes: 16 exactly for a seventeenth name, 15 exactly for an unknown one, else 0; a refusal leaves the table
pub seventeenth : (name labels : ℕ) (t : List ℕ)
    → (number_kept (save_of name labels t) ≡ 16) ↔ ((lookup name t ≡ none) × (length (names t) ≡ max_positions))
seventeenth = known.seventeenth

pub sixteen_others : (name labels : ℕ) (t : List ℕ) → Formed t
    → (number_kept (save_of name labels t) ≡ 16) ↔ ((lookup name t ≡ none) × SixteenKnown t)
sixteen_others = known.sixteen_others

pub save_number : (name labels : ℕ) (t : List ℕ) → (number_kept (save_of name labels t) ≡ 0) ⊎ (number_kept (save_of name labels t) ≡ 16)
save_number = known.save_number

pub unknown_forgotten : (name : ℕ) (t : List ℕ) → (number_kept (forget_of name t) ≡ 15) ↔ (lookup name t ≡ none)
unknown_forgotten = known.unknown_forgotten

pub forget_number : (name : ℕ) (t : List ℕ) → (number_kept (forget_of name t) ≡ 0) ⊎ (number_kept (forget_of name t) ≡ 15)
forget_number = known.forget_number

pub save_refused : (name labels : ℕ) (t : List ℕ) → number_kept (save_of name labels t) ≢ 0 → table_kept (save_of name labels t) ≡ t
save_refused = laws.save_refused

pub forget_refused : (name : ℕ) (t : List ℕ) → number_kept (forget_of name t) ≢ 0 → table_kept (forget_of name t) ≡ t
forget_refused = laws.forget_refused
