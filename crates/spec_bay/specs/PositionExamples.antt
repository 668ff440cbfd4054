-- Saves and forgets worked by hand: by name, and in the table.
use Rattle.std.specs.Prelude.{ℕ, zero, suc, ◌≡◌, refl, List, [], ◌∷◌}
use Rattle.std.proofs.Math.Option.{some, none}
use Rattle.spec_base.specs.Bytes.{le_bytes, le_number}
use Rattle.spec_base.specs.Parts.{put, zeros}
use Rattle.spec_bay.specs.Names.{Position, find, without, answered, save_named, forget_named, number_answered, positions_after, names_of}
use Rattle.spec_bay.specs.Table.{table_length, last_such, lookup, number_kept, table_kept, save_of, forget_of}

-- names 0 to n - 1 saved, each with a label set of its own
abbrev first : ℕ → List (Position ℕ)
first zero = []
first (suc n) = positions_after (save_named n (suc n) (first n))

seventeenth_refused : number_answered (save_named 16 1 (first 16)) ≡ 16
unfolding save_named find without
seventeenth_refused = refl

known_replaced : find 3 (positions_after (save_named 3 9 (first 16))) ≡ some 9
unfolding save_named find without
known_replaced = refl

one_of_a_name : names_of (positions_after (save_named 0 9 (first 2))) ≡ 0 ∷ 1 ∷ []
unfolding save_named find without names_of
one_of_a_name = refl

place_freed : number_answered (save_named 16 1 (positions_after (forget_named 5 (first 16)))) ≡ 0
unfolding save_named forget_named find without
place_freed = refl

unknown_forgotten : forget_named 16 (first 16) ≡ answered 15 (first 16)
unfolding save_named forget_named find without
unknown_forgotten = refl

-- name 0 is a name like any other
two : List ℕ
two = table_kept (save_of 7 5 (table_kept (save_of 0 3 (zeros table_length))))

zero_found : lookup 0 two ≡ some 3
unfolding two save_of lookup last_such put zeros le_bytes le_number
zero_found = refl

other_unknown : lookup 1 two ≡ none
unfolding two save_of lookup last_such put zeros le_bytes le_number
other_unknown = refl

zero-forgotten : lookup 0 (table_kept (forget_of 0 two)) ≡ none
unfolding two save_of forget_of lookup last_such put zeros le_bytes le_number
zero-forgotten = refl

unknown_refused : number_kept (forget_of 1 two) ≡ 15
unfolding two save_of forget_of last_such put zeros le_bytes le_number
unknown_refused = refl

one_entry : lookup 7 (table_kept (forget_of 7 (table_kept (save_of 7 6 two)))) ≡ none
unfolding two save_of forget_of lookup last_such put zeros le_bytes le_number
one_entry = refl

-- names that differ from another in one byte
apart : List ℕ
apart = table_kept (save_of 16777217 5 (table_kept (save_of 65537 4 (table_kept (save_of 257 3 (zeros table_length))))))

one_unknown : lookup 1 apart ≡ none
unfolding apart save_of lookup last_such put zeros le_bytes le_number
one_unknown = refl

each_found : lookup 65537 apart ≡ some 4
unfolding apart save_of lookup last_such put zeros le_bytes le_number
each_found = refl
