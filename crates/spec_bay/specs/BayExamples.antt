-- Calls of a bay worked by hand, each on one slot: what it writes, what it leaves, and its number. Lists of calls are worked in
-- spec_box.
use Rattle.std.specs.Prelude.{ℕ, ◌+◌, ◌≡◌, refl, cond, List, [], ◌∷◌, replicate, eqb}
use Rattle.std.proofs.Math.Option as Option
use Rattle.std.proofs.Math.Option.{some}
use Rattle.std.specs.Float.Ieee.{of_bits, to_bits, of_int, whole, in_unsigned, to_unsigned}
use Rattle.spec_language.specs.Litres.{delivered_by}
use Rattle.spec_base.specs.Limits.{number_bytes}
use Rattle.spec_base.specs.Sets.{member, none, only, join, difference, insert, remove, subset, disjoint, members_from}
use Rattle.spec_language.specs.Reaction.{react_by}
use Rattle.spec_language.specs.Errors.{errors_by}
use Rattle.spec_language.specs.Reactions.{reactions_by}
use Rattle.spec_language.specs.LabelTests.{labels_of, active_labels, every_label, distinct, before, well_formed, valid}
use Rattle.spec_language.specs.States.{active}
use Rattle.spec_language.specs.Expansion.{expand}
use Rattle.spec_language.specs.ReadBack.{declared_by}
use Rattle.spec_language.specs.Sizes.{commands, loop_nesting, signal_nesting}
use Rattle.spec_language.specs.Ceiling.{ceiling}
use Rattle.spec_sequence.specs.Commands.{command_of}
use Rattle.spec_sequence.specs.Reader.{front, read}
use Rattle.spec_sequence.specs.Check.{checked}
use Rattle.spec_base.specs.Bytes.{le_bytes, le_number}
use Rattle.spec_tick.specs.StateRecord.{state_length, state_record, phase_in, labels_in, encode_state, decode_state}
use Rattle.spec_tick.specs.AnswerRecord.{answer_length, code_in, answer_record, encode_answer}
use Rattle.spec_base.specs.Parts.{put, zeros}
use Rattle.spec_bay.specs.Table.{table_length, entry_length, entry_of, last_such, lookup, save_of}
use Rattle.spec_bay.specs.Ledgers.{total_in, totals_bytes, would_pass, added_below}
use Rattle.spec_tick.specs.Record.{recordLength, record_of, number_in, panel_length, panel_of}
use Rattle.spec_tick.specs.Recording.{following}
use Rattle.spec_tick.specs.Tick.{outcome, tick_by}
use Rattle.spec_bay.specs.Called.{Called, called, number, memory_after, lent_after, first}
use Rattle.spec_bay.specs.Stretch.{state_at, count_at, positions_at, bay_length, stretch_length, length_in, state_in, last_number_in, positions_in, ledger_in, part_of, vacated, terms, filled}
use Rattle.spec_bay.specs.BayCalls.{by_outcome, bay_tick_of, bay_release_of, bay_admit_of, bay_save_of, restored, bay_service_of, bay_panel_of, bay_ledger_of, bay_new_year_of}

-- ends at once: ceiling 1
abbrev ends : List ℕ
ends = 0x00 ∷ []

-- litres for farm 2 alone
abbrev for_two : (litres farm : ℕ) → ℕ
for_two litres f = cond (eqb f 2) litres 0

unfoldable blank : List ℕ
blank = zeros stretch_length

-- a bay with service-only signals 2 and 3, whose machine waits at labels 1 and 2 after three instants, with labels 0 and 2 saved
-- under the name 9, on a bay number that has delivered 5 litres to farm 2
unfoldable busy : List ℕ
busy =
    put (bay_length + 8) 4 (0x00 ∷ 0x00 ∷ 0xA0 ∷ 0x40 ∷ [])
    (put positions_at entry_length (entry_of 9 5)
    (put count_at number_bytes (le_bytes number_bytes 3)
    (put state_at state_length (state_record 1 6) (filled (terms ends 0 0x0C) 1 blank))))

-- ---- what an admission fixes
length_held : length_in (filled (terms (replicate 256 0) 0 0) 1 blank) ≡ 256
unfolding filled vacated blank put zeros le_bytes le_number
length_held = refl

-- ---- the shared ceiling: a ceiling of 1 where the others have 65,535 and where they have all, and a bad sequence there
reached : number (bay_admit_of 65535 blank (terms ends 0 0)) ≡ 0
unfolding bay_admit_of checked read front command_of distinct well_formed before every_label labels_of subset disjoint members_from declared_by commands loop_nesting signal_nesting ceiling none only member join insert remove
reached = refl

passed : number (bay_admit_of 65536 blank (terms ends 0 0)) ≡ 14
unfolding bay_admit_of checked read front command_of distinct well_formed before every_label labels_of subset disjoint members_from declared_by commands loop_nesting signal_nesting ceiling none only member join insert remove
passed = refl

row_first : number (bay_admit_of 65536 blank (terms [] 0 0)) ≡ 2
unfolding bay_admit_of checked read front command_of distinct well_formed before every_label labels_of subset disjoint members_from declared_by commands loop_nesting signal_nesting ceiling none only member join insert remove
row_first = refl

-- ---- a bay taken out: positions, state and its part of the ceiling are gone, the ledger stays
positions_lost : lookup 9 (positions_in (vacated busy)) ≡ Option.none
unfolding lookup last_such busy filled vacated blank put zeros le_bytes le_number
positions_lost = refl

fresh_again : phase_in (state_in (vacated busy)) ≡ 0
unfolding busy filled vacated blank put zeros le_bytes le_number
fresh_again = refl

ledger_stays : total_in 2 (ledger_in (vacated busy)) ≡ 5
unfolding total_in of_bits whole in_unsigned to_unsigned busy filled vacated blank put zeros le_bytes le_number
ledger_stays = refl

part_given_back : part_of (memory_after (bay_release_of busy)) ≡ 0
unfolding bay_release_of part_of busy filled vacated blank put zeros le_bytes le_number
part_given_back = refl

-- ---- a tick: the read-back set that the bay holds, and the state where the slot has it
-- emits signal 0, and beside it pauses where signal 0 is present: with signal 0 read back it waits, without it ends
abbrev waits_if_read : List ℕ
waits_if_read = 0x05 ∷ 0x02 ∷ 0x00 ∷ 0x07 ∷ 0x00 ∷ 0x01 ∷ 0x00 ∷ 0x00 ∷ []

read_back : code_in (first (lent_after (bay_tick_of (filled (terms waits_if_read 1 0) 9 blank) 0 (replicate answer_length 77) (replicate recordLength 77)))) ≡ 1
unfolding bay_tick_of tick_by decode_state valid active active_labels encode_state encode_answer expand react_by errors_by reactions_by filled vacated blank put zeros le_bytes le_number checked read front command_of distinct well_formed before every_label labels_of subset disjoint members_from declared_by commands loop_nesting signal_nesting ceiling none only member join insert remove would_pass total_in of_bits whole in_unsigned to_unsigned added_below to_bits of_int following delivered_by
read_back = refl

-- a record's buffer of another length
record_sized : number (bay_tick_of blank 0 (replicate answer_length 77) (replicate 36 77)) ≡ 1
unfolding bay_tick_of
record_sized = refl

-- an instant that leaves a machine waiting at label 5, with so many litres for farm 2: the state moves, the litres are entered, and it is counted
abbrev moving : (litres : ℕ) → Called
moving n = by_outcome busy 0 [] [] (for_two n) (outcome 0 (state_record 1 5) [])

state_moved : labels_in (state_in (memory_after (moving 0))) ≡ 5
unfolding would_pass total_in of_bits whole in_unsigned to_unsigned added_below to_bits of_int following busy filled vacated blank put zeros le_bytes le_number
state_moved = refl

litres_entered : total_in 2 (ledger_in (memory_after (moving 4))) ≡ 9
unfolding would_pass total_in of_bits whole in_unsigned to_unsigned added_below to_bits of_int following busy filled vacated blank put zeros le_bytes le_number
litres_entered = refl

instant_counted : last_number_in (memory_after (moving 0)) ≡ 4
unfolding would_pass total_in of_bits whole in_unsigned to_unsigned added_below to_bits of_int following busy filled vacated blank put zeros le_bytes le_number
instant_counted = refl

-- 19 for one more than the limit, which leaves the slot
nineteen : number (moving 16777212) ≡ 19
unfolding would_pass total_in of_bits whole in_unsigned to_unsigned added_below to_bits of_int following busy filled vacated blank put zeros le_bytes le_number
nineteen = refl

nineteen_leaves : last_number_in (memory_after (moving 16777212)) ≡ 3
unfolding would_pass total_in of_bits whole in_unsigned to_unsigned added_below to_bits of_int following busy filled vacated blank put zeros le_bytes le_number
nineteen_leaves = refl

-- the record: the first instant has number 1, and a call turned down leaves the buffers
abbrev second : List (List ℕ) → List ℕ
second [] = []
second (b ∷ bs) = first bs

numbered : number_in (second (lent_after (by_outcome blank 0 [] [] (for_two 0) (outcome 0 (state_record 1 5) [])))) ≡ 1
unfolding would_pass total_in of_bits whole in_unsigned to_unsigned added_below to_bits of_int following busy filled vacated blank put zeros le_bytes le_number
numbered = refl

not_recorded : by_outcome [] 0 (78 ∷ []) (77 ∷ []) (for_two 0) (outcome 12 [] []) ≡ called 12 [] ((78 ∷ []) ∷ (77 ∷ []) ∷ [])
unfolding following put zeros le_bytes le_number
not_recorded = refl

-- ---- positions: 15 for a machine that is over, where no entry is free too; what is saved are the labels of the machine
over : List ℕ → List ℕ
over s = put state_at state_length (state_record 2 0) s

-- no entry is free, and none is of the name 9
none_free : List ℕ → List ℕ
none_free s = put positions_at table_length (replicate table_length 1) s

over-not-saved : number (bay_save_of (over busy) 9) ≡ 15
unfolding bay_save_of over save_of last_such busy filled vacated blank put zeros le_bytes le_number
over-not-saved = refl

seventeenth : number (bay_save_of (none_free (put state_at state_length (state_record 1 6) blank)) 9) ≡ 16
unfolding bay_save_of none_free save_of last_such filled vacated blank put zeros le_bytes le_number
seventeenth = refl

waiting-first : number (bay_save_of (none_free (over blank)) 9) ≡ 15
unfolding bay_save_of none_free over save_of last_such filled vacated blank put zeros le_bytes le_number
waiting-first = refl

labels_saved : lookup 9 (positions_in (memory_after (bay_save_of busy 9))) ≡ some 6
unfolding bay_save_of lookup last_such save_of busy filled vacated blank put zeros le_bytes le_number
labels_saved = refl

-- coming back sets phase and labels; the numbers go on, and the ledger stays
phase_set : phase_in (state_in (memory_after (restored blank (some 5)))) ≡ 1
unfolding filled vacated blank put zeros le_bytes le_number
phase_set = refl

labels_set : labels_in (state_in (memory_after (restored blank (some 5)))) ≡ 5
unfolding filled vacated blank put zeros le_bytes le_number
labels_set = refl

numbers_go_on : last_number_in (memory_after (restored busy (some 5))) ≡ 3
unfolding busy filled vacated blank put zeros le_bytes le_number
numbers_go_on = refl

not_rewound : total_in 2 (ledger_in (memory_after (restored busy (some 5)))) ≡ 5
unfolding total_in of_bits whole in_unsigned to_unsigned busy filled vacated blank put zeros le_bytes le_number
not_rewound = refl

-- ---- the panel: instant 258 on inputs 0 and 2, which emits 1 and 3, with service-only signals 2 and 3
panel_shown : first (lent_after (bay_panel_of busy (record_of 258 0x05 (answer_record 1 0 0 0x0A 4) (state_record 1 2)) (replicate panel_length 77)))
    ≡ 2 ∷ 1 ∷ 0 ∷ 0 ∷ 1 ∷ 1 ∷ 0 ∷ 0 ∷ 0 ∷ 2 ∷ 0 ∷ 0 ∷ 0 ∷ []
unfolding bay_panel_of panel_of difference busy filled vacated blank put zeros le_bytes le_number
panel_shown = refl

-- ---- the service reader: a record whole, in 37 bytes
service_shown : first (lent_after (bay_service_of busy (replicate 37 5) (replicate 37 77))) ≡ replicate 37 5
unfolding bay_service_of
service_shown = refl

-- ---- the ledger: read into 132 bytes, and cleared for the new year
reading-length : number (bay_ledger_of blank (replicate 132 77)) ≡ 0
unfolding bay_ledger_of
reading-length = refl

year_cleared : total_in 2 (ledger_in (memory_after (bay_new_year_of busy))) ≡ 0
unfolding bay_new_year_of total_in of_bits whole in_unsigned to_unsigned totals_bytes to_bits of_int busy filled vacated blank put zeros le_bytes le_number
year_cleared = refl
