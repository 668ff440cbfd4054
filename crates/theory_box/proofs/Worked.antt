-- The boxes worked by hand, by computation.
use mathlib.Core.Path.{◌≡◌, refl}
use mathlib.Core.List.{[], ◌∷◌}
use lib.ListN.{replicate}
use lib.Ieee.{of_bits, to_bits, of_int, whole, in_unsigned, to_unsigned}
use Rattle.spec_base.specs.Sets.{member, none, only, join, difference, insert, remove, subset, disjoint, members_from}
use Rattle.spec_language.specs.Reaction.{react_by}
use Rattle.spec_language.specs.Errors.{errors_by}
use Rattle.spec_language.specs.Reactions.{reactions_by}
use Rattle.spec_language.specs.Litres.{delivered_by}
use Rattle.spec_language.specs.LabelTests.{labels_of, active_labels, every_label, distinct, before, well_formed, valid}
use Rattle.spec_language.specs.States.{active}
use Rattle.spec_language.specs.Expansion.{expand}
use Rattle.spec_language.specs.ReadBack.{declared_by}
use Rattle.spec_language.specs.Sizes.{commands, loop_nesting, signal_nesting}
use Rattle.spec_language.specs.Ceiling.{ceiling}
use Rattle.spec_sequence.specs.Commands.{command_of}
use Rattle.spec_sequence.specs.Reader.{front, read}
use Rattle.spec_sequence.specs.Check.{checked}
use Rattle.spec_base.specs.Bytes.{le_bytes, le_number}
use Rattle.spec_tick.specs.StateRecord.{encode_state, decode_state}
use Rattle.spec_tick.specs.AnswerRecord.{encode_answer}
use Rattle.spec_base.specs.Parts.{put, zeros}
use Rattle.spec_bay.specs.Ledgers.{total_in, totals_bytes, would_pass, added_below}
use Rattle.spec_tick.specs.Tick.{tick_by}
use Rattle.spec_tick.specs.Record.{recordLength, panel_of}
use Rattle.spec_tick.specs.Recording.{following}
use Rattle.spec_bay.specs.Stretch.{part_of, vacated, filled}
use Rattle.spec_bay.specs.Table.{last_such, lookup, save_of, forget_of}
use Rattle.spec_bay.specs.BayCalls.{bay_tick_of, bay_release_of, bay_admit_of, bay_save_of, bay_forget_of, bay_restore_of, bay_service_of, bay_panel_of, bay_ledger_of, bay_new_year_of}
use Rattle.spec_box.specs.Box.{empty_box, present, call_of}
use Rattle.spec_box.specs.Lists.{box_after, calls_to}
use Rattle.theory_box.specs.Worked.{otherwise, alone, empty_stretch, bay, admissions, reached, passed, full, overmuch, bays, elsewhere}
use Rattle.theory_box.specs.WorkedPositions.{positions}
use Rattle.theory_box.specs.WorkedLedgers.{ledgers_calls, turned_down, total_after, filled_up, overfull, twice, chosen_run, in_vain}
use Rattle.theory_box.specs.WorkedRecords.{numbers, left_by_refusal, lengths, shown_on_panel}

pub bay_worked : otherwise (alone 0) empty_stretch bay ≡ 0
unfolding otherwise empty_stretch part_of vacated filled would_pass total_in added_below delivered_by of_bits whole in_unsigned to_unsigned bay_tick_of following bay_release_of bay_admit_of put zeros le_bytes le_number tick_by checked read front command_of distinct well_formed before every_label labels_of subset disjoint valid active active_labels members_from declared_by commands loop_nesting signal_nesting ceiling encode_state decode_state encode_answer expand react_by errors_by reactions_by none only member join insert remove
bay_worked = refl

pub admissions_worked : otherwise (alone 0) empty_stretch admissions ≡ 0
unfolding otherwise empty_stretch part_of vacated filled would_pass total_in added_below delivered_by of_bits whole in_unsigned to_unsigned bay_tick_of following bay_release_of bay_admit_of put zeros le_bytes le_number tick_by checked read front command_of distinct well_formed before every_label labels_of subset disjoint valid active active_labels members_from declared_by commands loop_nesting signal_nesting ceiling encode_state decode_state encode_answer expand react_by errors_by reactions_by none only member join insert remove
admissions_worked = refl

-- ---- the shared ceiling
pub reached_worked : otherwise (alone 32768) empty_stretch reached ≡ 0
unfolding otherwise empty_stretch vacated filled bay_admit_of put zeros le_bytes le_number checked read front command_of distinct well_formed before every_label labels_of subset disjoint members_from declared_by commands loop_nesting signal_nesting ceiling none only member join insert remove
reached_worked = refl

pub passed_worked : otherwise (alone 32769) empty_stretch passed ≡ 0
unfolding otherwise empty_stretch vacated filled bay_admit_of put zeros le_bytes le_number checked read front command_of distinct well_formed before every_label labels_of subset disjoint members_from declared_by commands loop_nesting signal_nesting ceiling none only member join insert remove
passed_worked = refl

pub full_worked : otherwise (alone 65536) empty_stretch full ≡ 0
unfolding otherwise empty_stretch vacated filled bay_admit_of put zeros le_bytes le_number checked read front command_of distinct well_formed before every_label labels_of subset disjoint members_from declared_by commands loop_nesting signal_nesting ceiling none only member join insert remove
full_worked = refl

pub overmuch_worked : otherwise (alone 0) empty_stretch overmuch ≡ 0
unfolding otherwise empty_stretch vacated filled bay_admit_of put zeros le_bytes le_number checked read front command_of distinct well_formed before every_label labels_of subset disjoint members_from declared_by commands loop_nesting signal_nesting ceiling none only member join insert remove
overmuch_worked = refl

-- ---- a box
pub bays_worked : otherwise call_of empty_box bays ≡ 0
unfolding otherwise call_of empty_box present part_of vacated filled would_pass total_in added_below delivered_by of_bits whole in_unsigned to_unsigned bay_tick_of following bay_release_of bay_admit_of put zeros le_bytes le_number tick_by checked read front command_of distinct well_formed before every_label labels_of subset disjoint valid active active_labels members_from declared_by commands loop_nesting signal_nesting ceiling encode_state decode_state encode_answer expand react_by errors_by reactions_by none only member join insert remove
bays_worked = refl

pub elsewhere_worked : otherwise call_of [] elsewhere ≡ 0
unfolding otherwise call_of
elsewhere_worked = refl

pub positions_worked : otherwise (alone 0) empty_stretch positions ≡ 0
unfolding otherwise empty_stretch part_of vacated filled would_pass total_in added_below delivered_by of_bits whole in_unsigned to_unsigned bay_tick_of following bay_release_of bay_admit_of bay_save_of bay_forget_of bay_restore_of save_of forget_of lookup last_such put zeros le_bytes le_number tick_by checked read front command_of distinct well_formed before every_label labels_of subset disjoint valid active active_labels members_from declared_by commands loop_nesting signal_nesting ceiling encode_state decode_state encode_answer expand react_by errors_by reactions_by none only member join insert remove
positions_worked = refl

-- ---- records
pub numbers_worked : numbers ≡ 1 ∷ 2 ∷ 3 ∷ 1 ∷ []
unfolding calls_to empty_stretch part_of vacated filled would_pass total_in added_below delivered_by of_bits whole in_unsigned to_unsigned bay_tick_of following bay_release_of bay_admit_of bay_save_of bay_forget_of bay_restore_of save_of forget_of lookup last_such put zeros le_bytes le_number tick_by checked read front command_of distinct well_formed before every_label labels_of subset disjoint valid active active_labels members_from declared_by commands loop_nesting signal_nesting ceiling encode_state decode_state encode_answer expand react_by errors_by reactions_by none only member join insert remove
numbers_worked = refl

pub refusal_worked : left_by_refusal ≡ replicate recordLength 77
unfolding box_after empty_stretch part_of vacated filled would_pass total_in added_below delivered_by of_bits whole in_unsigned to_unsigned bay_tick_of following bay_release_of bay_admit_of bay_save_of bay_forget_of bay_restore_of save_of forget_of lookup last_such put zeros le_bytes le_number tick_by checked read front command_of distinct well_formed before every_label labels_of subset disjoint valid active active_labels members_from declared_by commands loop_nesting signal_nesting ceiling encode_state decode_state encode_answer expand react_by errors_by reactions_by none only member join insert remove
refusal_worked = refl

pub lengths_worked : otherwise (alone 0) empty_stretch lengths ≡ 0
unfolding bay_service_of bay_panel_of panel_of difference otherwise empty_stretch part_of vacated filled would_pass total_in added_below delivered_by of_bits whole in_unsigned to_unsigned bay_tick_of following bay_release_of bay_admit_of bay_save_of bay_forget_of bay_restore_of save_of forget_of lookup last_such put zeros le_bytes le_number tick_by checked read front command_of distinct well_formed before every_label labels_of subset disjoint valid active active_labels members_from declared_by commands loop_nesting signal_nesting ceiling encode_state decode_state encode_answer expand react_by errors_by reactions_by none only member join insert remove
lengths_worked = refl

pub panel_worked : shown_on_panel ≡ 2 ∷ 1 ∷ 0 ∷ 0 ∷ 1 ∷ 1 ∷ 0 ∷ 0 ∷ 0 ∷ 2 ∷ 0 ∷ 0 ∷ 0 ∷ []
unfolding box_after bay_panel_of panel_of difference empty_stretch part_of vacated filled would_pass total_in added_below delivered_by of_bits whole in_unsigned to_unsigned bay_tick_of following bay_release_of bay_admit_of bay_save_of bay_forget_of bay_restore_of save_of forget_of lookup last_such put zeros le_bytes le_number tick_by checked read front command_of distinct well_formed before every_label labels_of subset disjoint valid active active_labels members_from declared_by commands loop_nesting signal_nesting ceiling encode_state decode_state encode_answer expand react_by errors_by reactions_by none only member join insert remove
panel_worked = refl

-- ---- the ledger
pub ledger_worked : otherwise (alone 0) empty_stretch ledgers_calls ≡ 0
unfolding otherwise empty_stretch part_of vacated filled would_pass total_in added_below delivered_by of_bits whole in_unsigned to_unsigned bay_tick_of following bay_release_of bay_admit_of bay_save_of bay_forget_of bay_restore_of save_of forget_of lookup last_such put zeros le_bytes le_number tick_by checked read front command_of distinct well_formed before every_label labels_of subset disjoint valid active active_labels members_from declared_by commands loop_nesting signal_nesting ceiling encode_state decode_state encode_answer expand react_by errors_by reactions_by none only member join insert remove bay_ledger_of bay_new_year_of totals_bytes to_bits of_int
ledger_worked = refl

pub nineteen_worked : otherwise (alone 0) empty_stretch turned_down ≡ 0
unfolding otherwise empty_stretch part_of vacated filled would_pass total_in added_below delivered_by of_bits whole in_unsigned to_unsigned bay_tick_of following bay_release_of bay_admit_of bay_save_of bay_forget_of bay_restore_of save_of forget_of lookup last_such put zeros le_bytes le_number tick_by checked read front command_of distinct well_formed before every_label labels_of subset disjoint valid active active_labels members_from declared_by commands loop_nesting signal_nesting ceiling encode_state decode_state encode_answer expand react_by errors_by reactions_by none only member join insert remove bay_ledger_of bay_new_year_of totals_bytes to_bits of_int
nineteen_worked = refl

pub filled-up_worked : total_after filled_up ≡ 16777216
unfolding box_after empty_stretch part_of vacated filled would_pass total_in added_below delivered_by of_bits whole in_unsigned to_unsigned bay_tick_of following bay_release_of bay_admit_of bay_save_of bay_forget_of bay_restore_of save_of forget_of lookup last_such put zeros le_bytes le_number tick_by checked read front command_of distinct well_formed before every_label labels_of subset disjoint valid active active_labels members_from declared_by commands loop_nesting signal_nesting ceiling encode_state decode_state encode_answer expand react_by errors_by reactions_by none only member join insert remove bay_ledger_of bay_new_year_of totals_bytes to_bits of_int
filled-up_worked = refl

pub overfull_worked : total_after overfull ≡ 16777215
unfolding box_after empty_stretch part_of vacated filled would_pass total_in added_below delivered_by of_bits whole in_unsigned to_unsigned bay_tick_of following bay_release_of bay_admit_of bay_save_of bay_forget_of bay_restore_of save_of forget_of lookup last_such put zeros le_bytes le_number tick_by checked read front command_of distinct well_formed before every_label labels_of subset disjoint valid active active_labels members_from declared_by commands loop_nesting signal_nesting ceiling encode_state decode_state encode_answer expand react_by errors_by reactions_by none only member join insert remove bay_ledger_of bay_new_year_of totals_bytes to_bits of_int
overfull_worked = refl

pub twice_worked : total_after twice ≡ 10
unfolding box_after empty_stretch part_of vacated filled would_pass total_in added_below delivered_by of_bits whole in_unsigned to_unsigned bay_tick_of following bay_release_of bay_admit_of bay_save_of bay_forget_of bay_restore_of save_of forget_of lookup last_such put zeros le_bytes le_number tick_by checked read front command_of distinct well_formed before every_label labels_of subset disjoint valid active active_labels members_from declared_by commands loop_nesting signal_nesting ceiling encode_state decode_state encode_answer expand react_by errors_by reactions_by none only member join insert remove bay_ledger_of bay_new_year_of totals_bytes to_bits of_int
twice_worked = refl

pub chosen-run_worked : total_after chosen_run ≡ 7
unfolding box_after empty_stretch part_of vacated filled would_pass total_in added_below delivered_by of_bits whole in_unsigned to_unsigned bay_tick_of following bay_release_of bay_admit_of bay_save_of bay_forget_of bay_restore_of save_of forget_of lookup last_such put zeros le_bytes le_number tick_by checked read front command_of distinct well_formed before every_label labels_of subset disjoint valid active active_labels members_from declared_by commands loop_nesting signal_nesting ceiling encode_state decode_state encode_answer expand react_by errors_by reactions_by none only member join insert remove bay_ledger_of bay_new_year_of totals_bytes to_bits of_int
chosen-run_worked = refl

pub in_vain_worked : total_after in_vain ≡ 0
unfolding box_after empty_stretch part_of vacated filled would_pass total_in added_below delivered_by of_bits whole in_unsigned to_unsigned bay_tick_of following bay_release_of bay_admit_of bay_save_of bay_forget_of bay_restore_of save_of forget_of lookup last_such put zeros le_bytes le_number tick_by checked read front command_of distinct well_formed before every_label labels_of subset disjoint valid active active_labels members_from declared_by commands loop_nesting signal_nesting ceiling encode_state decode_state encode_answer expand react_by errors_by reactions_by none only member join insert remove bay_ledger_of bay_new_year_of totals_bytes to_bits of_int
in_vain_worked = refl
