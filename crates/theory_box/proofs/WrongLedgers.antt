-- Each box of theory_box/specs/WrongLedgers breaks a claim of spec_box/specs/Years, by computation.
use Prim.Native.Nat.{ℕ, ◌<◌}
use native.Mathlib.Omega.{arith}
use mathlib.Core.Path.{◌≡◌, refl}
use mathlib.Core.List.{List, [], ◌∷◌}
use lib.ListN.{replicate}
use lib.Ieee.{of_bits, to_bits, of_int, add, whole, in_unsigned, to_unsigned}
use Rattle.spec_base.specs.Sets as Sets
use Rattle.spec_base.specs.Sets.{member, only, join, insert, remove, subset, disjoint, members_from}
use Rattle.spec_language.specs.Reaction.{react_by}
use Rattle.spec_language.specs.Errors.{errors_by}
use Rattle.spec_language.specs.Reactions.{reactions_by}
use Rattle.spec_language.specs.Litres.{delivered_by}
use Rattle.spec_language.specs.LabelTests.{labels_of, active_labels, every_label, distinct, before, well_formed, valid}
use Rattle.spec_language.specs.States.{active}
use Rattle.spec_language.specs.Expansion.{expand}
use Rattle.spec_language.specs.ReadBack.{declared_by}
use Rattle.spec_language.specs.Sizes.{commands, loop_nesting, signal_nesting}
use Rattle.spec_language.specs.Ceiling.{ceiling}
use Rattle.spec_sequence.specs.Commands.{command_of}
use Rattle.spec_sequence.specs.Reader.{front, read}
use Rattle.spec_sequence.specs.Check.{checked}
use Rattle.spec_base.specs.Bytes.{le_bytes, le_number}
use Rattle.spec_tick.specs.StateRecord.{encode_state, decode_state}
use Rattle.spec_tick.specs.AnswerRecord.{encode_answer, answer_length}
use Rattle.spec_base.specs.Parts.{put, zeros}
use Rattle.spec_bay.specs.Table.{last_such, lookup, save_of, forget_of}
use Rattle.spec_bay.specs.Ledgers.{total_in, totals_bytes, would_pass, added_below}
use Rattle.spec_tick.specs.Tick.{tick_by}
use Rattle.spec_tick.specs.Record.{recordLength}
use Rattle.spec_tick.specs.Recording.{following}
use Rattle.spec_bay.specs.Stretch.{part_of, vacated, filled}
use Rattle.spec_bay.specs.BayCalls.{bay_tick_of, bay_release_of, bay_admit_of, bay_save_of, bay_forget_of, bay_restore_of}
use Rattle.spec_box.specs.Box.{empty_box, present, call_of}
use Rattle.spec_box.specs.Lists.{Request, box_after, calls_to}
use Rattle.spec_box.specs.Years.{delivered_since, TotalsExact, Nineteen}
use Rattle.theory_box.specs.Worked.{admitted, ticked}
use Rattle.theory_box.specs.WorkedPositions.{saved, back_to}
use Rattle.theory_box.specs.WorkedLedgers.{five_once, one_too_many, in_vain, chosen_run, overfull}
use Rattle.theory_box.specs.WrongLedgers.{rewinds, enters_wrong, enters_both, passes_in_singles, tests_in_singles, enters_turned_down}

-- ---- 5 litres, and back to the position after them
abbrev back : List Request
back = admitted 0 five_once ∷ ticked 0 ∷ saved 0 1 ∷ back_to 0 1 ∷ []

pub not-rewinds : ¬ TotalsExact rewinds
unfolding box_after delivered_since call_of empty_box present part_of vacated filled would_pass total_in added_below delivered_by of_bits whole in_unsigned to_unsigned bay_tick_of following bay_release_of bay_admit_of bay_save_of bay_forget_of bay_restore_of save_of forget_of lookup last_such put zeros le_bytes le_number tick_by checked read front command_of distinct well_formed before every_label labels_of subset disjoint valid active active_labels members_from declared_by commands loop_nesting signal_nesting ceiling encode_state decode_state encode_answer expand react_by errors_by reactions_by Sets.none only member join insert remove totals_bytes to_bits of_int calls_to
not-rewinds h = let e : ◌≡◌ {A = ℕ} 0 5 = (h back 0 (omega arith) 2 (omega arith)).is_sum in omega arith

-- ---- 5 litres in a wrong instant
pub not-enters_wrong : ¬ TotalsExact enters_wrong
unfolding box_after delivered_since call_of empty_box present part_of vacated filled would_pass total_in added_below delivered_by of_bits whole in_unsigned to_unsigned bay_tick_of following bay_release_of bay_admit_of bay_save_of bay_forget_of bay_restore_of save_of forget_of lookup last_such put zeros le_bytes le_number tick_by checked read front command_of distinct well_formed before every_label labels_of subset disjoint valid active active_labels members_from declared_by commands loop_nesting signal_nesting ceiling encode_state decode_state encode_answer expand react_by errors_by reactions_by Sets.none only member join insert remove totals_bytes to_bits of_int calls_to
not-enters_wrong h = let e : ◌≡◌ {A = ℕ} 5 0 = (h in_vain 0 (omega arith) 2 (omega arith)).is_sum in omega arith

-- ---- 5 litres in the one run, 7 in the one that answers
pub not-enters_both : ¬ TotalsExact enters_both
unfolding box_after delivered_since call_of empty_box present part_of vacated filled would_pass total_in added_below delivered_by of_bits whole in_unsigned to_unsigned bay_tick_of following bay_release_of bay_admit_of bay_save_of bay_forget_of bay_restore_of save_of forget_of lookup last_such put zeros le_bytes le_number tick_by checked read front command_of distinct well_formed before every_label labels_of subset disjoint valid active active_labels members_from declared_by commands loop_nesting signal_nesting ceiling encode_state decode_state encode_answer expand react_by errors_by reactions_by Sets.none only member join insert remove totals_bytes to_bits of_int calls_to
not-enters_both h = let e : ◌≡◌ {A = ℕ} 12 7 = (h chosen_run 0 (omega arith) 2 (omega arith)).is_sum in omega arith

-- ---- 16,777,215 litres, and two more
pub not-enters_turned_down : ¬ TotalsExact enters_turned_down
unfolding box_after delivered_since call_of empty_box present part_of vacated filled would_pass total_in added_below delivered_by of_bits whole in_unsigned to_unsigned bay_tick_of following bay_release_of bay_admit_of bay_save_of bay_forget_of bay_restore_of save_of forget_of lookup last_such put zeros le_bytes le_number tick_by checked read front command_of distinct well_formed before every_label labels_of subset disjoint valid active active_labels members_from declared_by commands loop_nesting signal_nesting ceiling encode_state decode_state encode_answer expand react_by errors_by reactions_by Sets.none only member join insert remove totals_bytes to_bits of_int calls_to
not-enters_turned_down h = let e : ◌≡◌ {A = ℕ} 16777216 16777215 = (h overfull 0 (omega arith) 2 (omega arith)).is_sum in omega arith

-- ---- 16,777,216 litres, and one more
abbrev full : List Request
full = admitted 0 one_too_many ∷ ticked 0 ∷ []

pub not-tests_in_singles : ¬ Nineteen tests_in_singles
unfolding box_after delivered_since call_of empty_box present part_of vacated filled would_pass total_in added_below delivered_by of_bits whole in_unsigned to_unsigned bay_tick_of following bay_release_of bay_admit_of bay_save_of bay_forget_of bay_restore_of save_of forget_of lookup last_such put zeros le_bytes le_number tick_by checked read front command_of distinct well_formed before every_label labels_of subset disjoint valid active active_labels members_from declared_by commands loop_nesting signal_nesting ceiling encode_state decode_state encode_answer expand react_by errors_by reactions_by Sets.none only member join insert remove totals_bytes to_bits of_int passes_in_singles add calls_to
not-tests_in_singles h =
    let box : List ℕ = box_after call_of empty_box full in
    let past : 16777216 < 16777217 = omega arith in
    let e : ◌≡◌ {A = ℕ} 0 19 =
    (h box refl 0 (omega arith) (λ z. omega arith) 0 (replicate answer_length 77) (replicate recordLength 77)).0.1 (refl, (2, omega arith, past)) in
    omega arith
