-- Each box of theory_box/specs/WrongPreviews breaks a claim of spec_box/specs/Previews, by computation.
use Prim.Native.Nat.{ℕ}
use native.Mathlib.Omega.{arith}
use mathlib.Core.Path.{◌≡◌, refl, sym, ap, ◌∙◌}
use mathlib.Core.Bool.{true, true≢false}
use mathlib.Core.List.{List, [], ◌∷◌}
use lib.ListN.{replicate}
use lib.Ieee.{of_bits, whole, in_unsigned, to_unsigned}
use Rattle.spec_base.specs.Sets.{member, none, only, join, common, difference, insert, remove, subset, disjoint, members_from}
use Rattle.spec_base.specs.Widths.{all_below}
use Rattle.spec_base.specs.Subsets.{subsets_below}
use Rattle.sets.proofs.Members.{member-none}
use Rattle.spec_language.specs.Reaction.{react_by}
use Rattle.spec_language.specs.Errors.{errors_by}
use Rattle.spec_language.specs.Reactions.{reactions_by}
use Rattle.spec_language.specs.Litres.{delivered_by}
use Rattle.spec_language.specs.LabelTests.{labels_of, active_labels, every_label, distinct, before, well_formed, valid}
use Rattle.spec_language.specs.States.{active}
use Rattle.spec_language.specs.Expansion.{expand}
use Rattle.spec_language.specs.ReadBack.{declared_by}
use Rattle.spec_language.specs.Sizes.{commands, loop_nesting, signal_nesting}
use Rattle.spec_language.specs.Ceiling.{ceiling}
use Rattle.spec_sequence.specs.Commands.{command_of}
use Rattle.spec_sequence.specs.Reader.{front, read}
use Rattle.spec_sequence.specs.Check.{checked}
use Rattle.spec_base.specs.Bytes.{le_bytes, le_number}
use Rattle.spec_tick.specs.StateRecord.{encode_state, decode_state}
use Rattle.spec_tick.specs.AnswerRecord.{answer_length, encode_answer}
use Rattle.spec_base.specs.Parts.{put, zeros}
use Rattle.spec_bay.specs.Ledgers.{total_in, would_pass, added_below}
use Rattle.spec_tick.specs.Tick.{tick_by}
use Rattle.spec_tick.specs.Record.{recordLength}
use Rattle.spec_tick.specs.Recording.{following}
use Rattle.spec_bay.specs.Preview.{preview_length, both, gathered, findings, preview_of}
use Rattle.spec_bay.specs.Stretch.{last_number_in, part_of, vacated, filled}
use Rattle.spec_bay.specs.BayCalls.{bay_tick_of, bay_release_of, bay_admit_of, bay_preview_of}
use Rattle.spec_box.specs.Box.{empty_box, stretch_of, present, call_of}
use Rattle.spec_box.specs.Lists.{box_after}
use Rattle.spec_box.specs.Previews.{MachineStays, TenBytes, LearningStays, PreviewForesees}
use Rattle.theory_box.specs.Worked.{admitted, ends}
use Rattle.theory_box.specs.WrongPreviews.{forgets_status, takes_absent, keeps_status, moves_machine, says_open}

-- emits signal 1 if signal 0 is present
abbrev tested : List ℕ
tested = 0x07 ∷ 0x00 ∷ 0x02 ∷ 0x01 ∷ 0x00 ∷ []

abbrev filled_box : (sequence : List ℕ) → List ℕ
filled_box sequence = box_after call_of empty_box (admitted 0 sequence ∷ [])

abbrev ten : List ℕ
ten = replicate preview_length 0

abbrev answer : List ℕ
answer = replicate answer_length 0

abbrev trace : List ℕ
trace = replicate recordLength 0

-- with signal 0 present, signal 1 is emitted
pub not-forgets_status : ¬ PreviewForesees forgets_status
unfolding box_after call_of empty_box present part_of vacated filled would_pass total_in added_below delivered_by of_bits whole in_unsigned to_unsigned bay_tick_of following bay_release_of bay_admit_of bay_preview_of preview_of findings gathered both subsets_below common difference all_below put zeros le_bytes le_number tick_by checked read front command_of distinct well_formed before every_label labels_of subset disjoint valid active active_labels members_from declared_by commands loop_nesting signal_nesting ceiling encode_state decode_state encode_answer expand react_by errors_by reactions_by none only member join insert remove
not-forgets_status h =
    true≢false ((h (filled_box tested) 0 1 0 ten refl 1 answer trace refl (λ i m. refl)).emits_never 1 refl)

-- and so it is if signal 0, of unknown status, comes to be present
pub not-takes_absent : ¬ PreviewForesees takes_absent
unfolding box_after call_of empty_box present part_of vacated filled would_pass total_in added_below delivered_by of_bits whole in_unsigned to_unsigned bay_tick_of following bay_release_of bay_admit_of bay_preview_of preview_of findings gathered both subsets_below common difference all_below put zeros le_bytes le_number tick_by checked read front command_of distinct well_formed before every_label labels_of subset disjoint valid active active_labels members_from declared_by commands loop_nesting signal_nesting ceiling encode_state decode_state encode_answer expand react_by errors_by reactions_by none only member join insert remove
not-takes_absent h =
    true≢false ((h (filled_box tested) 0 0 1 ten refl 1 answer trace refl (λ i m. member-none i ∙ sym m)).emits_never 1 refl)

-- or is learned to be
pub not-takes_absent_learning : ¬ LearningStays takes_absent
unfolding box_after call_of empty_box present part_of vacated filled would_pass total_in added_below delivered_by of_bits whole in_unsigned to_unsigned bay_tick_of following bay_release_of bay_admit_of bay_preview_of preview_of findings gathered both subsets_below common difference all_below put zeros le_bytes le_number tick_by checked read front command_of distinct well_formed before every_label labels_of subset disjoint valid active active_labels members_from declared_by commands loop_nesting signal_nesting ceiling encode_state decode_state encode_answer expand react_by errors_by reactions_by none only member join insert remove
not-takes_absent_learning h = true≢false (sym ((h (filled_box tested) 0 0 1 0 true ten ten refl refl refl).1.never_stays 1 refl))

-- the status given for signal 0 makes a difference
pub not-keeps_status : ¬ PreviewForesees keeps_status
unfolding box_after call_of empty_box present part_of vacated filled would_pass total_in added_below delivered_by of_bits whole in_unsigned to_unsigned bay_tick_of following bay_release_of bay_admit_of bay_preview_of preview_of findings gathered both subsets_below common difference all_below put zeros le_bytes le_number tick_by checked read front command_of distinct well_formed before every_label labels_of subset disjoint valid active active_labels members_from declared_by commands loop_nesting signal_nesting ceiling encode_state decode_state encode_answer expand react_by errors_by reactions_by none only member join insert remove
not-keeps_status h =
    true≢false ((h (filled_box tested) 0 0 1 ten refl 1 answer trace refl (λ i m. member-none i ∙ sym m)).emits_never 1 refl)

-- an instant is counted
pub not-moves_machine : ¬ MachineStays moves_machine
unfolding box_after call_of empty_box present part_of vacated filled would_pass total_in added_below delivered_by of_bits whole in_unsigned to_unsigned bay_tick_of following bay_release_of bay_admit_of bay_preview_of preview_of findings gathered both subsets_below common difference all_below put zeros le_bytes le_number tick_by checked read front command_of distinct well_formed before every_label labels_of subset disjoint valid active active_labels members_from declared_by commands loop_nesting signal_nesting ceiling encode_state decode_state encode_answer expand react_by errors_by reactions_by none only member join insert remove
not-moves_machine h =
    let e : ◌≡◌ {A = ℕ} 1 0 = ap (λ (b : List ℕ). last_number_in (stretch_of 0 b)) (h (filled_box ends) 0 0 0 ten) in omega arith

-- every filling has the code 0
pub not-says_open : ¬ TenBytes says_open
unfolding box_after call_of empty_box present part_of vacated filled would_pass total_in added_below delivered_by of_bits whole in_unsigned to_unsigned bay_tick_of following bay_release_of bay_admit_of bay_preview_of preview_of findings gathered both subsets_below common difference all_below put zeros le_bytes le_number tick_by checked read front command_of distinct well_formed before every_label labels_of subset disjoint valid active active_labels members_from declared_by commands loop_nesting signal_nesting ceiling encode_state decode_state encode_answer expand react_by errors_by reactions_by none only member join insert remove
not-says_open h = (h (filled_box ends) 0 0 1 ten refl answer refl).none_shared.0 refl (0, λ f s. refl)
