-- Each box of theory_box/specs/WrongPositions breaks a claim of spec_box/specs/Positions or BayRuns, by computation.
use Prim.Native.Nat.{ℕ, zero, suc, ◌≤◌, ◌<◌}
use native.Mathlib.Omega.{arith}
use mathlib.Core.Path.{◌≡◌, refl, sym, ap, ◌∙◌}
use mathlib.Core.Option.{Option, some, none}
use mathlib.Core.List.{List, [], ◌∷◌, ◌++◌}
use lib.ListN.{get_or}
use lib.Ieee.{of_bits, whole, in_unsigned, to_unsigned}
use Rattle.spec_base.specs.Sets as Sets
use Rattle.spec_base.specs.Sets.{member, only, join, insert, remove, subset, disjoint, members_from}
use Rattle.spec_language.specs.Reaction.{react_by}
use Rattle.spec_language.specs.Errors.{errors_by}
use Rattle.spec_language.specs.Reactions.{reactions_by}
use Rattle.spec_language.specs.Litres.{delivered_by}
use Rattle.spec_language.specs.LabelTests.{labels_of, active_labels, every_label, distinct, before, well_formed, valid}
use Rattle.spec_language.specs.States.{active}
use Rattle.spec_language.specs.Expansion.{expand}
use Rattle.spec_language.specs.Machines.{State}
use Rattle.spec_language.specs.ReadBack.{declared_by}
use Rattle.spec_language.specs.Sizes.{commands, loop_nesting, signal_nesting}
use Rattle.spec_language.specs.Ceiling.{ceiling}
use Rattle.spec_sequence.specs.Commands.{command_of}
use Rattle.spec_sequence.specs.Reader.{front, read}
use Rattle.spec_sequence.specs.Check.{checked}
use Rattle.spec_base.specs.Bytes.{le_bytes, le_number}
use Rattle.spec_tick.specs.StateRecord.{phase_in, encode_state, decode_state}
use Rattle.spec_tick.specs.AnswerRecord.{emitted_in, encode_answer}
use Rattle.spec_base.specs.Parts.{put, zeros}
use Rattle.spec_bay.specs.Names as Names
use Rattle.spec_bay.specs.Names.{find, save_named}
use Rattle.spec_bay.specs.Table.{last_such, lookup, save_of, forget_of}
use Rattle.box_positions.specs.Places.{names_below}
use Rattle.spec_bay.specs.Ledgers.{total_in, would_pass, added_below}
use Rattle.spec_tick.specs.Tick.{Outcome, outcome, tick_by, tick_of}
use Rattle.spec_tick.specs.Demands.{outcomes}
use Rattle.spec_tick.specs.Recording.{following, call_on}
use Rattle.spec_bay.specs.Called.{memory_after}
use Rattle.spec_bay.specs.Stretch.{state_in, part_of, vacated, filled, Terms}
use Rattle.spec_bay.specs.BayCalls.{bay_tick_of, bay_release_of, bay_admit_of, bay_save_of, bay_forget_of, bay_restore_of}
use Rattle.spec_box.specs.Box.{empty_box, present, admit, save, restore, call_of}
use Rattle.spec_box.specs.Lists.{Request, after_call, box_after, calls_to}
use Rattle.spec_box.specs.Shares as Shares
use Rattle.spec_box.specs.Shares.{AllSendable, each}
use Rattle.spec_box.specs.BayRuns.{NotTakenOut, Onwards, TermsFixed}
use Rattle.spec_box.specs.Claims.{InBoxes}
use Rattle.spec_box.specs.Positions.{saved_in, PositionsSaved, SaveNumbers, ComesBack, LosesPositions, TicksFromPosition}
use Rattle.theory_box.specs.Worked.{admitted, ticked}
use Rattle.theory_box.specs.WorkedPositions.{two_stages, saved}
use Rattle.theory_box.specs.WrongPositions.{keeps_positions, keeps_first, full_first, leaves_phase, eight_first, changes_emission}
use Rattle.theory_box.proofs.WrongBoxes.{tick_onward, save_stays}

-- the labels found, or 0
abbrev labels_or_none : Option ℕ → ℕ
labels_or_none none = 0
labels_or_none (some labels) = labels

-- ---- label 0 saved
abbrev one : List Request
one = admitted 0 two_stages ∷ ticked 0 ∷ saved 0 1 ∷ []

pub not-keeps_positions : ¬ LosesPositions keeps_positions
unfolding box_after call_of empty_box present part_of vacated filled would_pass total_in added_below delivered_by of_bits whole in_unsigned to_unsigned bay_tick_of following bay_release_of bay_admit_of bay_save_of bay_forget_of bay_restore_of save_of forget_of lookup last_such put zeros le_bytes le_number tick_by checked read front command_of distinct well_formed before every_label labels_of subset disjoint valid active active_labels members_from declared_by commands loop_nesting signal_nesting ceiling encode_state decode_state encode_answer expand react_by errors_by reactions_by Sets.none only member join insert remove
not-keeps_positions h =
    let e : ◌≡◌ {A = ℕ} 1 0 = ap labels_or_none ((h (box_after call_of empty_box one) 0).0 refl 1) in omega arith

-- ---- and label 1 under the same name
abbrev replaced : List Request
replaced = admitted 0 two_stages ∷ ticked 0 ∷ saved 0 1 ∷ ticked 0 ∷ saved 0 1 ∷ []

pub not-keeps_first : ¬ PositionsSaved keeps_first
unfolding saved_in save_named find Names.without box_after call_of empty_box present part_of vacated filled would_pass total_in added_below delivered_by of_bits whole in_unsigned to_unsigned bay_tick_of following bay_release_of bay_admit_of bay_save_of bay_forget_of bay_restore_of save_of forget_of lookup last_such put zeros le_bytes le_number tick_by checked read front command_of distinct well_formed before every_label labels_of subset disjoint valid active active_labels members_from declared_by commands loop_nesting signal_nesting ceiling encode_state decode_state encode_answer expand react_by errors_by reactions_by Sets.none only member join insert remove calls_to
not-keeps_first h =
    let a : 0 < 4294967296 = omega arith in
    let b : 1 < 4294967296 = omega arith in
    let e : ◌≡◌ {A = ℕ} 1 2 = ap labels_or_none (h replaced (each (a, a) (each tt (each b (each tt (each b Shares.none))))) 0 (omega arith) 1) in
    omega arith

-- ---- a machine that is over, with one position
abbrev over : List Request
over = one ++ (ticked 0 ∷ ticked 0 ∷ [])

pub not-leaves_phase : ¬ ComesBack leaves_phase
unfolding box_after call_of empty_box present part_of vacated filled would_pass total_in added_below delivered_by of_bits whole in_unsigned to_unsigned bay_tick_of following bay_release_of bay_admit_of bay_save_of bay_forget_of bay_restore_of save_of forget_of lookup last_such put zeros le_bytes le_number tick_by checked read front command_of distinct well_formed before every_label labels_of subset disjoint valid active active_labels members_from declared_by commands loop_nesting signal_nesting ceiling encode_state decode_state encode_answer expand react_by errors_by reactions_by Sets.none only member join insert remove
not-leaves_phase h =
    let e : ◌≡◌ {A = ℕ} 2 1 = ap (λ (s : List ℕ). phase_in (state_in s)) (h (box_after call_of empty_box over) 0 1 refl).2 in omega arith

-- ---- and with 16
abbrev saves : (n : ℕ) → List Request → List Request
saves zero xs = xs
saves (suc n) xs = saved 0 n ∷ saves n xs

saves_sendable : (n : ℕ) → n ≤ 16 → (xs : List Request) → AllSendable xs → AllSendable (saves n xs)
saves_sendable zero l xs s = s
saves_sendable (suc n) l xs s = each (let k : n < 4294967296 = omega arith in k) (saves_sendable n (omega arith) xs s)

abbrev full_and_over : List Request
full_and_over = admitted 0 two_stages ∷ ticked 0 ∷ saves 16 (ticked 0 ∷ ticked 0 ∷ [])

pub not-full_first : ¬ InBoxes full_first (SaveNumbers full_first)
unfolding box_after call_of empty_box present part_of vacated filled would_pass total_in added_below delivered_by of_bits whole in_unsigned to_unsigned bay_tick_of following bay_release_of bay_admit_of bay_save_of bay_forget_of bay_restore_of save_of forget_of lookup last_such names_below put zeros le_bytes le_number tick_by checked read front command_of distinct well_formed before every_label labels_of subset disjoint valid active active_labels members_from declared_by commands loop_nesting signal_nesting ceiling encode_state decode_state encode_answer expand react_by errors_by reactions_by Sets.none only member join insert remove
not-full_first h =
    let k : 0 < 4294967296 = omega arith in
    let sets : (0 < 4294967296) × (0 < 4294967296) = (k, k) in
    let s : AllSendable full_and_over =
    each sets
    (each tt (saves_sendable 16 (omega arith) (ticked 0 ∷ ticked 0 ∷ []) (each tt (each tt Shares.none)))) in
    let e : ◌≡◌ {A = ℕ} 16 15 = (h full_and_over s 0 (omega arith) (λ z. omega arith) 16).0.1 (λ z. omega arith) in omega arith

-- ---- label 0 saved, 8 emitted, and label 1 saved
abbrev eight : Terms
eight = record { sequence = eight_first; read_back = 0; service_only = 0 }

abbrev opened : List ℕ
opened = memory_after (changes_emission empty_box 0 (admit eight))

abbrev both_saved : List Request
both_saved = ticked 0 ∷ saved 0 1 ∷ ticked 0 ∷ saved 0 2 ∷ []

tick_stays : (box : List ℕ) (xs : List Request) → NotTakenOut changes_emission 0 (after_call changes_emission box (ticked 0)) xs
    → NotTakenOut changes_emission 0 box (ticked 0 ∷ xs)
tick_stays box xs = NotTakenOut.more (λ q. (tick_onward (ticked 0).call refl (changes_emission box 0 (ticked 0).call)).0)

saving_stays : (name : ℕ) (box : List ℕ) (xs : List Request) → NotTakenOut changes_emission 0 (after_call changes_emission box (saved 0 name)) xs
    → NotTakenOut changes_emission 0 box (saved 0 name ∷ xs)
saving_stays name box xs = NotTakenOut.more (λ q. save_stays name (changes_emission box 0 (save name)))

stays : NotTakenOut changes_emission 0 opened both_saved
stays = tick_stays opened _ (saving_stays 1 _ _ (tick_stays _ _ (saving_stays 2 _ _ NotTakenOut.done)))

pub not-changes_emission : ¬ TermsFixed changes_emission
unfolding box_after call_of empty_box present part_of vacated filled would_pass total_in added_below delivered_by of_bits whole in_unsigned to_unsigned bay_tick_of following bay_release_of bay_admit_of bay_save_of bay_forget_of bay_restore_of save_of forget_of lookup last_such put zeros le_bytes le_number tick_by checked read front command_of distinct well_formed before every_label labels_of subset disjoint valid active active_labels members_from declared_by commands loop_nesting signal_nesting ceiling encode_state decode_state encode_answer expand react_by errors_by reactions_by Sets.none only member join insert remove
not-changes_emission h =
    let small : (0 < 4294967296) × (0 < 4294967296) = (omega arith, omega arith) in
    let e : ◌≡◌ {A = ℕ} 9 8 = ap (λ (t : Terms). get_or t.sequence 5 0) (h empty_box 0 eight small refl both_saved stays) in omega arith

-- back to label 0, it emits 9
abbrev come : List ℕ
come = memory_after (changes_emission (box_after changes_emission opened both_saved) 0 (restore 1))

abbrev first_emitted : List Outcome → ℕ
first_emitted [] = 0
first_emitted (outcome n state answer ∷ os) = emitted_in answer

abbrev emitted_from : (labels : ℕ) → ℕ
emitted_from labels = first_emitted (outcomes tick_of eight_first 0 (encode_state (State.waits labels)) (call_on 0 ∷ []))

pub no_ticks-changes_emission : ¬ TicksFromPosition changes_emission
unfolding calls_to outcomes saved_in save_named find Names.without box_after call_of empty_box present part_of vacated filled would_pass total_in added_below delivered_by of_bits whole in_unsigned to_unsigned bay_tick_of following bay_release_of bay_admit_of bay_save_of bay_forget_of bay_restore_of save_of forget_of lookup last_such put zeros le_bytes le_number tick_by checked read front command_of distinct well_formed before every_label labels_of subset disjoint valid active active_labels members_from declared_by commands loop_nesting signal_nesting ceiling encode_state decode_state encode_answer expand react_by errors_by reactions_by Sets.none only member join insert remove
no_ticks-changes_emission h =
    let small : (0 < 4294967296) × (0 < 4294967296) = (omega arith, omega arith) in
    let one : 1 < 4294967296 = omega arith in
    let two : 2 < 4294967296 = omega arith in
    let r = h [] Shares.none 0 eight small refl both_saved (each tt (each one (each tt (each two Shares.none)))) stays 1 refl in
    let onward : Onwards changes_emission 0 come (ticked 0 ∷ []) =
    Onwards.more (λ q. tick_onward (ticked 0).call refl (changes_emission come 0 (ticked 0).call)) Onwards.done in
    let e : 512 ≡ emitted_from r.0 = ap first_emitted (r.2 (ticked 0 ∷ []) onward).0.instants in
    let l : 1 ≡ r.0 = ap labels_or_none r.1 in
    let z : ◌≡◌ {A = ℕ} 512 256 = e ∙ ap emitted_from (sym l) in
    omega arith
