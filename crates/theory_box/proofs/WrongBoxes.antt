-- Each box of specs/WrongBoxes breaks a claim of spec_box/specs/Claims, by computation.
use Prim.Native.Nat.{ℕ, zero, suc, ◌≤◌, ◌<◌}
use native.Mathlib.Omega.{arith}
use mathlib.Core.Path.{◌≡◌, refl, sym, ap, ◌∙◌}
use mathlib.Core.List.{List, [], ◌∷◌}
use lib.ListN.{get_or}
use lib.Ieee.{of_bits, whole, in_unsigned, to_unsigned}
use Rattle.spec_base.specs.Sets as Sets
use Rattle.spec_base.specs.Sets.{member, only, join, insert, remove, subset, disjoint, members_from}
use Rattle.spec_language.specs.Reaction.{react_by}
use Rattle.spec_language.specs.Errors.{errors_by}
use Rattle.spec_language.specs.Reactions.{reactions_by}
use Rattle.spec_language.specs.Litres.{delivered_by}
use Rattle.spec_language.specs.LabelTests.{labels_of, active_labels, every_label, distinct, before, well_formed, valid}
use Rattle.spec_language.specs.States.{active}
use Rattle.spec_language.specs.Expansion.{expand}
use Rattle.spec_language.specs.ReadBack.{declared_by}
use Rattle.spec_language.specs.Sizes.{commands, loop_nesting, signal_nesting}
use Rattle.spec_language.specs.Ceiling.{ceiling}
use Rattle.spec_sequence.specs.Commands.{command_of}
use Rattle.spec_sequence.specs.Reader.{front, read}
use Rattle.spec_sequence.specs.Check.{checked, check_of}
use Rattle.spec_base.specs.Bytes.{le_bytes, le_number}
use Rattle.spec_tick.specs.StateRecord.{phase_in, encode_state, decode_state}
use Rattle.spec_tick.specs.AnswerRecord.{encode_answer}
use Rattle.spec_base.specs.Parts.{put, zeros}
use Rattle.spec_bay.specs.Ledgers.{total_in, would_pass, added_below}
use Rattle.spec_tick.specs.Tick.{Outcome, outcome, tick_by}
use Rattle.spec_tick.specs.Demands.{outcomes}
use Rattle.spec_bay.specs.Called.{Called, memory_after}
use Rattle.spec_tick.specs.Recording.{following}
use Rattle.spec_bay.specs.Stretch.{state_at, ceiling_in, part_of, vacated, filled, Terms}
use Rattle.spec_bay.specs.BayCalls.{bay_tick_of, bay_release_of, bay_admit_of}
use Rattle.spec_box.specs.Box.{empty_box, present, Call, admit, release, save, on_tick, call_of}
use Rattle.spec_box.specs.Lists.{Request, box_after, Answer, answered, calls_to}
use Rattle.spec_box.specs.Shares.{none, each}
use Rattle.spec_box.specs.BayRuns.{Stays, Onward, Onwards, TicksInBay}
use Rattle.spec_box.specs.Leaves.{AdmissionLeaves, ReleaseLeaves}
use Rattle.spec_box.specs.Claims.{RefusalsLeave, Isolated, InBoxes, WithinCeiling, AdmitsBySum}
use Rattle.theory_box.specs.Worked.{waits_once, ends, half, admitted, released, ticked}
use Rattle.theory_box.specs.WrongBoxes.{reads_neighbour, forgets_bay, stored_in, keeps_part, keeps_state, refusal_writes}

-- the number of answer i
abbrev number_at : ℕ → List Answer → ℕ
number_at i [] = 255
number_at zero (answered n lent ∷ rest) = n
number_at (suc i) (a ∷ rest) = number_at i rest

-- a tick goes on, and a save leaves the bay in place
abbrev ticks : Call → ℕ
ticks = on_tick 0 (λ e answer trace. 1)

pub tick_onward : (c : Call) → ◌≡◌ {A = ℕ} (ticks c) 1 → (o : Called) → Onward c o
tick_onward c k o = (
  λ q. absurd (let z : ◌≡◌ {A = ℕ} 0 1 = sym (ap ticks q) ∙ k in omega arith),
  λ name q. absurd (let z : ◌≡◌ {A = ℕ} 0 1 = sym (ap ticks q) ∙ k in omega arith),
)

pub save_stays : (name : ℕ) (o : Called) → Stays (save name) o
save_stays name o q = absurd (let z : ◌≡◌ {A = ℕ} 0 1 = cc in omega arith)

-- ---- bay 0 by itself, and beside a neighbour that is over
abbrev by_itself : List Request
by_itself = admitted 0 waits_once ∷ ticked 0 ∷ []

abbrev beside_over : List Request
beside_over = admitted 1 ends ∷ ticked 1 ∷ by_itself

pub not-reads_neighbour : ¬ Isolated reads_neighbour
unfolding calls_to box_after call_of empty_box present part_of vacated filled would_pass total_in added_below delivered_by of_bits whole in_unsigned to_unsigned bay_tick_of following bay_release_of bay_admit_of put zeros le_bytes le_number tick_by checked read front command_of distinct well_formed before every_label labels_of subset disjoint valid active active_labels members_from declared_by commands loop_nesting signal_nesting ceiling encode_state decode_state encode_answer expand react_by errors_by reactions_by Sets.none only member join insert remove
not-reads_neighbour h =
    let e : ◌≡◌ {A = ℕ} 0 12 = ap (number_at 1) (h 0 (omega arith) by_itself beside_over refl).0 in omega arith

-- nor is its tick the one on its own
abbrev neighbour_over : List ℕ
neighbour_over = box_after call_of empty_box (admitted 1 ends ∷ ticked 1 ∷ [])

abbrev first_number : List Outcome → ℕ
first_number [] = 255
first_number (outcome n state answer ∷ os) = n

abbrev waiting : Terms
waiting = record { sequence = waits_once; read_back = 0; service_only = 0 }

pub no_ticks-reads_neighbour : ¬ TicksInBay reads_neighbour
unfolding calls_to box_after call_of empty_box present part_of vacated filled would_pass total_in added_below delivered_by of_bits whole in_unsigned to_unsigned bay_tick_of following bay_release_of bay_admit_of put zeros le_bytes le_number tick_by checked read front command_of distinct well_formed before every_label labels_of subset disjoint valid active active_labels members_from declared_by commands loop_nesting signal_nesting ceiling encode_state decode_state encode_answer expand react_by errors_by reactions_by Sets.none only member join insert remove outcomes
no_ticks-reads_neighbour h =
    let small : (0 < 4294967296) × (0 < 4294967296) = (omega arith, omega arith) in
    let from : List ℕ = memory_after (reads_neighbour neighbour_over 0 (admit waiting)) in
    let one : Onwards reads_neighbour 0 from (ticked 0 ∷ []) =
    Onwards.more (λ q. tick_onward (ticked 0).call refl (reads_neighbour from 0 (ticked 0).call)) Onwards.done in
    let e : ◌≡◌ {A = ℕ} 12 0 = ap first_number (h neighbour_over 0 waiting small refl (ticked 0 ∷ []) one).0.ticks in
    omega arith

-- ---- 32,768 in the last bay, and too much with it
abbrev overfilled : List Request
overfilled = admitted 7 half ∷ admitted 0 half ∷ admitted 1 ends ∷ []

pub not-forgets_bay : ¬ InBoxes forgets_bay WithinCeiling
unfolding box_after call_of empty_box present part_of vacated filled bay_admit_of put zeros le_bytes le_number checked read front command_of distinct well_formed before every_label labels_of subset disjoint members_from declared_by commands loop_nesting signal_nesting ceiling Sets.none only member join insert remove
not-forgets_bay h =
    let e : 65537 ≤ 65536 = h overfilled (each (omega arith) (each (omega arith) (each (omega arith) none))) in omega arith

-- ---- two bays of 32,768, and one of them taken out
abbrev ones_out : List Request
ones_out = admitted 0 half ∷ admitted 1 half ∷ released 0 ∷ []

pub not-keeps_part : ¬ InBoxes keeps_part (AdmitsBySum keeps_part)
unfolding box_after call_of empty_box present stored_in part_of vacated filled bay_release_of bay_admit_of put zeros le_bytes le_number check_of checked read front command_of distinct well_formed before every_label labels_of subset disjoint members_from declared_by commands loop_nesting signal_nesting ceiling Sets.none only member join insert remove
not-keeps_part h =
    let e : ◌≡◌ {A = ℕ} 14 0 =
    (h ones_out (each (omega arith) (each (omega arith) (each tt none))) 2 (omega arith) refl
    (record { sequence = half; read_back = 0; service_only = 0 }) refl).1
    (let l : 65536 ≤ 65536 = omega arith in l) in
    omega arith

-- its release leaves the ceiling
pub no_release_keeps_part : ¬ ReleaseLeaves keeps_part
unfolding box_after call_of empty_box present stored_in part_of vacated filled bay_release_of bay_admit_of put zeros le_bytes le_number check_of checked read front command_of distinct well_formed before every_label labels_of subset disjoint members_from declared_by commands loop_nesting signal_nesting ceiling Sets.none only member join insert remove
no_release_keeps_part h =
    let e : ◌≡◌ {A = ℕ} 32768 0 = ap ceiling_in (h (box_after call_of empty_box (admitted 0 half ∷ [])) 0 refl).nothing_left in omega arith

-- ---- an empty bay with phase 2 in its bytes
pub not-keeps_state : ¬ AdmissionLeaves keeps_state
unfolding call_of empty_box present part_of vacated filled bay_admit_of put zeros le_bytes le_number checked read front command_of distinct well_formed before every_label labels_of subset disjoint members_from declared_by commands loop_nesting signal_nesting ceiling Sets.none only member join insert remove
not-keeps_state h =
    let small : (0 < 4294967296) × (0 < 4294967296) = (omega arith, omega arith) in
    let e : ◌≡◌ {A = ℕ} 2 0 = ap phase_in (h (put state_at 1 (2 ∷ []) empty_box) 0 waiting small refl).state in omega arith

-- ---- a box of one byte, which is of another length
pub not-refusal_writes : ¬ RefusalsLeave refusal_writes
unfolding call_of put zeros le_bytes
not-refusal_writes h =
    let e : ◌≡◌ {A = ℕ} 0 1 = ap (λ (o : Called). get_or (memory_after o) 0 0) (h (1 ∷ []) 0 release (λ z. omega arith)) in omega arith
