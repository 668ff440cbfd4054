-- The first steps of a call on a box worked by hand: which bay is there for it, whose slot it reads, and the order of its errors.
-- Boxes with bays in them are worked in `Worked` and its neighbours. Then what counts in a list of calls.
use Rattle.std.specs.Prelude.{ℕ, ◌*◌, ◌-◌, ◌≡◌, refl, true, false, List, [], ◌∷◌, ◌++◌, map, replicate, get_or}
use Rattle.spec_base.specs.Sets.{member, none, only, join, insert, remove, subset, disjoint, members_from}
use Rattle.spec_language.specs.LabelTests.{labels_of, every_label, distinct, before, well_formed}
use Rattle.spec_language.specs.ReadBack.{declared_by}
use Rattle.spec_language.specs.Sizes.{commands, loop_nesting, signal_nesting}
use Rattle.spec_language.specs.Ceiling.{ceiling}
use Rattle.spec_sequence.specs.Commands.{command_of}
use Rattle.spec_sequence.specs.Reader.{front, read}
use Rattle.spec_sequence.specs.Check.{checked}
use Rattle.spec_base.specs.Bytes.{le_bytes, le_number}
use Rattle.spec_base.specs.Parts.{put, zeros}
use Rattle.spec_tick.specs.Paper as Paper
use Rattle.spec_bay.specs.Called.{called, number}
use Rattle.spec_bay.specs.Stretch.{stretch_length, part_of, vacated, terms, filled}
use Rattle.spec_bay.specs.BayCalls.{bay_admit_of}
use Rattle.spec_box.specs.Box.{stretch_of, present, Call, admit, release, tick, restore, service, ledger, on_tick, buffers, is_for, call_of}
use Rattle.spec_box.specs.Lists.{Calling, Request, blanked, calls_to}
use Rattle.spec_box.specs.BayRuns.{ticks_to, inputs_in, Stays, Onward}

-- ends at once: ceiling 1
abbrev ends : List ℕ
ends = 0x00 ∷ []

-- ---- a bay that is there for the call
filled-not-admitted : is_for (admit (terms ends 0 0)) (0x01 ∷ replicate (stretch_length - 1) 0) ≡ false
unfolding le_number
filled-not-admitted = refl

empty_has_ledger : is_for (ledger []) [] ≡ true
empty_has_ledger = refl

-- ---- bytes of another length than a box: no bay above 7 before their length, and their length before the bay
bay_before_length : number (call_of [] 8 release) ≡ 13
unfolding call_of
bay_before_length = refl

length_before_bay : number (call_of [] 0 release) ≡ 1
unfolding call_of le_number
length_before_bay = refl

-- ---- the second slot is that of bay 1
own_stretch : get_or (stretch_of 1 (replicate stretch_length 7 ++ replicate stretch_length 8)) 0 0 ≡ 8
own_stretch = refl

-- ---- bay 7 has all of the shared ceiling
last_counts : number (call_of (zeros (7 * stretch_length) ++ filled (terms ends 0 0) 65536 (zeros stretch_length)) 0 (admit (terms ends 0 0))) ≡ 14
unfolding call_of present part_of filled vacated bay_admit_of put zeros le_bytes le_number checked read front command_of distinct well_formed before every_label labels_of subset disjoint members_from declared_by commands loop_nesting signal_nesting ceiling none only member join insert remove
last_counts = refl

-- ---- a list of calls
-- a box that answers a tick with its input as the number
abbrev input_as_number : Calling
input_as_number box bay c = called (on_tick 0 (λ e answer trace. e) c) box (buffers c)

abbrev to_bay : (bay : ℕ) → Call → Request
to_bay bay c = record { bay = bay; call = c }

abbrev calls : List Request
calls =
    to_bay 0 (tick 0 [] [])
    ∷ to_bay 1 (tick 3 [] [])
    ∷ to_bay 0 (service [] [])
    ∷ to_bay 0 (tick 12 [] [])
    ∷ to_bay 0 (tick 19 [] [])
    ∷ []

-- ticks answered 0 are instants; one answered 19 is no tick; neither a reader nor another bay's tick counts
instants_counted : inputs_in input_as_number 0 [] calls ≡ 0 ∷ []
unfolding calls_to
instants_counted = refl

ticks_counted : map (λ (c : Paper.Call). c.input) (ticks_to input_as_number 0 [] calls) ≡ 0 ∷ 12 ∷ []
unfolding calls_to
ticks_counted = refl

-- of the buffers of a tick the lengths count
lengths_kept : blanked (tick 0 (5 ∷ []) (6 ∷ 7 ∷ [])) ≡ tick 0 (0 ∷ []) (0 ∷ 0 ∷ [])
unfolding zeros le_bytes
lengths_kept = refl

-- a bay taken out does not stay, and a run does not go on with a coming back
taken_out : ¬ Stays release (called 0 [] [])
taken_out h = h refl refl

coming_back : ¬ Onward (restore 1) (called 0 [] [])
coming_back h = h.1 1 refl refl
