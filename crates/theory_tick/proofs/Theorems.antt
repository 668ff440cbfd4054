-- The theorems of this crate: the three demands for the definitions of the check and the tick, then for calls that meet the
-- tick's contract; the place that a wrong instant names; that the paper knows no labels; what 02, items 4 and 5, changed; the ceiling
-- on the number of reactions (item 6); the starred bays, bays with suspend and first errors; and what the demands refuse.
use Prim.Native.Nat.{ℕ, ◌≤◌}
use mathlib.Core.Path.{◌≡◌}
use mathlib.Core.Logic.{◌≢◌}
use mathlib.Core.Bool.{true}
use mathlib.Core.List.{List, map, Memᴰ}
use lib.ListN.{length}
use Rattle.spec_base.specs.Sets.{none}
use Rattle.spec_language.specs.Statement.{Statement}
use Rattle.spec_language.specs.Reaction.{Code, gives, printed}
use Rattle.spec_language.specs.SignalOrders.{overlap}
use Rattle.spec_language.specs.Rules.{Reacts}
use Rattle.spec_language.specs.Sizes.{commands}
use Rattle.spec_language.specs.Ceiling.{LoopFree, hundred}
use Rattle.spec_sequence.specs.Ceilings.{ceiling_of}
use Rattle.spec_language.specs.States.{NoSetpause, Valid}
use Rattle.spec_language.specs.Expansion.{expand}
use Rattle.spec_language.specs.Machines.{State, Rewriting, erase}
use Rattle.spec_sequence.specs.Program.{program}
use Rattle.spec_sequence.specs.Check.{number_of, checked, check_of}
use Rattle.spec_sequence.specs.Rows.{Spells}
use Rattle.spec_tick.specs.StateRecord.{state_length, encode_state}
use Rattle.spec_tick.specs.AnswerRecord.{answer_length, code_in, kind_in, place_in, reactions_in}
use Rattle.spec_tick.specs.Tick.{Outcome, outcome, tick_by, tick_of}
use Rattle.spec_tick.specs.Deliveries.{delivered, paper_delivered}
use Rattle.spec_tick.specs.Paper.{Call, paper}
use Rattle.spec_tick.specs.Demands.{Check, Tick, number, answer_afterwards, outcomes, cleared, report, Admitted, StandsAt, Derived, Shows, uncounted, Demand1, Demand2, Demand3, TickMeets, Chain}
use Rattle.spec_tick.specs.PlaceNamed.{PlaceNamed}
use Rattle.theory_tick.specs.Replacements as wrong
use Rattle.spec_tick.specs.Bays.{Bay, table, ShowsBay}
use Rattle.spec_tick.specs.Worked.{ShowsRuns}
use Rattle.spec_tick.specs.Suspended.{suspend_runs}
use Rattle.spec_tick.specs.FirstErrors.{first_error_runs}
use Rattle.spec_tick.specs.Plain.{plain_checked, plain_tick, SameOutside}
use Rattle.spec_tick.specs.ReadBackBays.{read_back_runs}
use Rattle.spec_tick.specs.Dearest.{hundred_bytes}
use Rattle.theory_tick.proofs.Sequence as sequence
use Rattle.theory_tick.proofs.Demand1 as one
use Rattle.theory_tick.proofs.Demand2 as two
use Rattle.theory_tick.proofs.PlaceNamed as places
use Rattle.theory_tick.proofs.SignalOrders as orders
use Rattle.theory_tick.proofs.Agreement as three
use Rattle.theory_tick.proofs.NoLabels as paper-labels
use Rattle.theory_tick.proofs.Calls as calls
use Rattle.theory_tick.proofs.Decided as decided
use Rattle.theory_tick.proofs.Replacements as refuted
use Rattle.spec_tick.proofs.Bays as bays
use Rattle.spec_tick.proofs.Runs.{worked}
use Rattle.theory_tick.proofs.ReadBack as reads
use Rattle.theory_tick.proofs.Ceiling as ceilings

-- an accepted sequence spells one statement
pub spells_one : (sequence : List ℕ) (read_back : ℕ) → check_of sequence read_back ≡ 0
    → (p : Statement) × Spells sequence p × ((q : Statement) → Spells sequence q → q ≡ p)
spells_one = sequence.spells_one

-- ---- the definitions
pub demand_1 : Demand1 check_of tick_of
demand_1 = one.demand_1

pub demand_2 : Demand2 check_of tick_of
demand_2 = two.demand_2

pub demand_3 : Demand3 check_of tick_of
demand_3 = three.demand_3

-- demand 3 from any valid label set on (02, item 9): the paper begins with the expansion
pub demand_3_from : (sequence : List ℕ) (read_back : ℕ) → check_of sequence read_back ≡ 0 → (p : Statement) → Spells sequence p → NoSetpause p
    → (L : ℕ) → Valid p L → (calls : List Call)
    → map report (outcomes tick_of sequence read_back (encode_state (State.waits L)) calls) ≡ paper (Rewriting.waits (expand (program read_back p) L)) calls
demand_3_from = three.from-labels

-- 02, item 12: run and rewriting deliver the same litres to each farm, in each of a list of ticks
pub same_deliveries : (sequence : List ℕ) (read_back : ℕ) → check_of sequence read_back ≡ 0 → (p : Statement) → Spells sequence p → NoSetpause p
    → (farm : ℕ) (cs : List Call)
    → delivered sequence read_back farm cleared cs ≡ paper_delivered farm (Rewriting.fresh (program read_back p)) cs
same_deliveries = three.same_deliveries

-- and from any valid label set on
pub same_deliveries_from : (sequence : List ℕ) (read_back : ℕ) → check_of sequence read_back ≡ 0 → (p : Statement) → Spells sequence p → NoSetpause p
    → (L : ℕ) → Valid p L → (farm : ℕ) (cs : List Call)
    → delivered sequence read_back farm (encode_state (State.waits L)) cs
    ≡ paper_delivered farm (Rewriting.waits (expand (program read_back p) L)) cs
same_deliveries_from = three.deliveries-from-labels

-- ---- calls that meet the tick's contract
pub demand_1_calls : (sequence : List ℕ) (read_back : ℕ) (state : List ℕ) → check_of sequence read_back ≡ 0 → Admitted sequence state
    → (cs : List Call) (results : List Outcome) → Chain sequence read_back state cs results
    → (o : Outcome) → Memᴰ o results → number o ≢ 11
demand_1_calls = calls.never_11_calls

pub demand_2_call : {n : ℕ} {state' answer' : List ℕ} (sequence state : List ℕ) (e read_back : ℕ) (answer : List ℕ)
    → TickMeets n state' answer' sequence state e read_back answer → n ≡ 0
    → (t : Statement) × StandsAt sequence read_back state t × Derived t e
    × ((o : ℕ) (k : Code) (l : ℕ) (t' : Statement) → Reacts t e (gives o k l t') → Shows t e o k l t' (outcome n state' answer'))
demand_2_call = calls.demand_2_call

pub demand_3_calls : (sequence : List ℕ) (read_back : ℕ) → check_of sequence read_back ≡ 0 → (p : Statement) → Spells sequence p → NoSetpause p
    → (cs : List Call) (results : List Outcome) → Chain sequence read_back cleared cs results
    → map report results ≡ paper (Rewriting.fresh (program read_back p)) cs
demand_3_calls = calls.demand_3_calls

-- ---- the place that a wrong instant names: the offset of a command byte 06 or 08, or 65535 for a read-back declaration
pub place_named : (sequence state : List ℕ) (e read_back : ℕ) (answer : List ℕ) → number (tick_of sequence state e read_back answer) ≡ 0
    → code_in (answer_afterwards (tick_of sequence state e read_back answer)) ≡ 255
    → PlaceNamed sequence read_back (kind_in (answer_afterwards (tick_of sequence state e read_back answer)))
    (place_in (answer_afterwards (tick_of sequence state e read_back answer)))
place_named = places.place_named

pub place_named_call : {n : ℕ} {state' answer' : List ℕ} (sequence state : List ℕ) (e read_back : ℕ) (answer : List ℕ)
    → TickMeets n state' answer' sequence state e read_back answer → n ≡ 0 → code_in answer' ≡ 255
    → PlaceNamed sequence read_back (kind_in answer') (place_in answer')
place_named_call = places.place_named_call

-- ---- the paper knows no labels: its terms carry them in held suspends, and what it reports never depends on them
pub paper_knows_no_labels : (t u : Statement) → erase t ≡ erase u → (cs : List Call)
    → paper (Rewriting.waits t) cs ≡ paper (Rewriting.waits u) cs
paper_knows_no_labels = paper-labels.paper_knows_no_labels

-- ---- the two orders of the signal rules (02, item 4): `tickBy printed` is the tick as it was
-- an instant that is not wrong has the records it had, and so has a call that is turned down
pub not_wrong_kept : (sequence state : List ℕ) (e read_back : ℕ) (answer : List ℕ)
    → (number (tick_of sequence state e read_back answer) ≡ 0 → code_in (answer_afterwards (tick_of sequence state e read_back answer)) ≢ 255)
    → tick_by printed sequence state e read_back answer ≡ tick_of sequence state e read_back answer
not_wrong_kept = orders.tick-kept

-- a record that changes is that of an instant which uses a signal whose body emitted in both runs with a run wrong; it is wrong now
pub changed_only : (sequence state : List ℕ) (e read_back : ℕ) (answer : List ℕ)
    → tick_by printed sequence state e read_back answer ≢ tick_of sequence state e read_back answer
    → (number (tick_of sequence state e read_back answer) ≡ 0) × (code_in (answer_afterwards (tick_of sequence state e read_back answer)) ≡ 255)
    × ((t : Statement) × StandsAt sequence read_back state t × (overlap t e ≡ true))
changed_only = orders.tick-changed

-- an instant that was wrong has the records it had, but for the number of reactions: the same first error is named
pub wrong_stays : (sequence state : List ℕ) (e read_back : ℕ) (answer : List ℕ)
    → code_in (answer_afterwards (tick_by printed sequence state e read_back answer)) ≡ 255
    → uncounted (tick_by printed sequence state e read_back answer) ≡ uncounted (tick_of sequence state e read_back answer)
wrong_stays = orders.tick_stays

-- and every instant that uses such a signal is wrong now
pub overlap-is_wrong : (sequence state : List ℕ) (e read_back : ℕ) (answer : List ℕ) → check_of sequence read_back ≡ 0
    → length state ≡ state_length → length answer ≡ answer_length → (t : Statement) → StandsAt sequence read_back state t → overlap t e ≡ true
    → (number (tick_of sequence state e read_back answer) ≡ 0) × (code_in (answer_afterwards (tick_of sequence state e read_back answer)) ≡ 255)
overlap-is_wrong = orders.overlap-called-wrong

-- so lists of ticks are the same up to the first that is wrong
pub not_wrong_kept_list : (sequence : List ℕ) (read_back : ℕ) (state : List ℕ) (cs : List Call)
    → ((o : Outcome) → Memᴰ o (outcomes tick_of sequence read_back state cs) → number o ≡ 0 → code_in (answer_afterwards o) ≢ 255)
    → outcomes (tick_by printed) sequence read_back state cs ≡ outcomes tick_of sequence read_back state cs
not_wrong_kept_list = orders.outcomes_kept

-- ---- read-back sets (02, item 5)
-- an empty set gives the check and the tick as they were
pub empty_set_check : (sequence : List ℕ) → check_of sequence none ≡ number_of (plain_checked sequence)
empty_set_check = reads.plain_check

pub empty_set_tick : (sequence state : List ℕ) (e : ℕ) (answer : List ℕ)
    → tick_of sequence state e none answer ≡ plain_tick sequence state e answer
empty_set_tick = reads.plain_tick_lem

-- the host's status of a read-back signal is ignored: inputs that agree on all other signals give one result
pub host_status_ignored : (read_back : ℕ) (state : List ℕ) (e e' : ℕ) (answer : List ℕ) → SameOutside read_back e e'
    → (sequence : List ℕ) → tick_of sequence state e read_back answer ≡ tick_of sequence state e' read_back answer
host_status_ignored = reads.tick_unread

-- bays with a read-back set
pub read_back : ShowsRuns read_back_runs tick_of
read_back = worked.2

-- ---- the number of reactions (02, item 6); that the answer holds it whole is demand 2's (`counted`, `counted-rules`)
-- it never exceeds the ceiling: of every accepted sequence and set, in every state that row 11 admits and for every input
pub ceiling-holds : (sequence state : List ℕ) (e read_back : ℕ) (answer : List ℕ)
    → number (tick_of sequence state e read_back answer) ≡ 0
    → reactions_in (answer_afterwards (tick_of sequence state e read_back answer)) ≤ ceiling_of read_back (checked sequence read_back)
ceiling-holds = ceilings.never_above

pub ceiling-holds_call : {n : ℕ} {state' answer' : List ℕ} (sequence state : List ℕ) (e read_back : ℕ) (answer : List ℕ)
    → TickMeets n state' answer' sequence state e read_back answer → n ≡ 0
    → reactions_in answer' ≤ ceiling_of read_back (checked sequence read_back)
ceiling-holds_call = ceilings.never_above_call

pub ceiling-most : (sequence : List ℕ) (read_back : ℕ) → ceiling_of read_back (checked sequence read_back) ≤ 4218880
ceiling-most = ceilings.most

-- the sequence of docs/CEILING.md is loop-free and has 100 commands; its fresh instant takes 6,079, without read-back and for every
-- input, and no sequence of that kind takes more in any instant
pub hundred_commands : Spells hundred_bytes hundred × LoopFree hundred × (commands hundred ≡ 100)
hundred_commands = ceilings.hundred_spelled

pub hundred_takes : (e : ℕ) (answer : List ℕ) → length answer ≡ answer_length
    → (number (tick_of hundred_bytes cleared e none answer) ≡ 0)
    × (reactions_in (answer_afterwards (tick_of hundred_bytes cleared e none answer)) ≡ 6079)
hundred_takes = ceilings.hundred-shown

pub none_dearer : (sequence state : List ℕ) (e : ℕ) (answer : List ℕ) → number (tick_of sequence state e none answer) ≡ 0
    → (p : Statement) → Spells sequence p → LoopFree p → commands p ≡ 100
    → reactions_in (answer_afterwards (tick_of sequence state e none answer)) ≤ 6079
none_dearer = ceilings.none_dearer

-- ---- the starred bays
pub starred : (b : Bay) → Memᴰ b table → (buffer : List ℕ) → length buffer ≡ answer_length → ShowsBay tick_of b buffer
starred = bays.starred

-- ---- bays with suspend
pub suspended : ShowsRuns suspend_runs tick_of
suspended = worked.0

-- ---- bays with more errors than one, or one in a run of a signal
pub first-errors : ShowsRuns first_error_runs tick_of
first-errors = worked.1

-- ---- what the demands refuse
-- 01's checklist: a check and a tick that meet demands 1 and 2 are check_of and tick_of, for all arguments, and so meet demand 3
pub check_decided : (check : Check) (tick : Tick) → Demand1 check tick → Demand2 check tick
    → (sequence : List ℕ) (read_back : ℕ) → check sequence read_back ≡ check_of sequence read_back
check_decided = decided.check-is

pub tick_decided : (check : Check) (tick : Tick) → Demand1 check tick → Demand2 check tick
    → (sequence state : List ℕ) (e read_back : ℕ) (answer : List ℕ)
    → tick sequence state e read_back answer ≡ tick_of sequence state e read_back answer
tick_decided = decided.tick_is

pub demand_3_decided : (check : Check) (tick : Tick) → Demand1 check tick → Demand2 check tick → Demand3 check tick
demand_3_decided = decided.then-demand-3

-- every check and tick of a kind on 01's checklist
pub refused_all_wrong : (check : Check) (tick : Tick) → wrong.AllWrong tick → ¬ (Demand1 check tick × Demand2 check tick)
refused_all_wrong = refuted.no-all-wrong

pub refused_all_turned_down : (check : Check) (tick : Tick) → wrong.AllTurnedDown check → ¬ Demand1 check tick
refused_all_turned_down = refuted.not-all_turned_down

pub refused_all-ended : (check : Check) (tick : Tick) → wrong.AllEnded tick → ¬ (Demand1 check tick × Demand2 check tick)
refused_all-ended = refuted.no-all-ended

pub refused_labels_left : (check : Check) (tick : Tick) → wrong.LabelsLeft tick → ¬ (Demand1 check tick × Demand2 check tick)
refused_labels_left = refuted.no-labels-left

pub refused_first-repeated : (check : Check) (tick : Tick) → wrong.FirstRepeated tick
    → (¬ Demand3 check_of tick) × (¬ (Demand1 check tick × Demand3 check tick)) × (¬ (Demand1 check tick × Demand2 check tick))
refused_first-repeated check tick k =
    (refuted.not-first-repeated_3 tick k, refuted.no-first-repeated check tick k, refuted.no-first-repeated-2 check tick k)

pub refused_over-to_fresh : (check : Check) (tick : Tick) → wrong.OverToFresh tick → ¬ Demand1 check tick
refused_over-to_fresh = refuted.not-over-to_fresh

-- one of each kind, and two more
pub refused_1 : ((tick : Tick) → ¬ Demand1 wrong.turns_down tick) × (¬ Demand1 check_of wrong.says_over)
refused_1 = (refuted.not-turns_down, refuted.not-says_over)

pub refused_2 : (¬ Demand2 check_of wrong.every_wrong) × (¬ Demand2 check_of wrong.always_ends)
    × (¬ Demand2 check_of wrong.leaves_labels) × (¬ Demand2 check_of wrong.appends_zero) × (¬ Demand2 check_of wrong.counts_none)
refused_2 = (refuted.not-every_wrong, refuted.not-always_ends, refuted.not-leaves_labels, refuted.not-appends_zero, refuted.not-counts_none)

pub refused_3 : ¬ Demand3 check_of wrong.repeats_first
refused_3 = refuted.not-repeats_first
