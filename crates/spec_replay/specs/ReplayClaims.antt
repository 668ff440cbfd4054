-- What 02, item 14, says of a replay, each sentence a predicate of any function in the place of `replayOf`.
use Rattle.std.specs.Prelude.{ℕ, suc, ◌+◌, ◌%◌, ◌≤◌, ◌<◌, ◌≡◌, ◌≢◌, ◌↔◌, List, [], map, length}
use Rattle.std.proofs.Math.Option.{some}
use Rattle.std.proofs.Math.ListN.{get_elem?}
use Rattle.spec_base.specs.Limits.{recording_row}
use Rattle.spec_language.specs.Statement.{Statement}
use Rattle.spec_language.specs.States.{NoSetpause}
use Rattle.spec_language.specs.Machines.{Rewriting}
use Rattle.spec_sequence.specs.Program.{program}
use Rattle.spec_sequence.specs.Check.{check_of}
use Rattle.spec_sequence.specs.Rows.{Spells}
use Rattle.spec_tick.specs.StateRecord.{phase_in}
use Rattle.spec_tick.specs.AnswerRecord.{code_in, kind_in, place_in, emitted_in, reactions_in}
use Rattle.spec_tick.specs.Paper.{Report, reacted, paper}
use Rattle.spec_tick.specs.Record.{recordLength, answer_in, state_in}
use Rattle.spec_tick.specs.Recording.{recording_of, call_on, joined, Inputs}
use Rattle.spec_replay.specs.Replay.{records_in, inputs_in, Replayed, replayed, number, place}

-- sequence, read-back set, recording
abbrev pub Replay : Type 0
Replay = List ℕ → ℕ → List ℕ → Replayed

-- ---- the numbers: those of the check, then 22, then 0; 'a place, 0 after an error'
abbrev pub Refuses : Replay → Type 0
Refuses replay =
    (sequence : List ℕ) (read_back : ℕ) (recording : List ℕ) → check_of sequence read_back ≢ 0
    → replay sequence read_back recording ≡ replayed (check_of sequence read_back) 0

abbrev pub TwentyTwo : Replay → Type 0
TwentyTwo replay =
    (sequence : List ℕ) (read_back : ℕ) (recording : List ℕ)
    → (number (replay sequence read_back recording) ≡ recording_row) ↔ ((check_of sequence read_back ≡ 0) × (length recording % recordLength ≢ 0))

abbrev pub NoPlace : Replay → Type 0
NoPlace replay =
    (sequence : List ℕ) (read_back : ℕ) (recording : List ℕ) → number (replay sequence read_back recording) ≢ 0
    → place (replay sequence read_back recording) ≡ 0

-- ---- 'accepted, if and only if every record is what a fresh machine gives on the inputs recorded'
abbrev pub Accepts : Replay → Type 0
Accepts replay =
    (sequence : List ℕ) (read_back : ℕ) (recording : List ℕ)
    → (replay sequence read_back recording ≡ replayed 0 0)
    ↔ ((check_of sequence read_back ≡ 0) × (recording ≡ joined (recording_of sequence read_back (inputs_in recording))))

-- ---- 'else that of the first record that differs, counted from 1'
-- the record at index i is the one made
abbrev pub SameAt : (i : ℕ) (given made : List (List ℕ)) → Type 0
SameAt i given made = get_elem? given i ≡ get_elem? made i

-- the first record that differs is the one at index j
pub record DiffersFirst (j : ℕ) (given made : List (List ℕ)) : Type 0 where
  pub within : j < length given
  pub here : ¬ SameAt j given made
  pub before : (i : ℕ) → i < j → SameAt i given made

abbrev pub Differs : Replay → Type 0
Differs replay =
    (sequence : List ℕ) (read_back : ℕ) (recording : List ℕ) (j : ℕ)
    → (replay sequence read_back recording ≡ replayed 0 (j + 1))
    ↔ ((check_of sequence read_back ≡ 0) × (length recording % recordLength ≡ 0)
    × DiffersFirst j (records_in recording) (recording_of sequence read_back (inputs_in recording)))

-- ---- 'An empty recording is accepted, and a record after the machine is over differs'
abbrev pub EmptyAccepted : Replay → Type 0
EmptyAccepted replay =
    (sequence : List ℕ) (read_back : ℕ) → check_of sequence read_back ≡ 0 → replay sequence read_back [] ≡ replayed 0 0

-- records 0 to i are what a fresh machine gives, it is over with record i, and another record follows: that is the first that differs
abbrev pub NothingAfterTheEnd : Replay → Type 0
NothingAfterTheEnd replay =
    (sequence : List ℕ) (read_back : ℕ) (recording : List ℕ) → check_of sequence read_back ≡ 0 → length recording % recordLength ≡ 0
    → (i : ℕ) → ((j : ℕ) → j ≤ i → SameAt j (records_in recording) (recording_of sequence read_back (inputs_in recording)))
    → (r : List ℕ) → get_elem? (records_in recording) i ≡ some r → phase_in (state_in r) ≡ 2 → suc i < length (records_in recording)
    → replay sequence read_back recording ≡ replayed 0 (i + 2)

-- what it says where the machine is over after the first record: the second one differs
second_differs : (replay : Replay) (sequence : List ℕ) (read_back : ℕ) (recording : List ℕ) → NothingAfterTheEnd replay
    → check_of sequence read_back ≡ 0 → length recording % recordLength ≡ 0
    → ((j : ℕ) → j ≤ 0 → SameAt j (records_in recording) (recording_of sequence read_back (inputs_in recording)))
    → (r : List ℕ) → get_elem? (records_in recording) 0 ≡ some r → phase_in (state_in r) ≡ 2 → 1 < length (records_in recording)
    → replay sequence read_back recording ≡ replayed 0 2
second_differs replay sequence read_back recording says sound whole right r there over more =
    says sequence read_back recording sound whole 0 right r there over more

-- ---- what a fresh machine gives on inputs of 32 bits is accepted
abbrev pub AcceptsRecordings : Replay → Type 0
AcceptsRecordings replay =
    (sequence : List ℕ) (read_back : ℕ) → check_of sequence read_back ≡ 0 → (inputs : List ℕ) → Inputs inputs
    → replay sequence read_back (joined (recording_of sequence read_back inputs)) ≡ replayed 0 0

-- ---- without setpause, an accepted recording shows what the paper reports on its inputs
-- what demand 3 compares, as a record has it: no labels
abbrev pub report_in : List ℕ → Report
report_in r =
    reacted (code_in (answer_in r)) (kind_in (answer_in r)) (place_in (answer_in r)) (emitted_in (answer_in r)) (reactions_in (answer_in r))
    (phase_in (state_in r))

abbrev pub ByPaper : Replay → Type 0
ByPaper replay =
    (sequence : List ℕ) (read_back : ℕ) (recording : List ℕ) → replay sequence read_back recording ≡ replayed 0 0
    → (p : Statement) → Spells sequence p → NoSetpause p
    → map report_in (records_in recording) ≡ paper (Rewriting.fresh (program read_back p)) (map call_on (inputs_in recording))

-- ---- what decides a replay: its numbers, and with number 0 its place
pub record DecidesReplay (replay : Replay) : Type 0 where
  pub refuses : Refuses replay
  pub twenty_two : TwentyTwo replay
  pub no_place : NoPlace replay
  pub accepts : Accepts replay
  pub differs : Differs replay

-- ITEM 14
pub record ReplayDemands (replay : Replay) : Type 0 where
  pub decides : DecidesReplay replay
  pub empty_accepted : EmptyAccepted replay
  pub nothing_after_the_end : NothingAfterTheEnd replay
  pub accepts_recordings : AcceptsRecordings replay
  pub by_paper : ByPaper replay
