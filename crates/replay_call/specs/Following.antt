-- The first difference found one record after the other, by where the machine stands: the form for the code.
use Rattle.std.specs.Prelude.{ℕ, ◌≡◌, Bool, true, false, ◌&&◌, List, map, eqb, Option, Some, None, Result}
use Rattle.spec_language.specs.Statement.{Statement}
use Rattle.spec_language.specs.Machines.{State}
use Rattle.checks.specs.Verdict.{Passed}
use Rattle.spec_tick.specs.StateRecord.{encode_state, Recorded}
use Rattle.limits.specs.declared.rows.Refusal.{Refusal}
use Rattle.program.specs.declared.Start.{Start}
use Rattle.instants.specs.Replies.{Decodes}
use Rattle.spec_tick.specs.Tick.{Outcome}
use Rattle.spec_tick.specs.Demands.{number, state_afterwards}
use Rattle.spec_tick.specs.Record.{input_in}
use Rattle.spec_tick.specs.Recording.{tick_on, record_from, records_from}
use Rattle.spec_replay.specs.Replay.{first_records, same, first_difference}

-- ---- a machine of the statement p in one of its own states
pub record Holds (p : Statement) (s : State) (standing : Result Start Refusal) : Type 0 where
  pub recorded : Recorded p s
  pub decodes : Decodes p (encode_state s) standing

-- the sequence passed the check, and the machine stands in some state of it
abbrev pub Stood : (sequence : List ℕ) (read_back : ℕ) (second notes : List ℕ) → Result Start Refusal → Type 0
Stood sequence read_back second notes standing =
    (h : Passed sequence read_back second notes) × ((s : State) × Holds h.p s standing)

-- ---- one record
-- is r the record of instant n, which came to o?
abbrev pub is_record : (n : ℕ) → List ℕ → Outcome → Bool
is_record n r o = eqb (number o) 0 && same r (record_from n (input_in r) o)

-- whether it is, from a state on; and if so, the state that comes next
abbrev pub FollowsFrom : (p : Statement) (sequence : List ℕ) (read_back n : ℕ) (r : List ℕ) (s : State) → Option (Result Start Refusal) → Type 0
FollowsFrom p sequence read_back n r s None = is_record n r (tick_on sequence read_back (encode_state s) (input_in r)) ≡ false
FollowsFrom p sequence read_back n r s (Some standing) =
    (is_record n r (tick_on sequence read_back (encode_state s) (input_in r)) ≡ true)
    × ((s' : State) × (state_afterwards (tick_on sequence read_back (encode_state s) (input_in r)) ≡ encode_state s') × Holds p s' standing)

-- whatever state it stands in
abbrev pub Follows : (sequence : List ℕ) (read_back : ℕ) (second notes : List ℕ) (n : ℕ) (r : List ℕ) → Result Start Refusal → Option (Result Start Refusal) → Type 0
Follows sequence read_back second notes n r standing x =
    (h : Passed sequence read_back second notes) (s : State) → Holds h.p s standing → FollowsFrom h.p sequence read_back n r s x

-- ---- the place that is left to find, from place k, instant n and a state on, in so many records
abbrev pub place_from : (sequence : List ℕ) (read_back k n : ℕ) (state : List ℕ) (left : ℕ) → List ℕ → ℕ
place_from sequence read_back k n state left bs =
    first_difference k (first_records left bs) (records_from sequence read_back n state (map input_in (first_records left bs)))
