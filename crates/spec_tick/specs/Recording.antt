-- The recording of a fresh machine (02, items 10 and 14): a record for each instant of a list of inputs, until a call is turned down.
use Rattle.std.specs.Prelude.{ℕ, ◌+◌, ◌^◌, ◌<◌, cond, List, [], ◌∷◌, ◌++◌, replicate, eqb, ltb}
use Rattle.spec_base.specs.Limits.{signal_bytes, last_number}
use Rattle.spec_tick.specs.AnswerRecord.{answer_length}
use Rattle.spec_tick.specs.Tick.{Outcome, tick_of}
use Rattle.spec_tick.specs.Paper.{Call}
use Rattle.spec_tick.specs.Demands.{number, state_afterwards, answer_afterwards, cleared}
use Rattle.spec_tick.specs.Record.{record_of}

-- the number of the next instant: it stays at the greatest
unfoldable pub following : ℕ → ℕ
following n = cond (ltb n last_number) (n + 1) n

-- an answer buffer for a tick
abbrev pub blank : List ℕ
blank = replicate answer_length 0

-- what a tick on e comes to
abbrev pub tick_on : (sequence : List ℕ) (read_back : ℕ) (state : List ℕ) (e : ℕ) → Outcome
tick_on sequence read_back state e = tick_of sequence state e read_back blank

-- the record that an instant leaves
abbrev pub record_from : (n e : ℕ) → Outcome → List ℕ
record_from n e o = record_of n e (answer_afterwards o) (state_afterwards o)

-- the records from an instant with number n and a state on; a call turned down leaves none
unfoldable pub records_from : (sequence : List ℕ) (read_back n : ℕ) (state : List ℕ) → (inputs : List ℕ) → List (List ℕ)
records_from sequence read_back n state [] = []
records_from sequence read_back n state (e ∷ es) =
    cond (eqb (number (tick_on sequence read_back state e)) 0)
    (record_from n e (tick_on sequence read_back state e)
    ∷ records_from sequence read_back (following n) (state_afterwards (tick_on sequence read_back state e)) es)
    []

-- of a fresh machine: instants count from 1
abbrev pub recording_of : (sequence : List ℕ) (read_back : ℕ) → (inputs : List ℕ) → List (List ℕ)
recording_of sequence read_back = records_from sequence read_back 1 cleared

-- the same of a list of ticks, by what they come to
abbrev pub call_on : ℕ → Call
call_on e = record { input = e; buffer = blank }

unfoldable pub records_of : (n : ℕ) (inputs : List ℕ) → List Outcome → List (List ℕ)
records_of n [] os = []
records_of n (e ∷ es) [] = []
records_of n (e ∷ es) (o ∷ os) = cond (eqb (number o) 0) (record_from n e o ∷ records_of (following n) es os) []

-- records as bytes, one after the other
unfoldable pub joined : List (List ℕ) → List ℕ
joined [] = []
joined (r ∷ rs) = r ++ joined rs

-- inputs of 32 bits
abbrev pub Inputs : List ℕ → Type 0
Inputs [] = Unit {0}
Inputs (e ∷ es) = (e < 256 ^ signal_bytes) × Inputs es
