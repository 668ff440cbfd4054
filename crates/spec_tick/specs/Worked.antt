-- Runs worked by hand: bytes, read-back set, inputs, and what the tick of a fresh machine shows on them in each instant.
use Rattle.std.specs.Prelude.{ℕ, ◌≡◌, List, map, replicate}
use Rattle.spec_tick.specs.AnswerRecord.{answer_length}
use Rattle.spec_tick.specs.Demands.{Tick, outcomes, cleared}
use Rattle.spec_tick.specs.Bays.{Shown, shown_by}

pub record Run : Type 0 where
  pub bytes : List ℕ
  pub read_back : ℕ
  pub inputs : List ℕ
  pub shows : List Shown

-- number 0 and code 1
abbrev pub waits : (emitted labels : ℕ) → Shown
waits emitted labels = record { number = 0; code = 1; kind = 0; place = 0; emitted = emitted; labels = labels }

-- number 0 and code 0
abbrev pub ends : (emitted : ℕ) → Shown
ends emitted = record { number = 0; code = 0; kind = 0; place = 0; emitted = emitted; labels = 0 }

-- what a tick shows on these inputs from a cleared record, with a cleared answer buffer
abbrev pub shown_on : Tick → (bytes : List ℕ) (read_back : ℕ) (inputs : List ℕ) → List Shown
shown_on tick bytes read_back inputs =
    map shown_by (outcomes tick bytes read_back cleared (map (λ (e : ℕ). record { input = e; buffer = replicate answer_length 0 }) inputs))

-- each row of a table
abbrev pub ShowsRuns : List Run → Tick → Type 0
ShowsRuns table tick = map (λ (r : Run). shown_on tick r.bytes r.read_back r.inputs) table ≡ map (λ (r : Run). r.shows) table
