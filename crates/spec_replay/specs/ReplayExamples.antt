-- Recordings worked by hand (02, item 14).
use Rattle.std.specs.Prelude.{ℕ, List, [], ◌∷◌, ◌++◌, take}
use Rattle.spec_base.specs.Sets.{none}
use Rattle.spec_tick.specs.StateRecord.{state_record}
use Rattle.spec_tick.specs.AnswerRecord.{answer_record}
use Rattle.spec_tick.specs.Record.{record_of}
use Rattle.spec_replay.specs.Replay.{Replayed, replayed}

pub record Case : Type 0 where
  pub sequence : List ℕ
  pub read_back : ℕ
  pub recording : List ℕ
  pub shows : Replayed

-- pause 0, which asks for no signal: a first instant waits at label 0, a second one ends
abbrev pause : List ℕ
pause = 0x01 ∷ 0x00 ∷ []

abbrev waits : (number input : ℕ) → List ℕ
waits number input = record_of number input (answer_record 1 0 0 none 1) (state_record 1 1)

abbrev ends : (number input : ℕ) → List ℕ
ends number input = record_of number input (answer_record 0 0 0 none 1) (state_record 2 none)

-- signal 0 is emitted and tested: read back it is seen, and signal 1 is emitted too
abbrev valve : List ℕ
valve = 0x04 ∷ 0x02 ∷ 0x00 ∷ 0x07 ∷ 0x00 ∷ 0x02 ∷ 0x01 ∷ 0x00 ∷ []

abbrev opens : List ℕ
opens = record_of 1 0 (answer_record 0 0 0 3 9) (state_record 2 none)

-- a loop that ends at once
abbrev endless : List ℕ
endless = 0x06 ∷ 0x00 ∷ []

abbrev errs : List ℕ
errs = record_of 1 0 (answer_record 255 1 0 none 2) (state_record 2 none)

abbrev case : (sequence recording : List ℕ) (number place : ℕ) → Case
case sequence recording number place = record { sequence = sequence; read_back = 0; recording = recording; shows = replayed number place }

unfoldable pub cases : List Case
cases =
    case pause [] 0 0
    ∷ case pause (waits 1 5) 0 0
    ∷ case pause (waits 1 5 ++ ends 2 7) 0 0
    -- other inputs that change nothing
    ∷ case pause (waits 1 4 ++ ends 2 0) 0 0
    -- a record after the end
    ∷ case pause (waits 1 5 ++ (ends 2 7 ++ ends 3 7)) 0 3
    -- numbers from 2, and one left out; records exchanged; a record twice
    ∷ case pause (waits 2 5) 0 1
    ∷ case pause (waits 1 5 ++ ends 3 7) 0 2
    ∷ case pause (ends 2 7 ++ waits 1 5) 0 1
    ∷ case pause (waits 1 5 ++ waits 1 5) 0 2
    -- the answer is right and the state is not, in the first and in the last record
    ∷ case pause (record_of 1 5 (answer_record 1 0 0 none 1) (state_record 2 none) ++ ends 2 7) 0 1
    ∷ case pause (waits 1 5 ++ record_of 2 7 (answer_record 0 0 0 none 1) (state_record 1 1)) 0 2
    -- a cut record; the sequence's own number comes before it
    ∷ case pause (waits 1 5 ++ take 36 (ends 2 7)) 22 0
    ∷ case [] (take 36 (waits 1 5)) 2 0
    ∷ case [] (waits 1 5) 2 0
    -- a wrong instant as the last record
    ∷ case endless errs 0 0
    ∷ case endless (errs ++ errs) 0 2
    -- the planner names the read-back set
    ∷ record { sequence = valve; read_back = 1; recording = opens; shows = replayed 0 0 }
    ∷ record { sequence = valve; read_back = 0; recording = opens; shows = replayed 0 1 }
    ∷ []
