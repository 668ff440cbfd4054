-- The listing of a run (01, 'Bays to run'): what the run program prints for a file, for all bytes.
use Rattle.std.specs.Prelude.{ℕ, suc, ◌*◌, Bool, cond, List, [], ◌∷◌, ◌++◌, replicate, eqb}
use Rattle.spec_base.specs.Limits.{signal_bytes, label_bytes}
use Rattle.spec_tick.specs.StateRecord.{phase_in, labels_in}
use Rattle.spec_tick.specs.AnswerRecord.{answer_length, code_in, kind_in, place_in, emitted_in}
use Rattle.spec_tick.specs.Tick.{Outcome, tick_of}
use Rattle.spec_tick.specs.Demands.{state_afterwards, answer_afterwards, cleared}
use Rattle.spec_programs.specs.Text.{numeral, space, newline, heading, ending, input_cut, refusal}
use Rattle.spec_programs.specs.File.{File, cut, refused, runs, file_of}

pub record Entry : Type 0 where
  pub instant : ℕ
  pub code : ℕ
  pub kind : ℕ
  pub place : ℕ
  pub emitted : ℕ
  pub labels : ℕ

-- the first four fields are decimal, the sets hexadecimal, two digits for a byte (02, item 7: 32 for the labels); one byte ends each
abbrev pub numbers_of : (instant code kind place : ℕ) → List ℕ
numbers_of instant code kind place =
    (numeral 10 1 instant ++ space ∷ [])
    ++ ((numeral 10 1 code ++ space ∷ [])
    ++ ((numeral 10 1 kind ++ space ∷ [])
    ++ (numeral 10 1 place ++ space ∷ [])))

abbrev pub sets_of : (emitted labels : ℕ) → List ℕ
sets_of emitted labels = (numeral 16 (2 * signal_bytes) emitted ++ space ∷ []) ++ (numeral 16 (2 * label_bytes) labels ++ newline ∷ [])

unfoldable pub line_of : Entry → List ℕ
line_of r = numbers_of r.instant r.code r.kind r.place ++ sets_of r.emitted r.labels

-- the row that a tick's records show; its labels are those of the next state
abbrev pub entry_read : (instant : ℕ) (state answer : List ℕ) → Entry
entry_read i state answer =
    record {
      instant = i;
      code = code_in answer;
      kind = kind_in answer;
      place = place_in answer;
      emitted = emitted_in answer;
      labels = labels_in state;
    }

abbrev pub line_in : (instant : ℕ) (state answer : List ℕ) → List ℕ
line_in i state answer = line_of (entry_read i state answer)

abbrev pub entry_from : (instant : ℕ) → Outcome → Entry
entry_from i o = entry_read i (state_afterwards o) (answer_afterwards o)

abbrev pub is_over : List ℕ → Bool
is_over state = eqb (phase_in state) 2

-- a tick with an answer buffer of zeros
abbrev pub ticked : (sequence : List ℕ) (read_back : ℕ) (state : List ℕ) (input : ℕ) → Outcome
ticked sequence read_back state e = tick_of sequence state e read_back (replicate answer_length 0)

-- an instant for each input, up to the one that ends the machine; the read-back set is the same in all
unfoldable pub entries : (sequence : List ℕ) (read_back : ℕ) (state : List ℕ) (instant : ℕ) (inputs : List ℕ) → List Entry
entries sequence read_back state i [] = []
entries sequence read_back state i (e ∷ es) =
    let o = ticked sequence read_back state e in
    entry_from i o ∷ cond (is_over (state_afterwards o)) [] (entries sequence read_back (state_afterwards o) (suc i) es)

unfoldable pub lines : List Entry → List ℕ
lines [] = []
lines (r ∷ rs) = line_of r ++ lines rs

abbrev pub listed : File → List ℕ
listed cut = input_cut
listed (refused number) = refusal number
listed (runs sequence read_back inputs) = heading ++ (lines (entries sequence read_back cleared 1 inputs) ++ ending)

unfoldable pub listing_of : List ℕ → List ℕ
listing_of file = listed (file_of file)
