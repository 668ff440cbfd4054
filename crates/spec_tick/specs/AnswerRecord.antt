-- The answer record as bytes (01, 'States and resuming'; 02, item 6): code, kind, place, emitted set, number of reactions.
use Rattle.std.specs.Prelude.{ℕ, ◌+◌, List, ◌∷◌, ◌++◌, get_or, take, drop}
use Rattle.spec_language.specs.Reaction.{Code, ended, waiting, leaving, wrong, gives}
use Rattle.spec_language.specs.Errors.{blame}
use Rattle.spec_language.specs.Instants.{Instant, instant}
use Rattle.spec_language.specs.Machines.{shown}
use Rattle.spec_base.specs.Limits.{place_bytes, signal_bytes, reactions_bytes}
use Rattle.spec_base.specs.Bytes.{le_bytes, le_number}

-- where a field of several bytes begins, and the length
abbrev pub place_at : ℕ
place_at = 2

abbrev pub emitted_at : ℕ
emitted_at = place_at + place_bytes

abbrev pub reactions_at : ℕ
reactions_at = emitted_at + signal_bytes

abbrev pub answer_length : ℕ
answer_length = reactions_at + reactions_bytes

abbrev pub answer_record : (code kind place emitted reactions : ℕ) → List ℕ
answer_record code kind place emitted reactions =
    ((code ∷ kind ∷ le_bytes place_bytes place) ++ le_bytes signal_bytes emitted) ++ le_bytes reactions_bytes reactions

abbrev pub code_in : List ℕ → ℕ
code_in answer = get_or answer 0 0

abbrev pub kind_in : List ℕ → ℕ
kind_in answer = get_or answer 1 0

abbrev pub place_in : List ℕ → ℕ
place_in answer = le_number (take place_bytes (drop place_at answer))

abbrev pub emitted_in : List ℕ → ℕ
emitted_in answer = le_number (take signal_bytes (drop emitted_at answer))

abbrev pub reactions_in : List ℕ → ℕ
reactions_in answer = le_number (take reactions_bytes (drop reactions_at answer))

-- what an instant answers: its code
abbrev pub code_byte : Code → ℕ
code_byte ended = 0
code_byte waiting = 1
code_byte (leaving n) = n + 1
code_byte wrong = 255

unfoldable pub encode_answer : Instant → List ℕ
encode_answer (instant (gives o k l p') x n) = answer_record (code_byte k) (blame k x).kind (blame k x).place (shown k o) n
