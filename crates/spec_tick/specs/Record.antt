-- The record of an instant (02, item 10), 37 bytes: its number, inputs, answer and next state; and what a panel shows of one.
use Rattle.std.specs.Prelude.{ℕ, ◌+◌, ◌<◌, ◌≡◌, false, List, [], ◌∷◌, ◌++◌, get_or, take, drop}
use Rattle.spec_base.specs.Limits.{signal_bytes, number_bytes}
use Rattle.spec_base.specs.Sets.{member, difference}
use Rattle.spec_base.specs.Bytes.{le_bytes, le_number}
use Rattle.spec_tick.specs.StateRecord.{state_length}
use Rattle.spec_tick.specs.AnswerRecord.{answer_length, code_in, emitted_in}

-- ---- where the fields begin, and the length
abbrev pub input_at : ℕ
input_at = number_bytes

abbrev pub answer_at : ℕ
answer_at = input_at + signal_bytes

abbrev pub state_at : ℕ
state_at = answer_at + answer_length

abbrev pub recordLength : ℕ
recordLength = state_at + state_length

abbrev pub record_of : (number input : ℕ) (answer state : List ℕ) → List ℕ
record_of number input answer state = ((le_bytes number_bytes number ++ le_bytes signal_bytes input) ++ answer) ++ state

-- ---- the fields
abbrev pub number_in : List ℕ → ℕ
number_in r = le_number (take number_bytes r)

abbrev pub input_in : List ℕ → ℕ
input_in r = le_number (take signal_bytes (drop input_at r))

abbrev pub answer_in : List ℕ → List ℕ
answer_in r = take answer_length (drop answer_at r)

abbrev pub state_in : List ℕ → List ℕ
state_in r = take state_length (drop state_at r)

-- ---- what a panel shows: number, code, inputs and emitted set, service-only signals cleared in both sets
abbrev pub panel_input_at : ℕ
panel_input_at = number_bytes + 1

abbrev pub panel_emitted_at : ℕ
panel_emitted_at = panel_input_at + signal_bytes

abbrev pub panel_length : ℕ
panel_length = panel_emitted_at + signal_bytes

abbrev pub panel_bytes : (number code input emitted : ℕ) → List ℕ
panel_bytes number code input emitted =
    ((le_bytes number_bytes number ++ (code ∷ [])) ++ le_bytes signal_bytes input) ++ le_bytes signal_bytes emitted

unfoldable pub panel_of : (service_only : ℕ) → List ℕ → List ℕ
panel_of service_only r =
    panel_bytes (number_in r) (code_in (answer_in r)) (difference (input_in r) service_only) (difference (emitted_in (answer_in r)) service_only)

-- ---- two records that agree in number, code and, service-only signals aside, inputs and emitted set
abbrev pub AgreeOutside : (v s t : ℕ) → Type 0
AgreeOutside v s t = (i : ℕ) → member i v ≡ false → member i s ≡ member i t

pub record Agree (service_only : ℕ) (r s : List ℕ) : Type 0 where
  pub number : number_in r ≡ number_in s
  pub code : code_in (answer_in r) ≡ code_in (answer_in s)
  pub inputs : AgreeOutside service_only (input_in r) (input_in s)
  pub emitted : AgreeOutside service_only (emitted_in (answer_in r)) (emitted_in (answer_in s))

-- each of the list is a byte
abbrev pub Bytes : List ℕ → Type 0
Bytes bs = (i : ℕ) → get_or bs i 0 < 256
