-- The replacements of 01's checklist: the six kinds of a wrong check or tick, then one of each kind and two more. proofs/Replacements
-- refutes a demand for each.
use Rattle.std.specs.Prelude.{ℕ, zero, suc, ◌≡◌, ◌≢◌, cond, List, [], ◌∷◌, ◌++◌, take, drop, replicate, eqb}
use Rattle.spec_language.specs.Machines.{State}
use Rattle.spec_base.specs.Limits.{reactions_bytes}
use Rattle.spec_tick.specs.StateRecord.{labels_at, encode_state, phase_in, labels_in}
use Rattle.spec_tick.specs.AnswerRecord.{reactions_at, answer_length, code_in}
use Rattle.spec_tick.specs.Tick.{Outcome, outcome, tick_of}
use Rattle.spec_tick.specs.Demands.{Check, Tick, number, state_afterwards, answer_afterwards, cleared}

-- ---- the kinds
-- in every instant, from the state before it
abbrev pub EveryInstant : (List ℕ → Outcome → Type 0) → Tick → Type 0
EveryInstant Holds tick =
    (sequence state : List ℕ) (e read_back : ℕ) (answer : List ℕ) → number (tick sequence state e read_back answer) ≡ 0
    → Holds state (tick sequence state e read_back answer)

-- calls every instant wrong
abbrev pub AllWrong : Tick → Type 0
AllWrong = EveryInstant (λ state o. code_in (answer_afterwards o) ≡ 255)

-- turns every sequence down
abbrev pub AllTurnedDown : Check → Type 0
AllTurnedDown check = (sequence : List ℕ) (read_back : ℕ) → check sequence read_back ≢ 0

-- always ends with code 0
abbrev pub AllEnded : Tick → Type 0
AllEnded = EveryInstant (λ state o. code_in (answer_afterwards o) ≡ 0)

-- leaves the labels where they were
abbrev pub LabelsLeft : Tick → Type 0
LabelsLeft = EveryInstant (λ state o. labels_in (state_afterwards o) ≡ labels_in state)

-- repeats the first instant later, whatever that is
abbrev pub FirstRepeated : Tick → Type 0
FirstRepeated tick =
    (sequence state : List ℕ) (e read_back : ℕ) (answer : List ℕ) → phase_in state ≡ 1
    → tick sequence state e read_back answer ≡ tick sequence cleared e read_back answer

-- says "over" to a fresh machine, even once
abbrev pub OverToFresh : Tick → Type 0
OverToFresh tick =
    (sequence : List ℕ) × (state : List ℕ) × (e : ℕ) × (read_back : ℕ) × (answer : List ℕ)
    × (phase_in state ≡ 0) × (number (tick sequence state e read_back answer) ≡ 12)

-- ---- one of each kind
-- another result for an instant; a refusal stays
abbrev pub instead : (List ℕ → List ℕ → Outcome) → Outcome → Outcome
instead f (outcome zero state answer) = f state answer
instead f (outcome (suc n) state answer) = outcome (suc n) state answer

-- a tick that calls every instant wrong
abbrev pub every_wrong : Tick
every_wrong sequence state e read_back answer =
    instead (λ state' answer'. outcome 0 (encode_state State.over) (255 ∷ 1 ∷ replicate 10 0)) (tick_of sequence state e read_back answer)

-- a check that turns every sequence down
abbrev pub turns_down : Check
turns_down sequence read_back = 3

-- a tick that always ends with code 0
abbrev pub always_ends : Tick
always_ends sequence state e read_back answer =
    instead (λ state' answer'. outcome 0 (encode_state State.over) (replicate answer_length 0)) (tick_of sequence state e read_back answer)

-- a tick that leaves the labels where they were
abbrev pub leaves_labels : Tick
leaves_labels sequence state e read_back answer =
    instead (λ state' answer'. outcome 0 (take labels_at state' ++ drop labels_at state) answer') (tick_of sequence state e read_back answer)

-- a tick that follows the rules in the first instant and repeats it later
abbrev pub repeats_first : Tick
repeats_first sequence state e read_back answer =
    cond (eqb (phase_in state) 1) (tick_of sequence cleared e read_back answer) (tick_of sequence state e read_back answer)

-- a tick that says "over" to a fresh machine
abbrev pub says_over : Tick
says_over sequence state e read_back answer =
    cond (eqb (phase_in state) 0) (instead (λ state' answer'. outcome 12 state answer) (tick_of sequence state e read_back answer))
    (tick_of sequence state e read_back answer)

-- a tick whose answers have a byte too many
abbrev pub appends_zero : Tick
appends_zero sequence state e read_back answer =
    instead (λ state' answer'. outcome 0 state' (answer' ++ 0 ∷ [])) (tick_of sequence state e read_back answer)

-- a tick that counts no reactions
abbrev pub counts_none : Tick
counts_none sequence state e read_back answer =
    instead (λ state' answer'. outcome 0 state' (take reactions_at answer' ++ replicate reactions_bytes 0)) (tick_of sequence state e read_back answer)
