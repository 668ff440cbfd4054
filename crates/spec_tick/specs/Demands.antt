-- The three demands, each a predicate of any check and any tick; proofs/Theorems has them of check_of and tick_of, and refuted for
-- the wrong ticks of 01's checklist.
use Rattle.std.specs.Prelude.{ℕ, zero, suc, ◌≡◌, ◌≢◌, ◌↔◌, length, take, replicate}
use Rattle.std.proofs.Math.Option.{some}
use mathlib.Core.List.{List, [], ◌∷◌, map, head?, Memᴰ}
use Rattle.spec_base.specs.Sets.{none}
use Rattle.spec_language.specs.Statement.{Statement}
use Rattle.spec_language.specs.Reaction.{Code, wrong, gives}
use Rattle.spec_language.specs.Rules.{Reacts}
use Rattle.spec_language.specs.Errors.{Error, first_error, blame, uses}
use Rattle.spec_language.specs.Reactions.{reactions, rules_used}
use Rattle.spec_language.specs.States.{NoSetpause, Valid}
use Rattle.spec_language.specs.Expansion.{expand}
use Rattle.spec_language.specs.Machines.{shown, state_after, Rewriting}
use Rattle.spec_sequence.specs.Program.{program}
use Rattle.spec_sequence.specs.Rows.{Spells, Row, ByRows}
use Rattle.spec_tick.specs.StateRecord.{state_length, phase_in, labels_in, encode_state}
use Rattle.spec_tick.specs.AnswerRecord.{reactions_at, answer_length, answer_record, code_in, kind_in, place_in, emitted_in, reactions_in, code_byte}
use Rattle.spec_tick.specs.Tick.{Outcome, outcome, tick_of}
use Rattle.spec_tick.specs.TickRows.{Malformed, TickRow}
use Rattle.spec_tick.specs.Paper.{Call, Report, turned_down, reacted, paper}

-- sequence, read-back set
abbrev pub Check : Type 0
Check = List ℕ → ℕ → ℕ

-- sequence, state, input, read-back set, answer
abbrev pub Tick : Type 0
Tick = List ℕ → List ℕ → ℕ → ℕ → List ℕ → Outcome

abbrev pub number : Outcome → ℕ
number (outcome n state answer) = n

abbrev pub state_afterwards : Outcome → List ℕ
state_afterwards (outcome n state answer) = state

abbrev pub answer_afterwards : Outcome → List ℕ
answer_afterwards (outcome n state answer) = answer

-- an outcome without the number of reactions in its answer
abbrev pub uncounted : Outcome → Outcome
uncounted (outcome n state answer) = outcome n state (take reactions_at answer)

-- ---- lists of ticks: each reads the record as the last one left it; the read-back set is the same in all (02, item 5)
unfoldable pub outcomes : Tick → (sequence : List ℕ) (read_back : ℕ) (state : List ℕ) → List Call → List Outcome
outcomes tick sequence read_back state [] = []
outcomes tick sequence read_back state (c ∷ cs) =
    tick sequence state c.input read_back c.buffer
    ∷ outcomes tick sequence read_back (state_afterwards (tick sequence state c.input read_back c.buffer)) cs

-- a cleared record
abbrev pub cleared : List ℕ
cleared = replicate state_length 0

-- ---- demand 1
-- a record that row 11 admits
abbrev pub Admitted : (sequence state : List ℕ) → Type 0
Admitted sequence state =
    (length state ≡ state_length) × ((p : Statement) → Spells sequence p → ¬ Malformed p (phase_in state) (labels_in state))

pub record Demand1 (check : Check) (tick : Tick) : Type 0 where
  pub check_by_rows : (sequence : List ℕ) (read_back : ℕ) → ByRows (check sequence read_back) (Row sequence read_back)
  pub tick_by_rows : (sequence state : List ℕ) (e read_back : ℕ) (answer : List ℕ)
      → ByRows (number (tick sequence state e read_back answer)) (TickRow sequence read_back state answer)
  pub refusal_writes_nothing : (sequence state : List ℕ) (e read_back : ℕ) (answer : List ℕ)
      → number (tick sequence state e read_back answer) ≢ 0
      → tick sequence state e read_back answer ≡ outcome (number (tick sequence state e read_back answer)) state answer
  pub never_11 : (sequence : List ℕ) (read_back : ℕ) (state : List ℕ) → check sequence read_back ≡ 0 → Admitted sequence state
      → (calls : List Call) (o : Outcome)
      → Memᴰ o (outcomes tick sequence read_back state calls) → number o ≢ 11
  pub cleared_admitted : (sequence : List ℕ) → Admitted sequence cleared

-- ---- demand 2
-- the sequence is p, and in the state of this record the machine reacts with t, the program or its expansion
pub data StandsAt (sequence : List ℕ) (read_back : ℕ) (state : List ℕ) : Statement → Type 0 where
  at_start : {p : Statement} → Spells sequence p → phase_in state ≡ 0 → labels_in state ≡ none
      → StandsAt sequence read_back state (program read_back p)
  at_labels : {p : Statement} → Spells sequence p → phase_in state ≡ 1 → Valid p (labels_in state)
      → StandsAt sequence read_back state (expand (program read_back p) (labels_in state))

-- the rules give t an instant with the input e (003, corollary 11)
abbrev pub Derived : Statement → (e : ℕ) → Type 0
Derived t e = (o : ℕ) × (k : Code) × (l : ℕ) × (t' : Statement) × Reacts t e (gives o k l t')

-- what the rules give for t is what the records show: both records whole, then the answer by its fields
pub record Shows (t : Statement) (e o : ℕ) (k : Code) (l : ℕ) (t' : Statement) (result : Outcome) : Type 0 where
  pub an_instant : number result ≡ 0
  pub moved : state_afterwards result ≡ encode_state (state_after (gives o k l t'))
  pub answered : answer_afterwards result
      ≡ answer_record (code_byte k) (blame k (first_error t e)).kind (blame k (first_error t e)).place (shown k o) (reactions t e)
  pub sized : length (answer_afterwards result) ≡ answer_length
  pub code : code_in (answer_afterwards result) ≡ code_byte k
  pub called_wrong : (code_in (answer_afterwards result) ≡ 255) ↔ (k ≡ wrong)
  pub emitted : k ≢ wrong → emitted_in (answer_afterwards result) ≡ o
  pub nothing_shown : k ≡ wrong → emitted_in (answer_afterwards result) ≡ none
  -- the error that is named is the first of the tree of reactions, and the first use in any derivation
  pub named : k ≡ wrong
      → (x : Error) × (first_error t e ≡ some x) × ((d : Reacts t e (gives o k l t')) → head? (uses d) ≡ some x)
      × (kind_in (answer_afterwards result) ≡ x.kind) × (place_in (answer_afterwards result) ≡ x.place)
  pub unnamed : k ≢ wrong → (kind_in (answer_afterwards result) ≡ 0) × (place_in (answer_afterwards result) ≡ 0)
  -- the number of reactions in the tree, whole: it fits its bytes (02, item 6); and that of the rules used in any derivation
  pub counted : reactions_in (answer_afterwards result) ≡ reactions t e
  pub counted_rules : (d : Reacts t e (gives o k l t')) → reactions_in (answer_afterwards result) ≡ rules_used d

pub record Demand2 (check : Check) (tick : Tick) : Type 0 where
  -- where the tick gives 0, the machine stands at a term, and the rules give that term an instant
  pub stands : (sequence state : List ℕ) (e read_back : ℕ) (answer : List ℕ) → number (tick sequence state e read_back answer) ≡ 0
      → (t : Statement) × StandsAt sequence read_back state t × Derived t e
  pub shows : (sequence state : List ℕ) (e read_back : ℕ) (answer : List ℕ) → check sequence read_back ≡ 0
      → length state ≡ state_length → length answer ≡ answer_length → (t : Statement) → StandsAt sequence read_back state t
      → (o : ℕ) (k : Code) (l : ℕ) (t' : Statement) → Reacts t e (gives o k l t')
      → Shows t e o k l t' (tick sequence state e read_back answer)

-- ---- demand 3
abbrev pub report : Outcome → Report
report (outcome zero state answer) =
    reacted (code_in answer) (kind_in answer) (place_in answer) (emitted_in answer) (reactions_in answer) (phase_in state)
report (outcome (suc n) state answer) = turned_down (suc n) (phase_in state)

-- an accepted sequence without setpause: the paper is fed the program of the statement that it spells, and both report the same
abbrev pub Demand3 : Check → Tick → Type 0
Demand3 check tick =
    (sequence : List ℕ) (read_back : ℕ) → check sequence read_back ≡ 0 → (p : Statement) → Spells sequence p → NoSetpause p
    → (calls : List Call)
    → map report (outcomes tick sequence read_back cleared calls) ≡ paper (Rewriting.fresh (program read_back p)) calls

-- ---- the form for the code: a call of the tick meets its contract
-- number and both buffers are tickOf's
abbrev pub TickMeets : (n : ℕ) (state' answer' sequence state : List ℕ) (e read_back : ℕ) (answer : List ℕ) → Type 0
TickMeets n state' answer' sequence state e read_back answer = outcome n state' answer' ≡ tick_of sequence state e read_back answer

-- a chain of calls: each reads the state as the last one left it, the answer buffers are free
pub data Chain (sequence : List ℕ) (read_back : ℕ) : (state : List ℕ) → List Call → List Outcome → Type 0 where
  done : {state : List ℕ} → Chain sequence read_back state [] []
  call : {n : ℕ} {state state' answer' : List ℕ} {c : Call} {calls : List Call} {results : List Outcome}
      → TickMeets n state' answer' sequence state c.input read_back c.buffer
      → Chain sequence read_back state' calls results
      → Chain sequence read_back state (c ∷ calls) (outcome n state' answer' ∷ results)
