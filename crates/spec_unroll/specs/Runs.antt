-- What is compared of two runs (02, item 13): 'up to the last instant before its run is wrong, both, started fresh on the same inputs
-- and read-back set, emit the same and have the same codes and labels'; to emit the same is to emit the same litres, too.
use Rattle.std.specs.Prelude.{ℕ, zero, suc, ◌≡◌, Bool, false, cond, List, [], ◌∷◌, map, eqb}
use Rattle.spec_language.specs.Reaction.{Code, is_wrong}
use Rattle.spec_language.specs.Statement.{Statement}
use Rattle.spec_language.specs.Machines.{Seen, instant, State, by_labels, adds_by_labels}
use Rattle.spec_tick.specs.AnswerRecord.{code_in}
use Rattle.spec_tick.specs.Tick.{Outcome, outcome, tick_of}
use Rattle.spec_tick.specs.Paper.{Call}
use Rattle.spec_tick.specs.Demands.{Tick, state_afterwards, uncounted, outcomes, cleared}
use Rattle.spec_tick.specs.Deliveries.{delivered}

-- ---- through the tick
-- a wrong instant
abbrev pub tick_wrong : Outcome → Bool
tick_wrong (outcome zero state answer) = eqb (code_in answer) 255
tick_wrong (outcome (suc n) state answer) = false

-- the ticks up to the last one before a wrong instant
unfoldable pub before_wrong : Tick → (sequence : List ℕ) (read_back : ℕ) (state : List ℕ) → List Call → List Call
before_wrong tick sequence read_back state [] = []
before_wrong tick sequence read_back state (c ∷ cs) =
    let o = tick sequence state c.input read_back c.buffer in
    cond (tick_wrong o) [] (c ∷ before_wrong tick sequence read_back (state_afterwards o) cs)

-- up to the original's last instant before a wrong one, both give the same numbers, state records (phase and labels) and answers, the
-- number of reactions aside
abbrev pub SameUntilWrong : Tick → (original result : List ℕ) (read_back : ℕ) → Type 0
SameUntilWrong tick original result read_back =
    (calls : List Call)
    → let before = before_wrong tick original read_back cleared calls in
    map uncounted (outcomes tick result read_back cleared before) ≡ map uncounted (outcomes tick original read_back cleared before)

-- and the same litres for each farm (02, item 12)
abbrev pub SameLitresUntilWrong : (original result : List ℕ) (read_back : ℕ) → Type 0
SameLitresUntilWrong original result read_back =
    (farm : ℕ) (calls : List Call)
    → let before = before_wrong tick_of original read_back cleared calls in
    delivered result read_back farm cleared before ≡ delivered original read_back farm cleared before

-- ---- by the machine by labels
-- what is told of one tick: the code, the set it shows, the litres it adds for a farm, and the state after it, which has the labels
pub data Told : Type 0 where
  told : (k : Code) (shows adds : ℕ) (after : State) → Told
  turned_down : Told

abbrev pub tells : Seen → (adds : ℕ) → State → Told
tells (instant k x o n f) adds s = told k o adds s
tells Seen.refused adds s = turned_down

unfoldable pub tells_all : (farm : ℕ) → Statement → State → List ℕ → List Told
tells_all f p s [] = []
tells_all f p s (e ∷ es) = tells (by_labels p s e).0 (adds_by_labels f p s e) (by_labels p s e).1 ∷ tells_all f p (by_labels p s e).1 es

abbrev pub shows_wrong : Seen → Bool
shows_wrong (instant k x o n f) = is_wrong k
shows_wrong Seen.refused = false

-- the inputs up to the last instant before a wrong one
unfoldable pub until_wrong : Statement → State → List ℕ → List ℕ
until_wrong p s [] = []
until_wrong p s (e ∷ es) = cond (shows_wrong (by_labels p s e).0) [] (e ∷ until_wrong p (by_labels p s e).1 es)

-- what holds in each instant of a run, by the state before it and its input
unfoldable pub InEach : Statement → (State → ℕ → Type 0) → State → List ℕ → Type 0
InEach p P s [] = Unit {0}
InEach p P s (e ∷ es) = P s e × InEach p P (by_labels p s e).1 es
