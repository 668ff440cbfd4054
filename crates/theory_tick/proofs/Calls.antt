-- The demands in the form for the code: of calls that meet the tick's contract, one or a chain of them.
use Prim.Native.Nat.{ℕ}
use mathlib.Core.Path.{◌≡◌, refl, sym, ap, ◌∙◌, subst}
use mathlib.Core.Logic.{◌≢◌}
use mathlib.Core.List.{List, Memᴰ, map}
use Rattle.spec_language.specs.Statement.{Statement}
use Rattle.spec_language.specs.Reaction.{Code, gives}
use Rattle.spec_language.specs.States.{NoSetpause}
use Rattle.spec_language.specs.Machines.{Rewriting}
use Rattle.spec_language.specs.Rules.{Reacts}
use Rattle.spec_sequence.specs.Program.{program}
use Rattle.spec_sequence.specs.Check.{check_of}
use Rattle.spec_sequence.specs.Rows.{Spells}
use Rattle.spec_tick.specs.Tick.{Outcome, outcome, tick_of}
use Rattle.spec_tick.specs.Paper.{Call, paper}
use Rattle.spec_tick.specs.Demands.{number, outcomes, Admitted, StandsAt, Derived, Shows, TickMeets, Chain, done, call, report, cleared}
use Rattle.theory_tick.proofs.Agreement.{demand_3}
use Rattle.theory_tick.proofs.Demand1.{demand_1}
use Rattle.theory_tick.proofs.Demand2.{demand_2, passed-check, state_sized, answer_sized}

chain_outcomes : {sequence : List ℕ} {read_back : ℕ} {state : List ℕ} {calls : List Call} {results : List Outcome} → Chain sequence read_back state calls results
    → results ≡ outcomes tick_of sequence read_back state calls
unfolding outcomes
chain_outcomes done = refl
chain_outcomes (call m r) = rw (← m, chain_outcomes r)

-- DEMAND 1, NEVER 11, over every chain of calls that meet the tick's contract
pub never_11_calls : (sequence : List ℕ) (read_back : ℕ) (state : List ℕ) → check_of sequence read_back ≡ 0 → Admitted sequence state
    → (calls : List Call) (results : List Outcome) → Chain sequence read_back state calls results
    → (o : Outcome) → Memᴰ o results → number o ≢ 11
never_11_calls sequence read_back state h m calls results r o x =
    demand_1.never_11 sequence read_back state h m calls o (subst (Memᴰ o) (chain_outcomes r) x)

-- DEMAND 2, of every call that meets the tick's contract
pub demand_2_call : {n : ℕ} {state' answer' : List ℕ} (sequence state : List ℕ) (e read_back : ℕ) (answer : List ℕ)
    → TickMeets n state' answer' sequence state e read_back answer → n ≡ 0
    → (t : Statement) × StandsAt sequence read_back state t × Derived t e
    × ((o : ℕ) (k : Code) (l : ℕ) (t' : Statement) → Reacts t e (gives o k l t') → Shows t e o k l t' (outcome n state' answer'))
demand_2_call sequence state e read_back answer m z =
    let y : number (tick_of sequence state e read_back answer) ≡ 0 = sym (ap number m) ∙ z in
    let s = demand_2.stands sequence state e read_back answer y in (
      s.0,
      s.1,
      s.2,
      λ o k l t' d. subst (Shows s.0 e o k l t') (sym m)
          (demand_2.shows sequence state e read_back answer (passed-check sequence state e read_back answer y) (state_sized sequence state e read_back answer y)
          (answer_sized sequence state e read_back answer y) s.0 s.1 o k l t' d),
    )

-- DEMAND 3, over every chain of calls that meet the tick's contract
pub demand_3_calls : (sequence : List ℕ) (read_back : ℕ) → check_of sequence read_back ≡ 0 → (p : Statement) → Spells sequence p → NoSetpause p
    → (calls : List Call) (results : List Outcome) → Chain sequence read_back cleared calls results
    → map report results ≡ paper (Rewriting.fresh (program read_back p)) calls
demand_3_calls sequence read_back h p s plain calls results r = ap (map report) (chain_outcomes r) ∙ demand_3 sequence read_back h p s plain calls
