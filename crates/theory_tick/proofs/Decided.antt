-- Demands 1 and 2 leave nothing open: a check and a tick that meet them are check_of and tick_of, for all arguments, and so meet
-- demand 3. Every wrong check or tick breaks one of them, those of 01's checklist among them.
use Prim.Native.Nat.{ℕ, zero, suc}
use native.Mathlib.Omega.{arith}
use mathlib.Core.Path.{◌≡◌, refl, sym, ap, ◌∙◌}
use mathlib.Core.List.{List, [], ◌∷◌, map}
use Rattle.spec_language.specs.Statement.{Statement}
use Rattle.spec_language.specs.Reaction.{Code, Reaction, gives, react}
use Rattle.spec_language.specs.Rules.{Reacts}
use Rattle.theory_language.proofs.Rules.{reacts_is}
use Rattle.spec_sequence.specs.Check.{check_of}
use Rattle.spec_sequence.specs.Rows.{Row, ByRows}
use Rattle.spec_tick.specs.Tick.{Outcome, outcome, tick_of}
use Rattle.spec_tick.specs.TickRows.{TickRow}
use Rattle.spec_tick.specs.Paper.{Call}
use Rattle.spec_tick.specs.Demands.{Check, Tick, number, state_afterwards, answer_afterwards, outcomes, cleared, report, Shows, Demand1, Demand2, Demand3}
use Rattle.theory_tick.proofs.Demand1.{demand_1}
use Rattle.theory_tick.proofs.Demand2.{demand_2, passed-check, state_sized, answer_sized}
use Rattle.theory_tick.proofs.Agreement.{demand_3}

-- rows give one number
one_number : (Holds : ℕ → Type 0) (m n : ℕ) → ByRows m Holds → ByRows n Holds → m ≡ n
one_number Holds zero n f g = sym (g.acceptance.1 (f.acceptance.0 refl))
one_number Holds (suc m) n f g = sym ((g.refusal (suc m) (omega arith)).1 ((f.refusal (suc m) (omega arith)).0 refl))

-- the rules give one instant, and what it shows is one outcome
same_outcome : (x y : Outcome) → number x ≡ number y → state_afterwards x ≡ state_afterwards y → answer_afterwards x ≡ answer_afterwards y → x ≡ y
same_outcome (outcome n s a) (outcome m t b) h i j =
    ap (λ (z : ℕ). outcome z s a) h ∙ ap (λ (z : List ℕ). outcome m z a) i ∙ ap (λ (z : List ℕ). outcome m t z) j

abbrev ShowsAll : Statement → ℕ → Outcome → Type 0
ShowsAll t e x = (o : ℕ) (k : Code) (l : ℕ) (t' : Statement) → Reacts t e (gives o k l t') → Shows t e o k l t' x

same_shown : (t : Statement) (e : ℕ) (r : Reaction) → r ≡ react t e → (x y : Outcome) → ShowsAll t e x → ShowsAll t e y → x ≡ y
same_shown t e (gives o k l t') h x y f g =
    let d = (reacts_is t e (gives o k l t')).1 h in
    let a = f o k l t' d in
    let b = g o k l t' d in
    same_outcome x y (a.an_instant ∙ sym b.an_instant) (a.moved ∙ sym b.moved) (a.answered ∙ sym b.answered)

module _ (check : Check) (tick : Tick) (one : Demand1 check tick) (two : Demand2 check tick) where
  pub check-is : (sequence : List ℕ) (read_back : ℕ) → check sequence read_back ≡ check_of sequence read_back
  check-is sequence read_back =
      one_number (Row sequence read_back) (check sequence read_back) (check_of sequence read_back) (one.check_by_rows sequence read_back)
      (demand_1.check_by_rows sequence read_back)

  number_is : (sequence state : List ℕ) (e read_back : ℕ) (answer : List ℕ)
      → number (tick sequence state e read_back answer) ≡ number (tick_of sequence state e read_back answer)
  number_is sequence state e read_back answer =
      one_number (TickRow sequence read_back state answer) (number (tick sequence state e read_back answer))
      (number (tick_of sequence state e read_back answer)) (one.tick_by_rows sequence state e read_back answer)
      (demand_1.tick_by_rows sequence state e read_back answer)

  by_number : (sequence state : List ℕ) (e read_back : ℕ) (answer : List ℕ) (n : ℕ) → number (tick_of sequence state e read_back answer) ≡ n
      → tick sequence state e read_back answer ≡ tick_of sequence state e read_back answer
  by_number sequence state e read_back answer zero z =
      let s = demand_2.stands sequence state e read_back answer z in
      let c = passed-check sequence state e read_back answer z in
      let i = state_sized sequence state e read_back answer z in
      let j = answer_sized sequence state e read_back answer z in
      same_shown s.0 e (react s.0 e) refl (tick sequence state e read_back answer) (tick_of sequence state e read_back answer)
      (two.shows sequence state e read_back answer (check-is sequence read_back ∙ c) i j s.0 s.1)
      (demand_2.shows sequence state e read_back answer c i j s.0 s.1)
  by_number sequence state e read_back answer (suc n) z =
      let m = number_is sequence state e read_back answer in
      one.refusal_writes_nothing sequence state e read_back answer (omega (arith, m, z))
      ∙ ap (λ (k : ℕ). outcome k state answer) m
      ∙ sym (demand_1.refusal_writes_nothing sequence state e read_back answer (omega (arith, z)))

  pub tick_is : (sequence state : List ℕ) (e read_back : ℕ) (answer : List ℕ)
      → tick sequence state e read_back answer ≡ tick_of sequence state e read_back answer
  tick_is sequence state e read_back answer =
      by_number sequence state e read_back answer (number (tick_of sequence state e read_back answer)) refl

  outcomes-are : (sequence : List ℕ) (read_back : ℕ) (state : List ℕ) (calls : List Call)
      → outcomes tick sequence read_back state calls ≡ outcomes tick_of sequence read_back state calls
  unfolding outcomes
  outcomes-are sequence read_back state [] = refl
  outcomes-are sequence read_back state (c ∷ cs) =
      rw (tick_is sequence state c.input read_back c.buffer)
      (ap (λ (os : List Outcome). tick_of sequence state c.input read_back c.buffer ∷ os)
      (outcomes-are sequence read_back (state_afterwards (tick_of sequence state c.input read_back c.buffer)) cs))

  pub then-demand-3 : Demand3 check tick
  then-demand-3 sequence read_back h p s plain calls =
      let m : check_of sequence read_back ≡ 0 = sym (check-is sequence read_back) ∙ h in
      ap (map report) (outcomes-are sequence read_back cleared calls) ∙ demand_3 sequence read_back m p s plain calls
