-- The ticks of one bay in a list of calls to a box, for any function in the place of `call_of`: what they, and the instants among them,
-- come to from an admission or a coming back to a position on, in the words of the three demands. theory_box has the claims of `call_of`.
use Rattle.std.specs.Prelude.{ℕ, ◌≡◌, ◌≢◌, Bool, not, cond, length, eqb}
use mathlib.Core.List.{List, [], ◌∷◌, map, foldr}
use Rattle.spec_base.specs.Limits.{ledger_row}
use Rattle.spec_language.specs.Statement.{Statement}
use Rattle.spec_language.specs.States.{NoSetpause}
use Rattle.spec_language.specs.Machines.{Rewriting}
use Rattle.spec_sequence.specs.Program.{program}
use Rattle.spec_sequence.specs.Rows.{Spells}
use Rattle.spec_tick.specs.Record.{recordLength}
use Rattle.spec_tick.specs.Recording.{call_on}
use Rattle.spec_tick.specs.Tick.{Outcome, outcome, tick_of}
use Rattle.spec_tick.specs.Paper as Paper
use Rattle.spec_tick.specs.Paper.{paper}
use Rattle.spec_tick.specs.Demands.{outcomes, cleared, report}
use Rattle.spec_tick.specs.Deliveries.{delivered, paper_delivered}
use Rattle.spec_bay.specs.Called.{Called, number, memory_after, lent_after, first}
use Rattle.spec_bay.specs.Stretch.{sequence_in, read_back_in, service_only_in, state_in, Terms, terms}
use Rattle.spec_bay.specs.BayCalls.{delivering}
use Rattle.spec_box.specs.Box.{stretch_of, Call, admit, release, restore, on_tick}
use Rattle.spec_box.specs.Lists.{Calling, Request, after_call, box_after, calls_to, comes_to}
use Rattle.spec_box.specs.Shares.{Sendable}

-- the paper knows no record: a record's buffer of another length is to it an answer buffer of another length
abbrev pub paper_buffer : (trace answer : List ℕ) → List ℕ
paper_buffer trace answer = cond (eqb (length trace) recordLength) answer []

-- ---- the ticks to a bay, in their order
-- what is taken of each whose number counts, by the box, the call and what it comes to
abbrev pub over_ticks : {A : Type 0} → (counts : ℕ → Bool) → (taken : (box : List ℕ) (input : ℕ) (answer trace : List ℕ) → Called → A)
    → Calling → (bay : ℕ) → List ℕ → List Request → List A
over_ticks counts taken call bay box xs =
    foldr (λ c rest.
    on_tick rest (λ e answer trace.
    cond (counts (number (comes_to call bay c))) (taken c.box e answer trace (comes_to call bay c) ∷ rest) rest)
    c.call)
    [] (calls_to (after_call call) bay box xs)

-- 'In a bay a call answered 19 is no instant', and leaves all as it was: it is no tick of the list; which
-- ticks are answered 19 is Nineteen (Years)
abbrev pub counts_as_tick : (number : ℕ) → Bool
counts_as_tick n = not (eqb n ledger_row)

-- an instant is a tick answered 0
abbrev pub counts_as_instant : (number : ℕ) → Bool
counts_as_instant n = eqb n 0

-- input and answer buffer of each
abbrev pub ticks_to : Calling → (bay : ℕ) → List ℕ → List Request → List Paper.Call
ticks_to = over_ticks counts_as_tick (λ box e answer trace o. record { input = e; buffer = paper_buffer trace answer })

-- what a tick comes to: number, the state record that the bay then holds, and answer
abbrev pub outcome_of : (bay : ℕ) (trace : List ℕ) → Called → Outcome
outcome_of bay trace o = outcome (number o) (state_in (stretch_of bay (memory_after o))) (paper_buffer trace (first (lent_after o)))

abbrev pub tick_outcomes : Calling → (bay : ℕ) → List ℕ → List Request → List Outcome
tick_outcomes call bay = over_ticks counts_as_tick (λ box e answer trace o. outcome_of bay trace o) call bay

-- the litres of each to a farm (02, item 12); none of one that is turned down
abbrev pub tick_litres : Calling → (bay farm : ℕ) → List ℕ → List Request → List ℕ
tick_litres call bay f =
    over_ticks counts_as_tick (λ box e answer trace o. cond (eqb (number o) 0) (delivering (stretch_of bay box) e f) 0) call bay

-- the instants among them, and their inputs
abbrev pub instants_in : Calling → (bay : ℕ) → List ℕ → List Request → List Outcome
instants_in call bay = over_ticks counts_as_instant (λ box e answer trace o. outcome_of bay trace o) call bay

abbrev pub inputs_in : Calling → (bay : ℕ) → List ℕ → List Request → List ℕ
inputs_in = over_ticks counts_as_instant (λ box e answer trace o. e)

-- ---- how far a list of calls goes; one that is turned down neither takes the bay out nor comes back to a position
-- a call that does not take the bay out, and a list whose calls to the bay do not
abbrev pub Stays : Call → Called → Type 0
Stays c o = c ≡ release → number o ≢ 0

pub data NotTakenOut (call : Calling) (bay : ℕ) : List ℕ → List Request → Type 0 where
  done : {box : List ℕ} → NotTakenOut call bay box []
  more : {box : List ℕ} {x : Request} {xs : List Request} → (x.bay ≡ bay → Stays x.call (call box bay x.call))
      → NotTakenOut call bay (after_call call box x) xs → NotTakenOut call bay box (x ∷ xs)

-- nor comes back to a position
abbrev pub Onward : Call → Called → Type 0
Onward c o = Stays c o × ((name : ℕ) → c ≡ restore name → number o ≢ 0)

pub data Onwards (call : Calling) (bay : ℕ) : List ℕ → List Request → Type 0 where
  done : {box : List ℕ} → Onwards call bay box []
  more : {box : List ℕ} {x : Request} {xs : List Request} → (x.bay ≡ bay → Onward x.call (call box bay x.call))
      → Onwards call bay (after_call call box x) xs → Onwards call bay box (x ∷ xs)

-- ---- from an admission on, in any box: a bay that is admitted, and every list of calls that does not take it out
abbrev pub OverBay : Calling → ((bay : ℕ) → Terms → List ℕ → List Request → Type 0) → Type 0
OverBay call Has =
    (box : List ℕ) (bay : ℕ) (t : Terms) → Sendable (admit t) → number (call box bay (admit t)) ≡ 0
    → (xs : List Request) → NotTakenOut call bay (memory_after (call box bay (admit t))) xs → Has bay t (memory_after (call box bay (admit t))) xs

-- the terms that a slot holds
abbrev pub terms_in : List ℕ → Terms
terms_in s = terms (sequence_in s) (read_back_in s) (service_only_in s)

-- 'each with its own sequence .. and a read-back set fixed on admission', and the set of service-only signals with them: the bay holds what
-- was admitted, whatever calls come in between, comings back to a position included
abbrev pub TermsFixed : Calling → Type 0
TermsFixed call = OverBay call (λ bay t from xs. terms_in (stretch_of bay (box_after call from xs)) ≡ t)

-- ---- the run of a bay in a list of calls, by its terms and the state record that it starts with: the ticks are those that the tick on its
-- own gives one after the other, and the instants those that it gives on their inputs; so are the litres to each farm
pub record RunOf (call : Calling) (bay : ℕ) (t : Terms) (state box : List ℕ) (xs : List Request) : Type 0 where
  pub ticks : tick_outcomes call bay box xs ≡ outcomes tick_of t.sequence t.read_back state (ticks_to call bay box xs)
  pub instants : instants_in call bay box xs ≡ outcomes tick_of t.sequence t.read_back state (map call_on (inputs_in call bay box xs))
  pub litres : (farm : ℕ) → tick_litres call bay farm box xs ≡ delivered t.sequence t.read_back farm state (ticks_to call bay box xs)

-- the same by rewriting, from this start, of what demand 3 compares
pub record RewritesAs (call : Calling) (bay : ℕ) (start : Rewriting) (box : List ℕ) (xs : List Request) : Type 0 where
  pub ticks : map report (tick_outcomes call bay box xs) ≡ paper start (ticks_to call bay box xs)
  pub instants : map report (instants_in call bay box xs) ≡ paper start (map call_on (inputs_in call bay box xs))
  pub litres : (farm : ℕ) → tick_litres call bay farm box xs ≡ paper_delivered farm start (ticks_to call bay box xs)

-- for a sequence without setpause, by what it starts with of its program
abbrev pub Rewrites : Calling → (bay : ℕ) → Terms → (start : Statement → Rewriting) → List ℕ → List Request → Type 0
Rewrites call bay t start box xs =
    (p : Statement) → Spells t.sequence p → NoSetpause p → RewritesAs call bay (start (program t.read_back p)) box xs

-- '2 is there over the inputs of the ticks not turned down, in their order. So are 3, from an admission up to the first coming back to a
-- position or the taking out', 'fresh': in any box, whatever other calls come in between
abbrev pub TicksInBay : Calling → Type 0
TicksInBay call =
    (box : List ℕ) (bay : ℕ) (t : Terms) → Sendable (admit t) → number (call box bay (admit t)) ≡ 0
    → (xs : List Request) → Onwards call bay (memory_after (call box bay (admit t))) xs
    → RunOf call bay t cleared (memory_after (call box bay (admit t))) xs
    × Rewrites call bay t Rewriting.fresh (memory_after (call box bay (admit t))) xs
