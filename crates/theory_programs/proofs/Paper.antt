-- A listing is that of the machine by rewriting in every field but the labels, for a sequence without setpause.
use Prim.Native.Nat.{ℕ, zero, suc}
use native.Mathlib.Omega.{arith}
use mathlib.Core.Bool.{Bool, true, false, cond}
use mathlib.Core.Logic.{◌≢◌}
use mathlib.Core.Path.{◌≡◌, refl, sym, ap, ap₂, ◌∙◌}
use mathlib.Core.Option.{Option}
use mathlib.Core.List.{List, [], ◌∷◌, ◌++◌, map}
use lib.ListN.{replicate}
use borrow.Author.Tests.{eq-eqb, ne_eqb}
use Rattle.spec_base.specs.Sets.{none}
use Rattle.spec_language.specs.Statement.{Statement}
use Rattle.spec_language.specs.Reaction.{ended, waiting, leaving, wrong, Reaction, gives, react}
use Rattle.spec_language.specs.Errors.{Error, no_error, first_error, blame}
use Rattle.spec_language.specs.Reactions.{reactions}
use Rattle.spec_language.specs.States.{NoSetpause}
use Rattle.spec_language.specs.Machines.{Seen, Rewriting, seen, term_after, by_rewriting, run}
use Rattle.spec_sequence.specs.Program.{program}
use Rattle.spec_sequence.specs.Check.{check_of}
use Rattle.spec_sequence.specs.Rows.{Spells}
use Rattle.spec_tick.specs.StateRecord.{phase_in}
use Rattle.spec_tick.specs.AnswerRecord.{answer_length, code_in, kind_in, place_in, emitted_in, code_byte}
use Rattle.spec_tick.specs.Tick.{Outcome, outcome, tick_of}
use Rattle.spec_tick.specs.Paper.{Call, Report, reacted, report_of, paper}
use Rattle.spec_tick.specs.Demands.{state_afterwards, cleared, report, outcomes}
use Rattle.theory_tick.proofs.Agreement.{demand_3}
use Rattle.spec_programs.specs.Text.{heading, ending}
use Rattle.spec_programs.specs.File.{cut, runs, by_number, file_of, whole, sequence_in, read_back_in, inputs_in}
use Rattle.spec_programs.specs.Listing.{Entry, entry_from, is_over, ticked, entries, lines, listed, listing_of}
use Rattle.spec_programs.specs.ListingPaper.{Columns, columns, instants, paper_columns}

abbrev calls_of : List ℕ → List Call
calls_of es = map (λ (e : ℕ). record { input = e; buffer = replicate answer_length 0 }) es

-- a machine that is over shows no more instants
over_shows_none : (i : ℕ) (es : List ℕ) → instants i (run by_rewriting Rewriting.over es) ≡ []
unfolding instants run
over_shows_none i [] = refl
over_shows_none i (e ∷ es) = refl

-- ---- one instant
abbrev shown_at : (i code : ℕ) → Error → (emitted : ℕ) → Columns
shown_at i code x emitted = record { instant = i; code = code; kind = x.kind; place = x.place; emitted = emitted }

abbrev reports : (code : ℕ) → Error → (emitted reactions phase : ℕ) → Report
reports code x emitted reactions phase = reacted code x.kind x.place emitted reactions phase

row_columns : (i code : ℕ) (x : Error) (emitted reactions phase : ℕ) (state answer : List ℕ)
    → report (outcome 0 state answer) ≡ reports code x emitted reactions phase
    → columns (entry_from i (outcome 0 state answer)) ≡ shown_at i code x emitted
row_columns i code x emitted reactions phase state answer h =
    let c : code_in answer ≡ code = cc in
    let k : kind_in answer ≡ x.kind = cc in
    let a : place_in answer ≡ x.place = cc in
    let o : emitted_in answer ≡ emitted = cc in
    rw (c, k, a, o)

last_row : (i code : ℕ) (x : Error) (emitted reactions : ℕ) (state answer s : List ℕ) (b : ℕ) (es : List ℕ)
    → report (outcome 0 state answer) ≡ reports code x emitted reactions 2
    → map columns (entry_from i (outcome 0 state answer) ∷ cond (is_over state) [] (entries s b state (suc i) es))
    ≡ shown_at i code x emitted ∷ instants (suc i) (run by_rewriting Rewriting.over es)
last_row i code x emitted reactions state answer s b es h =
    let p : phase_in state ≡ 2 = cc in
    rw (eq-eqb (phase_in state) 2 p, over_shows_none (suc i) es) (ap (λ (y : Columns). y ∷ []) (row_columns i code x emitted reactions 2 state answer h))

later_row : (i code : ℕ) (x : Error) (emitted reactions : ℕ) (state answer s : List ℕ) (b : ℕ) (es : List ℕ) (later : List Columns)
    → report (outcome 0 state answer) ≡ reports code x emitted reactions 1
    → map columns (entries s b state (suc i) es) ≡ later
    → map columns (entry_from i (outcome 0 state answer) ∷ cond (is_over state) [] (entries s b state (suc i) es))
    ≡ shown_at i code x emitted ∷ later
later_row i code x emitted reactions state answer s b es later h q =
    let p : phase_in state ≡ 1 = cc in
    let n : phase_in state ≢ 2 = λ z. absurd (let w : ◌≡◌ {A = ℕ} 1 2 = sym p ∙ z in omega arith) in
    rw (ne_eqb (phase_in state) 2 n) (ap₂ (λ (y : Columns) (ys : List Columns). y ∷ ys) (row_columns i code x emitted reactions 1 state answer h) q)

-- a reaction with the first error and the number of reactions of its tree, and the tick that reports it
instant-columns : (r : Reaction) (x : Option Error) (m : ℕ) (o : Outcome) (i : ℕ) (s : List ℕ) (b : ℕ) (es : List ℕ)
    → report o ≡ report_of (seen r x m)
    → ((t : Statement) → term_after r ≡ Rewriting.waits t
    → map columns (entries s b (state_afterwards o) (suc i) es) ≡ instants (suc i) (run by_rewriting (Rewriting.waits t) es))
    → map columns (entry_from i o ∷ cond (is_over (state_afterwards o)) [] (entries s b (state_afterwards o) (suc i) es))
    ≡ instants i (seen r x m ∷ run by_rewriting (term_after r) es)
unfolding instants
instant-columns (gives o ended l t) x m (outcome zero state answer) i s b es h later = last_row i 0 no_error o m state answer s b es h
instant-columns (gives o waiting l t) x m (outcome zero state answer) i s b es h later =
    later_row i 1 no_error o m state answer s b es (instants (suc i) (run by_rewriting (Rewriting.waits t) es)) h (later t refl)
instant-columns (gives o (leaving n) l t) x m (outcome zero state answer) i s b es h later =
    last_row i (code_byte (leaving n)) no_error o m state answer s b es h
instant-columns (gives o wrong l t) x m (outcome zero state answer) i s b es h later =
    last_row i 255 (blame wrong x) none m state answer s b es h
instant-columns (gives o k l t) x m (outcome (suc n) state answer) i s b es h later = absurd (let z : ◌≡◌ {A = ℕ} 0 1 = cc in omega arith)

-- ---- all instants, from a machine that stands at t
follow : (s : List ℕ) (b : ℕ) (es state : List ℕ) (t : Statement) (i : ℕ) (w : Rewriting)
    → ((e : ℕ) → by_rewriting w e ≡ (seen (react t e) (first_error t e) (reactions t e), term_after (react t e)))
    → map report (outcomes tick_of s b state (calls_of es)) ≡ paper w (calls_of es)
    → map columns (entries s b state i es) ≡ instants i (run by_rewriting w es)
unfolding entries run outcomes paper instants
follow s b [] state t i w steps h = refl
follow s b (e ∷ es) state t i w steps h =
    let o : Outcome = ticked s b state e in
    let now-seen : report o ≡ report_of (by_rewriting w e).0 = cc in
    let later : map report (outcomes tick_of s b (state_afterwards o) (calls_of es)) ≡ paper (by_rewriting w e).1 (calls_of es) = cc in
    instant-columns (react t e) (first_error t e) (reactions t e) o i s b es (now-seen ∙ ap (λ (x : Seen × Rewriting). report_of x.0) (steps e))
    (λ t' q.
    follow s b es (state_afterwards o) t' (suc i) (Rewriting.waits t') (λ e'. refl)
    (later ∙ ap (λ (x : Seen × Rewriting). paper x.1 (calls_of es)) (steps e) ∙ ap (λ (v : Rewriting). paper v (calls_of es)) q))
    ∙ ap (λ (x : Seen × Rewriting). instants i (x.0 ∷ run by_rewriting x.1 es)) (sym (steps e))

rows_by_paper : (sequence : List ℕ) (read_back : ℕ) (inputs : List ℕ) → check_of sequence read_back ≡ 0
    → (p : Statement) → Spells sequence p → NoSetpause p
    → map columns (entries sequence read_back cleared 1 inputs) ≡ paper_columns (program read_back p) inputs
rows_by_paper sequence read_back inputs h p s plain =
    let q : Statement = program read_back p in
    follow sequence read_back inputs cleared q 1 (Rewriting.fresh q) (λ e. refl)
    (demand_3 sequence read_back h p s plain (calls_of inputs))

-- a file that runs holds a sequence that is accepted with its read-back set
accepted : (w : Bool) (n : ℕ) (s : List ℕ) (b : ℕ) (es s' : List ℕ) (b' : ℕ) (es' : List ℕ)
    → cond w (by_number n s b es) cut ≡ runs s' b' es' → (n ≡ 0) × (s ≡ s') × (b ≡ b')
accepted true zero s b es s' b' es' h = (refl, cc, cc)
accepted true (suc n) s b es s' b' es' h = absurd (let z : ◌≡◌ {A = ℕ} 0 1 = cc in omega arith)
accepted false n s b es s' b' es' h = absurd (let z : ◌≡◌ {A = ℕ} 0 1 = cc in omega arith)

file_accepted : (file s : List ℕ) (b : ℕ) (es : List ℕ) → file_of file ≡ runs s b es → check_of s b ≡ 0
unfolding file_of
file_accepted file s b es h =
    let a = accepted (whole file) (check_of (sequence_in file) (read_back_in file)) (sequence_in file) (read_back_in file) (inputs_in file) s b es h in
    ap₂ check_of (sym a.1) (sym a.2) ∙ a.0

-- what the run program prints: a heading, entries that are the machine's in every field but the labels, and the end
pub listing_by_paper : (file sequence : List ℕ) (read_back : ℕ) (inputs : List ℕ) → file_of file ≡ runs sequence read_back inputs
    → (p : Statement) → Spells sequence p → NoSetpause p
    → (rs : List Entry) × (listing_of file ≡ heading ++ (lines rs ++ ending)) × (map columns rs ≡ paper_columns (program read_back p) inputs)
unfolding listing_of
listing_by_paper file sequence read_back inputs h p s plain =
    let accepted : check_of sequence read_back ≡ 0 = file_accepted file sequence read_back inputs h in
    (entries sequence read_back cleared 1 inputs, ap listed h, rows_by_paper sequence read_back inputs accepted p s plain)
