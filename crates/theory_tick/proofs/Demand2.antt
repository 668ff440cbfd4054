-- DEMAND 2 for the definitions check_of and tick_of.
use Prim.Native.Nat.{ℕ, ◌^◌, ◌<◌}
use native.Mathlib.Omega.{arith}
use native.Mathlib.Decide.{ℕ_discrete}
use mathlib.Core.Path.{◌≡◌, refl, sym, ap, ◌∙◌, subst}
use mathlib.Core.Logic.{◌↔◌, ◌≢◌, inr, inl}
use mathlib.Core.Option.{some}
use mathlib.Core.List.{List, head?}
use lib.ListN.{length}
use Rattle.spec_base.specs.Limits.{signal_count, signal_bytes, place_bytes, reactions_bytes}
use Rattle.spec_base.specs.Sets.{none}
use Rattle.spec_language.specs.Statement.{Statement}
use Rattle.spec_language.specs.Reaction.{Code, ended, waiting, leaving, wrong, Reaction, gives, emitted, code, react, Order, inheritanceFirst}
use Rattle.spec_language.specs.Errors.{Error, first_error, uses}
use Rattle.spec_language.specs.Reactions.{reactions}
use Rattle.spec_language.specs.States.{Valid}
use Rattle.spec_language.specs.Expansion.{expand}
use Rattle.spec_language.specs.Instants.{instant, start_by}
use Rattle.spec_language.specs.Machines.{shown, State}
use Rattle.spec_language.specs.Rules.{Reacts}
use Rattle.theory_language.proofs.Rules.{reacts_is}
use Rattle.theory_language.proofs.SignalOrders.{wrong_named}
use Rattle.theory_language.proofs.Derivations.{first_use}
use Rattle.theory_language.proofs.Reactions.{rules-used}
use Rattle.theory_language.proofs.LabelTests.{valid-is}
use Rattle.spec_sequence.specs.Program.{program}
use Rattle.spec_sequence.specs.Check.{check_of}
use Rattle.theory_sequence.proofs.Rows.{check_by_rows}
use Rattle.spec_tick.specs.StateRecord.{state_length, Decoded, holds, decode_state, phase_in, labels_in}
use Rattle.spec_tick.specs.AnswerRecord.{answer_length, encode_answer, code_byte, kind_in, place_in, reactions_in}
use Rattle.spec_tick.specs.Tick.{written, tick_by, tick_of}
use Rattle.spec_tick.specs.TickRows.{TickRow, row_1, row_2_to_10, row_11, row_12}
use Rattle.spec_tick.specs.Demands.{number, StandsAt, at_start, at_labels, Derived, Shows, Demand2}
use Rattle.records.proofs.AnswerLaws.{code-field, kind-field, place-field, emitted-field, reactions-field, blameless, wrong_blame, answer-is, length-answer}
use Rattle.theory_tick.proofs.Bounds.{Bounded, emitted_below, Exits, code_exits}
use Rattle.theory_tick.proofs.ErrorPlaces.{PlacesBelow, place_fits}
use Rattle.theory_tick.proofs.Reports.{shown-below}
use Rattle.theory_tick.proofs.TickRows.{Reading, reads_fresh, reads_waiting, reads_over, reads_malformed, reading, tick_by_rows}
use Rattle.theory_tick.proofs.Sequence.{same_statement, Accepted, accepted, tick_at, bounded-fresh, bounded-resumed, places-fresh, places-resumed, counted-fresh, counted-resumed}

-- ---- what an instant shows
pub called_wrong : (k : Code) (c : ℕ) → Exits k → c ≡ code_byte k → (c ≡ 255) ↔ (k ≡ wrong)
called_wrong ended c f h = (λ i. absurd (omega arith), λ i. absurd (let z : ◌≡◌ {A = ℕ} 0 1 = cc in omega arith))
called_wrong waiting c f h = (λ i. absurd (omega arith), λ i. absurd (let z : ◌≡◌ {A = ℕ} 0 1 = cc in omega arith))
called_wrong (leaving n) c f h = (λ i. absurd (omega arith), λ i. absurd (let z : ◌≡◌ {A = ℕ} 0 1 = cc in omega arith))
called_wrong wrong c f h = (λ i. refl, λ i. h)

-- a term within the widths of the records
abbrev pub Fitting : Statement → Type 0
Fitting t = Bounded t × PlacesBelow (256 ^ place_bytes) t × ((e : ℕ) → reactions t e < 256 ^ reactions_bytes)

module _ (t : Statement) (e : ℕ) (f : Fitting t) where
  shown-right : (o : ℕ) (k : Code) → k ≢ wrong → shown k o ≡ o
  shown-right o ended h = refl
  shown-right o waiting h = refl
  shown-right o (leaving m) h = refl
  shown-right o wrong h = absurd (h refl)

  shows : (o : ℕ) (k : Code) (l : ℕ) (t' : Statement) → gives o k l t' ≡ react t e
      → Shows t e o k l t' (written (instant (gives o k l t') (first_error t e) (reactions t e)))
  shows o k l t' h =
      let fits : shown k o < 256 ^ signal_bytes =
      shown-below o k (subst (λ (r : Reaction). emitted r < 2 ^ signal_count) (sym h) (emitted_below t e f.0)) in
      record {
        an_instant = refl;
        moved = refl;
        answered = answer-is o k l t' (first_error t e) (reactions t e);
        sized = length-answer o k l t' (first_error t e) (reactions t e);
        code = code-field o k l t' (first_error t e) (reactions t e);
        called_wrong = called_wrong k _ (subst (λ (r : Reaction). Exits (code r)) (sym h) (code_exits inheritanceFirst t e f.0))
            (code-field o k l t' (first_error t e) (reactions t e));
        emitted = λ i. emitted-field o k l t' (first_error t e) (reactions t e) fits ∙ shown-right o k i;
        nothing_shown = λ i. emitted-field o k l t' (first_error t e) (reactions t e) fits ∙ ap (λ (j : Code). shown j o) i;
        named = named;
        unnamed = λ i. (
          kind-field o k l t' (first_error t e) (reactions t e) ∙ ap (λ (b : Error). b.kind) (blameless k (first_error t e) i),
          place-field o k l t' (first_error t e) (reactions t e) (place_fits (256 ^ place_bytes) t e k (omega arith) f.1)
              ∙ ap (λ (b : Error). b.place) (blameless k (first_error t e) i),
        );
        counted = counts;
        counted_rules = λ d. counts ∙ sym (rules-used d);
      }
    where
      counts : reactions_in (encode_answer (instant (gives o k l t') (first_error t e) (reactions t e))) ≡ reactions t e
      counts = reactions-field o k l t' (first_error t e) (reactions t e) (f.2 e)

      named : k ≡ wrong
          → (x : Error) × (first_error t e ≡ some x) × ((d : Reacts t e (gives o k l t')) → head? (uses d) ≡ some x)
          × (kind_in (encode_answer (instant (gives o k l t') (first_error t e) (reactions t e))) ≡ x.kind)
          × (place_in (encode_answer (instant (gives o k l t') (first_error t e) (reactions t e))) ≡ x.place)
      named i =
          let w = wrong_named t e (sym (ap code h) ∙ i) in
          let b = wrong_blame k (first_error t e) w.0 i w.1 in (
            w.0,
            w.1,
            λ d. first_use d ∙ w.1,
            kind-field o k l t' (first_error t e) (reactions t e) ∙ ap (λ (y : Error). y.kind) b,
            place-field o k l t' (first_error t e) (reactions t e) (place_fits (256 ^ place_bytes) t e k (omega arith) f.1) ∙ ap (λ (y : Error). y.place) b,
          )

-- ---- the term of an admitted record
decode_fresh : (p : Statement) (state : List ℕ) → phase_in state ≡ 0 → labels_in state ≡ none → decode_state p state ≡ holds State.fresh
unfolding decode_state none
decode_fresh p state x n = rw (x, n)

decode-waiting : (p : Statement) (state : List ℕ) → phase_in state ≡ 1 → Valid p (labels_in state)
    → decode_state p state ≡ holds (State.waits (labels_in state))
unfolding decode_state
decode-waiting p state x v = rw (x, (valid-is p (labels_in state)).1 v)

module _ (sequence : List ℕ) (read_back : ℕ) (a : Accepted sequence read_back) where
  program-fits : Fitting (program read_back a.statement)
  program-fits = (bounded-fresh sequence read_back a, places-fresh sequence read_back a, counted-fresh sequence read_back a)

  expansion-fits : (L : ℕ) → Fitting (expand (program read_back a.statement) L)
  expansion-fits L = (bounded-resumed sequence read_back a L, places-resumed sequence read_back a L, counted-resumed sequence read_back a L)

  -- the tick from a record that stands at t is the instant of t
  pub stands-written : (ord : Order) (state : List ℕ) (e : ℕ) (answer : List ℕ) → length state ≡ state_length → length answer ≡ answer_length
      → {t : Statement} → StandsAt sequence read_back state t
      → (tick_by ord sequence state e read_back answer ≡ written (start_by ord t e)) × Fitting t
  stands-written ord state e answer i j (at_start {p = q} s x n) =
      let same = same_statement sequence a.statement q a.spelled s in (
        tick_at ord sequence state e read_back answer a.statement (holds State.fresh) a.is_checked i j
            (decode_fresh a.statement state x n)
            ∙ ap (λ (w : Statement). written (start_by ord (program read_back w) e)) same,
        subst (λ (w : Statement). Fitting (program read_back w)) same program-fits,
      )
  stands-written ord state e answer i j (at_labels {p = q} s x v) =
      let L : ℕ = labels_in state in
      let same = same_statement sequence a.statement q a.spelled s in
      let mine : Valid a.statement L = subst (λ (w : Statement). Valid w L) (sym same) v in (
        tick_at ord sequence state e read_back answer a.statement (holds (State.waits L)) a.is_checked i j
            (decode-waiting a.statement state x mine)
            ∙ ap (λ (w : Statement). written (start_by ord (expand (program read_back w) L) e)) same,
        subst (λ (w : Statement). Fitting (expand (program read_back w) L)) same (expansion-fits L),
      )

-- ---- a tick that gives 0 passes the check and both lengths, and its record holds a machine that reacts
module _ (sequence state : List ℕ) (e read_back : ℕ) (answer : List ℕ) (z : number (tick_of sequence state e read_back answer) ≡ 0) where
  no-tick-row : (m : ℕ) → ¬ TickRow sequence read_back state answer m
  no-tick-row = (tick_by_rows sequence read_back state answer e).acceptance.0 z

  pub passed-check : check_of sequence read_back ≡ 0
  passed-check = (check_by_rows sequence read_back).acceptance.1 (λ m r. no-tick-row m (row_2_to_10 r))

  pub state_sized : length state ≡ state_length
  state_sized =
      elim (ℕ_discrete (length state) state_length) [
        | yes i ↦ i
        | no i ↦ absurd (no-tick-row 1 (row_1 (inl i)))
      ]

  pub answer_sized : length answer ≡ answer_length
  answer_sized =
      elim (ℕ_discrete (length answer) answer_length) [
        | yes i ↦ i
        | no i ↦ absurd (no-tick-row 1 (row_1 (inr i)))
      ]

  pub stands : (t : Statement) × StandsAt sequence read_back state t
  stands = go (decode_state p state) (reading p state)
    where
      a : Accepted sequence read_back
      a = accepted sequence read_back passed-check

      p : Statement
      p = a.statement

      go : (d : Decoded) → Reading p (phase_in state) (labels_in state) d → (t : Statement) × StandsAt sequence read_back state t
      go d (reads_malformed x) = absurd (no-tick-row 11 (row_11 a.spelled x))
      go d (reads_fresh x n) = (program read_back p, at_start a.spelled x n)
      go d (reads_waiting x v) = (expand (program read_back p) (labels_in state), at_labels a.spelled x v)
      go d (reads_over x n) = absurd (no-tick-row 12 (row_12 x))

-- DEMAND 2
shows_standing : (sequence state : List ℕ) (e read_back : ℕ) (answer : List ℕ) → check_of sequence read_back ≡ 0
    → length state ≡ state_length → length answer ≡ answer_length → (t : Statement) → StandsAt sequence read_back state t
    → (o : ℕ) (k : Code) (l : ℕ) (t' : Statement) → Reacts t e (gives o k l t') → Shows t e o k l t' (tick_of sequence state e read_back answer)
shows_standing sequence state e read_back answer h i j t s o k l t' d =
    let a = accepted sequence read_back h in
    let w = stands-written sequence read_back a inheritanceFirst state e answer i j s in
    let r : gives o k l t' ≡ react t e = (reacts_is t e (gives o k l t')).0 d in
    rw (w.0, ← r) (shows t e w.1 o k l t' r)

-- the rules give every term an instant
derived : (t : Statement) (e : ℕ) (r : Reaction) → r ≡ react t e → Derived t e
derived t e (gives o k l t') h = (o, k, l, t', (reacts_is t e (gives o k l t')).1 h)

stands_derived : (sequence state : List ℕ) (e read_back : ℕ) (answer : List ℕ) → number (tick_of sequence state e read_back answer) ≡ 0
    → (t : Statement) × StandsAt sequence read_back state t × Derived t e
stands_derived sequence state e read_back answer z =
    let s = stands sequence state e read_back answer z in
    (s.0, s.1, derived s.0 e (react s.0 e) refl)

pub demand_2 : Demand2 check_of tick_of
demand_2 = record { stands = stands_derived; shows = shows_standing }

-- the instant of a tick that gives 0
pub instant-shown : (sequence state : List ℕ) (e read_back : ℕ) (answer : List ℕ) → number (tick_of sequence state e read_back answer) ≡ 0
    → (t : Statement) × StandsAt sequence read_back state t
    × ((o : ℕ) × (k : Code) × (l : ℕ) × (t' : Statement) × Shows t e o k l t' (tick_of sequence state e read_back answer))
instant-shown sequence state e read_back answer z =
    let s = stands_derived sequence state e read_back answer z in
    let d = s.2 in
    let h =
    shows_standing sequence state e read_back answer (passed-check sequence state e read_back answer z)
    (state_sized sequence state e read_back answer z) (answer_sized sequence state e read_back answer z) s.0 s.1 d.0 d.1 d.2 d.3 d.4 in
    (s.0, s.1, (d.0, d.1, d.2, d.3, h))
