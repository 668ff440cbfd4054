-- Every check or tick of a kind on 01's checklist breaks the demand that 01 names, and a longer answer breaks demand 2.
use Prim.Native.Nat.{ℕ, zero, suc}
use native.Mathlib.Omega.{arith}
use mathlib.Core.Path.{◌≡◌, refl, sym, ap, ◌∙◌}
use mathlib.Core.List.{List, [], ◌∷◌, ◌++◌}
use lib.ListN.{length, take, drop, replicate}
use borrow.Author.Tests.{eq-eqb}
use Rattle.spec_base.specs.Sets.{member, none, only, join, subset, disjoint, members_from}
use Rattle.spec_language.specs.Statement.{pure, nothing, pause, emit, seq, setpause}
use Rattle.spec_language.specs.Reaction.{ended, waiting, gives, react_by}
use Rattle.spec_language.specs.Rules.{ReactsBy}
use Rattle.spec_language.specs.Errors.{errors_by}
use Rattle.spec_language.specs.Reactions.{reactions_by}
use Rattle.spec_language.specs.Places.{seq₁, seq₂, Place, At}
use Rattle.spec_language.specs.States.{NoSetpause}
use Rattle.spec_language.specs.LabelTests.{labels_of, every_label, distinct, before, well_formed}
use Rattle.spec_sequence.specs.Commands.{command_of}
use Rattle.spec_language.specs.ReadBack.{declared_by}
use Rattle.spec_sequence.specs.Reader.{front, read}
use Rattle.spec_language.specs.Sizes.{signal_nesting}
use Rattle.spec_sequence.specs.Check.{check_of, checked}
use Rattle.spec_sequence.specs.Rows.{Spells, rank}
use Rattle.spec_sequence.specs.Program.{program}
use Rattle.theory_sequence.proofs.Rows.{row-rank}
use Rattle.spec_language.specs.Machines.{state_after, Rewriting}
use Rattle.theory_sequence.proofs.Writer.{reads_what_is-written}
use Rattle.spec_base.specs.Bytes.{le_bytes, le_number}
use Rattle.records.proofs.StateLaws.{length_state}
use Rattle.spec_tick.specs.StateRecord.{state_length, labels_at, phase_in, labels_in, encode_state, decode_state}
use Rattle.spec_tick.specs.AnswerRecord.{answer_length, encode_answer, code_in}
use Rattle.spec_tick.specs.Tick.{Outcome, outcome, tick_by, tick_of}
use Rattle.spec_tick.specs.TickRows.{TickRow, row_1, row_2_to_10, row_11, row_12}
use Rattle.spec_tick.specs.Paper.{Call, Report, turned_down, reacted, paper}
use Rattle.spec_tick.specs.Demands.{Check, Tick, number, state_afterwards, answer_afterwards, outcomes, report, Demand1, Demand2, Demand3, StandsAt, at_start, Shows, cleared}
use Rattle.theory_tick.specs.Replacements.{AllWrong, AllTurnedDown, AllEnded, LabelsLeft, FirstRepeated, OverToFresh, instead, every_wrong, turns_down, always_ends, leaves_labels, repeats_first, says_over, appends_zero, counts_none}
use Rattle.theory_tick.proofs.Demand1.{demand_1}
use Rattle.theory_tick.proofs.Demand2.{instant-shown}
use Rattle.theory_tick.proofs.Decided.{then-demand-3}

-- report i, and the code and the phase that it tells
abbrev report_at : ℕ → List Report → Report
report_at i [] = turned_down 1 0
report_at zero (r ∷ rs) = r
report_at (suc i) (r ∷ rs) = report_at i rs

abbrev code_told : Report → ℕ
code_told (turned_down n ph) = 255
code_told (reacted c k a o n ph) = c

abbrev phase_told : Report → ℕ
phase_told (turned_down n ph) = ph
phase_told (reacted c k a o n ph) = ph

-- 00, 01 00, and 04 01 00 02 00
abbrev ends : List ℕ
ends = 0 ∷ []

abbrev waits : List ℕ
waits = 1 ∷ 0 ∷ []

abbrev later : List ℕ
later = 4 ∷ 1 ∷ 0 ∷ 2 ∷ 0 ∷ []

abbrev buffer : List ℕ
buffer = replicate answer_length 0

-- ---- what the definitions give there
spells_ends : Spells ends nothing
unfolding read front command_of
spells_ends = (reads_what_is-written ends nothing).0 refl

spells_waits : Spells waits (pause 0)
unfolding read front command_of
spells_waits = (reads_what_is-written waits (pause 0)).0 refl

spells_later : Spells later (seq (pause 0) (emit 0 pure))
unfolding read front command_of
spells_later = (reads_what_is-written later (seq (pause 0) (emit 0 pure))).0 refl

all_accepted : (check_of ends none ≡ 0) × (check_of waits none ≡ 0) × (check_of later none ≡ 0)
unfolding check_of checked read front command_of signal_nesting declared_by members_from distinct well_formed every_label before labels_of subset disjoint member none only join
all_accepted = (refl, refl, refl)

-- a check that goes by the rows accepts what check_of accepts
accepts : (check : Check) (tick : Tick) → Demand1 check tick → (sequence : List ℕ) → check_of sequence none ≡ 0 → check sequence none ≡ 0
accepts check tick d sequence h =
    (d.check_by_rows sequence none).acceptance.1 ((demand_1.check_by_rows sequence none).acceptance.0 h)

cleared_labels : labels_in cleared ≡ none
unfolding le_number none
cleared_labels = refl

first_tick : tick_of ends cleared 0 none buffer ≡ outcome 0 (2 ∷ replicate 16 0) (replicate 8 0 ++ 1 ∷ replicate 3 0)
unfolding tick_by checked read front command_of signal_nesting declared_by members_from distinct well_formed every_label before labels_of subset disjoint decode_state encode_state encode_answer le_number le_bytes react_by errors_by reactions_by member none only join
first_tick = refl

stands_ends : StandsAt ends none cleared nothing
unfolding declared_by members_from member none
stands_ends = at_start spells_ends refl cleared_labels

stands_waits : StandsAt waits none cleared (pause 0)
unfolding declared_by members_from member none
stands_waits = at_start spells_waits refl cleared_labels

-- ---- demand 1, of every check or tick of the kind
pub not-all_turned_down : (check : Check) (tick : Tick) → AllTurnedDown check → ¬ Demand1 check tick
not-all_turned_down check tick k d = k ends none (accepts check tick d ends all_accepted.0)

-- row 12 is of phase 2
pub not-over-to_fresh : (check : Check) (tick : Tick) → OverToFresh tick → ¬ Demand1 check tick
not-over-to_fresh check tick (sequence, state, e, read_back, answer, x, n) d =
    go 12 refl (((d.tick_by_rows sequence state e read_back answer).refusal 12 (omega arith)).0 n).0
  where
    go : (m : ℕ) → m ≡ 12 → TickRow sequence read_back state answer m → ⊥
    go m z (row_1 h) = omega arith
    go m z (row_2_to_10 h) = omega (arith, row-rank sequence read_back m h, ap rank z)
    go m z (row_11 h i) = omega arith
    go m z (row_12 y) = omega (arith, x, y)

-- ---- demand 2, of every tick of the kind, where the check accepts one sequence
ended-shown : (check : Check) (tick : Tick) → check ends none ≡ 0 → Demand2 check tick
    → Shows nothing 0 none ended none nothing (tick ends cleared 0 none buffer)
ended-shown check tick h d =
    d.shows ends cleared 0 none buffer h refl refl nothing stands_ends none ended none nothing ReactsBy.nothing

waiting-shown : (check : Check) (tick : Tick) → check waits none ≡ 0 → Demand2 check tick
    → Shows (pause 0) 0 none waiting (only 0) nothing (tick waits cleared 0 none buffer)
waiting-shown check tick h d =
    d.shows waits cleared 0 none buffer h refl refl (pause 0) stands_waits none waiting (only 0) nothing ReactsBy.pause

not-all_wrong : (check : Check) (tick : Tick) → check ends none ≡ 0 → AllWrong tick → ¬ Demand2 check tick
not-all_wrong check tick h k d =
    let x = ended-shown check tick h d in
    let y = k ends cleared 0 none buffer x.an_instant in
    omega (arith, x.code, y)

not-all-ended : (check : Check) (tick : Tick) → check waits none ≡ 0 → AllEnded tick → ¬ Demand2 check tick
not-all-ended check tick h k d =
    let x = waiting-shown check tick h d in
    let y = k waits cleared 0 none buffer x.an_instant in
    omega (arith, x.code, y)

not_labels_left : (check : Check) (tick : Tick) → check waits none ≡ 0 → LabelsLeft tick → ¬ Demand2 check tick
unfolding encode_state le_bytes le_number only none
not_labels_left check tick h k d =
    let x = waiting-shown check tick h d in
    let y : ◌≡◌ {A = ℕ} 1 0 = ap labels_in (sym x.moved) ∙ k waits cleared 0 none buffer x.an_instant in
    omega arith

-- ---- demand 3, of every tick that repeats its first instant
no_setpause : NoSetpause (seq (pause 0) (emit 0 pure))
no_setpause l h = go h.0 h.1
  where
    go : (a : Place) → At (setpause l) a (seq (pause 0) (emit 0 pure)) → ⊥
    go a (At.inside seq₁ (At.inside i u)) = elim i [ ]
    go a (At.inside seq₂ (At.inside i u)) = elim i [ ]

two_calls : List Call
two_calls = record { input = 0; buffer = buffer } ∷ record { input = 0; buffer = buffer } ∷ []

-- waits, then ends
on_paper : (code_told (report_at 0 (paper (Rewriting.fresh (program none (seq (pause 0) (emit 0 pure)))) two_calls)) ≡ 1)
    × (phase_told (report_at 0 (paper (Rewriting.fresh (program none (seq (pause 0) (emit 0 pure)))) two_calls)) ≡ 1)
    × (code_told (report_at 1 (paper (Rewriting.fresh (program none (seq (pause 0) (emit 0 pure)))) two_calls)) ≡ 0)
unfolding two_calls paper declared_by members_from react_by errors_by reactions_by member none only join
on_paper = (refl, refl, refl)

phase_told_lem : (o : Outcome) → phase_told (report o) ≡ phase_in (state_afterwards o)
phase_told_lem (outcome zero state answer) = refl
phase_told_lem (outcome (suc n) state answer) = refl

not-first-repeated : (check : Check) (tick : Tick) → check later none ≡ 0 → FirstRepeated tick → ¬ Demand3 check tick
unfolding outcomes two_calls
not-first-repeated check tick h k d =
    let x = d later none h (seq (pause 0) (emit 0 pure)) spells_later no_setpause two_calls in
    let first : Outcome = tick later cleared 0 none buffer in
    let c : code_told (report first) ≡ 1 = ap (λ (l : List Report). code_told (report_at 0 l)) x ∙ on_paper.0 in
    let w : phase_in (state_afterwards first) ≡ 1 = sym (phase_told_lem first) ∙ ap (λ (l : List Report). phase_told (report_at 0 l)) x ∙ on_paper.1 in
    let z : code_told (report (tick later (state_afterwards first) 0 none buffer)) ≡ 0 =
    ap (λ (l : List Report). code_told (report_at 1 l)) x ∙ on_paper.2 in
    let same : tick later (state_afterwards first) 0 none buffer ≡ first = k later (state_afterwards first) 0 none buffer w in
    let y : ◌≡◌ {A = ℕ} 1 0 = sym c ∙ sym (ap (λ (o : Outcome). code_told (report o)) same) ∙ z in
    omega arith

pub not-first-repeated_3 : (tick : Tick) → FirstRepeated tick → ¬ Demand3 check_of tick
not-first-repeated_3 tick = not-first-repeated check_of tick all_accepted.2

-- ---- by demand 1 the check accepts those sequences
module _ (check : Check) (tick : Tick) where
  pub no-all-wrong : AllWrong tick → ¬ (Demand1 check tick × Demand2 check tick)
  no-all-wrong k d = not-all_wrong check tick (accepts check tick d.0 ends all_accepted.0) k d.1

  pub no-all-ended : AllEnded tick → ¬ (Demand1 check tick × Demand2 check tick)
  no-all-ended k d = not-all-ended check tick (accepts check tick d.0 waits all_accepted.1) k d.1

  pub no-labels-left : LabelsLeft tick → ¬ (Demand1 check tick × Demand2 check tick)
  no-labels-left k d = not_labels_left check tick (accepts check tick d.0 waits all_accepted.1) k d.1

  pub no-first-repeated : FirstRepeated tick → ¬ (Demand1 check tick × Demand3 check tick)
  no-first-repeated k d = not-first-repeated check tick (accepts check tick d.0 later all_accepted.2) k d.1

  -- by the rules of 2
  pub no-first-repeated-2 : FirstRepeated tick → ¬ (Demand1 check tick × Demand2 check tick)
  no-first-repeated-2 k d = no-first-repeated k (d.0, then-demand-3 check tick d.0 d.1)

-- ---- one of each kind
instead-holds : (Holds : Outcome → Type 0) (f : List ℕ → List ℕ → Outcome) (o : Outcome)
    → ((state answer : List ℕ) → o ≡ outcome 0 state answer → Holds (f state answer)) → number (instead f o) ≡ 0 → Holds (instead f o)
instead-holds Holds f (outcome zero state answer) h z = h state answer refl
instead-holds Holds f (outcome (suc n) state answer) h z = absurd (omega (arith, z))

pub not-every_wrong : ¬ Demand2 check_of every_wrong
not-every_wrong =
    not-all_wrong check_of every_wrong all_accepted.0
    (λ sequence state e read_back answer.
    instead-holds (λ (o : Outcome). code_in (answer_afterwards o) ≡ 255) _ (tick_of sequence state e read_back answer) (λ s a q. refl))

pub not-always_ends : ¬ Demand2 check_of always_ends
not-always_ends =
    not-all-ended check_of always_ends all_accepted.1
    (λ sequence state e read_back answer.
    instead-holds (λ (o : Outcome). code_in (answer_afterwards o) ≡ 0) _ (tick_of sequence state e read_back answer) (λ s a q. refl))

-- the state of an instant is a whole record, so that its first byte is there
after_sized : (sequence state : List ℕ) (e read_back : ℕ) (answer : List ℕ) → number (tick_of sequence state e read_back answer) ≡ 0
    → length (state_afterwards (tick_of sequence state e read_back answer)) ≡ state_length
after_sized sequence state e read_back answer z =
    let i = (instant-shown sequence state e read_back answer z).2 in
    ap length i.4.moved ∙ length_state (state_after (gives i.0 i.1 i.2 i.3))

labels_of_lem : (state state' : List ℕ) → length state' ≡ state_length → labels_in (take labels_at state' ++ drop labels_at state) ≡ labels_in state
labels_of_lem state [] h = absurd (omega (arith, h))
labels_of_lem state (x ∷ xs) h = refl

pub not-leaves_labels : ¬ Demand2 check_of leaves_labels
not-leaves_labels =
    not_labels_left check_of leaves_labels all_accepted.1
    (λ sequence state e read_back answer.
    instead-holds (λ (o : Outcome). labels_in (state_afterwards o) ≡ labels_in state) _ (tick_of sequence state e read_back answer)
    (λ s a q. labels_of_lem state s (ap (λ (o : Outcome). length (state_afterwards o)) (sym q) ∙ after_sized sequence state e read_back answer (ap number q))))

pub not-appends_zero : ¬ Demand2 check_of appends_zero
not-appends_zero d =
    let y = rw first_tick at (ended-shown check_of appends_zero all_accepted.0 d).sized in
    omega arith

pub not-counts_none : ¬ Demand2 check_of counts_none
unfolding le_number reactions_by
not-counts_none d =
    let y = rw first_tick at (ended-shown check_of counts_none all_accepted.0 d).counted in
    omega arith

pub not-turns_down : (tick : Tick) → ¬ Demand1 turns_down tick
not-turns_down tick = not-all_turned_down turns_down tick (λ sequence read_back z. omega (arith, z))

pub not-says_over : ¬ Demand1 check_of says_over
not-says_over =
    let n : number (says_over ends cleared 0 none buffer) ≡ 12 = rw first_tick in
    not-over-to_fresh check_of says_over (ends, cleared, 0, none, buffer, refl, n)

pub not-repeats_first : ¬ Demand3 check_of repeats_first
not-repeats_first = not-first-repeated_3 repeats_first (λ sequence state e read_back answer w. rw (eq-eqb (phase_in state) 1 w))
