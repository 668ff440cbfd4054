-- The number of reactions that a tick tells (02, item 6): its ceiling, and the dearest loop-free sequences of 100 commands.
use Prim.Native.Nat.{ℕ, ◌^◌, ◌≤◌, ◌<◌}
use native.Mathlib.Omega.{arith}
use mathlib.Core.Path.{◌≡◌, refl, sym, ap, ◌∙◌}
use mathlib.Core.Option.{Option}
use mathlib.Core.List.{List}
use lib.ListN.{length}
use Rattle.spec_base.specs.Limits.{reactions_bytes}
use Rattle.spec_base.specs.Sets.{member, none, only, join, subset, disjoint, members_from}
use Rattle.spec_language.specs.Statement.{Statement}
use Rattle.spec_language.specs.Reaction.{Reaction, gives, react, inheritanceFirst}
use Rattle.spec_language.specs.Errors.{Error, first_error}
use Rattle.spec_language.specs.Reactions.{reactions}
use Rattle.spec_language.specs.Sizes.{commands, signal_nesting}
use Rattle.spec_language.specs.Ceiling.{ceiling, LoopFree, tries, tries_but_one, hundred, hundred_takes}
use Rattle.spec_language.specs.LabelTests.{labels_of, every_label, distinct, before, well_formed}
use Rattle.spec_language.specs.ReadBack.{declared_by}
use Rattle.spec_language.specs.Instants.{instant}
use Rattle.theory_language.proofs.Ceiling.{fresh_below, resumed_below}
use Rattle.theory_language.proofs.Dearest.{hundred-fresh, hundred-resumed, hundred_free}
use Rattle.spec_sequence.specs.Commands.{command_of}
use Rattle.spec_sequence.specs.Reader.{front, read}
use Rattle.spec_sequence.specs.Program.{program}
use Rattle.spec_sequence.specs.Check.{Checked, sound, bad, checked, check_of}
use Rattle.spec_sequence.specs.Ceilings.{ceiling_of}
use Rattle.theory_sequence.proofs.Rows.{Decides, decided}
use Rattle.spec_sequence.specs.Rows.{Spells}
use Rattle.theory_sequence.proofs.Writer.{reads_what_is-written}
use Rattle.spec_base.specs.Bytes.{le_number}
use Rattle.spec_tick.specs.StateRecord.{labels_in}
use Rattle.spec_tick.specs.AnswerRecord.{answer_length, reactions_in}
use Rattle.records.proofs.AnswerLaws.{reactions-field}
use Rattle.spec_tick.specs.Tick.{written, tick_of}
use Rattle.spec_tick.specs.Demands.{number, answer_afterwards, cleared, StandsAt, at_start, at_labels, TickMeets}
use Rattle.spec_tick.specs.Dearest.{hundred_bytes}
use Rattle.theory_tick.proofs.Sequence.{same_statement, Accepted, accepted, term-ceiling}
use Rattle.theory_tick.proofs.Demand2.{stands-written, passed-check, state_sized, answer_sized, stands}
use Rattle.theory_tick.proofs.ReadBack.{none-declared}

-- ---- the number told is that of the term at which the machine stands
reactions-written : (r : Reaction) (x : Option Error) (n : ℕ) → n < 256 ^ reactions_bytes → reactions_in (answer_afterwards (written (instant r x n))) ≡ n
reactions-written (gives o k l t) x n h = reactions-field o k l t x n h

told : (sequence state : List ℕ) (e read_back : ℕ) (answer : List ℕ) → number (tick_of sequence state e read_back answer) ≡ 0
    → (t : Statement) × StandsAt sequence read_back state t × (reactions_in (answer_afterwards (tick_of sequence state e read_back answer)) ≡ reactions t e)
told sequence state e read_back answer z =
    let t = stands sequence state e read_back answer z in
    let a = accepted sequence read_back (passed-check sequence state e read_back answer z) in
    let w = stands-written sequence read_back a inheritanceFirst state e answer (state_sized sequence state e read_back answer z)
    (answer_sized sequence state e read_back answer z) t.1 in
    (t.0, t.1, rw w.0 (reactions-written (react t.0 e) (first_error t.0 e) (reactions t.0 e) (w.1.2 e)))

-- ---- CEILING
standing_below : {sequence state : List ℕ} {read_back : ℕ} {t : Statement} (e : ℕ) → StandsAt sequence read_back state t
    → (p : Statement) → Spells sequence p → reactions t e ≤ ceiling (program read_back p)
standing_below {sequence} {state} {read_back} e (at_start {p = q} s x n) p h =
    rw (same_statement sequence p q h s) (fresh_below (program read_back q) e)
standing_below {sequence} {state} {read_back} e (at_labels {p = q} s x v) p h =
    rw (same_statement sequence p q h s) (resumed_below (program read_back q) (labels_in state) e)

pub never_above : (sequence state : List ℕ) (e read_back : ℕ) (answer : List ℕ) → number (tick_of sequence state e read_back answer) ≡ 0
    → reactions_in (answer_afterwards (tick_of sequence state e read_back answer)) ≤ ceiling_of read_back (checked sequence read_back)
never_above sequence state e read_back answer z =
    let x = told sequence state e read_back answer z in
    let a = accepted sequence read_back (passed-check sequence state e read_back answer z) in
    rw a.is_checked (omega (arith, x.2, standing_below e x.1 a.statement a.spelled))

pub never_above_call : {n : ℕ} {state' answer' : List ℕ} (sequence state : List ℕ) (e read_back : ℕ) (answer : List ℕ)
    → TickMeets n state' answer' sequence state e read_back answer → n ≡ 0 → reactions_in answer' ≤ ceiling_of read_back (checked sequence read_back)
never_above_call sequence state e read_back answer m z =
    let h = never_above sequence state e read_back answer (ap number (sym m) ∙ z) in rw (← m) at h

-- the ceiling of an accepted sequence
pub most : (sequence : List ℕ) (read_back : ℕ) → ceiling_of read_back (checked sequence read_back) ≤ 4218880
most sequence read_back = go (checked sequence read_back) refl (decided sequence read_back)
  where
    go : (c : Checked) → checked sequence read_back ≡ c → Decides sequence read_back c → ceiling_of read_back c ≤ 4218880
    go (bad k) e d = omega arith
    go (sound p) e d =
        let a : Accepted sequence read_back
        = record { statement = p; is_checked = e; no_row = d.0; spelled = d.1; distinct = d.2; targeted = d.3; formed = d.4 } in
        term-ceiling sequence read_back a

-- ---- DEAREST: without loops and without read-back
standing_hundred : {sequence state : List ℕ} {t : Statement} (e : ℕ) → StandsAt sequence none state t
    → (p : Statement) → Spells sequence p → LoopFree p → commands p ≡ 100 → reactions t e ≤ 6079
standing_hundred {sequence} {state} e (at_start {p = q} s x n) p h free many =
    rw (none-declared q, ← same_statement sequence p q h s) (hundred-fresh p many h.1.nested e)
standing_hundred {sequence} {state} e (at_labels {p = q} s x v) p h free many =
    rw (none-declared q, ← same_statement sequence p q h s) (hundred-resumed p many h.1.nested free (labels_in state) e)

pub none_dearer : (sequence state : List ℕ) (e : ℕ) (answer : List ℕ) → number (tick_of sequence state e none answer) ≡ 0
    → (p : Statement) → Spells sequence p → LoopFree p → commands p ≡ 100
    → reactions_in (answer_afterwards (tick_of sequence state e none answer)) ≤ 6079
none_dearer sequence state e answer z p h free many =
    let x = told sequence state e none answer z in omega (arith, x.2, standing_hundred e x.1 p h free many)

-- the sequence of docs/CEILING.md
pub hundred_spelled : Spells hundred_bytes hundred × LoopFree hundred × (commands hundred ≡ 100)
unfolding read front command_of hundred_bytes hundred tries tries_but_one
hundred_spelled = ((reads_what_is-written hundred_bytes hundred).0 refl, hundred_free, hundred_takes.0)

hundred_accepted : check_of hundred_bytes none ≡ 0
unfolding check_of checked read front command_of hundred_bytes signal_nesting declared_by members_from distinct well_formed every_label before labels_of subset disjoint member none only join
hundred_accepted = refl

cleared_labels : labels_in cleared ≡ none
unfolding le_number none
cleared_labels = refl

pub hundred-shown : (e : ℕ) (answer : List ℕ) → length answer ≡ answer_length
    → (number (tick_of hundred_bytes cleared e none answer) ≡ 0) × (reactions_in (answer_afterwards (tick_of hundred_bytes cleared e none answer)) ≡ 6079)
hundred-shown e answer j =
    let s : StandsAt hundred_bytes none cleared (program none hundred) = at_start hundred_spelled.0 refl cleared_labels in
    let t = program none hundred in
    let w = stands-written hundred_bytes none (accepted hundred_bytes none hundred_accepted) inheritanceFirst cleared e answer refl j s in (
      rw w.0,
      rw w.0 (reactions-written (react t e) (first_error t e) (reactions t e) (w.1.2 e) ∙ ap (λ (p : Statement). reactions p e) (none-declared hundred) ∙ hundred_takes.3 e),
    )
