-- The place that a wrong instant names, in the answer of a tick.
use Prim.Native.Nat.{ℕ}
use mathlib.Core.Path.{◌≡◌, sym, ap, ◌∙◌, subst}
use mathlib.Core.List.{List}
use Rattle.spec_language.specs.Statement.{Statement}
use Rattle.spec_language.specs.Errors.{Error}
use Rattle.spec_sequence.specs.Program.{program}
use Rattle.spec_tick.specs.StateRecord.{labels_in}
use Rattle.spec_tick.specs.AnswerRecord.{code_in, kind_in, place_in}
use Rattle.spec_tick.specs.Tick.{Outcome, tick_of}
use Rattle.spec_tick.specs.Demands.{number, answer_afterwards, StandsAt, at_start, at_labels, TickMeets}
use Rattle.spec_tick.specs.PlaceNamed.{PlaceNamed}
use Rattle.theory_tick.proofs.ErrorPlaces.{AllErrors, errors-expand, first_holds}
use Rattle.theory_tick.proofs.Offsets.{program-errors}
use Rattle.theory_tick.proofs.Demand2.{instant-shown}

abbrev Named : (sequence : List ℕ) (read_back : ℕ) → Error → Type 0
Named sequence read_back x = PlaceNamed sequence read_back x.kind x.place

-- of the term at which the machine stands
standing_errors : (sequence : List ℕ) (read_back : ℕ) (state : List ℕ) {t : Statement} → StandsAt sequence read_back state t
    → AllErrors (Named sequence read_back) t
standing_errors sequence read_back state (at_start {p = p} s x n) =
    program-errors (Named sequence read_back) sequence read_back p s (λ y h. h)
standing_errors sequence read_back state (at_labels {p = p} s x v) =
    errors-expand (Named sequence read_back) (program read_back p) (labels_in state)
    (program-errors (Named sequence read_back) sequence read_back p s (λ y h. h))

pub place_named : (sequence state : List ℕ) (e read_back : ℕ) (answer : List ℕ) → number (tick_of sequence state e read_back answer) ≡ 0
    → code_in (answer_afterwards (tick_of sequence state e read_back answer)) ≡ 255
    → PlaceNamed sequence read_back (kind_in (answer_afterwards (tick_of sequence state e read_back answer)))
    (place_in (answer_afterwards (tick_of sequence state e read_back answer)))
place_named sequence state e read_back answer z w =
    let s = instant-shown sequence state e read_back answer z in
    let h = s.2.4 in
    let m = h.named (h.called_wrong.0 w) in
    let x = first_holds (Named sequence read_back) s.0 e m.0 (standing_errors sequence read_back state s.1) m.1 in
    rw (m.3, m.4) x

pub place_named_call : {n : ℕ} {state' answer' : List ℕ} (sequence state : List ℕ) (e read_back : ℕ) (answer : List ℕ)
    → TickMeets n state' answer' sequence state e read_back answer → n ≡ 0 → code_in answer' ≡ 255
    → PlaceNamed sequence read_back (kind_in answer') (place_in answer')
place_named_call sequence state e read_back answer m z w =
    subst (λ (o : Outcome). PlaceNamed sequence read_back (kind_in (answer_afterwards o)) (place_in (answer_afterwards o))) (sym m)
    (place_named sequence state e read_back answer (sym (ap number m) ∙ z) (ap (λ (o : Outcome). code_in (answer_afterwards o)) (sym m) ∙ w))
