-- A machine on paper that follows the machine by labels of 01, 'States and resuming'; the two of the specs do, the one that rewrites
-- for statements without setpause. And one tick on an accepted sequence, by what such a machine sees of it.
use Prim.Native.Nat.{ℕ, ◌%◌, ◌^◌, ◌<◌}
use native.Mathlib.Omega.{arith}
use mathlib.Core.Path.{◌≡◌, refl, sym, ap, ap₂, ◌∙◌, subst}
use mathlib.Core.Option.{Option, some}
use mathlib.Core.Option as Option
use mathlib.Core.List.{List, [], ◌∷◌, ◌++◌}
use lib.ListN.{length, get_or}
use Rattle.spec_base.specs.Limits.{signal_count, signal_bytes, number_bytes, place_bytes, reactions_bytes, read_back_place}
use Rattle.spec_language.specs.Statement.{Statement}
use Rattle.spec_language.specs.Reaction.{Code, Reaction, gives, emitted, code, react, inheritanceFirst}
use Rattle.spec_language.specs.Errors.{Error, blame, first_error}
use Rattle.spec_language.specs.Reactions.{reactions}
use Rattle.spec_language.specs.Expansion.{expand}
use Rattle.spec_language.specs.Instants as Instants
use Rattle.spec_language.specs.States.{NoSetpause}
use Rattle.spec_language.specs.Machines.{Phase, phase_after, shown, Seen, instant, refused, seen, State, state_after, by_labels, adds_by_labels, Rewriting, adds_by_rewriting, added}
use Rattle.theory_language.proofs.Agreement.{TermOf, step}
use Rattle.theory_language.proofs.ReadBack.{no_setpause_declared}
use Rattle.theory_language.proofs.Litres.{agree-added}
use Rattle.spec_sequence.specs.Program.{program, read_back_signals}
use Rattle.spec_sequence.specs.Check.{Checked}
use Rattle.spec_tick.specs.StateRecord.{Decoded, encode_state, holds, Recorded}
use Rattle.records.proofs.StateLaws.{length_state, decode_encode}
use Rattle.spec_tick.specs.AnswerRecord.{answer_length, encode_answer}
use Rattle.records.proofs.AnswerLaws.{length-answer}
use Rattle.spec_tick.specs.Tick as Tick
use Rattle.spec_tick.specs.Tick.{Outcome, outcome, Reply, reacts, byState, written, replied, tick_of}
use Rattle.spec_tick.specs.Paper.{Report, report_of}
use Rattle.spec_tick.specs.Deliveries.{delivered_by, delivered_if, deliveries}
use Rattle.theory_tick.proofs.Reports.{report_written}
use Rattle.spec_tick.specs.Demands.{report}
use Rattle.spec_tick.specs.Record.{record_of, input_in}
use Rattle.records.proofs.Records.{answer-field, state-field, number-field, input-field}
use Rattle.theory_tick.proofs.Bounds.{emitted_below}
use Rattle.theory_tick.proofs.ErrorPlaces.{place_fits}
use Rattle.theory_tick.proofs.Sequence.{Accepted, tick_at, term-source, term-distinct, recorded-fresh, recorded-resumed, bounded-fresh, bounded-resumed, places-fresh, places-resumed, counted-fresh, counted-resumed}
use Rattle.spec_bay.specs.Preview.{answer_in}
use Rattle.spec_base.specs.Bytes.{le_bytes}
use Rattle.numbers.proofs.Bytes.{le_low}
use Rattle.spec_box.specs.PaperBox.{BayMachine, answer_seen, InstantTold, told, by_terms, by_label_sets}

-- ---- an instant of the machine by labels: the reaction of a term, whose answer fits its record
module _ (sequence : List ℕ) (read_back : ℕ) (a : Accepted sequence read_back) (st : State) (e : ℕ) where
  abbrev q : Statement
  q = program read_back a.statement

  pub data Labelled : Type 0 where
    over : byState inheritanceFirst (program read_back a.statement) (holds st) e ≡ Tick.refused 12
        → (by_labels (program read_back a.statement) st e).0 ≡ refused → Labelled
    runs : (r : Reaction) (x : Option Error) (n : ℕ)
        → byState inheritanceFirst (program read_back a.statement) (holds st) e ≡ reacts (Instants.instant r x n)
        → (by_labels (program read_back a.statement) st e).0 ≡ seen r x n → (by_labels (program read_back a.statement) st e).1 ≡ state_after r
        → Recorded a.statement (state_after r) → emitted r < 2 ^ signal_count → (blame (code r) x).place < 256 ^ place_bytes
        → n < 256 ^ reactions_bytes → Labelled

pub labelled : (sequence : List ℕ) (read_back : ℕ) (a : Accepted sequence read_back) (st : State) → Recorded a.statement st → (e : ℕ)
    → Labelled sequence read_back a st e
labelled sequence read_back a State.fresh r e =
    let q = program read_back a.statement in
    runs (react q e) (first_error q e) (reactions q e) refl refl refl (recorded-fresh sequence read_back a e)
    (emitted_below q e (bounded-fresh sequence read_back a))
    (place_fits (256 ^ place_bytes) q e (code (react q e)) (omega arith) (places-fresh sequence read_back a))
    (counted-fresh sequence read_back a e)
labelled sequence read_back a (State.waits L) r e =
    let q = expand (program read_back a.statement) L in
    runs (react q e) (first_error q e) (reactions q e) refl refl refl (recorded-resumed sequence read_back a L e r.0)
    (emitted_below q e (bounded-resumed sequence read_back a L))
    (place_fits (256 ^ place_bytes) q e (code (react q e)) (omega arith) (places-resumed sequence read_back a L))
    (counted-resumed sequence read_back a L e)
labelled sequence read_back a State.over r e = over refl refl

-- ---- a machine that follows it
pub record Follows (S T R : Type 0) : Type 1 where
  pub kind : BayMachine S T R
  -- the statements that it is for
  pub For : Statement → Type 0
  -- its state for a program in this state, and what is saved of it where it waits with these labels
  pub At : Statement → State → S → Type 0
  pub kept_of : Statement → ℕ → T
  pub fresh_at : (q : Statement) → At q State.fresh (kind.fresh q)
  pub back_at : (q : Statement) (L : ℕ) → At q (State.waits L) (kind.back (kept_of q L))
  pub kept_fresh : (q : Statement) (w : S) → At q State.fresh w → kind.kept w ≡ Option.none
  pub kept_waits : (q : Statement) (L : ℕ) (w : S) → At q (State.waits L) w → kind.kept w ≡ some (kept_of q L)
  pub kept_over : (q : Statement) (w : S) → At q State.over w → kind.kept w ≡ Option.none
  pub steps : (sequence : List ℕ) (read_back : ℕ) (a : Accepted sequence read_back) → For a.statement
      → (st : State) (w : S) → At (program read_back a.statement) st w → (e : ℕ)
      → ((by_labels (program read_back a.statement) st e).0 ≡ (kind.react (program read_back a.statement) w e).0)
      × At (program read_back a.statement) (by_labels (program read_back a.statement) st e).1 (kind.react (program read_back a.statement) w e).1
  pub same_adds : (sequence : List ℕ) (read_back : ℕ) (a : Accepted sequence read_back) → For a.statement
      → (st : State) (w : S) → At (program read_back a.statement) st w → (e f : ℕ)
      → adds_by_labels f (program read_back a.statement) st e ≡ kind.adds (program read_back a.statement) f w e
  -- what answer and record tell of an instant is what is told by what is seen of it
  pub reads_told : (q : Statement) (w : S) (r : Reaction) (x : Option Error) (n : ℕ)
      → emitted r < 2 ^ signal_count → (blame (code r) x).place < 256 ^ place_bytes → n < 256 ^ reactions_bytes
      → At q (state_after r) w → (i e : ℕ) → i < 256 ^ number_bytes
      → kind.reads (encode_answer (Instants.instant r x n)) (record_of i e (encode_answer (Instants.instant r x n)) (encode_state (state_after r)))
      ≡ kind.tells (seen r x n) w i e

-- ---- by rewriting
pub kept_none : (q : Statement) (w : Rewriting) → TermOf q State.fresh w → by_terms.kept w ≡ Option.none
kept_none q (Rewriting.fresh t) h = refl
kept_none q (Rewriting.waits t) h = absurd h
kept_none q Rewriting.over h = absurd h

pub kept_term : (q : Statement) (L : ℕ) (w : Rewriting) → TermOf q (State.waits L) w → by_terms.kept w ≡ some (expand q L)
kept_term q L (Rewriting.fresh t) h = absurd h
kept_term q L (Rewriting.waits t) h = ap some h
kept_term q L Rewriting.over h = absurd h

pub kept_ended : (q : Statement) (w : Rewriting) → TermOf q State.over w → by_terms.kept w ≡ Option.none
kept_ended q (Rewriting.fresh t) h = absurd h
kept_ended q (Rewriting.waits t) h = absurd h
kept_ended q Rewriting.over h = refl

pub plain_term : (read_back : ℕ) (p : Statement) → NoSetpause p → NoSetpause (program read_back p)
plain_term read_back p = no_setpause_declared read_back_place (read_back_signals read_back) p

pub terms_adds : (sequence : List ℕ) (read_back : ℕ) (a : Accepted sequence read_back) → NoSetpause a.statement
    → (st : State) (w : Rewriting) → TermOf (program read_back a.statement) st w → (e f : ℕ)
    → adds_by_labels f (program read_back a.statement) st e ≡ adds_by_rewriting f w e
unfolding added
terms_adds sequence read_back a plain st w h e f =
    ap (λ (l : List ℕ). get_or l 0 0)
    (agree-added f (program read_back a.statement) (term-source sequence read_back a) (term-distinct sequence read_back a)
    (plain_term read_back a.statement plain) st w h (e ∷ []))

-- of the inputs a record has 32
inputs_in : (n e : ℕ) (answer state : List ℕ) → input_in (record_of n e answer state) ≡ e % 256 ^ signal_bytes
inputs_in n e answer state =
    ap (λ (x : List ℕ). input_in (((le_bytes number_bytes n ++ x) ++ answer) ++ state)) (sym (le_low signal_bytes e))
    ∙ input-field n (e % 256 ^ signal_bytes) answer state (omega arith)

pub terms_told : (r : Reaction) (x : Option Error) (n : ℕ) → emitted r < 2 ^ signal_count → (blame (code r) x).place < 256 ^ place_bytes
    → n < 256 ^ reactions_bytes → (i e : ℕ) → i < 256 ^ number_bytes
    → by_terms.reads (encode_answer (Instants.instant r x n)) (record_of i e (encode_answer (Instants.instant r x n)) (encode_state (state_after r)))
    ≡ told (report_of (seen r x n)) i (e % 256 ^ signal_bytes) (report_of (seen r x n))
terms_told (gives o k L t) x n b d f i e l =
    let answer = encode_answer (Instants.instant (gives o k L t) x n) in
    let state = encode_state (state_after (gives o k L t)) in
    let a = length-answer o k L t x n in
    let s = length_state (state_after (gives o k L t)) in
    rw (answer-field i e answer state a s, state-field i e answer state a s, number-field i e answer state l, inputs_in i e answer state)
    (ap (λ (y : Report). told y i (e % 256 ^ signal_bytes) y) (report_written (gives o k L t) x n b d f))

abbrev pub terms_follow : Follows Rewriting Statement InstantTold
terms_follow =
    record {
      kind = by_terms;
      For = NoSetpause;
      At = TermOf;
      kept_of = expand;
      fresh_at = λ q. refl;
      back_at = λ q L. refl;
      kept_fresh = kept_none;
      kept_waits = kept_term;
      kept_over = kept_ended;
      steps = λ sequence read_back a plain. step (program read_back a.statement) (term-source sequence read_back a) (term-distinct sequence read_back a)
          (plain_term read_back a.statement plain);
      same_adds = terms_adds;
      reads_told = λ q w r x n b d f g. terms_told r x n b d f;
    }

-- ---- by labels
abbrev pub Is : Statement → State → State → Type 0
Is q st w = w ≡ st

pub labels_steps : (q : Statement) (st w : State) → w ≡ st → (e : ℕ) → ((by_labels q st e).0 ≡ (by_labels q w e).0) × ((by_labels q w e).1 ≡ (by_labels q st e).1)
labels_steps q st w h e = (ap (λ (x : State). (by_labels q x e).0) (sym h), ap (λ (x : State). (by_labels q x e).1) h)

pub labels_told : (q : Statement) (w : State) (r : Reaction) (x : Option Error) (n : ℕ) → w ≡ state_after r → (i e : ℕ)
    → by_label_sets.reads (encode_answer (Instants.instant r x n)) (record_of i e (encode_answer (Instants.instant r x n)) (encode_state (state_after r)))
    ≡ by_label_sets.tells (seen r x n) w i e
unfolding encode_answer
labels_told q w (gives o k L t) x n g i e = ap (λ (st : State). by_label_sets.tells (seen (gives o k L t) x n) st i e) (sym g)

abbrev pub labels_follow : Follows State ℕ (List (List ℕ))
labels_follow =
    record {
      kind = by_label_sets;
      For = λ p. Unit {0};
      At = Is;
      kept_of = λ q L. L;
      fresh_at = λ q. refl;
      back_at = λ q L. refl;
      kept_fresh = λ q w h. ap by_label_sets.kept h;
      kept_waits = λ q L w h. ap by_label_sets.kept h;
      kept_over = λ q w h. ap by_label_sets.kept h;
      steps = λ sequence read_back a u st w h e. labels_steps (program read_back a.statement) st w h e;
      same_adds = λ sequence read_back a u st w h e f. ap (λ (x : State). adds_by_labels f (program read_back a.statement) x e) (sym h);
      reads_told = λ q w r x n b d f g i e l. labels_told q w r x n g i e;
    }

-- ---- one tick on an accepted sequence, by what the machine sees of it
module _ {S T R : Type 0} (m : Follows S T R) (sequence : List ℕ) (read_back : ℕ) (a : Accepted sequence read_back) (fine : m.For a.statement)
    (st : State) (w : S) (at : m.At (program read_back a.statement) st w) (r : Recorded a.statement st) (e : ℕ) where
  abbrev sees : Seen × S
  sees = m.kind.react (program read_back a.statement) w e

  follows : ((by_labels (program read_back a.statement) st e).0 ≡ (m.kind.react (program read_back a.statement) w e).0)
      × m.At (program read_back a.statement) (by_labels (program read_back a.statement) st e).1 (m.kind.react (program read_back a.statement) w e).1
  follows = m.steps sequence read_back a fine st w at e

  pub data Goes (buffer : List ℕ) (o : Outcome) : Type 0 where
    stops : o ≡ outcome 12 (encode_state st) buffer → (m.kind.react (program read_back a.statement) w e).0 ≡ refused → Goes buffer o
    moves : (state : State) (left : List ℕ) → o ≡ outcome 0 (encode_state state) left
        → m.At (program read_back a.statement) state (m.kind.react (program read_back a.statement) w e).1
        → Recorded a.statement state → length left ≡ answer_length
        → (k : Code) (x : Error) (s n : ℕ) (after : Phase) → (m.kind.react (program read_back a.statement) w e).0 ≡ instant k x s n after
        → ((i : ℕ) → i < 256 ^ number_bytes → m.kind.reads left (record_of i e left (encode_state state))
        ≡ m.kind.tells (instant k x s n after) (m.kind.react (program read_back a.statement) w e).1 i e)
        → Goes buffer o

  pub goes : (buffer : List ℕ) → length buffer ≡ answer_length → Goes buffer (tick_of sequence (encode_state st) e read_back buffer)
  goes buffer l = go (labelled sequence read_back a st r e)
    where
      at-state : tick_of sequence (encode_state st) e read_back buffer
          ≡ replied (byState inheritanceFirst (program read_back a.statement) (holds st) e) (encode_state st) buffer
      at-state =
          tick_at inheritanceFirst sequence (encode_state st) e read_back buffer a.statement (holds st) a.is_checked (length_state st) l
          (decode_encode a.statement st r)

      go : Labelled sequence read_back a st e → Goes buffer (tick_of sequence (encode_state st) e read_back buffer)
      go (over i j) = stops (at-state ∙ ap (λ (y : Reply). replied y (encode_state st) buffer) i) (sym follows.0 ∙ j)
      go (runs (gives o k L t) x n i j g c b d f) =
          let h = subst (λ (y : State). m.At (program read_back a.statement) y (m.kind.react (program read_back a.statement) w e).1) g follows.1 in
          moves (state_after (gives o k L t)) (encode_answer (Instants.instant (gives o k L t) x n))
          (at-state ∙ ap (λ (y : Reply). replied y (encode_state st) buffer) i)
          h c (length-answer o k L t x n)
          k (blame k x) (shown k o) n (phase_after k) (sym follows.0 ∙ j)
          (λ i l. m.reads_told (program read_back a.statement) (m.kind.react (program read_back a.statement) w e).1 (gives o k L t) x n b d f h i e l)

  pub litres-are : (f : ℕ) → deliveries sequence read_back (encode_state st) e f ≡ m.kind.adds (program read_back a.statement) f w e
  litres-are f =
      ap (λ (k : Checked). delivered_if read_back k (encode_state st) e f) a.is_checked
      ∙ ap (λ (d : Decoded). delivered_by (program read_back a.statement) d e f) (decode_encode a.statement st r)
      ∙ m.same_adds sequence read_back a fine st w at e f

  -- what it answers
  pub answer-is : answer_in (byState inheritanceFirst (program read_back a.statement) (holds st) e)
      ≡ answer_seen (m.kind.react (program read_back a.statement) w e).0
  unfolding encode_answer
  answer-is = go (labelled sequence read_back a st r e)
    where
      go : Labelled sequence read_back a st e
          → answer_in (byState inheritanceFirst (program read_back a.statement) (holds st) e)
          ≡ answer_seen (m.kind.react (program read_back a.statement) w e).0
      go (over i j) = ap answer_in i ∙ ap answer_seen (sym j ∙ follows.0)
      go (runs (gives o k L t) x n i j g c b d f) = ap answer_in i ∙ ap answer_seen (sym j ∙ follows.0)
