-- The ticks of a sequence and of its result, from cleared records, compared record by record up to the last instant before a wrong one.
use Prim.Native.Nat.{ℕ}
use mathlib.Core.Path.{◌≡◌, refl, sym, ap, ap₂, ◌∙◌}
use mathlib.Core.Bool.{Bool, true, false, ◌&&◌, cond}
use mathlib.Core.Option.{Option}
use mathlib.Core.List.{List, [], ◌∷◌, map}
use lib.ListN.{length}
use lib.Dec.{eqb}
use borrow.Author.Tests.{eqb-true, eqb-false}
use Rattle.spec_base.specs.Limits.{read_back_place}
use Rattle.spec_base.specs.Sets.{none}
use Rattle.sets.proofs.Booleans.{clash, Tested, tested}
use Rattle.spec_language.specs.Statement.{Statement}
use Rattle.spec_language.specs.Reaction.{ended, waiting, leaving, wrong, is_wrong, Reaction, code, react, inheritanceFirst}
use Rattle.spec_language.specs.Errors.{Error, first_error}
use Rattle.spec_language.specs.Reactions.{reactions}
use Rattle.spec_language.specs.Expansion.{expand}
use Rattle.spec_language.specs.Instants.{instant}
use Rattle.spec_language.specs.Machines.{State, state_after, adds_by_labels}
use Rattle.spec_base.specs.Bytes.{le_bytes}
use Rattle.spec_sequence.specs.Writer.{bytes_of}
use Rattle.spec_sequence.specs.Program.{read_back_signals, program}
use Rattle.spec_sequence.specs.Check.{Checked, sound, checked, check_of}
use Rattle.spec_sequence.specs.Rows.{Spells}
use Rattle.spec_tick.specs.StateRecord.{state_length, Decoded, holds, encode_state, Recorded}
use Rattle.records.proofs.StateLaws.{length_state, decode_encode}
use Rattle.spec_tick.specs.AnswerRecord.{answer_length, encode_answer}
use Rattle.spec_tick.specs.Tick.{Outcome, written, byState, replied, tick_of}
use Rattle.spec_tick.specs.Paper.{Call}
use Rattle.spec_tick.specs.Demands.{state_afterwards, outcomes, cleared, uncounted}
use Rattle.spec_tick.specs.Deliveries.{delivered_by, delivered_if, deliveries, call_delivers, delivered}
use Rattle.theory_tick.proofs.Sequence.{same_statement, Accepted, accepted, tick_at, tick_short, recorded-fresh, recorded-resumed}
use Rattle.spec_unroll.specs.Unrolled.{unrolled, result_of}
use Rattle.spec_unroll.specs.Rows.{Fits}
use Rattle.spec_unroll.specs.Runs.{tick_wrong, before_wrong, SameUntilWrong, SameLitresUntilWrong}
use Rattle.theory_unroll.proofs.Forms.{Forms, declared_forms}
use Rattle.theory_unroll.proofs.Alike.{Alike, fresh_alike, resumed_alike}
use Rattle.theory_unroll.proofs.Labels.{valid-kept}
use Rattle.theory_unroll.proofs.Spelled.{out-forms, out_checked}

-- ---- one instant: all but the number of reactions is the same, and so are the state after it and the litres it adds
alike_written : {r r' : Reaction} {y y' : ℕ} (x x' : Option Error) (n n' : ℕ) → Alike r y r' y'
    → tick_wrong (written (instant r x n)) ≡ false
    → (uncounted (written (instant r' x' n')) ≡ uncounted (written (instant r x n))) × (state_after r' ≡ state_after r)
    × (cond (is_wrong (code r')) 0 y' ≡ cond (is_wrong (code r)) 0 y)
unfolding encode_answer encode_state le_bytes
alike_written x x' n n' (Alike.same o ended l t t' y) h = (refl, refl, refl)
alike_written x x' n n' (Alike.same o waiting l t t' y) h = (refl, refl, refl)
alike_written x x' n n' (Alike.same o (leaving m) l t t' y) h = (refl, refl, refl)
alike_written x x' n n' (Alike.same o wrong l t t' y) h = clash true refl h
alike_written x x' n n' (Alike.lost o l t r' y y') h = clash true refl h

module _ (sequence : List ℕ) (read_back : ℕ) (a : Accepted sequence read_back) (f : Fits a.statement) (farm : ℕ) where
  abbrev p : Statement
  p = a.statement

  abbrev q : Statement
  q = result_of p

  -- the two programs
  abbrev program-p : Statement
  program-p = program read_back p

  abbrev program-q : Statement
  program-q = program read_back q

  forms : Forms false program-p program-q
  forms = declared_forms read_back_place (read_back_signals read_back) (out-forms p)

  recorded-out : (s : State) → Recorded p s → Recorded q s
  recorded-out State.fresh r = tt
  recorded-out (State.waits L) r = ((valid-kept p q (out-forms p) L).1 r.0, r.1)
  recorded-out State.over r = tt

  -- the outcomes of the original and of the result, from one state
  pub record Same (o o' : Outcome) : Type 0 where
    pub state : State
    pub same : uncounted o' ≡ uncounted o
    pub bytes : state_afterwards o ≡ encode_state state
    pub bytes' : state_afterwards o' ≡ encode_state state
    pub recorded : Recorded p state

  abbrev SameAdds : State → ℕ → Type 0
  SameAdds s e = adds_by_labels farm program-q s e ≡ adds_by_labels farm program-p s e

  abbrev from : Statement → State → (e : ℕ) (buffer : List ℕ) → Outcome
  from t s e buffer = replied (byState inheritanceFirst t (holds s) e) (encode_state s) buffer

  state-same : (s : State) → Recorded p s → (e : ℕ) (buffer : List ℕ) → tick_wrong (from program-p s e buffer) ≡ false
      → Same (from program-p s e buffer) (from program-q s e buffer) × SameAdds s e
  state-same State.fresh r e buffer h =
      let w = alike_written (first_error program-p e) (first_error program-q e) (reactions program-p e) (reactions program-q e) (fresh_alike farm forms e) h in (
        record {
          state = state_after (react program-p e);
          same = w.0;
          bytes = refl;
          bytes' = ap encode_state w.1;
          recorded = recorded-fresh sequence read_back a e;
        },
        w.2,
      )
  state-same (State.waits L) r e buffer h =
      let w = alike_written (first_error (expand program-p L) e) (first_error (expand program-q L) e)
      (reactions (expand program-p L) e) (reactions (expand program-q L) e) (resumed_alike farm forms L e) h in (
        record {
          state = state_after (react (expand program-p L) e);
          same = w.0;
          bytes = refl;
          bytes' = ap encode_state w.1;
          recorded = recorded-resumed sequence read_back a L e r.0;
        },
        w.2,
      )
  state-same State.over r e buffer h = (record { state = State.over; same = refl; bytes = refl; bytes' = refl; recorded = tt }, refl)

  -- ---- one tick
  abbrev out : List ℕ
  out = bytes_of (unrolled p)

  -- of a sequence, from a state
  abbrev tick : List ℕ → State → Call → Outcome
  tick bs s c = tick_of bs (encode_state s) c.input read_back c.buffer

  -- what it delivers to the farm
  abbrev brings : List ℕ → State → Call → ℕ
  brings bs s c = call_delivers bs read_back (encode_state s) c farm

  abbrev SameTick : State → Call → Type 0
  SameTick s c = Same (tick sequence s c) (tick out s c) × (brings out s c ≡ brings sequence s c)

  brings-is : (bs : List ℕ) (t : Statement) (s : State) (c : Call) → checked bs read_back ≡ sound t → Recorded t s
      → brings bs s c ≡ cond (eqb (length c.buffer) answer_length) (adds_by_labels farm (program read_back t) s c.input) 0
  brings-is bs t s c k r =
      ap (λ (n : ℕ). cond (eqb n state_length && eqb (length c.buffer) answer_length) (deliveries bs read_back (encode_state s) c.input farm) 0) (length_state s)
      ∙ ap (λ (n : ℕ). cond (eqb (length c.buffer) answer_length) n 0)
      (ap (λ (j : Checked). delivered_if read_back j (encode_state s) c.input farm) k
      ∙ ap (λ (d : Decoded). delivered_by (program read_back t) d c.input farm) (decode_encode t s r))

  out-sound : checked out read_back ≡ sound q
  out-sound = out_checked sequence read_back p a.is_checked f.short f.shallow

  -- a buffer of another length brings nothing
  litres-same-by : (b : Bool) (x y : ℕ) → (b ≡ true → x ≡ y) → cond b x 0 ≡ cond b y 0
  litres-same-by true x y h = h refl
  litres-same-by false x y h = refl

  brings-same : (s : State) → Recorded p s → (c : Call) → (eqb (length c.buffer) answer_length ≡ true → SameAdds s c.input)
      → brings out s c ≡ brings sequence s c
  brings-same s r c h =
      brings-is out q s c out-sound (recorded-out s r)
      ∙ litres-same-by (eqb (length c.buffer) answer_length) (adds_by_labels farm program-q s c.input) (adds_by_labels farm program-p s c.input) h
      ∙ sym (brings-is sequence p s c a.is_checked r)

  tick_same : (s : State) → Recorded p s → (c : Call) → tick_wrong (tick sequence s c) ≡ false → SameTick s c
  tick_same s r c = go (tested (eqb (length c.buffer) answer_length))
    where
      go : Tested (eqb (length c.buffer) answer_length) → tick_wrong (tick sequence s c) ≡ false → SameTick s c
      go (Tested.yes i) h =
          let j = eqb-true (length c.buffer) answer_length i in
          let tp = tick_at inheritanceFirst sequence (encode_state s) c.input read_back c.buffer p (holds s) a.is_checked
          (length_state s) j (decode_encode p s r) in
          let tq = tick_at inheritanceFirst out (encode_state s) c.input read_back c.buffer q (holds s) out-sound
          (length_state s) j (decode_encode q s (recorded-out s r)) in
          let w = state-same s r c.input c.buffer (rw tp at h) in
          (rw (tp, tq) w.0, brings-same s r c (λ z. w.1))
      go (Tested.no i) h =
          let n = eqb-false (length c.buffer) answer_length i in (
            rw (
              tick_short sequence (encode_state s) c.input read_back c.buffer n,
              tick_short out (encode_state s) c.input read_back c.buffer n,
            )
                (record { state = s; same = refl; bytes = refl; bytes' = refl; recorded = r }),
            brings-same s r c (λ z. clash (eqb (length c.buffer) answer_length) z i),
          )

  -- ---- lists of ticks
  abbrev run : List ℕ → State → List Call → List Outcome
  run bs s calls = map uncounted (outcomes tick_of bs read_back (encode_state s) calls)

  abbrev litres_in : List ℕ → State → List Call → List ℕ
  litres_in bs s calls = delivered bs read_back farm (encode_state s) calls

  abbrev SameRun : State → List Call → Type 0
  SameRun s before = (run out s before ≡ run sequence s before) × (litres_in out s before ≡ litres_in sequence s before)

  abbrev before_from : State → List Call → List Call
  before_from s calls = before_wrong tick_of sequence read_back (encode_state s) calls

  pub all_same : (calls : List Call) (s : State) → Recorded p s → SameRun s (before_from s calls)
  unfolding outcomes delivered before_wrong
  all_same [] s r = (refl, refl)
  all_same (c ∷ calls) s r = go (tested (tick_wrong (tick sequence s c))) (all_same calls)
    where
      go : Tested (tick_wrong (tick sequence s c)) → ((s : State) → Recorded p s → SameRun s (before_from s calls))
          → SameRun s (cond (tick_wrong (tick sequence s c)) []
          (c ∷ before_wrong tick_of sequence read_back (state_afterwards (tick sequence s c)) calls))
      go (Tested.yes h) later = rw h (refl, refl)
      go (Tested.no h) later =
          let x = tick_same s r c h in
          let m = later x.0.state x.0.recorded in
          rw h (
            ap₂ {B = List Outcome} {C = List Outcome} ◌∷◌ x.0.same (rw (x.0.bytes, x.0.bytes') m.0),
            ap₂ {B = List ℕ} {C = List ℕ} ◌∷◌ x.1 (rw (x.0.bytes, x.0.bytes') m.1),
          )

cleared_fresh : cleared ≡ encode_state State.fresh
unfolding encode_state le_bytes none
cleared_fresh = refl

module _ (sequence : List ℕ) (read_back : ℕ) (h : check_of sequence read_back ≡ 0) (p : Statement) (s : Spells sequence p) (f : Fits p) where
  from-cleared : (farm : ℕ) (calls : List Call)
      → let before = before_wrong tick_of sequence read_back cleared calls in
      (map uncounted (outcomes tick_of (bytes_of (unrolled p)) read_back cleared before) ≡ map uncounted (outcomes tick_of sequence read_back cleared before))
      × (delivered (bytes_of (unrolled p)) read_back farm cleared before ≡ delivered sequence read_back farm cleared before)
  from-cleared farm calls =
      let a = accepted sequence read_back h in
      let e : p ≡ a.statement = same_statement sequence p a.statement s a.spelled in
      rw (cleared_fresh, e) (all_same sequence read_back a (rw e at f) farm calls State.fresh tt)

  pub ticks-same : SameUntilWrong tick_of sequence (bytes_of (unrolled p)) read_back
  ticks-same calls = (from-cleared 0 calls).0

  pub litres-same : SameLitresUntilWrong sequence (bytes_of (unrolled p)) read_back
  litres-same farm calls = (from-cleared farm calls).1
