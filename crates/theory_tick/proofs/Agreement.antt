-- DEMAND 3: over any list of ticks from a cleared record, or from a valid label set, the ticks of an accepted sequence without
-- setpause report what the paper machine reports.
use Prim.Native.Nat.{ℕ, ◌^◌}
use native.Mathlib.Omega.{arith}
use mathlib.Core.Path.{◌≡◌, refl, sym, ap, ap₂, ◌∙◌, subst}
use mathlib.Core.Bool.{Bool, true, false, ◌&&◌, cond}
use mathlib.Core.List.{List, [], ◌∷◌, map}
use lib.ListN.{length, get_or}
use lib.Dec.{eqb}
use borrow.Author.Tests.{eqb-true, eqb-false}
use Rattle.spec_base.specs.Limits.{place_bytes, read_back_place}
use Rattle.spec_base.specs.Sets.{none}
use Rattle.spec_language.specs.Statement.{Statement}
use Rattle.spec_language.specs.Reaction.{code, react, inheritanceFirst}
use Rattle.spec_language.specs.Errors.{first_error}
use Rattle.spec_language.specs.Reactions.{reactions}
use Rattle.spec_language.specs.States.{NoSetpause, Valid}
use Rattle.spec_language.specs.Expansion.{expand}
use Rattle.spec_language.specs.Machines.{State, state_after, by_labels, adds_by_labels, Rewriting, by_rewriting, adds_by_rewriting, added}
use Rattle.theory_language.proofs.Agreement.{TermOf, step}
use Rattle.theory_language.proofs.ReadBack.{no_setpause_declared}
use Rattle.theory_language.proofs.Litres.{agree-added}
use Rattle.spec_sequence.specs.Program.{read_back_signals, program}
use Rattle.spec_sequence.specs.Check.{Checked, check_of}
use Rattle.spec_sequence.specs.Rows.{Spells}
use Rattle.spec_base.specs.Bytes.{le_bytes}
use Rattle.spec_tick.specs.StateRecord.{state_length, Decoded, holds, encode_state, phase_in, Recorded}
use Rattle.spec_tick.specs.AnswerRecord.{answer_length}
use Rattle.spec_tick.specs.Tick.{Outcome, outcome, byState, replied, tick_of}
use Rattle.spec_tick.specs.Paper.{Call, Report, turned_down, phase_of, report_of, paper_tick, paper}
use Rattle.spec_tick.specs.Demands.{state_afterwards, outcomes, cleared, report, Demand3}
use Rattle.spec_tick.specs.Deliveries.{delivered_by, delivered_if, deliveries, call_delivers, delivered, paper_delivered}
use Rattle.records.proofs.StateLaws.{length_state, decode_encode}
use Rattle.theory_tick.proofs.Reports.{report_written}
use Rattle.theory_tick.proofs.Bounds.{emitted_below}
use Rattle.theory_tick.proofs.ErrorPlaces.{place_fits}
use Rattle.theory_tick.proofs.Sequence.{same_statement, Accepted, accepted, tick_at, tick_short, valid_recorded, term-source, term-distinct, recorded-fresh, recorded-resumed, bounded-fresh, bounded-resumed, places-fresh, places-resumed, counted-fresh, counted-resumed}

module _ (sequence : List ℕ) (read_back : ℕ) (a : Accepted sequence read_back) (plain : NoSetpause a.statement) where
  abbrev p : Statement
  p = a.statement

  -- the term of the program
  abbrev q : Statement
  q = program read_back p

  plain_term : NoSetpause q
  plain_term = no_setpause_declared read_back_place (read_back_signals read_back) p plain

  same_step : (s : State) (w : Rewriting) → TermOf q s w → (e : ℕ)
      → ((by_labels q s e).0 ≡ (by_rewriting w e).0) × TermOf q (by_labels q s e).1 (by_rewriting w e).1
  same_step = step q (term-source sequence read_back a) (term-distinct sequence read_back a) plain_term

  -- the record after a tick and the paper after it are related as before
  pub record Related (result : Outcome) (shown : Report × Rewriting) : Type 0 where
    pub state : State
    pub same : report result ≡ shown.0
    pub bytes : state_afterwards result ≡ encode_state state
    pub term : TermOf q state shown.1
    pub recorded : Recorded p state

  same-phase : (s : State) (w : Rewriting) → TermOf q s w → phase_in (encode_state s) ≡ phase_of w
  unfolding encode_state
  same-phase State.fresh (Rewriting.fresh t) h = refl
  same-phase State.fresh (Rewriting.waits t) h = absurd h
  same-phase State.fresh Rewriting.over h = absurd h
  same-phase (State.waits L) (Rewriting.fresh t) h = absurd h
  same-phase (State.waits L) (Rewriting.waits t) h = refl
  same-phase (State.waits L) Rewriting.over h = absurd h
  same-phase State.over (Rewriting.fresh t) h = absurd h
  same-phase State.over (Rewriting.waits t) h = absurd h
  same-phase State.over Rewriting.over h = refl

  -- an answer buffer of another length: number 1, nothing changes
  short-related : (s : State) (w : Rewriting) → TermOf q s w → Recorded p s → (buffer : List ℕ)
      → Related (outcome 1 (encode_state s) buffer) (turned_down 1 (phase_of w), w)
  short-related s w h r buffer =
      record { state = s; same = ap (turned_down 1) (same-phase s w h); bytes = refl; term = h; recorded = r }

  tick-related : (s : State) (w : Rewriting) → TermOf q s w → Recorded p s → (e : ℕ) (buffer : List ℕ)
      → Related (replied (byState inheritanceFirst q (holds s) e) (encode_state s) buffer) (report_of (by_rewriting w e).0, (by_rewriting w e).1)
  tick-related State.fresh w h r e buffer =
      let t = same_step State.fresh w h e in
      record {
        state = state_after (react q e);
        same = report_written (react q e) (first_error q e) (reactions q e) (emitted_below q e (bounded-fresh sequence read_back a))
            (place_fits (256 ^ place_bytes) q e (code (react q e)) (omega arith) (places-fresh sequence read_back a))
            (counted-fresh sequence read_back a e)
            ∙ ap report_of t.0;
        bytes = refl;
        term = t.1;
        recorded = recorded-fresh sequence read_back a e;
      }
  tick-related (State.waits L) w h r e buffer =
      let t = same_step (State.waits L) w h e in
      record {
        state = state_after (react (expand q L) e);
        same = report_written (react (expand q L) e) (first_error (expand q L) e) (reactions (expand q L) e)
            (emitted_below (expand q L) e (bounded-resumed sequence read_back a L))
            (place_fits (256 ^ place_bytes) (expand q L) e (code (react (expand q L) e)) (omega arith) (places-resumed sequence read_back a L))
            (counted-resumed sequence read_back a L e)
            ∙ ap report_of t.0;
        bytes = refl;
        term = t.1;
        recorded = recorded-resumed sequence read_back a L e r.0;
      }
  tick-related State.over w h r e buffer =
      let t = same_step State.over w h e in
      record {
        state = State.over;
        same = over-report ∙ ap report_of t.0;
        bytes = refl;
        term = t.1;
        recorded = tt;
      }
    where
      over-report : turned_down 12 (phase_in (encode_state State.over)) ≡ turned_down 12 2
      over-report = ap (turned_down 12) (same-phase State.over Rewriting.over tt)

  one-tick : (s : State) (w : Rewriting) → TermOf q s w → Recorded p s → (c : Call)
      → Related (tick_of sequence (encode_state s) c.input read_back c.buffer) (paper_tick w c.input (length c.buffer))
  one-tick s w h r c = go (eqb (length c.buffer) answer_length) refl
    where
      go : (b : Bool) → eqb (length c.buffer) answer_length ≡ b
          → Related (tick_of sequence (encode_state s) c.input read_back c.buffer)
          (cond b (report_of (by_rewriting w c.input).0, (by_rewriting w c.input).1) (turned_down 1 (phase_of w), w))
      go true i =
          rw (tick_at inheritanceFirst sequence (encode_state s) c.input read_back c.buffer p (holds s) a.is_checked (length_state s)
          (eqb-true (length c.buffer) answer_length i) (decode_encode p s r))
          (tick-related s w h r c.input c.buffer)
      go false i =
          rw (tick_short sequence (encode_state s) c.input read_back c.buffer (eqb-false (length c.buffer) answer_length i))
          (short-related s w h r c.buffer)

  -- ---- litres
  same_adds : (f : ℕ) (s : State) (w : Rewriting) → TermOf q s w → (e : ℕ) → adds_by_labels f q s e ≡ adds_by_rewriting f w e
  unfolding added
  same_adds f s w h e =
      ap (λ (l : List ℕ). get_or l 0 0)
      (agree-added f q (term-source sequence read_back a) (term-distinct sequence read_back a) plain_term s w h (e ∷ []))

  one-delivery : (f : ℕ) (s : State) (w : Rewriting) → TermOf q s w → Recorded p s → (c : Call)
      → call_delivers sequence read_back (encode_state s) c f ≡ cond (eqb (length c.buffer) answer_length) (adds_by_rewriting f w c.input) 0
  one-delivery f s w h r c =
      ap (λ (n : ℕ). cond (eqb n state_length && eqb (length c.buffer) answer_length) (deliveries sequence read_back (encode_state s) c.input f) 0) (length_state s)
      ∙ ap (λ (n : ℕ). cond (eqb (length c.buffer) answer_length) n 0)
      (ap (λ (k : Checked). delivered_if read_back k (encode_state s) c.input f) a.is_checked
      ∙ ap (λ (d : Decoded). delivered_by q d c.input f) (decode_encode p s r) ∙ same_adds f s w h c.input)

  pub all-deliveries : (f : ℕ) (calls : List Call) (s : State) (w : Rewriting) → TermOf q s w → Recorded p s
      → delivered sequence read_back f (encode_state s) calls ≡ paper_delivered f w calls
  unfolding delivered paper_delivered
  all-deliveries f [] s w h r = refl
  all-deliveries f (c ∷ calls) s w h r =
      let x = one-tick s w h r c in
      ap₂ {B = List ℕ} {C = List ℕ} ◌∷◌ (one-delivery f s w h r c)
      (rw x.bytes (all-deliveries f calls x.state (paper_tick w c.input (length c.buffer)).1 x.term x.recorded))

  pub all-ticks : (calls : List Call) (s : State) (w : Rewriting) → TermOf q s w → Recorded p s
      → map report (outcomes tick_of sequence read_back (encode_state s) calls) ≡ paper w calls
  unfolding outcomes paper
  all-ticks [] s w h r = refl
  all-ticks (c ∷ calls) s w h r =
      let x = one-tick s w h r c in
      ap₂ {B = List Report} {C = List Report} ◌∷◌ x.same
      (rw x.bytes (all-ticks calls x.state (paper_tick w c.input (length c.buffer)).1 x.term x.recorded))

cleared_fresh : cleared ≡ encode_state State.fresh
unfolding encode_state le_bytes none
cleared_fresh = refl

-- the labels and the term of one machine, at any state that the record holds
module _ (sequence : List ℕ) (read_back : ℕ) (h : check_of sequence read_back ≡ 0) (p : Statement) (s : Spells sequence p) (plain : NoSetpause p) where
  -- what holds of the statement that the check has read holds of p
  with_read : (P : Statement → Type 0) → ((a : Accepted sequence read_back) → NoSetpause a.statement → P a.statement) → P p
  with_read P f =
      let a = accepted sequence read_back h in
      let same : p ≡ a.statement = same_statement sequence p a.statement s a.spelled in
      subst P (sym same) (f a (subst NoSetpause same plain))

  from-state : (st : State) (w : Rewriting) → TermOf (program read_back p) st w → Recorded p st → (calls : List Call)
      → map report (outcomes tick_of sequence read_back (encode_state st) calls) ≡ paper w calls
  from-state st w t r calls =
      with_read
      (λ (q : Statement). TermOf (program read_back q) st w → Recorded q st
      → map report (outcomes tick_of sequence read_back (encode_state st) calls) ≡ paper w calls)
      (λ a n. all-ticks sequence read_back a n calls st w) t r

  pub from-labels : (L : ℕ) → Valid p L → (calls : List Call)
      → map report (outcomes tick_of sequence read_back (encode_state (State.waits L)) calls) ≡ paper (Rewriting.waits (expand (program read_back p) L)) calls
  from-labels L v calls =
      from-state (State.waits L) (Rewriting.waits (expand (program read_back p) L)) refl (valid_recorded p s.1.ranged L v) calls

  -- LITRES (02, item 12): 'Rewriting gives the same litres', to each farm in each of the ticks
  deliveries-from : (st : State) (w : Rewriting) → TermOf (program read_back p) st w → Recorded p st → (farm : ℕ) (calls : List Call)
      → delivered sequence read_back farm (encode_state st) calls ≡ paper_delivered farm w calls
  deliveries-from st w t r farm calls =
      with_read
      (λ (q : Statement). TermOf (program read_back q) st w → Recorded q st
      → delivered sequence read_back farm (encode_state st) calls ≡ paper_delivered farm w calls)
      (λ a n. all-deliveries sequence read_back a n farm calls st w) t r

  pub same_deliveries : (farm : ℕ) (calls : List Call)
      → delivered sequence read_back farm cleared calls ≡ paper_delivered farm (Rewriting.fresh (program read_back p)) calls
  same_deliveries farm calls = rw cleared_fresh (deliveries-from State.fresh (Rewriting.fresh (program read_back p)) refl tt farm calls)

  pub deliveries-from-labels : (L : ℕ) → Valid p L → (farm : ℕ) (calls : List Call)
      → delivered sequence read_back farm (encode_state (State.waits L)) calls
      ≡ paper_delivered farm (Rewriting.waits (expand (program read_back p) L)) calls
  deliveries-from-labels L v farm calls =
      deliveries-from (State.waits L) (Rewriting.waits (expand (program read_back p) L)) refl (valid_recorded p s.1.ranged L v) farm calls

-- DEMAND 3
pub demand_3 : Demand3 check_of tick_of
demand_3 sequence read_back h p s plain calls =
    rw cleared_fresh (from-state sequence read_back h p s plain State.fresh (Rewriting.fresh (program read_back p)) refl tt calls)
