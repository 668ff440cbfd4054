-- DEMAND 1 for the definitions check_of and tickOf: the numbers are proofs/TickRows; here refusals, and that row 11 is never met.
use Prim.Native.Nat.{ℕ}
use native.Mathlib.Omega.{arith}
use native.Mathlib.Decide.{ℕ_discrete}
use mathlib.Core.Path.{◌≡◌, refl, sym, subst}
use mathlib.Core.Logic.{◌≢◌, ⊎_elim}
use mathlib.Core.Bool.{Bool, true, false, ◌&&◌, cond}
use mathlib.Core.List.Memᴰ
use mathlib.Core.List.{List, [], ◌∷◌, Memᴰ}
use lib.ListN.{length}
use lib.Dec.{eqb}
use Rattle.spec_base.specs.Sets.{none}
use Rattle.spec_language.specs.Statement.{Statement}
use Rattle.spec_language.specs.Reaction.{gives, react, inheritanceFirst}
use Rattle.spec_language.specs.Expansion.{expand}
use Rattle.spec_language.specs.Instants.{instant}
use Rattle.spec_language.specs.Machines.{State, state_after}
use Rattle.spec_sequence.specs.Program.{program}
use Rattle.spec_sequence.specs.Check.{check_of}
use Rattle.theory_sequence.proofs.Rows.{check_by_rows}
use Rattle.spec_base.specs.Bytes.{le_number}
use Rattle.spec_tick.specs.StateRecord.{state_length, Decoded, encode_state, decode_state, phase_in, labels_in, Recorded}
use Rattle.spec_tick.specs.AnswerRecord.{answer_length}
use Rattle.spec_tick.specs.Tick.{Outcome, outcome, Reply, refused, reacts, byState, reply_of, replied, tick_by, tick_of}
use Rattle.spec_tick.specs.TickRows.{Malformed, phase_above, labels_fresh, labels_over, not_valid}
use Rattle.spec_tick.specs.Paper.{Call}
use Rattle.spec_tick.specs.Demands.{number, state_afterwards, outcomes, Admitted, Demand1, cleared}
use Rattle.records.proofs.StateLaws.{length_state, decode_encode}
use Rattle.theory_tick.proofs.TickRows.{Reading, reads_fresh, reads_waiting, reads_over, reads_malformed, reading, well_formed_lem, tick_by_rows}
use Rattle.theory_tick.proofs.Sequence.{same_statement, Accepted, accepted, tick_at, tick_short, recorded-fresh, recorded-resumed}

-- ---- a refusal writes nothing
abbrev Unwritten : Outcome → List ℕ → List ℕ → Type 0
Unwritten o state answer = number o ≢ 0 → o ≡ outcome (number o) state answer

reply_unwritten : (r : Reply) (state answer : List ℕ) → Unwritten (replied r state answer) state answer
reply_unwritten (refused k) state answer h = refl
reply_unwritten (reacts (instant r x n)) state answer h = absurd (h refl)

refusal_writes_nothing : (sequence state : List ℕ) (e read_back : ℕ) (answer : List ℕ)
    → Unwritten (tick_of sequence state e read_back answer) state answer
unfolding tick_by
refusal_writes_nothing sequence state e read_back answer = go (eqb (length state) state_length && eqb (length answer) answer_length)
  where
    go : (b : Bool) → Unwritten (cond b (replied (reply_of sequence state e read_back) state answer) (outcome 1 state answer)) state answer
    go true h = reply_unwritten (reply_of sequence state e read_back) state answer h
    go false h = refl

-- ---- row 11 is never met
module _ (sequence : List ℕ) (read_back : ℕ) (a : Accepted sequence read_back) where
  abbrev p : Statement
  p = a.statement

  admitted-state : (s : State) → Recorded p s → Admitted sequence (encode_state s)
  admitted-state s r = (
    length_state s,
    λ q t. subst
        (λ (w : Statement). ¬ Malformed w (phase_in (encode_state s)) (labels_in (encode_state s))) (same_statement sequence p q a.spelled t) mine,
  )
    where
      mine : ¬ Malformed p (phase_in (encode_state s)) (labels_in (encode_state s))
      mine = well_formed_lem (rw (decode_encode p s r) at (reading p (encode_state s)))

  -- a tick from an admitted record gives another number and leaves an admitted record
  abbrev Passes : Outcome → Type 0
  Passes o = (number o ≢ 11) × Admitted sequence (state_afterwards o)

  state-passes : (state : List ℕ) → Admitted sequence state → (e : ℕ) (answer : List ℕ) (d : Decoded)
      → Reading p (phase_in state) (labels_in state) d → Passes (replied (byState inheritanceFirst (program read_back p) d e) state answer)
  state-passes state h e answer d (reads_malformed x) = absurd (h.1 p a.spelled x)
  state-passes state h e answer d (reads_fresh x n) = (omega arith, admitted-state (state_after (react (program read_back p) e)) (recorded-fresh sequence read_back a e))
  state-passes state h e answer d (reads_waiting x v) = (
    omega arith,
    admitted-state (state_after (react (expand (program read_back p) (labels_in state)) e))
        (recorded-resumed sequence read_back a (labels_in state) e v),
  )
  state-passes state h e answer d (reads_over x n) = (omega arith, h)

  tick-passes : (state : List ℕ) → Admitted sequence state → (e : ℕ) (answer : List ℕ) → Passes (tick_of sequence state e read_back answer)
  tick-passes state h e answer =
      elim (ℕ_discrete (length answer) answer_length) [
        | yes i ↦ rw (tick_at inheritanceFirst sequence state e read_back answer p (decode_state p state) a.is_checked h.0 i refl)
            (state-passes state h e answer (decode_state p state) (reading p state))
        | no i ↦ rw (tick_short sequence state e read_back answer i) (omega arith, h)
      ]

  all_pass : (calls : List Call) (state : List ℕ) → Admitted sequence state → (o : Outcome)
      → Memᴰ o (outcomes tick_of sequence read_back state calls) → number o ≢ 11
  unfolding outcomes
  all_pass [] state h o m = absurd (Memᴰ.not-nil m)
  all_pass (c ∷ calls) state h o m =
      let x = tick-passes state h c.input c.buffer in
      ⊎_elim (λ e. subst (λ (w : Outcome). number w ≢ 11) (sym e) x.0)
      (λ t. all_pass calls (state_afterwards (tick_of sequence state c.input read_back c.buffer)) x.1 o t)
      (Memᴰ.cases_cons m)

-- a cleared record is one that row 11 admits
cleared_admitted : (sequence : List ℕ) → Admitted sequence cleared
unfolding le_number none
cleared_admitted sequence = (refl, λ p s m. go m)
  where
    go : {p : Statement} → Malformed p (phase_in cleared) (labels_in cleared) → ⊥
    go (phase_above h) = omega arith
    go (labels_fresh e n) = n refl
    go (labels_over e n) = omega arith
    go (not_valid e n) = omega arith

-- DEMAND 1
pub demand_1 : Demand1 check_of tick_of
demand_1 =
    record {
      check_by_rows = check_by_rows;
      tick_by_rows = λ sequence state e read_back answer. tick_by_rows sequence read_back state answer e;
      refusal_writes_nothing = refusal_writes_nothing;
      never_11 = λ sequence read_back state h m calls. all_pass sequence read_back (accepted sequence read_back h) calls state m;
      cleared_admitted = cleared_admitted;
    }
