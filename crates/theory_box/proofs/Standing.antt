-- A filled bay that calls have written: its sequence is accepted, and its machine stands in a state of that sequence.
use Prim.Native.Nat.{ℕ, ◌+◌, ◌≤◌}
use native.Mathlib.Omega.{arith}
use native.Mathlib.Decide.{ℕ_discrete}
use mathlib.Core.Path.{◌≡◌, refl, sym, ap, ◌∙◌, subst}
use mathlib.Core.Logic.{◌≢◌}
use mathlib.Core.Bool.{false}
use mathlib.Core.List.{List}
use lib.ListN.{length}
use borrow.Author.Tests.{ne_eqb}
use Rattle.spec_base.specs.Limits.{number_bytes}
use Rattle.spec_base.specs.Sets as Sets
use Rattle.spec_language.specs.Reaction.{react, inheritanceFirst}
use Rattle.spec_language.specs.Expansion.{expand}
use Rattle.spec_language.specs.Machines.{State, state_after}
use Rattle.spec_sequence.specs.Program.{program}
use Rattle.spec_base.specs.Bytes.{le_bytes}
use Rattle.numbers.proofs.Bytes.{length_le_bytes}
use Rattle.spec_tick.specs.StateRecord.{state_length, encode_state, holds, Recorded}
use Rattle.records.proofs.StateLaws.{length_state, decode_encode}
use Rattle.spec_tick.specs.AnswerRecord.{answer_length}
use Rattle.spec_base.specs.Parts.{slot, put}
use Rattle.spec_tick.specs.Tick as Tick
use Rattle.spec_tick.specs.Tick.{Outcome, tick_of}
use Rattle.spec_tick.specs.Demands as demands
use Rattle.spec_tick.specs.Demands.{state_afterwards, cleared}
use Rattle.theory_tick.proofs.Sequence.{Accepted, tick_at, tick_short, recorded-fresh, recorded-resumed}
use Rattle.theory_tick.proofs.Ceiling.{most}
use Rattle.numbers.proofs.Putting.{put-before}
use Rattle.spec_bay.specs.Ledgers.{ledger_length, added}
use Rattle.spec_bay.specs.Called.{Called, number, memory_after}
use Rattle.spec_bay.specs.Stretch.{sequence_at, state_at, count_at, positions_at, bay_length, stretch_length, length_in, is_empty, sequence_in, state_in, ledger_in, Terms, filled}
use Rattle.spec_bay.specs.BayCalls.{delivering, bay_tick_of}
use Rattle.spec_box.specs.Box.{admit}
use Rattle.spec_box.specs.Shares.{Sendable}
use Rattle.spec_box.specs.BayRuns.{paper_buffer}
use Rattle.theory_bay.proofs.Fields.{Holds, behind-holds, moved_holds, moved-state, filled-holds, filled-fresh}
use Rattle.theory_box.proofs.Moves.{Moved, refused, stored}
use Rattle.theory_box.proofs.Ticks as ticks
use Rattle.theory_box.proofs.Bays.{ceiling_for, bounds}

pub record Standing (t : Terms) (s : List ℕ) : Type 0 where
  pub accepted : Accepted t.sequence t.read_back
  pub holds : Holds t (ceiling_for t) s
  pub state : State
  pub bytes : state_in s ≡ encode_state state
  pub recorded : Recorded accepted.statement state

-- ---- a tick from a state of an accepted sequence: it leaves such a state, and gives another number than 11
module _ (t : Terms) (a : Accepted t.sequence t.read_back) where
  pub record Told (o : Outcome) : Type 0 where
    pub state : State
    pub bytes : state_afterwards o ≡ encode_state state
    pub recorded : Recorded a.statement state
    pub not-11 : demands.number o ≢ 11

  pub told : (st : State) → Recorded a.statement st → (e : ℕ) (answer : List ℕ)
      → Told (tick_of t.sequence (encode_state st) e t.read_back answer)
  told st r e answer =
      elim (ℕ_discrete (length answer) answer_length) [
        | yes i ↦ subst Told
            (sym (tick_at inheritanceFirst t.sequence (encode_state st) e t.read_back answer a.statement (holds st) a.is_checked
            (length_state st) i (decode_encode a.statement st r)))
            (by st r)
        | no i ↦ subst Told (sym (tick_short t.sequence (encode_state st) e t.read_back answer i))
            (record { state = st; bytes = refl; recorded = r; not-11 = λ x. omega arith })
      ]
    where
      by : (st : State) → Recorded a.statement st
          → Told (Tick.replied (Tick.byState inheritanceFirst (program t.read_back a.statement) (holds st) e) (encode_state st) answer)
      by State.fresh r =
          record {
            state = state_after (react (program t.read_back a.statement) e);
            bytes = refl;
            recorded = recorded-fresh t.sequence t.read_back a e;
            not-11 = λ x. omega arith;
          }
      by (State.waits L) r =
          record {
            state = state_after (react (expand (program t.read_back a.statement) L) e);
            bytes = refl;
            recorded = recorded-resumed t.sequence t.read_back a L e r.0;
            not-11 = λ x. omega arith;
          }
      by State.over r = record { state = State.over; bytes = refl; recorded = tt; not-11 = λ x. omega arith }

-- ---- a bay that stands
module _ (t : Terms) (s : List ℕ) (h : Standing t s) where
  pub not-empty : is_empty s ≡ false
  not-empty = ne_eqb (length_in s) 0 (λ z. omega (arith, (bounds t h.accepted).0, h.holds.long))

  pub sequence-held : sequence_in s ≡ t.sequence
  sequence-held = ap (λ (n : ℕ). slot sequence_at n s) h.holds.long ∙ h.holds.bytes

  -- a state of its sequence is written
  pub put-stands : (st : State) → Recorded h.accepted.statement st → (bytes : List ℕ) → bytes ≡ encode_state st
      → Standing t (put state_at state_length bytes s)
  put-stands st r bytes e =
      let fits = (bounds t h.accepted).1 in
      let sized = ap length e ∙ length_state st in
      record {
        accepted = h.accepted;
        holds = moved_holds t (ceiling_for t) fits s h.holds bytes sized;
        state = st;
        bytes = moved-state t (ceiling_for t) fits s h.holds bytes sized ∙ e;
        recorded = r;
      }

  -- something is written behind the state
  abbrev Steady : List ℕ → Type 0
  Steady after = Standing t after × (state_in after ≡ state_in s)

  pub put-behind-state : (at n : ℕ) (bytes : List ℕ) → count_at ≤ at → at + n ≤ stretch_length → length bytes ≡ n → Steady (put at n bytes s)
  put-behind-state at n bytes low high sized =
      let z = h.holds.sized in
      let same : state_in (put at n bytes s) ≡ state_in s = put-before at n bytes s (omega arith) sized state_at state_length (omega arith) in (
        record {
          accepted = h.accepted;
          holds = behind-holds t (ceiling_for t) (bounds t h.accepted).1 s h.holds at n bytes (omega arith) (omega arith) sized;
          state = h.state;
          bytes = same ∙ h.bytes;
          recorded = h.recorded;
        },
        same,
      )

  pub behind-stands : {o : Called} → Moved positions_at s o → Steady (memory_after o)
  behind-stands {o} m = go m
    where
      go : Moved positions_at s o → Steady (memory_after o)
      go (refused n d e) = subst Steady (sym (ap memory_after e)) (h, refl)
      go (stored at n bytes low high sized e) =
          subst Steady (sym (ap memory_after e)) (put-behind-state at n bytes (omega arith) high (sized h.holds.sized))

  module _ (e : ℕ) (answer trace : List ℕ) where
    -- the tick on its sequence, with the buffer that the paper sees
    abbrev pub inner : Outcome
    inner = tick_of t.sequence (state_in s) e t.read_back (paper_buffer trace answer)

    pub inner-is : ticks.inner s h.holds.sized e answer trace ≡ inner
    inner-is = rw (sequence-held, h.holds.set)

    pub tick-told : Told t h.accepted inner
    tick-told = rw h.bytes (told t h.accepted h.state h.recorded e (paper_buffer trace answer))

-- ---- the tick of a bay that stands
module _ (t : Terms) (s : List ℕ) (h : Standing t s) (e : ℕ) (answer trace : List ℕ) where
  abbrev Ticks : Called → Type 0
  Ticks o = Standing t (memory_after o) × (number o ≢ 19 → state_in (memory_after o) ≡ state_afterwards (inner t s h e answer trace))

  pub tick-stands : Ticks (bay_tick_of s e answer trace)
  tick-stands = go (ticks.ticked s h.holds.sized e answer trace)
    where
      z : length s ≡ stretch_length
      z = h.holds.sized

      go : ticks.Ticked s h.holds.sized e answer trace (bay_tick_of s e answer trace) → Ticks (bay_tick_of s e answer trace)
      go (ticks.down n y d q w) =
          subst Ticks (sym w) (h, λ m. sym (ap state_afterwards q) ∙ ap state_afterwards (inner-is t s h e answer trace))
      go (ticks.full q p w) = subst Ticks (sym w) (h, λ m. absurd (m refl))
      go (ticks.instant state left l j p q w) =
          let a : state ≡ state_afterwards (inner t s h e answer trace) =
          sym (ap state_afterwards q) ∙ ap state_afterwards (inner-is t s h e answer trace) in
          let b = tick-told t s h e answer trace in
          let n : ℕ = ticks.next s z e answer trace in
          let moved : Standing t (put state_at state_length state s) = put-stands t s h b.state b.recorded state (a ∙ b.bytes) in
          let entered = put-behind-state t (put state_at state_length state s) moved bay_length ledger_length (added (delivering s e) (ledger_in s))
          (omega arith) (omega arith) (ticks.new-sized s z e answer trace p state l) in
          let k = put-behind-state t (ticks.entered s z e answer trace state) entered.0 count_at number_bytes (le_bytes number_bytes n)
          (omega arith) (omega arith) (length_le_bytes number_bytes n) in
          subst Ticks (sym w)
          (k.0, λ m. k.1 ∙ entered.1 ∙ moved-state t (ceiling_for t) (bounds t h.accepted).1 s h.holds state l ∙ a)

-- ---- a bay admitted
pub cleared_fresh : cleared ≡ encode_state State.fresh
unfolding encode_state le_bytes Sets.none
cleared_fresh = refl

module _ (t : Terms) (a : Accepted t.sequence t.read_back) (s : List ℕ) (z : length s ≡ stretch_length) where
  pub fresh-state : state_in (filled t (ceiling_for t) s) ≡ cleared
  fresh-state = filled-fresh t (ceiling_for t) s z (bounds t a).1

  pub filled-stands : Sendable (admit t) → Standing t (filled t (ceiling_for t) s)
  filled-stands small =
      record {
        accepted = a;
        holds = filled-holds t (ceiling_for t) s z (bounds t a).1 small.0 small.1 (omega (arith, most t.sequence t.read_back));
        state = State.fresh;
        bytes = fresh-state ∙ cleared_fresh;
        recorded = tt;
      }
