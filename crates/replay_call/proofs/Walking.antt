-- Laws of the loop over the records: the work left gives the place.
use Prim.Native.Nat.{ℕ, suc, ◌+◌, ◌/◌, ◌<◌}
use native.Mathlib.Omega.{arith}
use mathlib.Core.Path.{◌≡◌, refl, sym, ap, ap₂, ◌∙◌}
use mathlib.Core.Logic.{◌≢◌}
use mathlib.Core.Bool.{Bool, true, false, ◌&&◌, cond}
use mathlib.Core.List.{List, ◌++◌}
use lib.ListN.{length, take, drop, length-append}
use lib.Dec.{eqb}
use lib.Seq.{take-append_seam, drop-append_seam}
use Rattle.spec_base.specs.Sets.{none}
use Rattle.spec_language.specs.Statement.{Statement}
use Rattle.spec_language.specs.Machines.{State}
use Rattle.spec_base.specs.Bytes.{le_bytes}
use Rattle.spec_tick.specs.StateRecord.{encode_state}
use Rattle.records.proofs.StateLaws.{decode_encode}
use Rattle.spec_tick.specs.Tick.{Outcome}
use Rattle.spec_tick.specs.Demands.{number, state_afterwards}
use Rattle.spec_tick.specs.Record.{recordLength, input_in}
use Rattle.spec_tick.specs.Recording.{following, tick_on, record_from, records_from}
use Rattle.spec_replay.specs.Replay.{first_records, same, first_difference, place_of}
use Rattle.std.specs.Prelude.{Option, None, Some, Result, Ok}
use Rattle.program.specs.declared.Start.{Start}
use Rattle.limits.specs.declared.rows.Refusal.{Refusal}
use Rattle.limits.specs.Rows.{row_number}
use Rattle.program.specs.declared.Start.TheVariants as starts
use Rattle.replay_call.specs.Following.{is_record, Holds, FollowsFrom, place_from}

module _ (sequence : List ℕ) (read_back : ℕ) where
  pub begin : (recording : List ℕ)
      → place_from sequence read_back 1 1 (encode_state State.fresh) (length recording / recordLength) recording ≡ place_of sequence read_back recording
  unfolding place_of encode_state le_bytes none
  begin recording = refl

  -- what is left is no record
  pub finished : (k n : ℕ) (state bs : List ℕ) {place : ℕ} → place_from sequence read_back k n state (length bs / recordLength) bs ≡ place
      → length bs < recordLength → ◌≡◌ {A = ℕ} 0 place
  unfolding first_records first_difference
  finished k n state bs h l =
      let z : ◌≡◌ {A = ℕ} 0 (length bs / recordLength) = omega arith in
      ap (λ (x : ℕ). place_from sequence read_back k n state x bs) z ∙ h

  module _ (k n : ℕ) (state : List ℕ) (left : ℕ) (bs : List ℕ) where
    abbrev r : List ℕ
    r = take recordLength bs

    abbrev o : Outcome
    o = tick_on sequence read_back state (input_in r)

    -- the place behind this record, from the state that its instant leaves
    abbrev behind : ℕ
    behind = place_from sequence read_back (k + 1) (following n) (state_afterwards o) left (drop recordLength bs)

    step : (x y : Bool) → eqb (number o) 0 ≡ x → same r (record_from n (input_in r) o) ≡ y
        → place_from sequence read_back k n state (suc left) bs ≡ cond (x && y) behind k
    unfolding first_records records_from first_difference
    step true true p q = rw (p, q)
    step true false p q = rw (p, q)
    step false y p q = rw p

    pub steps : place_from sequence read_back k n state (suc left) bs ≡ cond (is_record n r o) behind k
    steps = step (eqb (number o) 0) (same r (record_from n (input_in r) o)) refl refl

  -- ---- one turn of the loop: the record x, and what is behind it
  module _ (k n : ℕ) (s : State) (x later bs : List ℕ) (split : bs ≡ x ++ later) (sized : length x ≡ recordLength) where
    abbrev next : ℕ
    next = place_from sequence read_back (k + 1) (following n) (state_afterwards (tick_on sequence read_back (encode_state s) (input_in x))) (length later / recordLength) later

    -- by whether the record is the instant's
    turn : place_from sequence read_back k n (encode_state s) (length bs / recordLength) bs
        ≡ cond (is_record n x (tick_on sequence read_back (encode_state s) (input_in x))) next k
    turn =
        let e : length (x ++ later) / recordLength ≡ suc (length later / recordLength) = omega (arith, length-append x later, sized) in
        let f : take recordLength (x ++ later) ≡ x = ap (λ (m : ℕ). take m (x ++ later)) (sym sized) ∙ take-append_seam x later in
        let g : drop recordLength (x ++ later) ≡ later = ap (λ (m : ℕ). drop m (x ++ later)) (sym sized) ∙ drop-append_seam x later in
        ap (λ (l : List ℕ). place_from sequence read_back k n (encode_state s) (length l / recordLength) l) split
        ∙ ap (λ (m : ℕ). place_from sequence read_back k n (encode_state s) m (x ++ later)) e
        ∙ steps k n (encode_state s) (length later / recordLength) (x ++ later)
        ∙ ap₂ (λ (y z : List ℕ). cond (is_record n y (tick_on sequence read_back (encode_state s) (input_in y)))
        (place_from sequence read_back (k + 1) (following n) (state_afterwards (tick_on sequence read_back (encode_state s) (input_in y))) (length later / recordLength) z) k) f g

    module _ (p : Statement) {place : ℕ}
        (h : place_from sequence read_back k n (encode_state s) (length bs / recordLength) bs ≡ place) where
      pub stopped : FollowsFrom p sequence read_back n x s None → k ≡ place
      stopped f = ap (λ (y : Bool). cond y next k) (sym f) ∙ sym turn ∙ h

      -- the state that comes next, and the place from there
      pub turned : (standing : Result Start Refusal) → FollowsFrom p sequence read_back n x s (Some standing) → {k' n' : ℕ} → k' ≡ k + 1 → n' ≡ following n
          → (s' : State) × Holds p s' standing
          × (place_from sequence read_back k' n' (encode_state s') (length later / recordLength) later ≡ place)
      turned standing f {k'} {n'} d e =
          let s' = f.1.0 in (
            s',
            f.1.2,
            ap₂ (λ (j m : ℕ). place_from sequence read_back j m (encode_state s') (length later / recordLength) later) d e
                ∙ ap (λ (st : List ℕ). place_from sequence read_back (k + 1) (following n) st (length later / recordLength) later) (sym f.1.1)
                ∙ ap (λ (y : Bool). cond y next k) (sym f.0) ∙ sym turn ∙ h,
          )

-- a fresh machine
pub begins : (p : Statement) → Holds p State.fresh (Ok starts.Fresh)
begins p = record { recorded = tt; decodes = decode_encode p State.fresh tt }
