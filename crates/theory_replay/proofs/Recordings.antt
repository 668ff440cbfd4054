-- Recordings of a fresh machine: records of 37 bytes, which are made again from the inputs recorded, and none after the end.
use Prim.Native.Nat.{ℕ, zero, suc, ◌+◌, ◌*◌, ◌/◌, ◌%◌, ◌≤◌}
use native.Mathlib.Omega.{arith}
use mathlib.Core.Path.{◌≡◌, refl, sym, ap, ap₂, ◌∙◌}
use mathlib.Core.Logic.{◌≢◌}
use mathlib.Core.Bool.{Bool, true, false, cond}
use mathlib.Core.Option.{none, some, none-ne-some}
use mathlib.Core.List.{List, [], ◌∷◌, ◌++◌, map}
use lib.ListN.{length, get_elem?, take, drop, length-append, length-drop, length-map, take-append-drop}
use lib.Seq.{take_at, drop_at}
use lib.Dec.{eqb}
use borrow.Author.Tests.{ne_eqb}
use Rattle.spec_language.specs.Reaction.{gives}
use Rattle.spec_language.specs.Instants.{Instant, instant}
use Rattle.spec_language.specs.Machines.{state_after}
use Rattle.spec_tick.specs.StateRecord.{state_length, phase_in}
use Rattle.records.proofs.StateLaws.{length_state}
use Rattle.spec_tick.specs.AnswerRecord.{answer_length}
use Rattle.records.proofs.AnswerLaws.{length-answer}
use Rattle.spec_tick.specs.Tick.{Outcome, Reply, refused, reacts, written, reply_of, replied, tick_by}
use Rattle.spec_tick.specs.TickRows.{row_12}
use Rattle.spec_tick.specs.Demands.{number, state_afterwards, answer_afterwards, cleared}
use Rattle.theory_tick.proofs.Theorems.{demand_1}
use Rattle.spec_tick.specs.Record.{recordLength, input_in, state_in}
use Rattle.spec_tick.specs.Recording.{following, blank, tick_on, record_from, records_from, recording_of, joined, Inputs}
use Rattle.records.proofs.Records.{record_sized, input-field, state-field}
use Rattle.spec_replay.specs.Replay.{first_records, records_in, inputs_in, place_of}
use Rattle.theory_replay.proofs.Differences.{none-differs, alike}

-- every record has 37 bytes
abbrev Whole : List (List ℕ) → Type 0
Whole [] = Unit {0}
Whole (r ∷ rs) = (length r ≡ recordLength) × Whole rs

-- ---- records as bytes, and back
split-joined : (rs : List (List ℕ)) → Whole rs → first_records (length rs) (joined rs) ≡ rs
unfolding first_records joined
split-joined [] h = refl
split-joined (r ∷ rs) h =
    ap₂ (λ (x : List ℕ) (xs : List (List ℕ)). x ∷ xs) (take_at r (joined rs) recordLength h.0)
    (ap (first_records (length rs)) (drop_at r (joined rs) recordLength h.0) ∙ split-joined rs h.1)

joined_sized : (rs : List (List ℕ)) → Whole rs → length (joined rs) ≡ length rs * recordLength
unfolding joined
joined_sized [] h = refl
joined_sized (r ∷ rs) h = omega (arith, length-append r (joined rs), joined_sized rs h.1, h.0)

joined-split : (n : ℕ) (bs : List ℕ) → length bs ≡ n * recordLength → joined (first_records n bs) ≡ bs
unfolding first_records joined
joined-split zero [] h = refl
joined-split zero (b ∷ bs) h = absurd (omega arith)
joined-split (suc n) bs h =
    ap (λ (l : List ℕ). take recordLength bs ++ l) (joined-split n (drop recordLength bs) (omega (arith, length-drop recordLength bs)))
    ∙ take-append-drop recordLength bs

-- the records of joined records
records_joined : (rs : List (List ℕ)) → Whole rs → records_in (joined rs) ≡ rs
records_joined rs h =
    let n : length (joined rs) / recordLength ≡ length rs = omega (arith, joined_sized rs h) in
    ap (λ (k : ℕ). first_records k (joined rs)) n ∙ split-joined rs h

-- ---- the records that a tick leaves have their lengths
abbrev pub Sized : Outcome → Type 0
Sized o = (length (state_afterwards o) ≡ state_length) × (length (answer_afterwards o) ≡ answer_length)

written_sized : (i : Instant) → Sized (written i)
written_sized (instant (gives o k l t) x n) = (length_state (state_after (gives o k l t)), length-answer o k l t x n)

pub replied_sized : (r : Reply) (state answer : List ℕ) → length state ≡ state_length → length answer ≡ answer_length
    → Sized (replied r state answer)
replied_sized (refused n) state answer s a = (s, a)
replied_sized (reacts i) state answer s a = written_sized i

module _ (sequence : List ℕ) (read_back : ℕ) where
  abbrev after : List ℕ → ℕ → Outcome
  after state e = tick_on sequence read_back state e

  pub tick_sized : (state : List ℕ) (e : ℕ) → length state ≡ state_length → Sized (after state e)
  unfolding tick_by
  tick_sized state e s = rw s (replied_sized (reply_of sequence state e read_back) state blank s refl)

  -- ---- the machine's records
  whole : (es : List ℕ) (n : ℕ) (state : List ℕ) → length state ≡ state_length → Whole (records_from sequence read_back n state es)
  unfolding records_from
  whole [] n state s = tt
  whole (e ∷ es) n state s =
      go (eqb (number (after state e)) 0) (whole es (following n) (state_afterwards (after state e)) (tick_sized state e s).0)
    where
      go : (b : Bool) → Whole (records_from sequence read_back (following n) (state_afterwards (after state e)) es)
          → Whole (cond b (record_from n e (after state e) ∷ records_from sequence read_back (following n) (state_afterwards (after state e)) es) [])
      go true h = (
        record_sized n e (answer_afterwards (after state e)) (state_afterwards (after state e)) (tick_sized state e s).1 (tick_sized state e s).0,
        h,
      )
      go false h = tt

  not-longer : (es : List ℕ) (n : ℕ) (state : List ℕ) → length (records_from sequence read_back n state es) ≤ length es
  unfolding records_from
  not-longer [] n state = omega arith
  not-longer (e ∷ es) n state =
      go (eqb (number (after state e)) 0) (not-longer es (following n) (state_afterwards (after state e)))
    where
      go : (b : Bool) → length (records_from sequence read_back (following n) (state_afterwards (after state e)) es) ≤ length es
          → length (cond b (record_from n e (after state e) ∷ records_from sequence read_back (following n) (state_afterwards (after state e)) es) []) ≤ suc (length es)
      go true h = omega arith
      go false h = omega arith

  -- the inputs recorded make the same records
  again : (es : List ℕ) (n : ℕ) (state : List ℕ) → Inputs es
      → records_from sequence read_back n state (map input_in (records_from sequence read_back n state es)) ≡ records_from sequence read_back n state es
  unfolding records_from
  again [] n state h = refl
  again (e ∷ es) n state h =
      go (eqb (number (after state e)) 0) refl (again es (following n) (state_afterwards (after state e)) h.1)
    where
      more : List (List ℕ)
      more = records_from sequence read_back (following n) (state_afterwards (after state e)) es

      go : (b : Bool) → eqb (number (after state e)) 0 ≡ b
          → records_from sequence read_back (following n) (state_afterwards (after state e)) (map input_in more) ≡ more
          → records_from sequence read_back n state (map input_in (cond b (record_from n e (after state e) ∷ more) []))
          ≡ cond b (record_from n e (after state e) ∷ more) []
      go true q t =
          let i : input_in (record_from n e (after state e)) ≡ e =
          input-field n e (answer_afterwards (after state e)) (state_afterwards (after state e)) h.0 in
          rw (i, q) (ap (λ (l : List (List ℕ)). record_from n e (after state e) ∷ l) t)
      go false q t = refl

  -- ---- none after the end
  turned_down : (state : List ℕ) (e : ℕ) → phase_in state ≡ 2 → number (after state e) ≢ 0
  turned_down state e h z = (demand_1.tick_by_rows sequence state e read_back blank).acceptance.0 z 12 (row_12 h)

  over-makes-none : (es : List ℕ) (n : ℕ) (state : List ℕ) → phase_in state ≡ 2 → records_from sequence read_back n state es ≡ []
  unfolding records_from
  over-makes-none [] n state h = refl
  over-makes-none (e ∷ es) n state h = rw (ne_eqb (number (after state e)) 0 (turned_down state e h))

  none_after : (es : List ℕ) (n : ℕ) (state : List ℕ) → length state ≡ state_length → (i : ℕ) (r : List ℕ)
      → get_elem? (records_from sequence read_back n state es) i ≡ some r → phase_in (state_in r) ≡ 2
      → get_elem? (records_from sequence read_back n state es) (suc i) ≡ none
  unfolding records_from
  none_after [] n state s i r h p = absurd (none-ne-some r h)
  none_after (e ∷ es) n state s i r h p =
      go (eqb (number (after state e)) 0) i h
      (λ j. none_after es (following n) (state_afterwards (after state e)) (tick_sized state e s).0 j r)
    where
      o : Outcome
      o = after state e

      later : List (List ℕ)
      later = records_from sequence read_back (following n) (state_afterwards o) es

      ended : record_from n e o ≡ r → later ≡ []
      ended q =
          over-makes-none es (following n) (state_afterwards o)
          (ap phase_in (sym (state-field n e (answer_afterwards o) (state_afterwards o) (tick_sized state e s).1 (tick_sized state e s).0) ∙ ap state_in q) ∙ p)

      go : (b : Bool) (i : ℕ) → get_elem? (cond b (record_from n e o ∷ later) []) i ≡ some r
          → ((j : ℕ) → get_elem? later j ≡ some r → phase_in (state_in r) ≡ 2 → get_elem? later (suc j) ≡ none)
          → get_elem? (cond b (record_from n e o ∷ later) []) (suc i) ≡ none
      go false i w f = absurd (none-ne-some r w)
      go true zero w f = let q : record_from n e o ≡ r = cc in ap (λ (l : List (List ℕ)). get_elem? l 0) (ended q)
      go true (suc i) w f = f i w p

  -- ---- recordings
  abbrev made : List ℕ → List (List ℕ)
  made es = recording_of sequence read_back es

  made-whole : (es : List ℕ) → Whole (made es)
  made-whole es = whole es 1 cleared refl

  made-sized : (es : List ℕ) → length (joined (made es)) % recordLength ≡ 0
  made-sized es = omega (arith, joined_sized (made es) (made-whole es))

  module _ (recording : List ℕ) where
    abbrev remade : List (List ℕ)
    remade = made (inputs_in recording)

    -- a record after the machine is over was not made
    pub made_ends : (i : ℕ) (r : List ℕ) → get_elem? remade i ≡ some r → phase_in (state_in r) ≡ 2 → get_elem? remade (suc i) ≡ none
    made_ends i r h p = none_after (inputs_in recording) 1 cleared refl i r h p

    -- a recording that is the machine's on its own inputs
    module _ (e : recording ≡ joined remade) where
      pub remade-sized : length recording % recordLength ≡ 0
      remade-sized = ap (λ (l : List ℕ). length l % recordLength) e ∙ made-sized (inputs_in recording)

      pub remade-records : records_in recording ≡ remade
      remade-records = ap records_in e ∙ records_joined remade (made-whole (inputs_in recording))

      pub remade-place : place_of sequence read_back recording ≡ 0
      unfolding place_of
      remade-place =
          (none-differs (records_in recording) remade).1 (λ i h. ap (λ (l : List (List ℕ)). get_elem? l i) remade-records)

    -- place 0: it is
    pub place-remade : length recording % recordLength ≡ 0 → place_of sequence read_back recording ≡ 0 → recording ≡ joined remade
    unfolding place_of
    place-remade m e =
        sym (joined-split (length recording / recordLength) recording (omega arith))
        ∙ ap joined (alike (records_in recording) remade shorter ((none-differs (records_in recording) remade).0 e))
      where
        shorter : length remade ≤ length (records_in recording)
        shorter = omega (arith, not-longer (inputs_in recording) 1 cleared, length-map (records_in recording) input_in)

  -- a recording of the machine is that of the inputs recorded in it
  pub made_again : (es : List ℕ) → Inputs es → joined (made es) ≡ joined (made (inputs_in (joined (made es))))
  made_again es h =
      sym (ap joined (ap (λ (l : List (List ℕ)). made (map input_in l)) (records_joined (made es) (made-whole es)) ∙ again es 1 cleared h))
