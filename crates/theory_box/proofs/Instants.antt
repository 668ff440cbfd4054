-- The instants of a bay from its admission on: their records, the numbers in them, and the terms that were admitted.
use Prim.Native.Nat.{ℕ, zero, suc, ◌+◌, ◌*◌, ◌≤◌, ◌<◌, min}
use native.Mathlib.Omega.{arith}
use native.Mathlib.Decide.{ℕ_discrete}
use mathlib.Core.Path.{◌≡◌, refl, sym, ap, ap₂, ◌∙◌, subst}
use mathlib.Core.Logic.{◌≢◌}
use mathlib.Core.Bool.{false, cond}
use mathlib.Core.Option.{some, none-ne-some}
use mathlib.Core.List.{List, [], ◌∷◌}
use lib.ListN.{length, get_elem?}
use lib.Dec.{eqb}
use borrow.Author.Tests.{eq-eqb, ne_eqb}
use Rattle.spec_base.specs.Limits.{number_bytes, last_number, bay_count}
use Rattle.spec_language.specs.Machines.{State}
use Rattle.spec_base.specs.Bytes.{le_bytes, le_number}
use Rattle.numbers.proofs.Bytes.{length_le_bytes, le_round_trip}
use Rattle.spec_tick.specs.StateRecord.{state_length, encode_state}
use Rattle.records.proofs.StateLaws.{length_state}
use Rattle.spec_tick.specs.Record.{recordLength, record_of, number_in, panel_length, panel_of}
use Rattle.spec_tick.specs.Recording.{following, tick_on, record_from, records_from, recording_of}
use Rattle.records.proofs.Records.{number-field}
use Rattle.records.proofs.Theorems.{following-is, panel_alike}
use Rattle.spec_base.specs.Parts.{slot, put}
use Rattle.numbers.proofs.Putting.{put-slot, slot-put, put-before, put-behind}
use Rattle.numbers.proofs.Zeros.{zeros_number}
use Rattle.spec_bay.specs.Ledgers.{ledger_length, passes, added}
use Rattle.spec_tick.specs.Tick.{Outcome, outcome, tick_of}
use Rattle.spec_tick.specs.Demands as demands
use Rattle.spec_tick.specs.Demands.{state_afterwards}
use Rattle.theory_tick.proofs.Sequence.{Accepted, accepted}
use Rattle.spec_bay.specs.Called.{Called, called, number, memory_after, lent_after, first}
use Rattle.spec_bay.specs.Stretch.{sequence_at, state_at, count_at, positions_at, bay_length, stretch_length, length_in, is_empty, sequence_in, read_back_in, service_only_in, state_in, last_number_in, ledger_in, Terms, terms}
use Rattle.spec_bay.specs.BayCalls.{delivering, bay_tick_of, bay_admit_of, bay_restore_of}
use Rattle.spec_box.specs.BayRuns.{inputs_in, Stays, NotTakenOut, Onward, Onwards, terms_in}
use Rattle.spec_box.specs.BayRuns as Runs
use Rattle.spec_box.specs.Box.{box_length, stretch_of, present, Call, admit, release, tick, save, restore, forget, service, panel, preview, ledger, new_year, bay_call, call_of}
use Rattle.spec_box.specs.Lists.{Request, after_call, box_after, calls_to}
use Rattle.spec_box.specs.Instants.{second, records_in, RecordIs, ServiceShows, PanelShows, PanelsAlike, ReaderNumbers, RecordLength}
use Rattle.spec_box.specs.Shares.{Sendable}
use Rattle.theory_bay.proofs.Fields.{Holds, behind-holds, moved_holds, filled-zeros}
use Rattle.theory_box.proofs.Moves as moves
use Rattle.theory_box.proofs.Moves.{Moved, save-moved, forget-moved, year_moved, further}
use Rattle.theory_box.proofs.Ticks.{entered, written, new-sized, length-entered, before-ledger, like-buffer, unlike-tick, Ticked, down, full, instant, ticked}
use Rattle.theory_box.proofs.Readers.{service_reads, panel_reads, ledger_reads, service_lengths, panel_lengths}
use Rattle.spec_bay.specs.Preview.{buffer_after}
use Rattle.spec_box.specs.Previews.{preview_in, PreviewShows, PreviewNumbers}
use Rattle.theory_box.proofs.Previews.{preview-stays, preview-number, preview-shown}
use Rattle.theory_box.proofs.Bays as Bays
use Rattle.theory_box.proofs.Bays.{ceiling_for, bounds, Admission, admission}
use Rattle.theory_box.proofs.Positions.{Known, unknown, known, is_known, restore-known, restore-unknown}
use Rattle.theory_box.proofs.Stretches.{result, answered-inside, refused-stretch, number-there, filled_already, stretch_sized, own, own_stretch, same_length, others_stay}
use Rattle.theory_box.proofs.BayRuns as runs
use Rattle.theory_box.proofs.Named.{answered-there, bay-answered, stretch-after}

-- ---- one instant, in any box
module _ (box : List ℕ) (bay e : ℕ) (answer trace : List ℕ) (n : number (call_of box bay (tick e answer trace)) ≡ 0) where
  abbrev c : Call
  c = tick e answer trace

  abbrev stretch : List ℕ
  stretch = stretch_of bay box

  b : bay < bay_count
  b = (answered-inside box bay c n).0

  sized_box : length box ≡ box_length
  sized_box = (answered-inside box bay c n).1

  pub z : length stretch ≡ stretch_length
  z = stretch_sized box bay c b sized_box

  pub record Instant : Type 0 where
    pub state : List ℕ
    pub answered : List ℕ
    pub sized : length state ≡ state_length
    pub below : passes (ledger_in stretch) (delivering stretch e) ≡ false
    pub told : tick_of (sequence_in stretch) (state_in stretch) e (read_back_in stretch) answer ≡ outcome 0 state answered
    pub lent : lent_after (call_of box bay c) ≡ answered ∷ record_of (following (last_number_in stretch)) e answered state ∷ []
    pub after : stretch_of bay (memory_after (call_of box bay c)) ≡ written stretch z e answer trace state

  pub instant-of : Instant
  instant-of = go (ticked stretch z e answer trace)
    where
      go : Ticked stretch z e answer trace (bay_tick_of stretch e answer trace) → Instant
      go (down m y d q w) = absurd (y (sym (ap number w) ∙ bay-answered box bay c n))
      go (full q p w) = absurd (omega (arith, ap number w, bay-answered box bay c n))
      go (instant state answered l j p q w) =
          record {
            state = state;
            answered = answered;
            sized = l;
            below = p;
            told = ap (tick_of (sequence_in stretch) (state_in stretch) e (read_back_in stretch)) (sym (like-buffer stretch z e answer trace j answer)) ∙ q;
            lent = ap lent_after (own box bay c b sized_box) ∙ ap lent_after (answered-there box bay c n).1 ∙ ap lent_after w;
            after = stretch-after box bay c n ∙ ap memory_after w;
          }

  -- the state and the number that it leaves
  module _ (state : List ℕ) (l : length state ≡ state_length) (p : passes (ledger_in stretch) (delivering stretch e) ≡ false) where
    abbrev count : List ℕ
    count = le_bytes number_bytes (following (last_number_in stretch))

    abbrev held : List ℕ
    held = entered stretch z e answer trace state

    pub written_state : state_in (written stretch z e answer trace state) ≡ state
    written_state =
        let k = length-entered stretch z e answer trace p state l in
        put-before count_at number_bytes count held (omega arith) (length_le_bytes number_bytes (following (last_number_in stretch))) state_at state_length (omega arith)
        ∙ before-ledger stretch z e answer trace p state l state_at state_length (omega arith)
        ∙ slot-put state_at state_length state stretch (omega (arith, z)) l

    pub written_count : last_number_in stretch ≤ last_number → last_number_in (written stretch z e answer trace state) ≡ following (last_number_in stretch)
    written_count h =
        let k = length-entered stretch z e answer trace p state l in
        ap le_number (slot-put count_at number_bytes count held (omega arith) (length_le_bytes number_bytes (following (last_number_in stretch))))
        ∙ le_round_trip number_bytes (following (last_number_in stretch)) (omega (arith, following-is (last_number_in stretch) h))

from_tick : (sequence : List ℕ) (read_back n : ℕ) (st : List ℕ) (e : ℕ) (es : List ℕ) (state left : List ℕ)
    → tick_on sequence read_back st e ≡ outcome 0 state left
    → records_from sequence read_back n st (e ∷ es) ≡ record_of n e left state ∷ records_from sequence read_back (following n) state es
unfolding records_from
from_tick sequence read_back n st e es state left q =
    ap (λ (o : Outcome). cond (eqb (demands.number o) 0)
    (record_from n e o ∷ records_from sequence read_back (following n) (state_afterwards o) es) []) q

-- the numbers of a list with one more record in front
at_number : (note : List ℕ) (rs : List (List ℕ)) (n : ℕ) (r : List ℕ) → number_in note ≡ min (n + 1) last_number
    → ((m : ℕ) → get_elem? rs m ≡ some r → number_in r ≡ min (n + suc (suc m)) last_number)
    → (j : ℕ) → get_elem? (note ∷ rs) j ≡ some r → number_in r ≡ min (n + suc j) last_number
at_number note rs n r e f zero w = let q : note ≡ r = cc in ap number_in (sym q) ∙ e
at_number note rs n r e f (suc j) w = f j w

first_number_lem : following 0 ≡ 1
unfolding following
first_number_lem = refl

-- ---- a bay that holds what an admission fixed, from there on
module _ (bay : ℕ) (b : bay < bay_count) (t : Terms) (a : Accepted t.sequence t.read_back) where
  pub record Here (box : List ℕ) : Type 0 where
    pub sized_box : length box ≡ box_length
    pub holds : Holds t (ceiling_for t) (stretch_of bay box)
    pub fits : last_number_in (stretch_of bay box) ≤ last_number

  pub record Over (box : List ℕ) (xs : List Request) : Type 0 where
    pub numbered : (i : ℕ) (r : List ℕ) → get_elem? (records_in call_of bay box xs) i ≡ some r
        → number_in r ≡ min (last_number_in (stretch_of bay box) + suc i) last_number
    pub recorded : Onwards call_of bay box xs
        → records_in call_of bay box xs
        ≡ records_from t.sequence t.read_back (following (last_number_in (stretch_of bay box))) (state_in (stretch_of bay box)) (inputs_in call_of bay box xs)
    pub held : Holds t (ceiling_for t) (stretch_of bay (box_after call_of box xs))

  -- what a call that is no instant of the bay leaves of its slot
  record Quiet (s s' : List ℕ) (Goes : Type 0) : Type 0 where
    pub holds : Holds t (ceiling_for t) s'
    pub count : last_number_in s' ≡ last_number_in s
    pub state : Goes → state_in s' ≡ state_in s

  onward-tail : {box : List ℕ} {x : Request} {xs : List Request} → Onwards call_of bay box (x ∷ xs)
      → (x.bay ≡ bay → Onward x.call (call_of box bay x.call)) × Onwards call_of bay (after_call call_of box x) xs
  onward-tail (Runs.Onwards.more n k) = (n, k)

  quiet-over : (box : List ℕ) → Here box → (x : Request) (xs : List Request) (Goes : Type 0)
      → Quiet (stretch_of bay box) (stretch_of bay (after_call call_of box x)) Goes
      → ((x.bay ≡ bay → Onward x.call (call_of box bay x.call)) → Goes)
      → records_in call_of bay box (x ∷ xs) ≡ records_in call_of bay (after_call call_of box x) xs
      → inputs_in call_of bay box (x ∷ xs) ≡ inputs_in call_of bay (after_call call_of box x) xs
      → (Here (after_call call_of box x) → Over (after_call call_of box x) xs) → Over box (x ∷ xs)
  unfolding box_after
  quiet-over box h x xs Goes q goes rs es f =
      let k = f (record {
        sized_box = same_length box x.bay x.call ∙ h.sized_box;
        holds = q.holds;
        fits = subst (λ (n : ℕ). n ≤ last_number) (sym q.count) h.fits;
      }) in
      record {
        numbered = λ i r w. k.numbered i r (sym (ap (λ (l : List (List ℕ)). get_elem? l i) rs) ∙ w)
            ∙ ap (λ (n : ℕ). min (n + suc i) last_number) q.count;
        recorded = λ o. let w = onward-tail o in
            rs ∙ k.recorded w.1
            ∙ ap₂ (λ (n : ℕ) (st : List ℕ). records_from t.sequence t.read_back (following n) st (inputs_in call_of bay (after_call call_of box x) xs))
            q.count (q.state (goes w.0))
            ∙ ap (records_from t.sequence t.read_back (following (last_number_in (stretch_of bay box))) (state_in (stretch_of bay box))) (sym es);
        held = k.held;
      }

  module _ (box : List ℕ) (h : Here box) where
    abbrev s : List ℕ
    s = stretch_of bay box

    there : is_empty s ≡ false
    there = ne_eqb (length_in s) 0 (λ z. omega (arith, (bounds t a).0, h.holds.long))

    same : (Goes : Type 0) {s' : List ℕ} → s' ≡ stretch_of bay box → Quiet (stretch_of bay box) s' Goes
    same Goes e =
        record { holds = subst (Holds t (ceiling_for t)) (sym e) h.holds; count = ap last_number_in e; state = λ g. ap state_in e }

    -- the positions are written
    behind : {o : Called} → Moved positions_at s o → (Goes : Type 0) → Quiet s (memory_after o) Goes
    behind {o} m Goes = go m
      where
        go : Moved positions_at s o → Quiet s (memory_after o) Goes
        go (moves.refused n d e) = same Goes (ap memory_after e)
        go (moves.stored at n bytes low high sized e) =
            let z = h.holds.sized in
            let before = put-before at n bytes s (omega arith) (sized z) in
            subst (λ (r : List ℕ). Quiet s r Goes) (sym (ap memory_after e))
            (record {
              holds = behind-holds t (ceiling_for t) (bounds t a).1 s h.holds at n bytes (omega arith) high (sized z);
              count = ap le_number (before count_at number_bytes (omega arith));
              state = λ g. before state_at state_length (omega arith);
            })

    -- coming back to a position
    returns : (name : ℕ) → Quiet s (memory_after (bay_restore_of s name)) (number (bay_restore_of s name) ≢ 0)
    returns name = go (is_known s name)
      where
        go : Known s name → Quiet s (memory_after (bay_restore_of s name)) (number (bay_restore_of s name) ≢ 0)
        go (unknown e) = same (number (bay_restore_of s name) ≢ 0) (ap memory_after (restore-unknown s name e))
        go (known labels e) =
            let z = h.holds.sized in
            let bytes : List ℕ = encode_state (State.waits labels) in
            let l = length_state (State.waits labels) in
            let w = restore-known s name labels e in
            subst (λ (r : List ℕ). Quiet s r (number (bay_restore_of s name) ≢ 0)) (sym (ap memory_after w))
            (record {
              holds = moved_holds t (ceiling_for t) (bounds t a).1 s h.holds bytes l;
              count = ap le_number (put-behind state_at state_length bytes s (omega arith) l count_at number_bytes (omega arith));
              state = λ g. absurd (g (ap number w));
            })

    sequence-is : sequence_in s ≡ t.sequence
    sequence-is = ap (λ (n : ℕ). slot sequence_at n s) h.holds.long ∙ h.holds.bytes

    -- an instant
    instant-over : (e : ℕ) (answer trace : List ℕ) (n : number (call_of box bay (tick e answer trace)) ≡ 0) (xs : List Request)
        → (Here (memory_after (call_of box bay (tick e answer trace))) → Over (memory_after (call_of box bay (tick e answer trace))) xs)
        → Over box (record { bay = bay; call = tick e answer trace } ∷ xs)
    unfolding box_after calls_to
    instant-over e answer trace n xs f =
        let i = instant-of box bay e answer trace n in
        let l : length (le_bytes number_bytes (following (last_number_in s))) ≡ number_bytes = length_le_bytes number_bytes (following (last_number_in s)) in
        let after : List ℕ = memory_after (call_of box bay (tick e answer trace)) in
        let c : last_number_in (stretch_of bay after) ≡ following (last_number_in s) =
        ap last_number_in i.after ∙ written_count box bay e answer trace n i.state i.sized i.below h.fits in
        let st : state_in (stretch_of bay after) ≡ i.state =
        ap state_in i.after ∙ written_state box bay e answer trace n i.state i.sized i.below in
        let p = moved_holds t (ceiling_for t) (bounds t a).1 s h.holds i.state i.sized in
        let p' = behind-holds t (ceiling_for t) (bounds t a).1 (put state_at state_length i.state s) p bay_length ledger_length
        (added (delivering s e) (ledger_in s)) (omega arith) (omega arith) (new-sized s h.holds.sized e answer trace i.below i.state i.sized) in
        let up = following-is (last_number_in s) h.fits in
        let k = f (record {
          sized_box = same_length box bay (tick e answer trace) ∙ h.sized_box;
          holds = subst (Holds t (ceiling_for t)) (sym i.after)
              (behind-holds t (ceiling_for t) (bounds t a).1 (entered s h.holds.sized e answer trace i.state) p' count_at number_bytes
              (le_bytes number_bytes (following (last_number_in s))) (omega arith) (omega arith) l);
          fits = omega (arith, c, up);
        }) in
        let note : List ℕ = record_of (following (last_number_in s)) e i.answered i.state in
        let rs : records_in call_of bay box (record { bay = bay; call = tick e answer trace } ∷ xs) ≡ note ∷ records_in call_of bay after xs =
        rw (eq-eqb bay bay refl, eq-eqb (number (call_of box bay (tick e answer trace))) 0 n)
        (ap (λ (b : List (List ℕ)). second b ∷ records_in call_of bay after xs) i.lent) in
        let es : inputs_in call_of bay box (record { bay = bay; call = tick e answer trace } ∷ xs) ≡ e ∷ inputs_in call_of bay after xs =
        rw (eq-eqb bay bay refl, eq-eqb (number (call_of box bay (tick e answer trace))) 0 n) in
        let told : tick_of t.sequence (state_in s) e t.read_back answer ≡ outcome 0 i.state i.answered =
        ap₂ (λ (q : List ℕ) (r : ℕ). tick_of q (state_in s) e r answer) (sym sequence-is) (sym h.holds.set) ∙ i.told in
        record {
          numbered = λ j r w. at_number note (records_in call_of bay after xs) (last_number_in s) r
              (number-field (following (last_number_in s)) e i.answered i.state (omega (arith, up)) ∙ up)
              (λ m v. k.numbered m r v ∙ (let q : min (last_number_in (stretch_of bay after) + suc m) last_number ≡ min (last_number_in s + suc (suc m)) last_number =
              omega (arith, c, up, h.fits) in q))
              j (sym (ap (λ (l : List (List ℕ)). get_elem? l j) rs) ∙ w);
          recorded = λ o. rs ∙ ap (λ (l : List (List ℕ)). note ∷ l)
              (k.recorded (onward-tail o).1
              ∙ ap₂ (λ (m : ℕ) (r : List ℕ). records_from t.sequence t.read_back (following m) r (inputs_in call_of bay after xs)) c st)
              ∙ sym (from_tick t.sequence t.read_back (following (last_number_in s)) (state_in s) e (inputs_in call_of bay after xs) i.state i.answered
              (runs.blank_alike t.sequence (state_in s) e t.read_back answer (ap demands.number told) ∙ told))
              ∙ ap (records_from t.sequence t.read_back (following (last_number_in s)) (state_in s)) (sym es);
          held = k.held;
        }

    own-over : (c : Call) (xs : List Request) → Stays c (call_of box bay c)
        → (Here (memory_after (call_of box bay c)) → Over (memory_after (call_of box bay c)) xs) → Over box (record { bay = bay; call = c } ∷ xs)
    unfolding calls_to
    own-over (admit t') xs n f =
        quiet-over box h (record { bay = bay; call = admit t' }) xs (Unit {0}) (same (Unit {0}) (refused-stretch box bay (admit t') (filled_already box bay b h.sized_box there t'))) (λ g. tt)
        (rw (eq-eqb bay bay refl)) (rw (eq-eqb bay bay refl)) f
    own-over release xs n f =
        quiet-over box h (record { bay = bay; call = release }) xs (Unit {0}) (same (Unit {0}) (refused-stretch box bay release (n refl))) (λ g. tt)
        (rw (eq-eqb bay bay refl)) (rw (eq-eqb bay bay refl)) f
    own-over (tick e answer trace) xs n f =
        elim (ℕ_discrete (number (call_of box bay (tick e answer trace))) 0) [
          | yes y ↦ instant-over e answer trace y xs f
          | no y ↦ quiet-over box h (record { bay = bay; call = tick e answer trace }) xs (Unit {0})
              (same (Unit {0}) (refused-stretch box bay (tick e answer trace) y)) (λ g. tt)
              (rw (eq-eqb bay bay refl, ne_eqb (number (call_of box bay (tick e answer trace))) 0 y))
              (rw (eq-eqb bay bay refl, ne_eqb (number (call_of box bay (tick e answer trace))) 0 y)) f
        ]
    own-over (save name) xs n f =
        quiet-over box h (record { bay = bay; call = save name }) xs (Unit {0})
        (subst (λ (r : List ℕ). Quiet s r (Unit {0})) (sym (own_stretch box bay (save name) b h.sized_box))
        (rw there (behind (save-moved s name) (Unit {0})))) (λ g. tt)
        (rw (eq-eqb bay bay refl)) (rw (eq-eqb bay bay refl)) f
    own-over (restore name) xs n f =
        let is : result box bay (restore name) ≡ bay_restore_of s name = rw there in
        let number_is = ap number (own box bay (restore name) b h.sized_box) ∙ ap number is in
        quiet-over box h (record { bay = bay; call = restore name }) xs (number (bay_restore_of s name) ≢ 0)
        (subst (λ (r : List ℕ). Quiet s r (number (bay_restore_of s name) ≢ 0))
        (sym (own_stretch box bay (restore name) b h.sized_box ∙ ap memory_after is)) (returns name))
        (λ g w. (g refl).1 name refl (number_is ∙ w))
        (rw (eq-eqb bay bay refl)) (rw (eq-eqb bay bay refl)) f
    own-over (forget name) xs n f =
        quiet-over box h (record { bay = bay; call = forget name }) xs (Unit {0})
        (subst (λ (r : List ℕ). Quiet s r (Unit {0})) (sym (own_stretch box bay (forget name) b h.sized_box))
        (rw there (behind (forget-moved s name) (Unit {0})))) (λ g. tt)
        (rw (eq-eqb bay bay refl)) (rw (eq-eqb bay bay refl)) f
    own-over (service trace view) xs n f =
        quiet-over box h (record { bay = bay; call = service trace view }) xs (Unit {0})
        (same (Unit {0}) (own_stretch box bay (service trace view) b h.sized_box ∙ rw there (service_reads s trace view).left)) (λ g. tt)
        (rw (eq-eqb bay bay refl)) (rw (eq-eqb bay bay refl)) f
    own-over (panel trace view) xs n f =
        quiet-over box h (record { bay = bay; call = panel trace view }) xs (Unit {0})
        (same (Unit {0}) (own_stretch box bay (panel trace view) b h.sized_box ∙ rw there (panel_reads s trace view).left)) (λ g. tt)
        (rw (eq-eqb bay bay refl)) (rw (eq-eqb bay bay refl)) f
    own-over (preview e u buffer) xs n f =
        quiet-over box h (record { bay = bay; call = preview e u buffer }) xs (Unit {0})
        (same (Unit {0}) (own_stretch box bay (preview e u buffer) b h.sized_box ∙ rw there (preview-stays s e u buffer))) (λ g. tt)
        (rw (eq-eqb bay bay refl)) (rw (eq-eqb bay bay refl)) f
    own-over (ledger totals) xs n f =
        quiet-over box h (record { bay = bay; call = ledger totals }) xs (Unit {0})
        (same (Unit {0}) (own_stretch box bay (ledger totals) b h.sized_box ∙ (ledger_reads s totals).left)) (λ g. tt)
        (rw (eq-eqb bay bay refl)) (rw (eq-eqb bay bay refl)) f
    own-over new_year xs n f =
        quiet-over box h (record { bay = bay; call = new_year }) xs (Unit {0})
        (subst (λ (r : List ℕ). Quiet s r (Unit {0})) (sym (own_stretch box bay new_year b h.sized_box))
        (behind (further (omega arith) (year_moved s)) (Unit {0}))) (λ g. tt)
        (rw (eq-eqb bay bay refl)) (rw (eq-eqb bay bay refl)) f

  pub over : (box : List ℕ) → Here box → (xs : List Request) → NotTakenOut call_of bay box xs → Over box xs
  unfolding calls_to records_from box_after
  over box h [] Runs.NotTakenOut.done = record { numbered = λ i r w. absurd (none-ne-some r w); recorded = λ o. refl; held = h.holds }
  over box h (x ∷ xs) (Runs.NotTakenOut.more n k) =
      elim (ℕ_discrete x.bay bay) [
        | yes q ↦ subst (λ (j : ℕ). Over box (record { bay = j; call = x.call } ∷ xs)) (sym q)
            (own-over box h x.call xs (n q)
            (λ i. over (memory_after (call_of box bay x.call)) i xs
            (subst (λ (j : ℕ). NotTakenOut call_of bay (memory_after (call_of box j x.call)) xs) q k)))
        | no q ↦ quiet-over box h x xs (Unit {0})
            (same box h (Unit {0}) (others_stay box x.bay x.call bay (λ y. q (sym y)) b)) (λ g. tt)
            (rw (ne_eqb x.bay bay q)) (rw (ne_eqb x.bay bay q)) (λ i. over (after_call call_of box x) i xs k)
      ]

  -- a list that goes onward does not take the bay out
  pub not_taken : (box : List ℕ) (xs : List Request) → Onwards call_of bay box xs → NotTakenOut call_of bay box xs
  not_taken box [] Runs.Onwards.done = Runs.NotTakenOut.done
  not_taken box (x ∷ xs) (Runs.Onwards.more n k) = Runs.NotTakenOut.more (λ q. (n q).0) (not_taken (after_call call_of box x) xs k)

-- ---- from an admission on
module _ (box : List ℕ) (bay : ℕ) (t : Terms) (small : Sendable (admit t)) (admitted : number (call_of box bay (admit t)) ≡ 0) where
  abbrev from : List ℕ
  from = memory_after (call_of box bay (admit t))

  none_yet : last_number_in (stretch_of bay from) ≡ 0
  none_yet =
      ap last_number_in (stretch-after box bay (admit t) admitted)
      ∙ go (admission (present bay_count box) (stretch_of bay box) t)
    where
      k : ℕ
      k = present bay_count box

      r : List ℕ
      r = stretch_of bay box

      sized : length r ≡ stretch_length
      sized =
          let i = answered-inside box bay (admit t) admitted in stretch_sized box bay (admit t) i.0 i.1

      go : Admission (present bay_count box) (stretch_of bay box) t (bay_admit_of (present bay_count box) (stretch_of bay box) t)
          → last_number_in (memory_after (bay_admit_of (present bay_count box) (stretch_of bay box) t)) ≡ 0
      go (Bays.turned_down n y e) = absurd (y (sym (ap number e) ∙ bay-answered box bay (admit t) admitted))
      go (Bays.admits c room e) =
          ap (λ (o : Called). last_number_in (memory_after o)) e
          ∙ ap le_number (filled-zeros t (ceiling_for t) r sized (bounds t (accepted t.sequence t.read_back c)).1 count_at number_bytes
          (omega arith) (omega arith))
          ∙ zeros_number number_bytes

  pub here : Here bay (runs.is-bay box bay t small admitted) t (runs.begun box bay t small admitted).here.1.accepted from
  here =
      let g = (runs.begun box bay t small admitted).here in
      record { sized_box = g.0; holds = g.1.holds; fits = omega (arith, none_yet) }

  module _ (xs : List Request) where
    from-here : NotTakenOut call_of bay from xs
        → Over bay (runs.is-bay box bay t small admitted) t (runs.begun box bay t small admitted).here.1.accepted from xs
    from-here = over bay (runs.is-bay box bay t small admitted) t (runs.begun box bay t small admitted).here.1.accepted from here xs

    pub numbered_from_one : NotTakenOut call_of bay from xs → (i : ℕ) (r : List ℕ) → get_elem? (records_in call_of bay from xs) i ≡ some r
        → number_in r ≡ min (i + 1) last_number
    numbered_from_one k i r w =
        let q : min (last_number_in (stretch_of bay from) + suc i) last_number ≡ min (i + 1) last_number = omega (arith, none_yet) in
        (from-here k).numbered i r w ∙ q

    pub terms_fixed : NotTakenOut call_of bay from xs → terms_in (stretch_of bay (box_after call_of from xs)) ≡ t
    terms_fixed k =
        let s : List ℕ = stretch_of bay (box_after call_of from xs) in
        let h = (from-here k).held in
        ap₂ (λ (sequence : List ℕ) (read_back : ℕ). terms sequence read_back (service_only_in s))
        (ap (λ (n : ℕ). slot sequence_at n s) h.long ∙ h.bytes) h.set
        ∙ ap (terms t.sequence t.read_back) h.service

    pub records-are : Onwards call_of bay from xs → records_in call_of bay from xs ≡ recording_of t.sequence t.read_back (inputs_in call_of bay from xs)
    records-are k =
        let a = (runs.begun box bay t small admitted).here.1.accepted in
        (from-here (not_taken bay (runs.is-bay box bay t small admitted) t a from xs k)).recorded k
        ∙ ap₂ (λ (n : ℕ) (st : List ℕ). records_from t.sequence t.read_back n st (inputs_in call_of bay from xs))
        (ap following none_yet ∙ first_number_lem) (runs.begun box bay t small admitted).fresh

-- ---- the record of an instant, in every box
pub record_is : RecordIs call_of
record_is box bay e answer trace n =
    let i = instant-of box bay e answer trace n in
    let st = ap state_in i.after ∙ written_state box bay e answer trace n i.state i.sized i.below in (
      ap second i.lent
          ∙ ap₂ (record_of (following (last_number_in (stretch_of bay box))) e) (sym (ap first i.lent)) (sym st),
      λ h. ap last_number_in i.after ∙ written_count box bay e answer trace n i.state i.sized i.below h,
    )

-- ---- the readers
pub shown_in : (box : List ℕ) (bay : ℕ) (c : Call) (shown : List ℕ) → number (call_of box bay c) ≡ 0
    → (number (bay_call (present bay_count box) c (stretch_of bay box)) ≡ 0
    → bay_call (present bay_count box) c (stretch_of bay box) ≡ called 0 (stretch_of bay box) (shown ∷ []))
    → call_of box bay c ≡ called 0 box (shown ∷ [])
shown_in box bay c shown n shows =
    let i = answered-inside box bay c n in
    own box bay c i.0 i.1
    ∙ ap (λ (o : Called). called (number o) (put (bay * stretch_length) stretch_length (memory_after o) box) (lent_after o))
    ((answered-there box bay c n).1 ∙ shows (bay-answered box bay c n))
    ∙ ap (λ (r : List ℕ). called 0 r (shown ∷ [])) (put-slot (bay * stretch_length) stretch_length box)

pub service_shows : ServiceShows call_of
service_shows box bay trace view n =
    shown_in box bay (service trace view) trace n (service_reads (stretch_of bay box) trace view).shows

pub panel_shows : PanelShows call_of
panel_shows box bay trace view n =
    shown_in box bay (panel trace view) (panel_of (service_only_in (stretch_of bay box)) trace) n (panel_reads (stretch_of bay box) trace view).shows

pub panels_alike : PanelsAlike call_of
panels_alike box bay r s view view' i j n m =
    let x : lent_after (call_of box bay (panel r view)) ≡ panel_of (service_only_in (stretch_of bay box)) r ∷ [] =
    ap lent_after (panel_shows box bay r view n) in
    let y : lent_after (call_of box bay (panel s view')) ≡ panel_of (service_only_in (stretch_of bay box)) s ∷ [] =
    ap lent_after (panel_shows box bay s view' m) in
    let k = panel_alike (service_only_in (stretch_of bay box)) r s i j in (
      λ h. k.0 (ap first (sym x ∙ h ∙ y)),
      λ h. x ∙ ap (λ (b : List ℕ). b ∷ []) (k.1 h) ∙ sym y,
    )

-- ---- the numbers by the lengths
pub service_numbers : ReaderNumbers call_of service recordLength
service_numbers box z bay b f trace view =
    let e = number-there box bay (service trace view) b z (rw (ne_eqb (length_in (stretch_of bay box)) 0 f)) in
    let k = service_lengths (stretch_of bay box) trace view in
    ((λ n. k.0.0 (sym e ∙ n), λ n. e ∙ k.0.1 n), λ n. e ∙ k.1 (λ y. n (e ∙ y)))

pub panel_numbers : ReaderNumbers call_of panel panel_length
panel_numbers box z bay b f trace view =
    let e = number-there box bay (panel trace view) b z (rw (ne_eqb (length_in (stretch_of bay box)) 0 f)) in
    let k = panel_lengths (stretch_of bay box) trace view in
    ((λ n. k.0.0 (sym e ∙ n), λ n. e ∙ k.0.1 n), λ n. e ∙ k.1 (λ y. n (e ∙ y)))

pub record_length : RecordLength call_of
record_length box z bay b f e answer trace n =
    number-there box bay (tick e answer trace) b z (rw (ne_eqb (length_in (stretch_of bay box)) 0 f))
    ∙ ap number (unlike-tick (stretch_of bay box) (stretch_sized box bay (tick e answer trace) b z) e answer trace n)

-- ---- a preview
pub preview_shows : PreviewShows call_of
preview_shows box bay e u buffer n =
    shown_in box bay (preview e u buffer) (buffer_after (preview_in (stretch_of bay box) e u buffer)) n
    (preview-shown (stretch_of bay box) e u buffer)

pub preview_numbers : PreviewNumbers call_of
preview_numbers box z bay b f e u buffer =
    number-there box bay (preview e u buffer) b z (rw (ne_eqb (length_in (stretch_of bay box)) 0 f))
    ∙ preview-number (stretch_of bay box) e u buffer
