-- NUMBERS: no call gives a number that the table does not have for it.
use Prim.Native.Nat.{ℕ, ◌+◌, ◌≤◌, ◌<◌}
use native.Mathlib.Omega.{arith}
use native.Mathlib.Decide.{ℕ_discrete, dec_lt}
use mathlib.Core.Path.{◌≡◌, refl, sym, ap, ◌∙◌, subst}
use mathlib.Core.Logic.{◌≢◌, ⊎_elim}
use mathlib.Core.Bool.{Bool, true, false, cond}
use mathlib.Core.Option.{Option, some, none}
use mathlib.Core.List.{List, []}
use lib.ListN.{length}
use lib.Dec.{eqb, leb}
use Rattle.spec_base.specs.Limits.{signal_count, max_unknown, shared_ceiling, bay_count}
use Rattle.spec_base.specs.Sets.{difference, members_from}
use Rattle.spec_language.specs.Ceiling.{ceiling}
use Rattle.spec_sequence.specs.Program.{program}
use Rattle.spec_sequence.specs.Rows.{Row}
use Rattle.spec_sequence.specs.Check.{Checked, sound, bad, checked, check_of}
use Rattle.theory_sequence.proofs.Rows.{Decides, decided, check_by_rows}
use Rattle.spec_tick.specs.StateRecord.{phase_in, labels_in}
use Rattle.spec_tick.specs.Record.{recordLength}
use Rattle.spec_tick.specs.Recording.{blank}
use Rattle.spec_tick.specs.Tick as Tick
use Rattle.spec_tick.specs.Tick.{Reply, tick_of}
use Rattle.spec_tick.specs.TickRows.{TickRow, row_1, row_2_to_10, row_11, row_12}
use Rattle.spec_tick.specs.Demands as demands
use Rattle.theory_tick.proofs.Demand1.{demand_1}
use Rattle.spec_unroll.specs.Call as unrolled
use Rattle.spec_unroll.specs.Call.{unroll_of}
use Rattle.spec_unroll.specs.Rows as unrolled-rows
use Rattle.spec_unroll.specs.Rows.{UnrollRow}
use Rattle.theory_unroll.proofs.Theorems.{unroll-by-rows}
use Rattle.spec_replay.specs.Replay as replays
use Rattle.spec_replay.specs.Replay.{replay_of}
use Rattle.theory_replay.proofs.Numbers.{Verdict, refused, cut, compared, verdict}
use Rattle.spec_base.specs.Parts.{zeros}
use Rattle.numbers.proofs.Zeros.{length-zeros}
use Rattle.spec_bay.specs.Table.{lookup, Kept, kept, number_kept, save_of, forget_of}
use Rattle.box_positions.proofs.Theorems.{save_number, forget_number}
use Rattle.spec_bay.specs.Preview as fillings
use Rattle.spec_bay.specs.Preview.{Previewed, previewed, preview_length, answers_of, preview_bytes, findings, preview_of}
use Rattle.theory_bay.proofs.Numbers.{Replying, turns_down, runs, replying, other-buffer, refused-preview, shown-preview, tick-replied}
use Rattle.spec_bay.specs.Called.{Called, called, number}
use Rattle.spec_bay.specs.Stretch.{stretch_length, sequence_in, read_back_in, state_in, positions_in, Terms, filled}
use Rattle.spec_bay.specs.BayCalls.{by_check, positions_kept, restored, bay_tick_of, bay_release_of, bay_admit_of, bay_save_of, bay_forget_of, bay_restore_of, bay_service_of, bay_panel_of, bay_preview_of, bay_ledger_of, bay_new_year_of}
use Rattle.spec_box.specs.Box.{box_length, empty_box, stretch_of, present, Call, admit, release, tick, save, restore, forget, service, panel, preview, ledger, new_year, buffers, bay_call, is_for, call_of}
use Rattle.spec_box.specs.Lists.{Request, box_after}
use Rattle.spec_box.specs.Shares.{AllSendable}
use Rattle.spec_box.specs.BayRuns.{paper_buffer}
use Rattle.theory_bay.proofs.Fields.{state_sized}
use Rattle.theory_box.proofs.Ticks.{inner, Ticked, down, full, instant, ticked, like-buffer}
use Rattle.theory_box.proofs.Readers.{service_reads, panel_reads, ledger_reads}
use Rattle.theory_box.proofs.Previews.{preview-number}
use Rattle.theory_box.proofs.Standing.{Standing, sequence-held, inner-is, tick-told}
use Rattle.theory_box.proofs.Stretches.{no-bay, other-box, stretch_sized, own}
use Rattle.theory_box.proofs.Reached as reached
use Rattle.spec_calls.specs.Numbers.{CallName, intake_box_admit, intake_box_release, intake_box_tick, intake_box_save, intake_box_restore, intake_box_forget, intake_box_service, intake_box_panel, intake_box_preview, intake_box_ledger, intake_box_new_year, row_for, row_anywhere, one_of}
use Rattle.theory_calls.proofs.NumberLists.{all, is, HasRefusals, refusal_in}

-- ---- the row of a call on a box
abbrev name_of : Call → CallName
name_of (admit t) = intake_box_admit
name_of release = intake_box_release
name_of (tick e answer trace) = intake_box_tick
name_of (save name) = intake_box_save
name_of (restore name) = intake_box_restore
name_of (forget name) = intake_box_forget
name_of (service trace view) = intake_box_service
name_of (panel trace view) = intake_box_panel
name_of (preview e u buffer) = intake_box_preview
name_of (ledger totals) = intake_box_ledger
name_of new_year = intake_box_new_year

abbrev pub call_row : Call → List ℕ
call_row c = row_for (name_of c)

abbrev pub any_call_row : Call → List ℕ
any_call_row c = row_anywhere (name_of c)

-- ---- the calls that know no box
module _ (l : List ℕ) (h : HasRefusals l) where
  pub check-in : one_of 0 l ≡ true → (sequence : List ℕ) (read_back : ℕ) → one_of (check_of sequence read_back) l ≡ true
  check-in h0 sequence read_back =
      elim (ℕ_discrete (check_of sequence read_back) 0) [
        | yes e ↦ is 0 l h0 e
        | no e ↦ refusal_in l h sequence read_back (check_of sequence read_back) (((check_by_rows sequence read_back).refusal (check_of sequence read_back) e).0 refl).0
      ]

  row_in : one_of 1 l ≡ true → one_of 11 l ≡ true → one_of 12 l ≡ true → {sequence : List ℕ} {read_back : ℕ} {state answer : List ℕ} (k : ℕ)
      → TickRow sequence read_back state answer k → one_of k l ≡ true
  row_in h1 h11 h12 k (row_1 x) = h1
  row_in h1 h11 h12 {sequence} {read_back} k (row_2_to_10 r) = refusal_in l h sequence read_back k r
  row_in h1 h11 h12 k (row_11 s m) = h11
  row_in h1 h11 h12 k (row_12 e) = h12

tick_row : (sequence state : List ℕ) (e read_back : ℕ) (answer : List ℕ) → demands.number (tick_of sequence state e read_back answer) ≢ 0
    → TickRow sequence read_back state answer (demands.number (tick_of sequence state e read_back answer))
tick_row sequence state e read_back answer n =
    (((demand_1.tick_by_rows sequence state e read_back answer).refusal (demands.number (tick_of sequence state e read_back answer)) n).0 refl).0

module _ (l : List ℕ) (h : HasRefusals l) (h0 : one_of 0 l ≡ true) (h1 : one_of 1 l ≡ true) where
  pub own_in : one_of 11 l ≡ true → one_of 12 l ≡ true → (sequence state : List ℕ) (e read_back : ℕ) (answer : List ℕ)
      → one_of (demands.number (tick_of sequence state e read_back answer)) l ≡ true
  own_in h11 h12 sequence state e read_back answer =
      elim (ℕ_discrete (demands.number (tick_of sequence state e read_back answer)) 0) [
        | yes q ↦ is 0 l h0 q
        | no q ↦ row_in l h h1 h11 h12 (demands.number (tick_of sequence state e read_back answer)) (tick_row sequence state e read_back answer q)
      ]

  pub unroll-in : one_of 20 l ≡ true → one_of 21 l ≡ true → (sequence : List ℕ) (read_back : ℕ) (buffer : List ℕ)
      → one_of (unrolled.number (unroll_of sequence read_back buffer)) l ≡ true
  unroll-in h20 h21 sequence read_back buffer =
      elim (ℕ_discrete n 0) [
        | yes q ↦ is 0 l h0 q
        | no q ↦ go n (((unroll-by-rows sequence read_back buffer).refusal n q).0 refl).0
      ]
    where
      n : ℕ
      n = unrolled.number (unroll_of sequence read_back buffer)

      go : (k : ℕ) → UnrollRow sequence read_back buffer k → one_of k l ≡ true
      go k (unrolled-rows.row_1 x) = h1
      go k (unrolled-rows.row_2_to_10 r) = refusal_in l h sequence read_back k r
      go k (unrolled-rows.row_20 s p) = h20
      go k (unrolled-rows.row_21 s p) = h21

pub replay_in : (l : List ℕ) → HasRefusals l → one_of 0 l ≡ true → one_of 22 l ≡ true → (sequence : List ℕ) (read_back : ℕ) (recording : List ℕ)
    → one_of (replays.number (replay_of sequence read_back recording)) l ≡ true
replay_in l h h0 h22 sequence read_back recording = go (verdict sequence read_back recording)
  where
    go : Verdict sequence read_back recording → one_of (replays.number (replay_of sequence read_back recording)) l ≡ true
    go (refused z e) = is (check_of sequence read_back) l (check-in l h h0 sequence read_back) (ap replays.number e)
    go (cut c z e) = is 22 l h22 (ap replays.number e)
    go (compared c m e) = is 0 l h0 (ap replays.number e)

-- ---- the tick on what a bay holds that stands in a state of its sequence: 0, 1 and 12
module _ (t : Terms) (s : List ℕ) (h : Standing t s) where
  no_row : (k : ℕ) → ¬ Row (sequence_in s) (read_back_in s) k
  no_row k r =
      h.accepted.no_row k
      (subst (λ (set : ℕ). Row t.sequence set k) h.holds.set (subst (λ (bs : List ℕ). Row bs (read_back_in s) k) (sequence-held t s h) r))

  held-tick : (l : List ℕ) → one_of 0 l ≡ true → one_of 1 l ≡ true → one_of 12 l ≡ true → (e : ℕ) (answer trace : List ℕ)
      → one_of (demands.number (inner s h.holds.sized e answer trace)) l ≡ true
  held-tick l h0 h1 h12 e answer trace =
      elim (ℕ_discrete n 0) [
        | yes q ↦ is 0 l h0 q
        | no q ↦ go n refl (tick_row (sequence_in s) (state_in s) e (read_back_in s) (paper_buffer trace answer) q)
      ]
    where
      n : ℕ
      n = demands.number (inner s h.holds.sized e answer trace)

      go : (k : ℕ) → n ≡ k → TickRow (sequence_in s) (read_back_in s) (state_in s) (paper_buffer trace answer) k → one_of k l ≡ true
      go k e (row_1 x) = h1
      go k e (row_2_to_10 r) = absurd (no_row k r)
      go k q (row_11 x m) = absurd ((tick-told t s h e answer trace).not-11 (sym (ap demands.number (inner-is t s h e answer trace)) ∙ q))
      go k e (row_12 x) = h12

-- ---- a call on a slot, for a list that has its numbers
module _ (s : List ℕ) (z : length s ≡ stretch_length) (l : List ℕ) (h0 : one_of 0 l ≡ true) where
  tick-in : one_of 19 l ≡ true → (e : ℕ) (answer trace : List ℕ) → one_of (demands.number (inner s z e answer trace)) l ≡ true
      → one_of (number (bay_tick_of s e answer trace)) l ≡ true
  tick-in h19 e answer trace own_in = go (ticked s z e answer trace)
    where
      go : Ticked s z e answer trace (bay_tick_of s e answer trace) → one_of (number (bay_tick_of s e answer trace)) l ≡ true
      go (down n y d q w) = is (demands.number (inner s z e answer trace)) l own_in (ap number w ∙ sym (ap demands.number q))
      go (full q p w) = is 19 l h19 (ap number w)
      go (instant state left i j p q w) = is 0 l h0 (ap number w)

  admit-in : HasRefusals l → one_of 14 l ≡ true → (k : ℕ) (t : Terms) → one_of (number (bay_admit_of k s t)) l ≡ true
  unfolding bay_admit_of
  admit-in h h14 k t = go (checked t.sequence t.read_back) (decided t.sequence t.read_back)
    where
      room : (x y : List ℕ) (b : Bool) → one_of (number (cond b (called 0 x []) (called 14 y []))) l ≡ true
      room x y true = h0
      room x y false = h14

      go : (c : Checked) → Decides t.sequence t.read_back c → one_of (number (by_check k s t c)) l ≡ true
      go (bad n) d = refusal_in l h t.sequence t.read_back n d.0
      go (sound p) d = room (filled t (ceiling (program t.read_back p)) s) s (leb (k + ceiling (program t.read_back p)) shared_ceiling)

  kept_number : (o : Kept) → number (positions_kept s o) ≡ number_kept o
  kept_number (kept n t) = refl

  save-in : one_of 15 l ≡ true → one_of 16 l ≡ true → (name : ℕ) → one_of (number (bay_save_of s name)) l ≡ true
  unfolding bay_save_of
  save-in h15 h16 name = go (eqb (phase_in (state_in s)) 1)
    where
      o : Kept
      o = save_of name (labels_in (state_in s)) (positions_in s)

      go : (b : Bool) → one_of (number (cond b (positions_kept s (save_of name (labels_in (state_in s)) (positions_in s))) (called 15 s []))) l ≡ true
      go true =
          ⊎_elim (λ e. is 0 l h0 (kept_number o ∙ e)) (λ e. is 16 l h16 (kept_number o ∙ e)) (save_number name (labels_in (state_in s)) (positions_in s))
      go false = h15

  forget-in : one_of 15 l ≡ true → (name : ℕ) → one_of (number (bay_forget_of s name)) l ≡ true
  unfolding bay_forget_of
  forget-in h15 name =
      let o = forget_of name (positions_in s) in
      ⊎_elim (λ e. is 0 l h0 (kept_number o ∙ e)) (λ e. is 15 l h15 (kept_number o ∙ e)) (forget_number name (positions_in s))

  restore-in : one_of 15 l ≡ true → (name : ℕ) → one_of (number (bay_restore_of s name)) l ≡ true
  unfolding bay_restore_of
  restore-in h15 name = go (lookup name (positions_in s))
    where
      go : (x : Option ℕ) → one_of (number (restored s x)) l ≡ true
      go none = h15
      go (some labels) = h0

  -- 0 or 1
  low-in : one_of 1 l ≡ true → (n : ℕ) → n ≤ 1 → one_of n l ≡ true
  low-in h1 n m = elim (ℕ_discrete n 0) [ yes e ↦ is 0 l h0 e | no e ↦ is 1 l h1 (omega arith) ]

  -- 1, those of the reply, which are the tick's with buffers of their lengths, and 17
  preview-in : one_of 1 l ≡ true → one_of 17 l ≡ true
      → ((e : ℕ) → one_of (demands.number (tick_of (sequence_in s) (state_in s) e (read_back_in s) blank)) l ≡ true)
      → (e u : ℕ) (buffer : List ℕ) → one_of (number (bay_preview_of s e u buffer)) l ≡ true
  preview-in h1 h17 own_in e u buffer =
      elim (ℕ_discrete (length buffer) preview_length) [
        | yes w ↦ ap (λ (n : ℕ). one_of n l) (preview-number s e u buffer) ∙ go w (replying (sequence_in s) (state_in s) (read_back_in s))
        | no w ↦ is 1 l h1 (preview-number s e u buffer ∙ ap fillings.number (other-buffer (sequence_in s) (state_in s) (read_back_in s) e u buffer w))
      ]
    where
      given : (w : length buffer ≡ preview_length) → (b : Bool) (x : List ℕ) → one_of (fillings.number (cond b (previewed 0 x) (previewed 17 buffer))) l ≡ true
      given w true x = h0
      given w false x = h17

      go : length buffer ≡ preview_length → Replying (sequence_in s) (state_in s) (read_back_in s)
          → one_of (fillings.number (preview_of (sequence_in s) (state_in s) e u (read_back_in s) buffer)) l ≡ true
      go w (turns_down n k q) =
          let tick_is : demands.number (tick_of (sequence_in s) (state_in s) e (read_back_in s) blank) ≡ n =
          ap demands.number (tick-replied (sequence_in s) (state_in s) (read_back_in s) blank (state_sized s z) refl e ∙ ap (λ (r : Reply). Tick.replied r (state_in s) blank) (q e)) in
          is n l (sym (ap (λ (m : ℕ). one_of m l) tick_is) ∙ own_in e)
          (ap fillings.number (refused-preview (sequence_in s) (state_in s) (read_back_in s) e u buffer w n (q (difference e u))))
      go w (runs i q) =
          ap (λ (o : Previewed). one_of (fillings.number o) l)
          (shown-preview (sequence_in s) (state_in s) (read_back_in s) e u buffer w (i (difference e u)) (q (difference e u)))
          ∙ given w (leb (length (members_from signal_count 0 u)) max_unknown) (preview_bytes (findings (answers_of (sequence_in s) (state_in s) (read_back_in s)) e u))

-- ---- every call on a slot of any bytes
any_in : (k : ℕ) (s : List ℕ) → length s ≡ stretch_length → (c : Call) → one_of (number (bay_call k c s)) (any_call_row c) ≡ true
unfolding all one_of bay_release_of bay_new_year_of
any_in k s z (admit t) = admit-in s z (any_call_row (admit t)) refl refl refl k t
any_in k s z release = refl
any_in k s z (tick e answer trace) =
    let l = row_anywhere intake_box_tick in
    tick-in s z l refl refl e answer trace
    (own_in l refl refl refl refl refl (sequence_in s) (state_in s) e (read_back_in s) (paper_buffer trace answer))
any_in k s z (save name) = save-in s z (any_call_row (save name)) refl refl refl name
any_in k s z (restore name) = restore-in s z (any_call_row (restore name)) refl refl name
any_in k s z (forget name) = forget-in s z (any_call_row (forget name)) refl refl name
any_in k s z (service trace view) = low-in s z (any_call_row (service trace view)) refl refl (number (bay_service_of s trace view)) (service_reads s trace view).low
any_in k s z (panel trace view) = low-in s z (any_call_row (panel trace view)) refl refl (number (bay_panel_of s trace view)) (panel_reads s trace view).low
any_in k s z (preview e u buffer) =
    let l = row_anywhere intake_box_preview in
    preview-in s z l refl refl refl (λ e. own_in l refl refl refl refl refl (sequence_in s) (state_in s) e (read_back_in s) blank) e u buffer
any_in k s z (ledger totals) = low-in s z (any_call_row (ledger totals)) refl refl (number (bay_ledger_of s totals)) (ledger_reads s totals).low
any_in k s z new_year = refl

-- ---- and on one that calls reached
held_in : (k : ℕ) (s : List ℕ) → length s ≡ stretch_length → reached.Sound s → (c : Call) → is_for c s ≡ true → one_of (number (bay_call k c s)) (call_row c) ≡ true
unfolding all one_of bay_release_of bay_new_year_of
held_in k s z d (admit t) i = admit-in s z (call_row (admit t)) refl refl refl k t
held_in k s z d release i = refl
held_in k s z d (tick e answer trace) i =
    let f = reached.filled-bay s d i in
    tick-in s f.1.holds.sized (row_for intake_box_tick) refl refl e answer trace
    (held-tick f.0 s f.1 (row_for intake_box_tick) refl refl refl e answer trace)
held_in k s z d (save name) i = save-in s z (call_row (save name)) refl refl refl name
held_in k s z d (restore name) i = restore-in s z (call_row (restore name)) refl refl name
held_in k s z d (forget name) i = forget-in s z (call_row (forget name)) refl refl name
held_in k s z d (service trace view) i =
    low-in s z (call_row (service trace view)) refl refl (number (bay_service_of s trace view)) (service_reads s trace view).low
held_in k s z d (panel trace view) i = low-in s z (call_row (panel trace view)) refl refl (number (bay_panel_of s trace view)) (panel_reads s trace view).low
held_in k s z d (preview e u buffer) i =
    let f = reached.filled-bay s d i in
    preview-in s z (row_for intake_box_preview) refl refl refl
    (λ e.
    let trace = zeros recordLength in
    sym (ap (λ (b : List ℕ). one_of (demands.number (tick_of (sequence_in s) (state_in s) e (read_back_in s) b)) (row_for intake_box_preview))
    (like-buffer s f.1.holds.sized e blank trace (length-zeros recordLength) blank))
    ∙ held-tick f.0 s f.1 (row_for intake_box_preview) refl refl refl e blank trace)
    e u buffer
held_in k s z d (ledger totals) i = low-in s z (call_row (ledger totals)) refl refl (number (bay_ledger_of s totals)) (ledger_reads s totals).low
held_in k s z d new_year i = refl

-- ---- 13 is in every list, and 1 in every one for boxes of any bytes
thirteen_in : (c : Call) → one_of 13 (call_row c) ≡ true
unfolding one_of
thirteen_in (admit t) = refl
thirteen_in release = refl
thirteen_in (tick e answer trace) = refl
thirteen_in (save name) = refl
thirteen_in (restore name) = refl
thirteen_in (forget name) = refl
thirteen_in (service trace view) = refl
thirteen_in (panel trace view) = refl
thirteen_in (preview e u buffer) = refl
thirteen_in (ledger totals) = refl
thirteen_in new_year = refl

any_thirteen : (c : Call) → (one_of 13 (any_call_row c) ≡ true) × (one_of 1 (any_call_row c) ≡ true)
unfolding one_of
any_thirteen (admit t) = (refl, refl)
any_thirteen release = (refl, refl)
any_thirteen (tick e answer trace) = (refl, refl)
any_thirteen (save name) = (refl, refl)
any_thirteen (restore name) = (refl, refl)
any_thirteen (forget name) = (refl, refl)
any_thirteen (service trace view) = (refl, refl)
any_thirteen (panel trace view) = (refl, refl)
any_thirteen (preview e u buffer) = (refl, refl)
any_thirteen (ledger totals) = (refl, refl)
any_thirteen new_year = (refl, refl)

-- ---- a call on a box
module _ (box : List ℕ) (bay : ℕ) (c : Call) (l : List ℕ) (h13 : one_of 13 l ≡ true) where
  inside-in : bay < bay_count → length box ≡ box_length
      → (is_for c (stretch_of bay box) ≡ true → one_of (number (bay_call (present bay_count box) c (stretch_of bay box))) l ≡ true)
      → one_of (number (call_of box bay c)) l ≡ true
  inside-in b z h = ap (λ (o : Called). one_of (number o) l) (own box bay c b z) ∙ go (is_for c (stretch_of bay box)) refl
    where
      go : (f : Bool) → is_for c (stretch_of bay box) ≡ f
          → one_of (number (cond f (bay_call (present bay_count box) c (stretch_of bay box)) (called 13 (stretch_of bay box) (buffers c)))) l ≡ true
      go true i = h i
      go false i = h13

  outside-in : bay_count ≤ bay → one_of (number (call_of box bay c)) l ≡ true
  outside-in b = ap (λ (o : Called). one_of (number o) l) (no-bay box bay c b) ∙ h13

-- NUMBERS, in the boxes that calls reach from the empty one
pub numbered : (xs : List Request) → AllSendable xs → (bay : ℕ) (c : Call) → one_of (number (call_of (box_after call_of empty_box xs) bay c)) (call_row c) ≡ true
numbered xs k bay c =
    let box = box_after call_of empty_box xs in
    let h = reached.kept xs k in
    elim (dec_lt bay bay_count) [
      | yes b ↦ inside-in box bay c (call_row c) (thirteen_in c) b h.sized_box
          (held_in (present bay_count box) (stretch_of bay box) (stretch_sized box bay c b h.sized_box) (h.sound bay b) c)
      | no b ↦ outside-in box bay c (call_row c) (thirteen_in c) (omega arith)
    ]

-- and in every box, whatever its bytes
pub numbered_anywhere : (box : List ℕ) (bay : ℕ) (c : Call) → one_of (number (call_of box bay c)) (any_call_row c) ≡ true
numbered_anywhere box bay c =
    elim (dec_lt bay bay_count) [
      | yes b ↦ elim (ℕ_discrete (length box) box_length) [
        | yes z ↦ inside-in box bay c (any_call_row c) (any_thirteen c).0 b z
            (λ i. any_in (present bay_count box) (stretch_of bay box) (stretch_sized box bay c b z) c)
        | no z ↦ ap (λ (o : Called). one_of (number o) (any_call_row c)) (other-box box bay c b z) ∙ (any_thirteen c).1
      ]
      | no b ↦ outside-in box bay c (any_call_row c) (any_thirteen c).0 (omega arith)
    ]
