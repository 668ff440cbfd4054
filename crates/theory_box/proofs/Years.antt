-- The year's ledgers over every list of calls (02, item 12): what each call makes of the ledger of its bay number, so that a farm's
-- total is the sum of what the instants delivered to it since the last new year; and the numbers of the ledger's calls and 19.
use Prim.Native.Nat.{ℕ, zero, suc, ◌+◌, ◌≤◌, ◌<◌}
use native.Mathlib.Omega.{arith}
use native.Mathlib.Decide.{ℕ_discrete, dec_lt}
use mathlib.Core.Path.{◌≡◌, refl, sym, ap, ◌∙◌, subst}
use mathlib.Core.Logic.{◌≢◌, ◌↔◌}
use mathlib.Core.Bool.{Bool, true, false, ◌||◌, cond, true≢false}
use mathlib.Core.Option.{Option, some, none}
use mathlib.Core.List.{List, [], ◌∷◌}
use lib.ListN.{length}
use lib.Dec.{eqb, ltb}
use borrow.Author.Tests.{eq-eqb, ne_eqb, ltb-true}
use Rattle.spec_base.specs.Limits.{number_bytes, litres_limit, farm_count, bay_count}
use Rattle.spec_base.specs.Bytes.{le_bytes}
use Rattle.numbers.proofs.Bytes.{length_le_bytes}
use Rattle.spec_tick.specs.StateRecord.{state_length, state_record, phase_in, labels_in}
use Rattle.records.proofs.StateLaws.{state_sized}
use Rattle.spec_base.specs.Parts.{put, zeros}
use Rattle.numbers.proofs.Putting.{slot-put, put-behind}
use Rattle.numbers.proofs.Zeros.{slot-zeros}
use Rattle.spec_bay.specs.Table.{table_length, lookup, Kept, kept, table_kept, save_of, forget_of}
use Rattle.box_positions.proofs.TableLaws.{save-sized, forget-sized}
use Rattle.spec_base.specs.WholeLitres.{Near}
use Rattle.spec_bay.specs.Ledgers.{ledger_length, exact_total, reading_of, total_read, total_in, Exact, cleared, would_pass, passes, added}
use Rattle.box_ledgers.proofs.Totals.{passes-not}
use Rattle.box_ledgers.proofs.Theorems.{added-total, added-stays-exact, total_most, reading_total, reading_within, cleared_total, cleared-exact, cleared_sized, cleared-is}
use Rattle.spec_tick.specs.Demands as demands
use Rattle.theory_tick.proofs.Sequence.{accepted}
use Rattle.spec_bay.specs.Called.{Called, called, number, memory_after}
use Rattle.spec_bay.specs.Stretch.{state_at, count_at, positions_at, bay_length, stretch_length, length_in, state_in, positions_in, ledger_in}
use Rattle.spec_bay.specs.BayCalls.{positions_kept, restored, delivering, bay_tick_of, bay_release_of, bay_admit_of, bay_save_of, bay_forget_of, bay_restore_of, bay_new_year_of}
use Rattle.spec_box.specs.Box.{box_length, empty_box, stretch_of, present, Call, admit, release, tick, save, restore, forget, service, panel, preview, ledger, new_year, on_tick, on_new_year, bay_call, is_for, call_of}
use Rattle.spec_box.specs.Lists.{Request, after_call, box_after, calls_to}
use Rattle.spec_box.specs.BayRuns.{tick_litres}
use Rattle.spec_box.specs.Years.{delivered_after, delivered_since, SameYear, done, more, sum_of, TotalsExact, LedgerShows, YearBegins, LedgerNumbers, own_number, WouldPass, Nineteen, PreviewsNeverNineteen}
use Rattle.theory_bay.proofs.Fields.{ledger_sized, vacated_behind, filled-behind}
use Rattle.theory_box.proofs.Moves.{positions_sized}
use Rattle.theory_box.proofs.Ticks.{next, entered, length-stepped, length-entered, new-sized, Ticked, down, full, instant, ticked, tick-number}
use Rattle.theory_box.proofs.Readers.{service_reads, panel_reads, ledger_reads, ledger_lengths}
use Rattle.theory_box.proofs.Previews.{preview-stays, preview-not}
use Rattle.theory_box.proofs.Bays.{ceiling_for, bounds, Admission, turned_down, admits, admission}
use Rattle.theory_box.proofs.Stretches.{refused-stretch, number-there, stretch_sized, own, no-bay, other-box, same_length, others_stay}
use Rattle.theory_box.proofs.Reached.{empty_stretch_lem, kept_empty}
use Rattle.theory_box.proofs.Named.{bay-answered, stretch-after, own-call, own_turn}
use Rattle.theory_box.proofs.Instants.{shown_in}

-- ---- what a call answered 0 makes of the ledger
abbrev pub ledger_by : Call → List ℕ → List ℕ
ledger_by c s = on_tick (on_new_year (ledger_in s) cleared c) (λ e answer trace. added (delivering s e) (ledger_in s)) c

module _ (k : ℕ) (s : List ℕ) (z : length s ≡ stretch_length) where
  -- something is written before it
  before : (at n : ℕ) (bytes : List ℕ) → at + n ≤ bay_length → length bytes ≡ n → ledger_in (put at n bytes s) ≡ ledger_in s
  before at n bytes l sized = put-behind at n bytes s (omega arith) sized bay_length ledger_length l

  table_before : (o : Kept) → length (table_kept o) ≡ table_length → ledger_in (memory_after (positions_kept s o)) ≡ ledger_in s
  table_before (kept n t) sized = before positions_at table_length t (omega arith) sized

  record Grown (e : ℕ) (after : List ℕ) : Type 0 where
    pub below : passes (ledger_in s) (delivering s e) ≡ false
    pub grown : ledger_in after ≡ added (delivering s e) (ledger_in s)

  tick-grows : (e : ℕ) (answer trace : List ℕ) → number (bay_tick_of s e answer trace) ≡ 0 → Grown e (memory_after (bay_tick_of s e answer trace))
  tick-grows e answer trace n = go (ticked s z e answer trace)
    where
      go : Ticked s z e answer trace (bay_tick_of s e answer trace) → Grown e (memory_after (bay_tick_of s e answer trace))
      go (down m y d q w) = absurd (y (sym (ap number w) ∙ n))
      go (full q p w) = absurd (omega (arith, ap number w))
      go (instant state left l j p q w) =
          let x = delivering s e in
          let i = length-stepped s z e answer trace state l in
          let h = length-entered s z e answer trace p state l in
          let count = next s z e answer trace in
          record {
            below = p;
            grown = ap (λ (o : Called). ledger_in (memory_after o)) w
                ∙ put-behind count_at number_bytes (le_bytes number_bytes count) (entered s z e answer trace state) (omega arith) (length_le_bytes number_bytes count)
                bay_length ledger_length (omega arith)
                ∙ slot-put bay_length ledger_length (added x (ledger_in s)) (put state_at state_length state s) (omega arith)
                (new-sized s z e answer trace p state l);
          }

  pub ledger-after : (c : Call) → number (bay_call k c s) ≡ 0 → ledger_in (memory_after (bay_call k c s)) ≡ ledger_by c s
  unfolding bay_release_of bay_save_of bay_restore_of bay_forget_of bay_new_year_of
  ledger-after (admit t) n = go (admission k s t)
    where
      go : Admission k s t (bay_admit_of k s t) → ledger_in (memory_after (bay_admit_of k s t)) ≡ ledger_in s
      go (turned_down m y e) = ap (λ (o : Called). ledger_in (memory_after o)) e
      go (admits c r e) =
          ap (λ (o : Called). ledger_in (memory_after o)) e
          ∙ filled-behind t (ceiling_for t) s z (bounds t (accepted t.sequence t.read_back c)).1 bay_length ledger_length (omega arith)
  ledger-after release n = vacated_behind bay_length ledger_length s z (omega arith)
  ledger-after (tick e answer trace) n = (tick-grows e answer trace n).grown
  ledger-after (save name) n = go (eqb (phase_in (state_in s)) 1)
    where
      go : (b : Bool) → ledger_in (memory_after (cond b (positions_kept s (save_of name (labels_in (state_in s)) (positions_in s))) (called 15 s []))) ≡ ledger_in s
      go true = table_before (save_of name (labels_in (state_in s)) (positions_in s)) (save-sized name (labels_in (state_in s)) (positions_in s) (positions_sized s z))
      go false = refl
  ledger-after (restore name) n = go (lookup name (positions_in s))
    where
      go : (l : Option ℕ) → ledger_in (memory_after (restored s l)) ≡ ledger_in s
      go none = refl
      go (some labels) = before state_at state_length (state_record 1 labels) (omega arith) (state_sized 1 labels)
  ledger-after (forget name) n = table_before (forget_of name (positions_in s)) (forget-sized name (positions_in s) (positions_sized s z))
  ledger-after (service trace view) n = ap ledger_in (service_reads s trace view).left
  ledger-after (panel trace view) n = ap ledger_in (panel_reads s trace view).left
  ledger-after (preview e u buffer) n = ap ledger_in (preview-stays s e u buffer)
  ledger-after (ledger totals) n = ap ledger_in (ledger_reads s totals).left
  ledger-after new_year n = slot-put bay_length ledger_length cleared s (omega arith) cleared_sized

  -- a farm's total in it
  pub total-by : (f : ℕ) → f < farm_count → (c : Call) → number (bay_call k c s) ≡ 0 → total_in f (ledger_by c s) ≡ delivered_after f c s (total_in f (ledger_in s))
  total-by f l (admit t) n = refl
  total-by f l release n = refl
  total-by f l (tick e answer trace) n = added-total (delivering s e) (ledger_in s) (ledger_sized s z) (tick-grows e answer trace n).below f l
  total-by f l (save name) n = refl
  total-by f l (restore name) n = refl
  total-by f l (forget name) n = refl
  total-by f l (service trace view) n = refl
  total-by f l (panel trace view) n = refl
  total-by f l (preview e u buffer) n = refl
  total-by f l (ledger totals) n = refl
  total-by f l new_year n = cleared_total f l

  exact-by : (c : Call) → number (bay_call k c s) ≡ 0 → Exact (ledger_in s) → Exact (ledger_by c s)
  exact-by (admit t) n x = x
  exact-by release n x = x
  exact-by (tick e answer trace) n x = added-stays-exact (delivering s e) (ledger_in s) (ledger_sized s z) (tick-grows e answer trace n).below x
  exact-by (save name) n x = x
  exact-by (restore name) n x = x
  exact-by (forget name) n x = x
  exact-by (service trace view) n x = x
  exact-by (panel trace view) n x = x
  exact-by (preview e u buffer) n x = x
  exact-by (ledger totals) n x = x
  exact-by new_year n x = cleared-exact

-- bytes 00 are a cleared ledger
zeros-cleared : zeros ledger_length ≡ cleared
unfolding zeros le_bytes
zeros-cleared = sym cleared-is

-- ---- over lists
module _ (bay : ℕ) (b : bay < bay_count) where
  abbrev held : List ℕ → List ℕ
  held box = ledger_in (stretch_of bay box)

  -- a call to the bay answered 0
  held_after : (box : List ℕ) → length box ≡ box_length → (c : Call) → number (call_of box bay c) ≡ 0
      → held (memory_after (call_of box bay c)) ≡ ledger_by c (stretch_of bay box)
  held_after box z c n =
      ap ledger_in (stretch-after box bay c n)
      ∙ ledger-after (present bay_count box) (stretch_of bay box) (stretch_sized box bay c b z) c (bay-answered box bay c n)

  module _ (f : ℕ) (l : f < farm_count) where
    own-step : (box : List ℕ) → length box ≡ box_length → (c : Call) (sum : ℕ) → total_in f (held box) ≡ sum → (xs : List Request)
        → ((sum' : ℕ) → total_in f (held (memory_after (call_of box bay c))) ≡ sum'
        → total_in f (held (box_after call_of (memory_after (call_of box bay c)) xs)) ≡ delivered_since call_of bay f (memory_after (call_of box bay c)) sum' xs)
        → total_in f (held (box_after call_of box (record { bay = bay; call = c } ∷ xs)))
        ≡ delivered_since call_of bay f box sum (record { bay = bay; call = c } ∷ xs)
    unfolding box_after delivered_since
    own-step box z c sum e xs r =
        let s = stretch_of bay box in
        elim (ℕ_discrete (number (call_of box bay c)) 0) [
          | yes n ↦ rw (own_turn, eq-eqb (number (call_of box bay c)) 0 n)
              (r (delivered_after f c s sum)
              (ap (total_in f) (held_after box z c n)
              ∙ total-by (present bay_count box) s (stretch_sized box bay c b z) f l c (bay-answered box bay c n)
              ∙ ap (delivered_after f c s) e))
          | no n ↦ rw (own_turn, ne_eqb (number (call_of box bay c)) 0 n)
              (r sum (ap (λ (s : List ℕ). total_in f (ledger_in s)) (refused-stretch box bay c n) ∙ e))
        ]

    pub total-since : (box : List ℕ) → length box ≡ box_length → (sum : ℕ) → total_in f (held box) ≡ sum → (xs : List Request)
        → total_in f (held (box_after call_of box xs)) ≡ delivered_since call_of bay f box sum xs
    unfolding box_after delivered_since calls_to
    total-since box z sum e [] = e
    total-since box z sum e (x ∷ xs) =
        elim (ℕ_discrete x.bay bay) [
          | yes q ↦
              subst (λ (j : ℕ). total_in f (held (box_after call_of box (record { bay = j; call = x.call } ∷ xs)))
              ≡ delivered_since call_of bay f box sum (record { bay = j; call = x.call } ∷ xs)) (sym q)
              (own-step box z x.call sum e xs
              (λ sum' h. total-since (memory_after (call_of box bay x.call)) (same_length box bay x.call ∙ z) sum' h xs))
          | no q ↦ rw (ne_eqb x.bay bay q)
              (total-since (after_call call_of box x) (same_length box x.bay x.call ∙ z) sum
              (ap (λ (s : List ℕ). total_in f (ledger_in s)) (others_stay box x.bay x.call bay (λ y. q (sym y)) b) ∙ e) xs)
        ]

  exact-step : (box : List ℕ) → length box ≡ box_length → (x : Request) → Exact (held box) → Exact (held (after_call call_of box x))
  exact-step box z x d =
      elim (ℕ_discrete x.bay bay) [
        | yes q ↦ subst (λ (j : ℕ). Exact (held (memory_after (call_of box j x.call)))) (sym q) (own x.call)
        | no q ↦ subst (λ (s : List ℕ). Exact (ledger_in s)) (sym (others_stay box x.bay x.call bay (λ y. q (sym y)) b)) d
      ]
    where
      own : (c : Call) → Exact (held (memory_after (call_of box bay c)))
      own c = elim (ℕ_discrete (number (call_of box bay c)) 0) [
        | yes n ↦ subst Exact (sym (held_after box z c n))
            (exact-by (present bay_count box) (stretch_of bay box) (stretch_sized box bay c b z) c (bay-answered box bay c n) d)
        | no n ↦ subst (λ (s : List ℕ). Exact (ledger_in s)) (sym (refused-stretch box bay c n)) d
      ]

  pub stays-exact : (box : List ℕ) → length box ≡ box_length → Exact (held box) → (xs : List Request) → Exact (held (box_after call_of box xs))
  unfolding box_after
  stays-exact box z d [] = d
  stays-exact box z d (x ∷ xs) = stays-exact (after_call call_of box x) (same_length box x.bay x.call ∙ z) (exact-step box z x d) xs

  -- '0 at first'
  pub at_first : held empty_box ≡ cleared
  at_first = ap ledger_in (empty_stretch_lem bay b) ∙ slot-zeros bay_length ledger_length stretch_length (omega arith) ∙ zeros-cleared

pub sized_after : (xs : List Request) → length (box_after call_of empty_box xs) ≡ box_length
unfolding box_after
sized_after = go empty_box kept_empty.sized_box
  where
    go : (box : List ℕ) → length box ≡ box_length → (xs : List Request) → length (box_after call_of box xs) ≡ box_length
    go box z [] = z
    go box z (x ∷ xs) = go (after_call call_of box x) (same_length box x.bay x.call ∙ z) xs

pub totals_exact : TotalsExact call_of
totals_exact xs bay b f l =
    let z = kept_empty.sized_box in
    let first = at_first bay b in
    record {
      a_whole_number = stays-exact bay b empty_box z (subst Exact (sym first) cleared-exact) xs f l;
      at_most = total_most f (ledger_in (stretch_of bay (box_after call_of empty_box xs)));
      is_sum = total-since bay b f l empty_box z 0 (ap (total_in f) first ∙ cleared_total f l) xs;
    }

-- ---- within a year: what was there, and the litres of the ticks
module _ (bay f : ℕ) where
  abbrev Sums : (box : List ℕ) (xs : List Request) → Type 0
  Sums box xs = (sum : ℕ) → delivered_since call_of bay f box sum xs ≡ sum + sum_of (tick_litres call_of bay f box xs)

  tick-sums : (box : List ℕ) (e : ℕ) (answer trace : List ℕ) (xs : List Request) → Sums (memory_after (call_of box bay (tick e answer trace))) xs
      → Sums box (record { bay = bay; call = tick e answer trace } ∷ xs)
  unfolding delivered_since sum_of
  tick-sums box e answer trace xs r sum =
      let n = number (call_of box bay (tick e answer trace)) in
      let x = delivering (stretch_of bay box) e f in
      elim (ℕ_discrete n 0) [
        | yes i ↦ rw (own_turn, own-call, eq-eqb n 0 i, ne_eqb n 19 (λ y. omega arith)) (let k = r (sum + x) in omega arith)
        | no i ↦ elim (ℕ_discrete n 19) [
          | yes j ↦ rw (own_turn, own-call, ne_eqb n 0 i, eq-eqb n 19 j) (r sum)
          | no j ↦ rw (own_turn, own-call, ne_eqb n 0 i, ne_eqb n 19 j) (let k = r sum in omega arith)
        ]
      ]

  -- another call to the bay number
  other-sums : (box : List ℕ) (c : Call) (xs : List Request) → ((s : List ℕ) (sum : ℕ) → delivered_after f c s sum ≡ sum)
      → ((rest : List ℕ) (made : ℕ → List ℕ → List ℕ → List ℕ) → on_tick rest made c ≡ rest) → Sums (memory_after (call_of box bay c)) xs
      → Sums box (record { bay = bay; call = c } ∷ xs)
  unfolding delivered_since calls_to
  other-sums box c xs d q r sum =
      let after = memory_after (call_of box bay c) in
      rw (eq-eqb bay bay refl)
      (ap (λ (k : ℕ). delivered_since call_of bay f after k xs) (by (eqb (number (call_of box bay c)) 0)) ∙ r sum
      ∙ ap (λ (ls : List ℕ). sum + sum_of ls) (sym (q (tick_litres call_of bay f after xs) _)))
    where
      by : (b : Bool) → cond b (delivered_after f c (stretch_of bay box) sum) sum ≡ sum
      by true = d (stretch_of bay box) sum
      by false = refl

  own-sums : (box : List ℕ) (c : Call) (xs : List Request) → c ≢ new_year → Sums (memory_after (call_of box bay c)) xs
      → Sums box (record { bay = bay; call = c } ∷ xs)
  own-sums box (admit t) xs y r = other-sums box (admit t) xs (λ s sum. refl) (λ rest made. refl) r
  own-sums box release xs y r = other-sums box release xs (λ s sum. refl) (λ rest made. refl) r
  own-sums box (tick e answer trace) xs y r = tick-sums box e answer trace xs r
  own-sums box (save name) xs y r = other-sums box (save name) xs (λ s sum. refl) (λ rest made. refl) r
  own-sums box (restore name) xs y r = other-sums box (restore name) xs (λ s sum. refl) (λ rest made. refl) r
  own-sums box (forget name) xs y r = other-sums box (forget name) xs (λ s sum. refl) (λ rest made. refl) r
  own-sums box (service trace view) xs y r = other-sums box (service trace view) xs (λ s sum. refl) (λ rest made. refl) r
  own-sums box (panel trace view) xs y r = other-sums box (panel trace view) xs (λ s sum. refl) (λ rest made. refl) r
  own-sums box (preview e u buffer) xs y r = other-sums box (preview e u buffer) xs (λ s sum. refl) (λ rest made. refl) r
  own-sums box (ledger totals) xs y r = other-sums box (ledger totals) xs (λ s sum. refl) (λ rest made. refl) r
  own-sums box new_year xs y r = absurd (y refl)

  pub year-sums : (box : List ℕ) (xs : List Request) → SameYear bay xs → Sums box xs
  unfolding delivered_since calls_to sum_of
  year-sums box [] done = λ sum. omega arith
  year-sums box (x ∷ xs) (more y k) =
      elim (ℕ_discrete x.bay bay) [
        | yes q ↦ subst (λ (j : ℕ). Sums box (record { bay = j; call = x.call } ∷ xs)) (sym q)
            (own-sums box x.call xs (y q) (year-sums (memory_after (call_of box bay x.call)) xs k))
        | no q ↦ λ sum. rw (ne_eqb x.bay bay q) (year-sums (after_call call_of box x) xs k sum)
      ]

-- ---- the ledger's calls, in any box
-- the totals that are read have the exact sum of the farms'
same_exact : (held : List ℕ) (n : ℕ) → n ≤ farm_count → exact_total n (reading_of held) ≡ exact_total n held
unfolding exact_total
same_exact held zero l = refl
same_exact held (suc n) l = omega (arith, same_exact held n (omega arith), reading_total held n (omega arith))

pub ledger_shows : LedgerShows call_of
ledger_shows box bay totals n =
    let held = ledger_in (stretch_of bay box) in (
      reading_of held,
      shown_in box bay (ledger totals) (reading_of held) n (ledger_reads (stretch_of bay box) totals).shows,
      record {
        bytes = refl;
        each = reading_total held;
        near = subst (Near 496 (total_read (reading_of held))) (sym (same_exact held farm_count (omega arith))) (reading_within held);
      },
    )

pub year_begins : YearBegins call_of
unfolding bay_new_year_of
year_begins box bay n = stretch-after box bay new_year n

pub ledger_numbers : LedgerNumbers call_of
unfolding bay_new_year_of
ledger_numbers box z bay b = (
  number-there box bay new_year b z refl,
  λ totals.
      let e = number-there box bay (ledger totals) b z refl in
      let k = ledger_lengths (stretch_of bay box) totals in
      ((λ n. k.0.0 (sym e ∙ n), λ n. e ∙ k.0.1 n), λ n. e ∙ k.1 (λ y. n (e ∙ y))),
)

-- ---- 19
some_farm : (t x : ℕ → ℕ) (n : ℕ) → would_pass n t x ≡ true → (f : ℕ) × (f < n) × (litres_limit < t f + x f)
unfolding would_pass
some_farm t x zero h = absurd (true≢false (sym h))
some_farm t x (suc n) h = go (would_pass n t x) (ltb litres_limit (t n + x n)) refl refl h (some_farm t x n)
  where
    go : (p q : Bool) → would_pass n t x ≡ p → ltb litres_limit (t n + x n) ≡ q → (p || q) ≡ true
        → (would_pass n t x ≡ true → (f : ℕ) × (f < n) × (litres_limit < t f + x f)) → (f : ℕ) × (f < suc n) × (litres_limit < t f + x f)
    go true q i j m found = let r = found i in (r.0, omega (arith, r.1), r.2)
    go false true i j m found = (n, omega arith, ltb-true litres_limit (t n + x n) j)
    go false false i j m found = absurd (true≢false (sym m))

module _ (s : List ℕ) (z : length s ≡ stretch_length) (e : ℕ) (answer trace : List ℕ) where
  full-iff : (number (bay_tick_of s e answer trace) ≡ 19) ↔ ((own_number s e answer trace ≡ 0) × WouldPass s e)
  full-iff = go (ticked s z e answer trace)
    where
      go : Ticked s z e answer trace (bay_tick_of s e answer trace)
          → (number (bay_tick_of s e answer trace) ≡ 19) ↔ ((own_number s e answer trace ≡ 0) × WouldPass s e)
      go (down n y d q w) = (λ m. absurd (d (sym (ap number w) ∙ m)), λ m. absurd (y (sym (ap demands.number q) ∙ m.0)))
      go (full q p w) = (λ m. (q, some_farm (λ f. total_in f (ledger_in s)) (delivering s e) farm_count p), λ m. ap number w)
      go (instant state left l j p q w) = (
        λ m. absurd (omega (arith, ap number w)),
        λ m. absurd (omega (arith, passes-not (λ f. total_in f (ledger_in s)) (delivering s e) farm_count p m.1.0 m.1.1, m.1.2)),
      )

pub nineteen : Nineteen call_of
nineteen box z bay b f e answer trace =
    let s = stretch_of bay box in
    let sized = stretch_sized box bay (tick e answer trace) b z in
    let k = number-there box bay (tick e answer trace) b z (rw (ne_eqb (length_in s) 0 f)) in
    let i = full-iff s sized e answer trace in (
      (λ n. i.0 (sym k ∙ n), λ n. k ∙ i.1 n),
      λ n. k ∙ tick-number s sized e answer trace (λ y. n (k ∙ y)),
    )

-- a preview does not ask the ledger
pub previews_never_nineteen : PreviewsNeverNineteen call_of
previews_never_nineteen box bay e u buffer n =
    elim (dec_lt bay bay_count) [
      | yes b ↦ elim (ℕ_discrete (length box) box_length) [
        | yes z ↦ go (is_for (preview e u buffer) (stretch_of bay box)) (sym (ap number (own box bay (preview e u buffer) b z)) ∙ n)
        | no z ↦ omega (arith, ap number (other-box box bay (preview e u buffer) b z))
      ]
      | no b ↦ omega (arith, ap number (no-bay box bay (preview e u buffer) (omega arith)))
    ]
  where
    s : List ℕ
    s = stretch_of bay box

    go : (f : Bool) → number (cond f (bay_call (present bay_count box) (preview e u buffer) (stretch_of bay box)) (called 13 (stretch_of bay box) (buffer ∷ []))) ≡ 19 → ⊥
    go true m = preview-not s e u buffer 19 (omega arith) (λ y. omega arith) m
    go false m = omega arith
