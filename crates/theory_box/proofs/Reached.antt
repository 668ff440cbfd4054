-- The boxes that calls reach from the empty one: a filled bay stands in a state of its sequence, so does each of its positions, and it
-- has its ceiling; the ceilings sum to no more than the shared one.
use Prim.Native.Nat.{ℕ, zero, suc, ◌+◌, ◌*◌, ◌≤◌, ◌<◌}
use native.Mathlib.Omega.{arith}
use native.Mathlib.Decide.{ℕ_discrete, dec_lt}
use mathlib.Core.Path.{◌≡◌, refl, sym, ap, ◌∙◌, subst}
use mathlib.Core.Logic.{◌≢◌}
use mathlib.Core.Bool.{Bool, true, false, cond, true≢false}
use mathlib.Core.List.{List, [], ◌∷◌}
use lib.ListN.{length}
use borrow.Author.Tests.{eq-eqb, ne_eqb}
use Rattle.spec_base.specs.Limits.{shared_ceiling, bay_count}
use Rattle.spec_base.specs.Bytes.{le_number}
use Rattle.spec_sequence.specs.Check.{check_of}
use Rattle.spec_base.specs.Parts.{slot, zeros}
use Rattle.numbers.proofs.Putting.{length-put, put-before}
use Rattle.spec_bay.specs.Ledgers as Ledgers
use Rattle.spec_bay.specs.Ledgers.{ledger_length}
use Rattle.box_ledgers.proofs.Theorems.{cleared_sized}
use Rattle.numbers.proofs.Zeros.{length-zeros, slot-zeros, zeros_number}
use Rattle.spec_bay.specs.Table.{table_length}
use Rattle.spec_tick.specs.Demands as demands
use Rattle.theory_tick.proofs.Sequence.{accepted}
use Rattle.spec_bay.specs.Called.{called, number, memory_after}
use Rattle.spec_bay.specs.Stretch.{length_bytes, positions_at, bay_length, stretch_length, length_in, sequence_in, read_back_in, ceiling_in, positions_in, part_of, vacated, with_ledger, Terms, filled}
use Rattle.spec_bay.specs.BayCalls.{bay_release_of, bay_admit_of, bay_new_year_of}
use Rattle.spec_box.specs.Box.{box_length, empty_box, stretch_of, present, Call, admit, release, tick, save, restore, forget, service, panel, preview, ledger, new_year, buffers, bay_call, is_for, call_of}
use Rattle.spec_box.specs.Lists.{Request, box_after}
use Rattle.spec_box.specs.Shares.{Sendable, AllSendable, none, each}
use Rattle.spec_box.specs.Claims.{ceiling_held}
use Rattle.theory_bay.proofs.Fields.{length-vacated, slot-vacated, vacated_empty, filled-zeros}
use Rattle.theory_box.proofs.Sums.{sum_of, one_changed}
use Rattle.theory_box.proofs.Moves.{save-moved, forget-moved}
use Rattle.theory_box.proofs.Bays.{ceiling_for, bounds, passed, Admission, turned_down, admits, admission, on_stretch}
use Rattle.theory_box.proofs.Ticks.{tick-number}
use Rattle.theory_box.proofs.Readers.{service_reads, panel_reads, ledger_reads}
use Rattle.theory_box.proofs.Previews.{preview-stays}
use Rattle.theory_box.proofs.Standing.{Standing, not-empty, sequence-held, put-behind-state, behind-stands, inner-is, tick-told, tick-stands, filled-stands}
use Rattle.theory_box.proofs.Positions.{Positioned, positioned_zeros, positioned-after, restore-stands}
use Rattle.theory_box.proofs.Stretches.{Case, aside, inside, cases, no-bay, own, own_stretch, same_length, others_stay}

-- ---- a slot that calls have written
pub data Sound (s : List ℕ) : Type 0 where
  vacant : length s ≡ stretch_length → length_in s ≡ 0 → positions_in s ≡ zeros table_length → Sound s
  held : (t : Terms) → Standing t s → Positioned t (positions_in s) → Sound s

pub part_vacant : (s : List ℕ) → length_in s ≡ 0 → part_of s ≡ 0
unfolding part_of
part_vacant s e = rw (eq-eqb (length_in s) 0 e)

pub part_held : (t : Terms) (s : List ℕ) → Standing t s → part_of s ≡ ceiling_for t
unfolding part_of
part_held t s h = rw (not-empty t s h) h.holds.part

sized : (s : List ℕ) → Sound s → length s ≡ stretch_length
sized s (vacant z e c) = z
sized s (held t h v) = h.holds.sized

-- a filled bay holds what it stands at
pub filled-bay : (s : List ℕ) → Sound s → is_for release s ≡ true → (t : Terms) × Standing t s × Positioned t (positions_in s)
filled-bay s (vacant z e c) h = absurd (true≢false (sym (rw (eq-eqb (length_in s) 0 e) at h)))
filled-bay s (held t k v) h = (t, k, v)

pub stored : (s : List ℕ) → Sound s → length_in s ≢ 0 → (check_of (sequence_in s) (read_back_in s) ≡ 0) × (ceiling_in s ≡ ceiling_held s)
stored s (vacant z e c) n = absurd (n e)
stored s (held t h v) n = rw (sequence-held t s h, h.holds.set) (passed t h.accepted, h.holds.part)

-- ---- a call keeps it so, and the sum within the shared ceiling
record Step (k : ℕ) (s s' : List ℕ) : Type 0 where
  pub sound : Sound s'
  pub share : k + part_of s' ≤ shared_ceiling + part_of s

module _ (k : ℕ) (s : List ℕ) (u : k ≤ shared_ceiling) (v : Sound s) where
  stays : Step k s s
  stays = record { sound = v; share = omega arith }

  admit-step : (t : Terms) → Sendable (admit t) → Step k s (memory_after (bay_admit_of k s t))
  admit-step t r = go (admission k s t)
    where
      go : Admission k s t (bay_admit_of k s t) → Step k s (memory_after (bay_admit_of k s t))
      go (turned_down n z e) = subst (Step k s) (sym (ap memory_after e)) stays
      go (admits c room e) =
          let a = accepted t.sequence t.read_back c in
          let f = filled-stands t a s (sized s v) r in
          let empty = filled-zeros t (ceiling_for t) s (sized s v) (bounds t a).1 positions_at table_length (omega arith) (omega arith) in
          subst (Step k s) (sym (ap memory_after e))
          (record {
            sound = held t f (subst (Positioned t) (sym empty) (positioned_zeros t));
            share = omega (arith, part_held t (filled t (ceiling_for t) s) f);
          })

  -- a call to a filled bay that stays filled
  filled-step : (c : Call) → Sendable c → is_for release s ≡ true
      → ((t : Terms) → Standing t s → Positioned t (positions_in s) → Standing t (memory_after (bay_call k c s)))
      → Step k s (memory_after (bay_call k c s))
  filled-step c r i stands =
      let f = filled-bay s v i in
      let t = f.0 in
      let g = stands t f.1 f.2 in
      let after = memory_after (bay_call k c s) in
      record {
        sound = held t g (positioned-after t s f.1 f.2 k c r);
        share = omega (arith, part_held t s f.1, part_held t after g);
      }

  -- the ledger's calls take an empty bay too
  year-step : Step k s (memory_after (bay_new_year_of s))
  unfolding bay_new_year_of
  year-step = go v
    where
      before : (i m : ℕ) → i + m ≤ bay_length → slot i m (with_ledger Ledgers.cleared s) ≡ slot i m s
      before i m l = let z = sized s v in put-before bay_length ledger_length Ledgers.cleared s (omega arith) cleared_sized i m l

      go : Sound s → Step k s (with_ledger Ledgers.cleared s)
      go (vacant z e c) =
          let e' : length_in (with_ledger Ledgers.cleared s) ≡ 0 = ap le_number (before 0 length_bytes (omega arith)) ∙ e in
          record {
            sound = vacant (length-put bay_length ledger_length Ledgers.cleared s (omega arith) cleared_sized ∙ z) e'
                (before positions_at table_length (omega arith) ∙ c);
            share = omega (arith, part_vacant (with_ledger Ledgers.cleared s) e');
          }
      go (held t h q) =
          let g = (put-behind-state t s h bay_length ledger_length Ledgers.cleared (omega arith) (omega arith) cleared_sized).0 in
          record {
            sound = held t g (subst (Positioned t) (sym (before positions_at table_length (omega arith))) q);
            share = omega (arith, part_held t s h, part_held t (with_ledger Ledgers.cleared s) g);
          }

  bay-step : (c : Call) → Sendable c → is_for c s ≡ true → Step k s (memory_after (bay_call k c s))
  unfolding bay_release_of
  bay-step (admit t) r i = admit-step t r
  bay-step release r i =
      let e = vacated_empty s in
      let none = slot-vacated positions_at table_length s (omega arith) in
      record { sound = vacant (length-vacated s (sized s v)) e none; share = omega (arith, part_vacant (vacated s) e) }
  bay-step (tick e answer trace) r i = filled-step (tick e answer trace) r i (λ t h q. (tick-stands t s h e answer trace).0)
  bay-step (save name) r i = filled-step (save name) r i (λ t h q. (behind-stands t s h (save-moved s name)).0)
  bay-step (restore name) r i = filled-step (restore name) r i (λ t h q. restore-stands t s h q name)
  bay-step (forget name) r i = filled-step (forget name) r i (λ t h q. (behind-stands t s h (forget-moved s name)).0)
  bay-step (service trace view) r i = filled-step (service trace view) r i (λ t h q. subst (Standing t) (sym (service_reads s trace view).left) h)
  bay-step (panel trace view) r i = filled-step (panel trace view) r i (λ t h q. subst (Standing t) (sym (panel_reads s trace view).left) h)
  bay-step (preview e u buffer) r i = filled-step (preview e u buffer) r i (λ t h q. subst (Standing t) (sym (preview-stays s e u buffer)) h)
  bay-step (ledger totals) r i = subst (Step k s) (sym (ledger_reads s totals).left) stays
  bay-step new_year r i = year-step

  call_step : (c : Call) → Sendable c → Step k s (memory_after (on_stretch k c s))
  call_step c r = go (is_for c s) refl
    where
      go : (b : Bool) → is_for c s ≡ b → Step k s (memory_after (cond b (bay_call k c s) (called 13 s (buffers c))))
      go true i = bay-step c r i
      go false i = stays

-- ---- the sum, where one slot changes
abbrev pub part_in : List ℕ → ℕ → ℕ
part_in box bay = part_of (stretch_of bay box)

pub present_sum : (box : List ℕ) (n : ℕ) → present n box ≡ sum_of (part_in box) n
unfolding present sum_of
present_sum box zero = refl
present_sum box (suc n) = rw (present_sum box n)

pub present_after : (box : List ℕ) (bay : ℕ) (c : Call) → bay < bay_count
    → present bay_count (memory_after (call_of box bay c)) + part_in box bay
    ≡ present bay_count box + part_in (memory_after (call_of box bay c)) bay
present_after box bay c b =
    let box' = memory_after (call_of box bay c) in
    omega (
      arith,
      present_sum box bay_count,
      present_sum box' bay_count,
      one_changed (part_in box') (part_in box) bay bay_count b (λ j d l. ap part_of (others_stay box bay c j d l)),
    )

-- ---- boxes
pub record Kept (box : List ℕ) : Type 0 where
  pub sized_box : length box ≡ box_length
  pub sound : (bay : ℕ) → bay < bay_count → Sound (stretch_of bay box)
  pub under : present bay_count box ≤ shared_ceiling

pub empty_stretch_lem : (bay : ℕ) → bay < bay_count → stretch_of bay empty_box ≡ zeros stretch_length
unfolding empty_box
empty_stretch_lem bay b = slot-zeros (bay * stretch_length) stretch_length box_length (omega arith)

zeros_empty : length_in (zeros stretch_length) ≡ 0
zeros_empty = ap le_number (slot-zeros 0 2 stretch_length (omega arith)) ∙ zeros_number 2

pub zeros-positions : positions_in (zeros stretch_length) ≡ zeros table_length
zeros-positions = slot-zeros positions_at table_length stretch_length (omega arith)

nothing_present : (n : ℕ) → n ≤ bay_count → present n empty_box ≡ 0
unfolding present
nothing_present zero l = refl
nothing_present (suc n) l =
    omega (arith, nothing_present n (omega arith), ap part_of (empty_stretch_lem n (omega arith)), part_vacant (zeros stretch_length) zeros_empty)

pub kept_empty : Kept empty_box
unfolding empty_box
kept_empty = record {
  sized_box = length-zeros box_length;
  sound = λ bay b. subst Sound (sym (empty_stretch_lem bay b)) (vacant (length-zeros stretch_length) zeros_empty zeros-positions);
  under = omega (arith, nothing_present bay_count (omega arith));
}

pub kept_call : (box : List ℕ) → Kept box → (bay : ℕ) (c : Call) → Sendable c → Kept (memory_after (call_of box bay c))
kept_call box h bay c r = go (cases box bay c)
  where
    go : Case box bay c → Kept (memory_after (call_of box bay c))
    go (aside n z e) = subst Kept (sym (ap memory_after e)) h
    go (inside b z e) =
        let box' = memory_after (call_of box bay c) in
        let s = call_step (present bay_count box) (stretch_of bay box) h.under (h.sound bay b) c r in
        let own = own_stretch box bay c b z in
        record {
          sized_box = same_length box bay c ∙ z;
          sound = λ i l. elim (ℕ_discrete i bay) [
            | yes q ↦ subst Sound (sym (ap (λ (j : ℕ). stretch_of j box') q ∙ own)) s.sound
            | no q ↦ subst Sound (sym (others_stay box bay c i q l)) (h.sound i l)
          ];
          under = omega (arith, present_after box bay c b, ap part_of own, s.share);
        }

pub kept_list : (box : List ℕ) → Kept box → (xs : List Request) → AllSendable xs → Kept (box_after call_of box xs)
unfolding box_after
kept_list box h [] none = h
kept_list box h (x ∷ xs) (each s k) = kept_list (memory_after (call_of box x.bay x.call)) (kept_call box h x.bay x.call s) xs k

pub kept : (xs : List Request) → AllSendable xs → Kept (box_after call_of empty_box xs)
kept = kept_list empty_box kept_empty

-- ---- in a box that calls reached
module _ (box : List ℕ) (h : Kept box) (bay : ℕ) (b : bay < bay_count) where
  abbrev s : List ℕ
  s = stretch_of bay box

  -- a filled bay admits out gives its part back
  pub gives_back : length_in s ≢ 0
      → (number (call_of box bay release) ≡ 0)
      × (present bay_count (memory_after (call_of box bay release)) + part_of s ≡ present bay_count box)
  unfolding bay_release_of
  gives_back n = (
    ap number (own box bay release b h.sized_box) ∙ ap number out,
    omega (
      arith,
      present_after box bay release b,
      ap part_of (own_stretch box bay release b h.sized_box ∙ ap memory_after out),
      part_vacant (vacated s) (vacated_empty s),
    ),
  )
    where
      out : on_stretch (present bay_count box) release s ≡ called 0 (vacated s) []
      out = rw (ne_eqb (length_in s) 0 n)

-- no tick gives 11
pub no_11 : (box : List ℕ) → Kept box → (bay e : ℕ) (answer trace : List ℕ) → number (call_of box bay (tick e answer trace)) ≢ 11
no_11 box h bay e answer trace n =
    elim (dec_lt bay bay_count) [
      | yes b ↦ go b (is_for (tick e answer trace) s) refl (sym (ap number (own box bay (tick e answer trace) b h.sized_box)) ∙ n)
      | no b ↦ omega (arith, ap number (no-bay box bay (tick e answer trace) (omega arith)))
    ]
  where
    s : List ℕ
    s = stretch_of bay box

    go : bay < bay_count → (f : Bool) → is_for (tick e answer trace) s ≡ f
        → number (cond f (bay_call (present bay_count box) (tick e answer trace) s) (called 13 s (answer ∷ trace ∷ []))) ≡ 11 → ⊥
    go b false i m = omega arith
    go b true i m =
        let f = filled-bay s (h.sound bay b) i in
        (tick-told f.0 s f.1 e answer trace).not-11
        (sym (ap demands.number (inner-is f.0 s f.1 e answer trace)) ∙ sym (tick-number s f.1.holds.sized e answer trace (λ y. omega arith)) ∙ m)
