-- The numbers of item 8: 13 where the bay is not there for the call, 14 for the sum, after the sequence's own check.
use Prim.Native.Nat.{ℕ, ◌+◌, ◌≤◌, ◌<◌}
use native.Mathlib.Omega.{arith}
use native.Mathlib.Decide.{ℕ_discrete, dec_lt}
use mathlib.Core.Path.{◌≡◌, refl, sym, ap, ◌∙◌}
use mathlib.Core.Logic.{◌≢◌, ◌↔◌}
use mathlib.Core.Bool.{Bool, true, false, not, cond, true≢false}
use mathlib.Core.List.{List, []}
use lib.ListN.{length}
use lib.Dec.{leb}
use borrow.Author.Tests.{eq-eqb, ne_eqb, eqb-true, eqb-false, not-false, le-leb, lt-leb, leb-true, leb-false}
use Rattle.spec_base.specs.Limits.{shared_ceiling, bay_count}
use Rattle.spec_sequence.specs.Check.{Checked, sound, bad, checked, number_of, check_of}
use Rattle.theory_sequence.proofs.Rows.{check_by_rows, row-rank}
use Rattle.theory_tick.proofs.Sequence.{accepted}
use Rattle.spec_bay.specs.Called.{called, number}
use Rattle.spec_bay.specs.Stretch.{stretch_length, length_in, is_empty, sequence_in, read_back_in, state_in, Terms, filled}
use Rattle.spec_bay.specs.BayCalls.{by_check, bay_release_of, bay_admit_of}
use Rattle.spec_box.specs.Box.{box_length, stretch_of, present, Call, admit, release, tick, save, restore, forget, service, panel, preview, ledger, new_year, buffers, bay_call, is_for, call_of}
use Rattle.spec_box.specs.BayRuns.{paper_buffer}
use Rattle.spec_box.specs.Claims.{NotThere, Thirteen, NoBox}
use Rattle.theory_box.proofs.Moves.{moved-not-13, save-moved, forget-moved, restore-moved, year_moved}
use Rattle.theory_box.proofs.Bays.{ceiling_for, admit-by-sum, on_stretch}
use Rattle.theory_box.proofs.Ticks.{own_below, tick-number}
use Rattle.theory_box.proofs.Readers.{service_reads, panel_reads, ledger_reads}
use Rattle.theory_box.proofs.Previews.{preview-not}
use Rattle.theory_box.proofs.Stretches.{no-bay, other-box, stretch_sized, own}

-- ---- the numbers of a call on a slot
-- a sequence that is turned down, by its row
bad_number : (k : ℕ) (s : List ℕ) (t : Terms) → check_of t.sequence t.read_back ≢ 0
    → number (bay_admit_of k s t) ≡ check_of t.sequence t.read_back
unfolding bay_admit_of check_of
bad_number k s t = go (checked t.sequence t.read_back)
  where
    go : (c : Checked) → number_of c ≢ 0 → number (by_check k s t c) ≡ number_of c
    go (bad n) h = refl
    go (sound p) h = absurd (h refl)

-- an accepted one, by whether the sum fits
abbrev by_room : Bool → ℕ
by_room b = cond b 0 14

sum_number : (k : ℕ) (s : List ℕ) (t : Terms) → check_of t.sequence t.read_back ≡ 0
    → number (bay_admit_of k s t) ≡ by_room (leb (k + ceiling_for t) shared_ceiling)
sum_number k s t h =
    ap number (admit-by-sum k s t (accepted t.sequence t.read_back h)) ∙ go (leb (k + ceiling_for t) shared_ceiling)
  where
    go : (b : Bool) → number (cond b (called 0 (filled t (ceiling_for t) s) []) (called 14 s [])) ≡ by_room b
    go true = refl
    go false = refl

bay-not_13 : (k : ℕ) (c : Call) (s : List ℕ) → length s ≡ stretch_length → number (bay_call k c s) ≢ 13
unfolding bay_release_of
bay-not_13 k (admit t) s l n =
    elim (ℕ_discrete (check_of t.sequence t.read_back) 0) [
      | yes h ↦ go (leb (k + ceiling_for t) shared_ceiling) (sym (sum_number k s t h) ∙ n)
      | no h ↦
          let e = sym (bad_number k s t h) ∙ n in
          let r = (((check_by_rows t.sequence t.read_back).refusal 13 (λ z. omega arith)).0 e).0 in
          omega (arith, row-rank t.sequence t.read_back 13 r)
    ]
  where
    go : (b : Bool) → by_room b ≡ 13 → ⊥
    go true h = omega arith
    go false h = omega arith
bay-not_13 k release s l n = omega arith
bay-not_13 k (tick e answer trace) s l n =
    own_below (sequence_in s) (state_in s) e (read_back_in s) (paper_buffer trace answer) 13 (λ z. omega arith) (omega arith)
    (sym (tick-number s l e answer trace (λ y. omega arith)) ∙ n)
bay-not_13 k (save name) s l n = moved-not-13 (save-moved s name) n
bay-not_13 k (restore name) s l n = moved-not-13 (restore-moved s name) n
bay-not_13 k (forget name) s l n = moved-not-13 (forget-moved s name) n
bay-not_13 k (service trace view) s l n = omega (arith, (service_reads s trace view).low)
bay-not_13 k (panel trace view) s l n = omega (arith, (panel_reads s trace view).low)
bay-not_13 k (preview e u buffer) s l n = preview-not s e u buffer 13 (omega arith) (λ y. omega arith) n
bay-not_13 k (ledger totals) s l n = omega (arith, (ledger_reads s totals).low)
bay-not_13 k new_year s l n = moved-not-13 (year_moved s) n

-- ---- a bay that is not there for a call

is_empty_lem : (s : List ℕ) → (not (is_empty s) ≡ false) ↔ (length_in s ≡ 0)
is_empty_lem s = (λ h. eqb-true (length_in s) 0 (not-false (is_empty s) h), λ h. rw (eq-eqb (length_in s) 0 h))

not_there : (c : Call) (s : List ℕ) → (is_for c s ≡ false) ↔ NotThere c s
not_there (admit t) s = (eqb-false (length_in s) 0, ne_eqb (length_in s) 0)
not_there release s = is_empty_lem s
not_there (tick e answer trace) s = is_empty_lem s
not_there (save name) s = is_empty_lem s
not_there (restore name) s = is_empty_lem s
not_there (forget name) s = is_empty_lem s
not_there (service trace view) s = is_empty_lem s
not_there (panel trace view) s = is_empty_lem s
not_there (preview e u buffer) s = is_empty_lem s
not_there (ledger totals) s = (true≢false, λ h. absurd h)
not_there new_year s = (true≢false, λ h. absurd h)

pub thirteen : Thirteen call_of
thirteen box z bay c =
    elim (dec_lt bay bay_count) [
      | yes b ↦ (
        λ n l. (not_there c s).0 (go b (is_for c s) (sym (ap number (own box bay c b z)) ∙ n)),
        λ h. ap number (own box bay c b z) ∙ aside ((not_there c s).1 (h b)),
      )
      | no b ↦ (λ n l. absurd (b l), λ h. ap number (no-bay box bay c (omega arith)))
    ]
  where
    s : List ℕ
    s = stretch_of bay box

    k : ℕ
    k = present bay_count box

    go : bay < bay_count → (f : Bool) → number (cond f (bay_call k c s) (called 13 s (buffers c))) ≡ 13 → f ≡ false
    go b true n = absurd (bay-not_13 k c s (stretch_sized box bay c b z) n)
    go b false n = refl

    aside : is_for c s ≡ false → number (on_stretch k c s) ≡ 13
    aside h = rw h

pub no_box : NoBox call_of
no_box box n bay c = (λ h. ap number (no-bay box bay c h), λ b. ap number (other-box box bay c b n))

-- ---- an admission to an empty bay
module _ (box : List ℕ) (z : length box ≡ box_length) (bay : ℕ) (b : bay < bay_count) (i : length_in (stretch_of bay box) ≡ 0) (t : Terms) where
  abbrev sum : ℕ
  sum = present bay_count box + ceiling_for t

  admit-is : number (call_of box bay (admit t)) ≡ number (bay_admit_of (present bay_count box) (stretch_of bay box) t)
  admit-is = ap number (own box bay (admit t) b z) ∙ rw (eq-eqb (length_in (stretch_of bay box)) 0 i)

  pub by-its-row : check_of t.sequence t.read_back ≢ 0 → number (call_of box bay (admit t)) ≡ check_of t.sequence t.read_back
  by-its-row h = admit-is ∙ bad_number (present bay_count box) (stretch_of bay box) t h

  module _ (h : check_of t.sequence t.read_back ≡ 0) where
    by-its-sum : number (call_of box bay (admit t)) ≡ by_room (leb sum shared_ceiling)
    by-its-sum = admit-is ∙ sum_number (present bay_count box) (stretch_of bay box) t h

    pub admitted-iff : (number (call_of box bay (admit t)) ≡ 0) ↔ (sum ≤ shared_ceiling)
    admitted-iff = (
      λ n. leb-true sum shared_ceiling (go (leb sum shared_ceiling) (sym by-its-sum ∙ n)),
      λ l. by-its-sum ∙ rw (le-leb sum shared_ceiling l),
    )
      where
        go : (r : Bool) → by_room r ≡ 0 → r ≡ true
        go true n = refl
        go false n = absurd (omega arith)

    pub fourteen-iff : (number (call_of box bay (admit t)) ≡ 14) ↔ (shared_ceiling < sum)
    fourteen-iff = (
      λ n. leb-false sum shared_ceiling (go (leb sum shared_ceiling) (sym by-its-sum ∙ n)),
      λ l. by-its-sum ∙ rw (lt-leb sum shared_ceiling l),
    )
      where
        go : (r : Bool) → by_room r ≡ 14 → r ≡ false
        go true n = absurd (omega arith)
        go false n = refl
