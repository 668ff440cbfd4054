-- The positions of a bay: what each call makes of the table, and that the label sets in it stay valid for the sequence.
use Prim.Native.Nat.{ℕ, ◌^◌, ◌<◌}
use native.Mathlib.Omega.{arith}
use native.Mathlib.Decide.{ℕ_discrete}
use mathlib.Core.Path.{◌≡◌, refl, sym, ap, ◌∙◌, subst}
use mathlib.Core.Logic.{◌≢◌}
use mathlib.Core.Bool.{Bool, true, false, cond}
use mathlib.Core.Option.{Option, some, none}
use mathlib.Core.List.{List, []}
use lib.ListN.{length}
use lib.Dec.{eqb}
use borrow.Author.Tests.{eq-eqb, ne_eqb}
use Rattle.spec_base.specs.Limits.{label_bytes, name_bytes, number_bytes}
use Rattle.spec_base.specs.Sets as Sets
use Rattle.spec_language.specs.Statement.{Statement}
use Rattle.spec_language.specs.Machines.{State}
use Rattle.spec_sequence.specs.Rows.{Spells}
use Rattle.spec_base.specs.Bytes.{le_bytes}
use Rattle.numbers.proofs.Bytes.{length_le_bytes, le_round_trip}
use Rattle.spec_tick.specs.StateRecord.{state_length, state_record, phase_in, labels_in, encode_state, Recorded}
use Rattle.records.proofs.StateLaws.{state_sized}
use Rattle.spec_base.specs.Parts.{put, zeros}
use Rattle.numbers.proofs.Putting.{slot-put, put-before, put-behind}
use Rattle.spec_bay.specs.Ledgers as Ledgers
use Rattle.spec_bay.specs.Ledgers.{ledger_length}
use Rattle.box_ledgers.proofs.Theorems.{cleared_sized}
use Rattle.spec_bay.specs.Table.{table_length, lookup, Kept, kept, number_kept, table_kept, save_of, forget_of}
use Rattle.box_positions.specs.Places.{Formed}
use Rattle.box_positions.proofs.Theorems.{lookup-saved, lookup_others_saved, lookup-forgotten, lookup_others_forgotten, lookup-zeros, formed_zeros, formed_saved, formed_forgotten, save_refused}
use Rattle.box_positions.proofs.TableLaws.{save-sized, forget-sized}
use Rattle.theory_tick.proofs.Sequence.{accepted, same_statement}
use Rattle.spec_bay.specs.Called.{Called, called, number, memory_after}
use Rattle.spec_bay.specs.Stretch.{state_at, count_at, positions_at, bay_length, stretch_length, state_in, positions_in, Terms}
use Rattle.spec_bay.specs.BayCalls.{positions_kept, restored, bay_tick_of, bay_release_of, bay_admit_of, bay_save_of, bay_forget_of, bay_restore_of, bay_new_year_of}
use Rattle.spec_box.specs.Box.{Call, admit, release, tick, save, restore, forget, service, panel, preview, ledger, new_year, on_admit, on_release, on_save, on_forget, bay_call}
use Rattle.spec_box.specs.Shares.{Sendable}
use Rattle.theory_bay.proofs.Fields.{slot-vacated, filled-zeros}
use Rattle.theory_box.proofs.Moves as moves
use Rattle.theory_box.proofs.Ticks.{next, entered, length-entered, before-ledger, Ticked, down, full, instant, ticked}
use Rattle.theory_box.proofs.Readers.{service_reads, panel_reads, ledger_reads}
use Rattle.theory_box.proofs.Previews.{preview-stays}
use Rattle.theory_box.proofs.Bays.{ceiling_for, bounds, Admission, turned_down, admits, admission, bay-refused}
use Rattle.theory_box.proofs.Standing.{Standing, put-stands}

-- ---- what a call answered 0 makes of the table
abbrev pub table_by : Call → List ℕ → List ℕ
table_by c s =
    on_save (on_forget (on_admit (on_release (positions_in s) (zeros table_length) c) (λ t. zeros table_length) c)
    (λ name. table_kept (forget_of name (positions_in s))) c)
    (λ name. table_kept (save_of name (labels_in (state_in s)) (positions_in s))) c

module _ (k : ℕ) (s : List ℕ) (z : length s ≡ stretch_length) where
  kept_table : (o : Kept) → length (table_kept o) ≡ table_length → positions_in (memory_after (positions_kept s o)) ≡ table_kept o
  kept_table (kept n t) sized = slot-put positions_at table_length t s (omega arith) sized

  -- a state record that is written
  moved-table : (bytes : List ℕ) → length bytes ≡ state_length → positions_in (put state_at state_length bytes s) ≡ positions_in s
  moved-table bytes sized = put-behind state_at state_length bytes s (omega arith) sized positions_at table_length (omega arith)

  pub table-after : (c : Call) → number (bay_call k c s) ≡ 0 → positions_in (memory_after (bay_call k c s)) ≡ table_by c s
  unfolding bay_release_of bay_save_of bay_restore_of bay_forget_of bay_new_year_of
  table-after (admit t) n = go (admission k s t)
    where
      go : Admission k s t (bay_admit_of k s t) → positions_in (memory_after (bay_admit_of k s t)) ≡ zeros table_length
      go (turned_down m y e) = absurd (y (sym (ap number e) ∙ n))
      go (admits c r e) =
          ap positions_in (ap memory_after e)
          ∙ filled-zeros t (ceiling_for t) s z (bounds t (accepted t.sequence t.read_back c)).1 positions_at table_length (omega arith) (omega arith)
  table-after release n = slot-vacated positions_at table_length s (omega arith)
  table-after (tick e answer trace) n = go (ticked s z e answer trace)
    where
      go : Ticked s z e answer trace (bay_tick_of s e answer trace) → positions_in (memory_after (bay_tick_of s e answer trace)) ≡ positions_in s
      go (down m y d q w) = ap (λ (o : Called). positions_in (memory_after o)) w
      go (full q p w) = ap (λ (o : Called). positions_in (memory_after o)) w
      go (instant state left l j p q w) =
          let k = length-entered s z e answer trace p state l in
          let count = le_bytes number_bytes (next s z e answer trace) in
          ap (λ (o : Called). positions_in (memory_after o)) w
          ∙ put-behind count_at number_bytes count (entered s z e answer trace state) (omega arith) (length_le_bytes number_bytes (next s z e answer trace))
          positions_at table_length (omega arith)
          ∙ before-ledger s z e answer trace p state l positions_at table_length (omega arith)
          ∙ moved-table state l
  table-after (save name) n = go (eqb (phase_in (state_in s)) 1) n
    where
      o : Kept
      o = save_of name (labels_in (state_in s)) (positions_in s)

      go : (b : Bool) → number (cond b (positions_kept s (save_of name (labels_in (state_in s)) (positions_in s))) (called 15 s [])) ≡ 0
          → positions_in (memory_after (cond b (positions_kept s (save_of name (labels_in (state_in s)) (positions_in s))) (called 15 s [])))
          ≡ table_kept (save_of name (labels_in (state_in s)) (positions_in s))
      go true m = kept_table o (save-sized name (labels_in (state_in s)) (positions_in s) (moves.positions_sized s z))
      go false m = absurd (omega arith)
  table-after (restore name) n = go (lookup name (positions_in s)) n
    where
      go : (l : Option ℕ) → number (restored s l) ≡ 0 → positions_in (memory_after (restored s l)) ≡ positions_in s
      go none m = refl
      go (some labels) m = moved-table (state_record 1 labels) (state_sized 1 labels)
  table-after (forget name) n =
      kept_table (forget_of name (positions_in s)) (forget-sized name (positions_in s) (moves.positions_sized s z))
  table-after (service trace view) n = ap positions_in (service_reads s trace view).left
  table-after (panel trace view) n = ap positions_in (panel_reads s trace view).left
  table-after (preview e u buffer) n = ap positions_in (preview-stays s e u buffer)
  table-after (ledger totals) n = ap positions_in (ledger_reads s totals).left
  table-after new_year n = put-before bay_length ledger_length Ledgers.cleared s (omega arith) cleared_sized positions_at table_length (omega arith)

-- ---- the numbers of the three calls
module _ (s : List ℕ) (name : ℕ) where
  kept_number : (o : Kept) → number (positions_kept s o) ≡ number_kept o
  kept_number (kept n t) = refl

  pub save-waiting : phase_in (state_in s) ≡ 1 → number (bay_save_of s name) ≡ number_kept (save_of name (labels_in (state_in s)) (positions_in s))
  unfolding bay_save_of
  save-waiting h = rw (eq-eqb (phase_in (state_in s)) 1 h) (kept_number (save_of name (labels_in (state_in s)) (positions_in s)))

  pub save-otherwise : phase_in (state_in s) ≢ 1 → number (bay_save_of s name) ≡ 15
  unfolding bay_save_of
  save-otherwise h = rw (ne_eqb (phase_in (state_in s)) 1 h)

  pub save-waits : number (bay_save_of s name) ≡ 0 → phase_in (state_in s) ≡ 1
  save-waits n = elim (ℕ_discrete (phase_in (state_in s)) 1) [ yes e ↦ e | no e ↦ absurd (omega (arith, save-otherwise e, n)) ]

  pub forget_number : number (bay_forget_of s name) ≡ number_kept (forget_of name (positions_in s))
  unfolding bay_forget_of
  forget_number = kept_number (forget_of name (positions_in s))

  pub restore-known : (labels : ℕ) → lookup name (positions_in s) ≡ some labels
      → bay_restore_of s name ≡ called 0 (put state_at state_length (encode_state (State.waits labels)) s) []
  unfolding bay_restore_of encode_state
  restore-known labels e = ap (restored s) e

  pub restore-unknown : lookup name (positions_in s) ≡ none → bay_restore_of s name ≡ called 15 s []
  unfolding bay_restore_of
  restore-unknown e = ap (restored s) e

  pub data Known : Type 0 where
    unknown : lookup name (positions_in s) ≡ none → Known
    known : (labels : ℕ) → lookup name (positions_in s) ≡ some labels → Known

  pub is_known : Known
  is_known = go (lookup name (positions_in s)) refl
    where
      go : (l : Option ℕ) → lookup name (positions_in s) ≡ l → Known
      go none e = unknown e
      go (some labels) e = known labels e

-- ---- the label sets of a table
pub record Positioned (t : Terms) (table : List ℕ) : Type 0 where
  pub formed : Formed table
  pub saved : (name labels : ℕ) → lookup name table ≡ some labels
      → (p : Statement) → Spells t.sequence p → Recorded p (State.waits labels)

some_same : {x y : ℕ} → some x ≡ some y → x ≡ y
some_same h = cc

pub none-some : {x : ℕ} → none ≡ some x → ⊥
none-some h = let y : ◌≡◌ {A = ℕ} 0 1 = cc in omega arith

pub positioned_zeros : (t : Terms) → Positioned t (zeros table_length)
positioned_zeros t =
    record { formed = formed_zeros; saved = λ name labels e. absurd (none-some (sym (lookup-zeros name) ∙ e)) }

-- the labels of a machine that waits
waits_recorded : (p : Statement) (st : State) → Recorded p st → phase_in (encode_state st) ≡ 1 → Recorded p (State.waits (labels_in (encode_state st)))
unfolding encode_state le_bytes Sets.none
waits_recorded p State.fresh r h = absurd (omega arith)
waits_recorded p (State.waits L) r h = subst (λ (l : ℕ). Recorded p (State.waits l)) (sym (le_round_trip label_bytes L r.1)) r
waits_recorded p State.over r h = absurd (omega arith)

module _ (t : Terms) (s : List ℕ) (h : Standing t s) where
  pub labels_recorded : phase_in (state_in s) ≡ 1 → (p : Statement) → Spells t.sequence p → Recorded p (State.waits (labels_in (state_in s)))
  labels_recorded w p q =
      let a = h.accepted in
      let same : p ≡ a.statement = same_statement t.sequence p a.statement q a.spelled in
      rw (same, h.bytes) (waits_recorded a.statement h.state h.recorded (ap phase_in (sym h.bytes) ∙ w))

  module _ (v : Positioned t (positions_in s)) where
    abbrev table : List ℕ
    table = positions_in s

    positioned-saved : (name : ℕ) → name < 256 ^ name_bytes → phase_in (state_in s) ≡ 1
        → Positioned t (table_kept (save_of name (labels_in (state_in s)) (positions_in s)))
    positioned-saved name small w =
        let l : ℕ = labels_in (state_in s) in
        let after : List ℕ = table_kept (save_of name l table) in
        record {
          formed = formed_saved name l table v.formed small;
          saved = λ other m e p q. elim (ℕ_discrete other name) [
            | yes i ↦ elim (ℕ_discrete (number_kept (save_of name l table)) 0) [
              | yes n ↦
                  let r = labels_recorded w p q in
                  let found = lookup-saved name l table v.formed small n r.1 in
                  let x : m ≡ l = some_same (sym e ∙ ap (λ (j : ℕ). lookup j after) i ∙ found) in
                  subst (λ (j : ℕ). Recorded p (State.waits j)) (sym x) r
              | no n ↦ v.saved other m (ap (lookup other) (sym (save_refused name l table n)) ∙ e) p q
            ]
            | no i ↦ v.saved other m (sym (lookup_others_saved name l table v.formed small other i) ∙ e) p q
          ];
        }

    positioned-forgotten : (name : ℕ) → Positioned t (table_kept (forget_of name (positions_in s)))
    positioned-forgotten name =
        let after : List ℕ = table_kept (forget_of name table) in
        record {
          formed = formed_forgotten name table v.formed;
          saved = λ other m e p q. elim (ℕ_discrete other name) [
            | yes i ↦ absurd (none-some (sym (ap (λ (j : ℕ). lookup j after) i ∙ lookup-forgotten name table v.formed) ∙ e))
            | no i ↦ v.saved other m (sym (lookup_others_forgotten name table v.formed other i) ∙ e) p q
          ];
        }

    pub positioned-by : (k : ℕ) (c : Call) → Sendable c → number (bay_call k c s) ≡ 0 → Positioned t (table_by c s)
    positioned-by k (admit t') r n = positioned_zeros t
    positioned-by k release r n = positioned_zeros t
    positioned-by k (tick e answer trace) r n = v
    positioned-by k (save name) r n = positioned-saved name r (save-waits s name n)
    positioned-by k (restore name) r n = v
    positioned-by k (forget name) r n = positioned-forgotten name
    positioned-by k (service trace view) r n = v
    positioned-by k (panel trace view) r n = v
    positioned-by k (preview e u buffer) r n = v
    positioned-by k (ledger totals) r n = v
    positioned-by k new_year r n = v

    -- over a call, turned down or not
    pub positioned-after : (k : ℕ) (c : Call) → Sendable c → Positioned t (positions_in (memory_after (bay_call k c s)))
    positioned-after k c r =
        elim (ℕ_discrete (number (bay_call k c s)) 0) [
          | yes n ↦ subst (Positioned t) (sym (table-after k s h.holds.sized c n)) (positioned-by k c r n)
          | no n ↦ subst (Positioned t) (sym (ap (λ (o : Called). positions_in (memory_after o)) (bay-refused k s h.holds.sized c n))) v
        ]

    -- coming back to a position leads to a state of the sequence
    pub restore-stands : (name : ℕ) → Standing t (memory_after (bay_restore_of s name))
    restore-stands name = go (is_known s name)
      where
        go : Known s name → Standing t (memory_after (bay_restore_of s name))
        go (unknown e) = subst (Standing t) (sym (ap memory_after (restore-unknown s name e))) h
        go (known labels e) =
            subst (Standing t) (sym (ap memory_after (restore-known s name labels e)))
            (put-stands t s h (State.waits labels) (v.saved name labels e h.accepted.statement h.accepted.spelled)
            (encode_state (State.waits labels)) refl)
