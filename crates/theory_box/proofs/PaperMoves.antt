-- Each call of a bay that is present, but the tick and the preview: the same on paper.
use Prim.Native.Nat.{ℕ}
use native.Mathlib.Omega.{arith}
use mathlib.Core.Path.{◌≡◌, refl, sym, ap, ap₂, ◌∙◌, subst}
use mathlib.Core.Logic.{◌≢◌}
use mathlib.Core.Bool.{Bool, true, false, ◌&&◌, ◌||◌, cond}
use mathlib.Core.Option.{Option, some, none}
use mathlib.Core.List.{List, [], ◌∷◌}
use lib.ListN.{length}
use lib.Dec.{eqb, ltb}
use Rattle.spec_base.specs.Limits.{label_bytes, number_bytes, max_positions}
use Rattle.spec_language.specs.Statement.{Statement}
use Rattle.spec_language.specs.Machines.{State}
use Rattle.spec_sequence.specs.Program.{program}
use Rattle.spec_base.specs.Bytes.{le_bytes, le_number}
use Rattle.numbers.proofs.Bytes.{le_round_trip}
use Rattle.spec_tick.specs.StateRecord.{state_length, phase_in, labels_in, encode_state, Recorded}
use Rattle.records.proofs.StateLaws.{length_state}
use Rattle.spec_base.specs.Parts.{put}
use Rattle.numbers.proofs.Putting.{put-before, put-behind}
use Rattle.spec_bay.specs.Names.{Position, position, find, without, is_known, Answered, answered, save_named, forget_named, number_answered, positions_after}
use Rattle.spec_bay.specs.Table.{lookup, kept, number_kept, table_kept, save_of, forget_of}
use Rattle.box_positions.specs.Places.{Agrees}
use Rattle.box_positions.proofs.Theorems.{save_agrees, forget_agrees}
use Rattle.spec_bay.specs.Ledgers.{total_in}
use Rattle.spec_tick.specs.Record.{recordLength, panel_length, panel_of}
use Rattle.spec_bay.specs.Called.{Called, called, number, memory_after, lent_after}
use Rattle.spec_bay.specs.Stretch.{state_at, count_at, positions_at, stretch_length, state_in, last_number_in, positions_in, ledger_in}
use Rattle.spec_bay.specs.BayCalls.{bay_release_of, bay_save_of, bay_forget_of, bay_restore_of, bay_service_of, bay_panel_of, bay_new_year_of}
use Rattle.spec_box.specs.Box.{Call, release, save, restore, forget, service, panel, new_year, bay_call}
use Rattle.spec_box.specs.Shares.{Sendable}
use Rattle.theory_bay.proofs.Fields.{length-vacated, vacated_empty, moved_holds, moved-state}
use Rattle.theory_box.proofs.Moves.{Moved, refused, stored, moved-refused, save-moved, forget-moved, year_moved, further}
use Rattle.theory_box.proofs.Bays.{ceiling_for, bounds}
use Rattle.theory_box.proofs.Standing.{behind-stands}
use Rattle.theory_box.proofs.Positions.{Positioned, table-after, positioned-after, save-waiting, save-otherwise, forget_number, restore-known, restore-unknown}
use Rattle.spec_box.specs.PaperBox.{PaperPlace, replies, PaperReply, down, holds, shows, with_machine, with_positions, renamed_on, save_on, restore_on, sized}
use Rattle.spec_box.specs.Reports.{reported}
use Rattle.theory_box.proofs.PaperMachines.{Follows}
use Rattle.theory_box.proofs.PaperNames.{mapped, kept_if, mapped_answer, find-kept, save-kept, forget-kept}
use Rattle.theory_box.proofs.PaperAlike.{Present, standing, bay_of, SameTotals, Alike, vacant, present, Same, refusal_reported, same-down, same-answered, totals_after}

-- what is written behind the number leaves it
pub count_behind : {s : List ℕ} {o : Called} → length s ≡ stretch_length → Moved positions_at s o → last_number_in (memory_after o) ≡ last_number_in s
count_behind z (refused n d e) = ap (λ (o : Called). last_number_in (memory_after o)) e
count_behind {s} z (stored at n bytes low high sized e) =
    ap (λ (o : Called). last_number_in (memory_after o)) e
    ∙ ap le_number (put-before at n bytes s (omega arith) (sized z) count_at number_bytes (omega arith))

-- a call by its number and what it leaves
eta : (o : Called) → o ≡ called (number o) (memory_after o) (lent_after o)
eta (called n s lent) = refl

moved_lent : {s : List ℕ} {o : Called} → Moved positions_at s o → lent_after o ≡ []
moved_lent (refused n d e) = ap lent_after e
moved_lent (stored at n bytes low high sized e) = ap lent_after e

answered_moved : {s : List ℕ} {o : Called} → Moved positions_at s o → number o ≡ 0 → o ≡ called 0 (memory_after o) []
answered_moved {s} {o} m n = eta o ∙ ap₂ (λ (i : ℕ) (l : List (List ℕ)). called i (memory_after o) l) n (moved_lent m)

phases : (phase_in (encode_state State.fresh) ≢ 1) × (phase_in (encode_state State.over) ≢ 1)
unfolding encode_state
phases = (λ x. omega arith, λ x. omega arith)

module _ {S T R : Type 0} (m : Follows S T R) (k : ℕ) (s : List ℕ) (z : PaperPlace S T) (h : Present m s) (e : z.bay ≡ some (bay_of m h)) (t : SameTotals s z.totals) where
  abbrev long : length s ≡ stretch_length
  long = h.holds.sized

  same : Alike m s z
  same = present h e t

  abbrev q : Statement
  q = program h.terms.read_back h.accepted.statement

  -- what is saved of the machine where it waits with these labels
  abbrev g : ℕ → T
  g = m.kept_of (program h.terms.read_back h.accepted.statement)

  -- ---- taken out
  pub release-same : Same m release (bay_release_of s) (holds z none)
  unfolding bay_release_of
  release-same =
      record {
        report = refl;
        alike = vacant (length-vacated s long) (vacated_empty s) refl (totals_after k s long z.totals t release refl);
      }

  -- ---- something is written behind the state
  abbrev behind : (c : Call) → Sendable c → Moved positions_at s (bay_call k c s) → (ps : List (Position ℕ)) → Agrees (positions_in (memory_after (bay_call k c s))) ps
      → (qs : List (Position T)) → qs ≡ mapped (m.kept_of (program h.terms.read_back h.accepted.statement)) ps → Present m (memory_after (bay_call k c s))
  behind c r v ps a qs i =
      let now = behind-stands h.terms s (standing m h) v in
      record {
        terms = h.terms;
        accepted = h.accepted;
        holds = now.0.holds;
        fine = h.fine;
        state = h.state;
        bytes = now.1 ∙ h.bytes;
        recorded = h.recorded;
        machine = h.machine;
        at = h.at;
        last = h.last;
        count = count_behind long v ∙ h.count;
        fits = h.fits;
        positioned = positioned-after h.terms s (standing m h) h.positioned k c r;
        names = ps;
        agrees = a;
        positions = qs;
        saved = i;
      }

  -- ---- a new year
  pub year-same : Same m new_year (bay_new_year_of s) (replies 0 [], record { bay = z.bay; totals = λ f. 0 })
  unfolding bay_new_year_of
  year-same =
      record {
        report = refl;
        alike = present
            (behind new_year tt (further (omega arith) (year_moved s)) h.names
            (subst (λ (x : List ℕ). Agrees x h.names) (sym (table-after k s long new_year refl)) h.agrees) h.positions h.saved)
            e (totals_after k s long z.totals t new_year refl);
      }

  -- ---- readers
  reads_same : (c : Call) → ((n : ℕ) (lent : List (List ℕ)) → reported m.kind.reads c (called n s lent) ≡ replies n lent)
      → (b : Bool) (shown view : List ℕ)
      → Same m c (cond b (called 0 s (shown ∷ [])) (called 1 s (view ∷ []))) (sized m.kind b (view ∷ []) z (shows shown z))
  reads_same c i true shown view = record { report = i 0 (shown ∷ []); alike = same }
  reads_same c i false shown view = record { report = i 1 (view ∷ []); alike = same }

  pub service-same : (trace view : List ℕ) → Same m (service trace view) (bay_service_of s trace view)
      (sized m.kind (eqb (length trace) recordLength && eqb (length view) recordLength) (view ∷ []) z (shows trace z))
  unfolding bay_service_of
  service-same trace view =
      reads_same (service trace view) (λ n lent. refl) (eqb (length trace) recordLength && eqb (length view) recordLength) trace view

  pub panel-same : (trace view : List ℕ) → Same m (panel trace view) (bay_panel_of s trace view)
      (sized m.kind (eqb (length trace) recordLength && eqb (length view) panel_length) (view ∷ []) z (shows (panel_of h.terms.service_only trace) z))
  unfolding bay_panel_of
  panel-same trace view =
      rw h.holds.service
      (reads_same (panel trace view) (λ n lent. refl) (eqb (length trace) recordLength && eqb (length view) panel_length)
      (panel_of h.terms.service_only trace) view)

  -- ---- positions
  turned_down : (c : Call) (n : ℕ) → n ≢ 0 → Moved positions_at s (bay_call k c s) → number (bay_call k c s) ≡ n → bay_call k c s ≡ called n s []
  turned_down c n y v i = moved-refused v (λ x. y (sym i ∙ x)) ∙ ap (λ (j : ℕ). called j s []) i

  -- a save or a forget that is turned down leaves the positions
  same_names : (c : Call) (n : ℕ) → n ≢ 0 → bay_call k c s ≡ called n s []
      → Same m c (bay_call k c s) (renamed_on m.kind z (bay_of m h) (answered n (mapped (m.kept_of (program h.terms.read_back h.accepted.statement)) h.names)))
  same_names c n y w =
      subst (λ (o : Called). Same m c o (renamed_on m.kind z (bay_of m h) (answered n (mapped g h.names)))) (sym w)
      (record {
        report = refusal_reported m.kind.reads c n y s [];
        alike = present h (ap (λ (ps : List (Position T)). some (with_positions (bay_of m h) ps)) (sym h.saved)) t;
      })

  -- one that is answered 0 has these positions
  other-names : (c : Call) → Sendable c → Moved positions_at s (bay_call k c s) → number (bay_call k c s) ≡ 0
      → reported m.kind.reads c (called 0 (memory_after (bay_call k c s)) []) ≡ replies 0 []
      → (ps : List (Position ℕ)) → Agrees (positions_in (memory_after (bay_call k c s))) ps
      → SameTotals (memory_after (bay_call k c s)) z.totals
      → Same m c (bay_call k c s) (renamed_on m.kind z (bay_of m h) (answered 0 (mapped (m.kept_of (program h.terms.read_back h.accepted.statement)) ps)))
  other-names c r v n i ps a u =
      same-answered m c (memory_after (bay_call k c s)) (record { bay = some (with_positions (bay_of m h) (mapped g ps)); totals = z.totals }) [] (replies 0 []) i
      (present (behind c r v ps a (mapped g ps) refl) refl u)
      (answered_moved v n) refl

  module _ (name : ℕ) (small : Sendable (save name)) where
    not-waiting : (st : State) → h.state ≡ st → phase_in (encode_state st) ≢ 1 → Same m (save name) (bay_save_of s name) (down 15 [] z)
    not-waiting st i y =
        same-down m (save name) s z same 15 (λ x. omega arith) []
        (turned_down (save name) 15 (λ x. omega arith) (save-moved s name)
        (save-otherwise s name (λ x. y (ap phase_in (ap encode_state (sym i) ∙ sym h.bytes) ∙ x)))) refl

    module _ (L : ℕ) (i : h.state ≡ State.waits L) where
      labels : labels_in (state_in s) ≡ L
      unfolding encode_state le_number le_bytes
      labels =
          ap labels_in (h.bytes ∙ ap encode_state i)
          ∙ le_round_trip label_bytes L (subst (Recorded h.accepted.statement) i h.recorded).1

      waiting : phase_in (state_in s) ≡ 1
      unfolding encode_state
      waiting = ap phase_in (h.bytes ∙ ap encode_state i)

      agreed : (number_kept (save_of name L (positions_in s)) ≡ number_answered (save_named name L h.names))
          × Agrees (table_kept (save_of name L (positions_in s))) (positions_after (save_named name L h.names))
      agreed = save_agrees (positions_in s) h.names h.agrees name L small (subst (Recorded h.accepted.statement) i h.recorded).1

      number_is : number (bay_save_of s name) ≡ number_answered (save_named name L h.names)
      number_is = save-waiting s name waiting ∙ ap (λ (l : ℕ). number_kept (save_of name l (positions_in s))) labels ∙ agreed.0

      by-test : (b : Bool) → save_named name L h.names ≡ cond b (answered 0 (position name L ∷ without name h.names)) (answered 16 h.names)
          → Same m (save name) (bay_save_of s name) (renamed_on m.kind z (bay_of m h) (mapped_answer (m.kept_of (program h.terms.read_back h.accepted.statement))
          (cond b (answered 0 (position name L ∷ without name h.names)) (answered 16 h.names))))
      by-test true w =
          let n : number (bay_save_of s name) ≡ 0 = number_is ∙ ap number_answered w in
          other-names (save name) small (save-moved s name) n refl (position name L ∷ without name h.names)
          (subst (λ (x : List ℕ). Agrees x (position name L ∷ without name h.names))
          (sym (table-after k s long (save name) n ∙ ap (λ (l : ℕ). table_kept (save_of name l (positions_in s))) labels))
          (subst (Agrees (table_kept (save_of name L (positions_in s)))) (ap positions_after w) agreed.1))
          (totals_after k s long z.totals t (save name) n)
      by-test false w =
          same_names (save name) 16 (λ x. omega arith)
          (turned_down (save name) 16 (λ x. omega arith) (save-moved s name) (number_is ∙ ap number_answered w))

      waiting-same : Same m (save name) (bay_save_of s name)
          (save_on m.kind z (bay_of m h) name (some (m.kept_of (program h.terms.read_back h.accepted.statement) L)))
      unfolding save_named
      waiting-same =
          subst (λ (x : Answered T). Same m (save name) (bay_save_of s name) (renamed_on m.kind z (bay_of m h) x))
          (sym (ap (save_named name (g L)) h.saved ∙ save-kept g name L h.names))
          (by-test (is_known (find name h.names) || ltb (length h.names) max_positions) refl)

    pub save-same : Same m (save name) (bay_save_of s name) (save_on m.kind z (bay_of m h) name (m.kind.kept h.machine))
    save-same = go h.state refl h.at
      where
        kept-as : (o : Option T) → m.kind.kept h.machine ≡ o → Same m (save name) (bay_save_of s name) (save_on m.kind z (bay_of m h) name o)
            → Same m (save name) (bay_save_of s name) (save_on m.kind z (bay_of m h) name (m.kind.kept h.machine))
        kept-as o i x = subst (λ (o : Option T). Same m (save name) (bay_save_of s name) (save_on m.kind z (bay_of m h) name o)) (sym i) x

        go : (st : State) → h.state ≡ st → m.At (program h.terms.read_back h.accepted.statement) st h.machine
            → Same m (save name) (bay_save_of s name) (save_on m.kind z (bay_of m h) name (m.kind.kept h.machine))
        go State.fresh i j = kept-as none (m.kept_fresh q h.machine j) (not-waiting State.fresh i phases.0)
        go (State.waits L) i j = kept-as (some (g L)) (m.kept_waits q L h.machine j) (waiting-same L i)
        go State.over i j = kept-as none (m.kept_over q h.machine j) (not-waiting State.over i phases.1)

  module _ (name : ℕ) where
    agreed-on : (number_kept (forget_of name (positions_in s)) ≡ number_answered (forget_named name h.names))
        × Agrees (table_kept (forget_of name (positions_in s))) (positions_after (forget_named name h.names))
    agreed-on = forget_agrees (positions_in s) h.names h.agrees name

    forget_is : number (bay_forget_of s name) ≡ number_answered (forget_named name h.names)
    forget_is = forget_number s name ∙ agreed-on.0

    forgets : (b : Bool) → forget_named name h.names ≡ cond b (answered 0 (without name h.names)) (answered 15 h.names)
        → Same m (forget name) (bay_forget_of s name) (renamed_on m.kind z (bay_of m h) (mapped_answer (m.kept_of (program h.terms.read_back h.accepted.statement))
        (cond b (answered 0 (without name h.names)) (answered 15 h.names))))
    forgets true w =
        let n : number (bay_forget_of s name) ≡ 0 = forget_is ∙ ap number_answered w in
        other-names (forget name) tt (forget-moved s name) n refl (without name h.names)
        (subst (λ (x : List ℕ). Agrees x (without name h.names)) (sym (table-after k s long (forget name) n))
        (subst (Agrees (table_kept (forget_of name (positions_in s)))) (ap positions_after w) agreed-on.1))
        (totals_after k s long z.totals t (forget name) n)
    forgets false w =
        same_names (forget name) 15 (λ x. omega arith)
        (turned_down (forget name) 15 (λ x. omega arith) (forget-moved s name) (forget_is ∙ ap number_answered w))

    pub forget-same : Same m (forget name) (bay_forget_of s name) (renamed_on m.kind z (bay_of m h) (forget_named name h.positions))
    unfolding forget_named
    forget-same =
        subst (λ (x : Answered T). Same m (forget name) (bay_forget_of s name) (renamed_on m.kind z (bay_of m h) x))
        (sym (ap (forget_named name) h.saved ∙ forget-kept g name h.names))
        (forgets (is_known (find name h.names)) refl)

    -- coming back
    found : find name h.positions ≡ kept_if (m.kept_of (program h.terms.read_back h.accepted.statement)) (find name h.names)
    found = ap (find name) h.saved ∙ find-kept g name h.names

    restores : (o : Option ℕ) → lookup name (positions_in s) ≡ o
        → Same m (restore name) (bay_restore_of s name) (restore_on m.kind z (bay_of m h) (kept_if (m.kept_of (program h.terms.read_back h.accepted.statement)) o))
    restores none w = same-down m (restore name) s z same 15 (λ x. omega arith) [] (restore-unknown s name w) refl
    restores (some L) w =
        let back = restore-known s name L w in
        let n : number (bay_restore_of s name) ≡ 0 = ap number back in
        let fits = (bounds h.terms h.accepted).1 in
        let bytes : List ℕ = encode_state (State.waits L) in
        let l = length_state (State.waits L) in
        let after : List ℕ = put state_at state_length bytes s in
        let table : positions_in after ≡ positions_in s = sym (ap (λ (o : Called). positions_in (memory_after o)) back) ∙ table-after k s long (restore name) n in
        let next : Present m after = record {
          terms = h.terms;
          accepted = h.accepted;
          holds = moved_holds h.terms (ceiling_for h.terms) fits s h.holds bytes l;
          fine = h.fine;
          state = State.waits L;
          bytes = moved-state h.terms (ceiling_for h.terms) fits s h.holds bytes l;
          recorded = h.positioned.saved name L w h.accepted.statement h.accepted.spelled;
          machine = m.kind.back (g L);
          at = m.back_at q L;
          last = h.last;
          count = ap le_number (put-behind state_at state_length bytes s (omega (arith, long)) l count_at number_bytes (omega arith)) ∙ h.count;
          fits = h.fits;
          positioned = subst (Positioned h.terms) (sym table) h.positioned;
          names = h.names;
          agrees = subst (λ (x : List ℕ). Agrees x h.names) (sym table) h.agrees;
          positions = h.positions;
          saved = h.saved;
        } in
        same-answered m (restore name) after
        (record { bay = some (with_machine (bay_of m h) (m.kind.back (g L)) h.last); totals = z.totals }) [] (replies 0 []) refl
        (present next refl
        (λ f i. sym (ap (λ (o : Called). total_in f (ledger_in (memory_after o))) back) ∙ totals_after k s long z.totals t (restore name) n f i))
        back refl

    pub restore_same : Same m (restore name) (bay_restore_of s name) (restore_on m.kind z (bay_of m h) (find name h.positions))
    restore_same =
        subst (λ (o : Option T). Same m (restore name) (bay_restore_of s name) (restore_on m.kind z (bay_of m h) o)) (sym found)
        (restores (find name h.names) (h.agrees.alike name))
