-- The totals of the box on paper are the sums of what its instants delivered since the last new year.
use Prim.Native.Nat.{ℕ, ◌+◌, ◌<◌}
use native.Mathlib.Omega.{arith}
use native.Mathlib.Decide.{ℕ_discrete}
use mathlib.Core.Path.{◌≡◌, refl, sym, ◌∙◌, subst}
use mathlib.Core.Bool.{Bool, true, false, ◌&&◌, cond}
use mathlib.Core.Option.{Option, some, none}
use mathlib.Core.List.{List, [], ◌∷◌}
use lib.ListN.{length}
use lib.Dec.{eqb, leb, ltb}
use borrow.Author.Tests.{eq-eqb, ne_eqb, lt-ltb}
use Rattle.spec_base.specs.Limits.{farm_count, shared_ceiling, bay_count}
use Rattle.spec_language.specs.Statement.{Statement}
use Rattle.spec_language.specs.Ceiling.{ceiling}
use Rattle.spec_language.specs.Machines.{Seen, instant, refused}
use Rattle.spec_sequence.specs.Program.{program}
use Rattle.spec_sequence.specs.Check.{Checked, sound, bad, checked}
use Rattle.spec_tick.specs.AnswerRecord.{answer_length}
use Rattle.spec_tick.specs.Record.{recordLength, panel_length, panel_of}
use Rattle.spec_tick.specs.Recording.{following}
use Rattle.spec_bay.specs.Names.{find, Answered, answered, save_named, forget_named}
use Rattle.spec_bay.specs.Preview.{Previewed, previewed, preview_length, shown_by}
use Rattle.spec_bay.specs.Ledgers.{reading_length, reading_for, would_pass}
use Rattle.spec_bay.specs.Stretch.{Terms}
use Rattle.spec_box.specs.Box.{Call, admit, release, tick, save, restore, forget, service, panel, preview, ledger, new_year, buffers}
use Rattle.spec_box.specs.Lists.{Request, calls_to}
use Rattle.spec_box.specs.Years.{sum_of}
use Rattle.spec_box.specs.PaperBox.{BayMachine, PaperBay, PaperPlace, PaperBox, PaperReply, Reported, ticked, replies, down, holds, shows, with_machine, present_on, program_of, fresh_bay, admit_on, adds_on, tick_on, renamed_on, save_on, restore_on, previewed_on, preview_on, sized, place_call, with_place, paper_call, answer_seen}
use Rattle.spec_box.specs.Reports.{paper_after}
use Rattle.spec_box.specs.Certified.{deliveries_after, deliveries_over}

-- ---- the totals on paper are the sums of what was delivered
module _ {S T R : Type 0} (m : BayMachine S T R) (f k : ℕ) (totals : ℕ → ℕ) (ds : List ℕ) (h : totals f ≡ sum_of ds) where
  abbrev place : Option (PaperBay S T) → PaperPlace S T
  place b = record { bay = b; totals = totals }

  -- the farm's total after a call is the sum of the deliveries after it
  abbrev Told : Call → Option (PaperBay S T) → PaperReply S T R → Type 0
  Told c b o = o.1.totals f ≡ sum_of (deliveries_after m f c o.0 b ds)

  admit-told : (t : Terms) (b : Option (PaperBay S T)) → Told (admit t) b (place_call m k (admit t) (record { bay = b; totals = totals }))
  admit-told t (some b) = h
  admit-told t none = go (checked t.sequence t.read_back)
    where
      by_sum : (p : Statement) (c : Bool) → Told (admit t) none (cond c (holds (place none) (some (fresh_bay m t p))) (down 14 [] (place none)))
      by_sum p true = h
      by_sum p false = h

      go : (c : Checked) → Told (admit t) none (admit_on m k (place none) t c)
      go (bad n) = h
      go (sound p) = by_sum p (leb (k + ceiling (program t.read_back p)) shared_ceiling)

  tick-told : (e : ℕ) (answer trace : List ℕ) (b : Option (PaperBay S T))
      → Told (tick e answer trace) b (place_call m k (tick e answer trace) (record { bay = b; totals = totals }))
  unfolding sum_of
  tick-told e answer trace none = h
  tick-told e answer trace (some b) =
      long (eqb (length trace) recordLength && eqb (length answer) answer_length) (m.react (program_of b) b.machine e).0
    where
      passing : (x : R) (n : ℕ) (c : Bool) → Told (tick e answer trace) (some b)
          (cond c (down 19 (answer ∷ trace ∷ []) (place (some b)))
          (ticked x, record { bay = some (with_machine b (m.react (program_of b) b.machine e).1 n); totals = λ g. totals g + adds_on m b e g }))
      passing x n true = h
      passing x n false = omega (arith, h)

      seen : (x : Seen) → Told (tick e answer trace) (some b)
          (tick_on m (place (some b)) b e (answer ∷ trace ∷ []) x (m.react (program_of b) b.machine e).1)
      seen refused = h
      seen (instant c x o n after) =
          passing (m.tells (instant c x o n after) (m.react (program_of b) b.machine e).1 (following b.last) e) (following b.last)
          (would_pass farm_count totals (adds_on m b e))

      long : (c : Bool) (x : Seen) → Told (tick e answer trace) (some b)
          (sized m c (answer ∷ trace ∷ []) (place (some b)) (tick_on m (place (some b)) b e (answer ∷ trace ∷ []) x (m.react (program_of b) b.machine e).1))
      long true x = seen x
      long false x = h

  -- positions: a bay with others, or the same
  renamed-told : (b : PaperBay S T) (x : Answered T) → (renamed_on m (record { bay = some b; totals = totals }) b x).1.totals f ≡ sum_of ds
  renamed-told b (answered n ps) = h

  save-told : (name : ℕ) (b : Option (PaperBay S T)) → Told (save name) b (place_call m k (save name) (record { bay = b; totals = totals }))
  save-told name none = h
  save-told name (some b) = go (m.kept b.machine)
    where
      go : (t : Option T) → Told (save name) (some b) (save_on m (place (some b)) b name t)
      go none = h
      go (some t) = renamed-told b (save_named name t b.positions)

  restore-told : (name : ℕ) (b : Option (PaperBay S T)) → Told (restore name) b (place_call m k (restore name) (record { bay = b; totals = totals }))
  restore-told name none = h
  restore-told name (some b) = go (find name b.positions)
    where
      go : (t : Option T) → Told (restore name) (some b) (restore_on m (place (some b)) b t)
      go none = h
      go (some t) = h

  -- a reader leaves the place
  read_told : (b : Option (PaperBay S T)) (c : Bool) (lent : List (List ℕ)) (bytes : List ℕ)
      → (sized m c lent (record { bay = b; totals = totals }) (shows bytes (record { bay = b; totals = totals }))).1.totals f ≡ sum_of ds
  read_told b true lent bytes = h
  read_told b false lent bytes = h

  preview-told : (b : PaperBay S T) (e u : ℕ) (buffer : List ℕ) (c : Bool) (x : Seen)
      → (sized m c (buffer ∷ []) (record { bay = some b; totals = totals }) (preview_on m (record { bay = some b; totals = totals }) b e u buffer x)).1.totals f
      ≡ sum_of ds
  preview-told b e u buffer false x = h
  preview-told b e u buffer true refused = h
  preview-told b e u buffer true (instant k x o n after) = go (shown_by (λ i. answer_seen (m.react (program_of b) b.machine i).0) e u buffer)
    where
      go : (x : Previewed) → (previewed_on m (record { bay = some b; totals = totals }) x).1.totals f ≡ sum_of ds
      go (previewed n bytes) = h

  place-told : (c : Call) (b : Option (PaperBay S T)) → Told c b (place_call m k c (record { bay = b; totals = totals }))
  unfolding sum_of
  place-told (admit t) b = admit-told t b
  place-told release none = h
  place-told release (some b) = h
  place-told (tick e answer trace) b = tick-told e answer trace b
  place-told (save name) b = save-told name b
  place-told (restore name) b = restore-told name b
  place-told (forget name) none = h
  place-told (forget name) (some b) = renamed-told b (forget_named name b.positions)
  place-told (service trace view) none = h
  place-told (service trace view) (some b) =
      read_told (some b) (eqb (length trace) recordLength && eqb (length view) recordLength) (view ∷ []) trace
  place-told (panel trace view) none = h
  place-told (panel trace view) (some b) =
      read_told (some b) (eqb (length trace) recordLength && eqb (length view) panel_length) (view ∷ []) (panel_of b.service_only trace)
  place-told (preview e u buffer) none = h
  place-told (preview e u buffer) (some b) =
      preview-told b e u buffer (eqb (length buffer) preview_length) (m.react (program_of b) b.machine e).0
  place-told (ledger buffer) b = read_told b (eqb (length buffer) reading_length) (buffer ∷ []) (reading_for totals)
  place-told new_year b = refl

-- over a list of calls
module _ {S T R : Type 0} (m : BayMachine S T R) (bay : ℕ) (small : bay < bay_count) (f : ℕ) where
  own-total : (box : PaperBox S T) (ds : List ℕ) → (box bay).totals f ≡ sum_of ds → (c : Call)
      → ((paper_call m box bay c).1 bay).totals f ≡ sum_of (deliveries_after m f c (paper_call m box bay c).0 (box bay).bay ds)
  own-total box ds h c =
      rw (lt-ltb bay bay_count small, eq-eqb bay bay refl) (place-told m f (present_on bay_count box) (box bay).totals ds h c (box bay).bay)

  other-total : (box : PaperBox S T) (j : ℕ) (c : Call) → (j ≡ bay → ⊥) → ((paper_call m box j c).1 bay).totals f ≡ (box bay).totals f
  other-total box j c q = go (ltb j bay_count)
    where
      told : PaperReply S T R
      told = place_call m (present_on bay_count box) c (box j)

      go : (b : Bool) → ((cond {A = Reported R × PaperBox S T} b (told.0, with_place m box j told.1) (replies 13 (buffers c), box)).1 bay).totals f ≡ (box bay).totals f
      go true = rw (ne_eqb bay j (λ e. q (sym e)))
      go false = refl

  -- THE TOTALS ON PAPER are the sums of what was delivered
  pub totals-are-sums : (box : PaperBox S T) (ds : List ℕ) → (box bay).totals f ≡ sum_of ds → (xs : List Request)
      → (paper_after m box xs bay).totals f ≡ sum_of (deliveries_over m bay f box ds xs)
  unfolding paper_after deliveries_over calls_to
  totals-are-sums box ds h [] = h
  totals-are-sums box ds h (x ∷ xs) =
      elim (ℕ_discrete x.bay bay) [
        | yes q ↦ subst (λ (j : ℕ).
            (paper_after m (paper_call m box j x.call).1 xs bay).totals f
            ≡ sum_of (deliveries_over m bay f box ds (record { bay = j; call = x.call } ∷ xs))) (sym q)
            (rw (eq-eqb bay bay refl)
            (totals-are-sums (paper_call m box bay x.call).1 (deliveries_after m f x.call (paper_call m box bay x.call).0 (box bay).bay ds)
            (own-total box ds h x.call) xs))
        | no q ↦ rw (ne_eqb x.bay bay q) (totals-are-sums (paper_call m box x.bay x.call).1 ds (other-total box x.bay x.call q ∙ h) xs)
      ]
