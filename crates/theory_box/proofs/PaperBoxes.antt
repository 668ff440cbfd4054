-- THE BOX ON PAPER: every list of calls to a box from the empty one reports what the paper does, by terms and by labels.
use Prim.Native.Nat.{ℕ, zero, suc, ◌+◌, ◌≤◌, ◌<◌}
use native.Mathlib.Omega.{arith}
use native.Mathlib.Decide.{ℕ_discrete, dec_lt}
use mathlib.Core.Path.{◌≡◌, refl, sym, ap, ap₂, ◌∙◌, subst}
use mathlib.Core.Bool.{Bool, true, false, cond}
use mathlib.Core.Option.{Option, some}
use mathlib.Core.Option as Option
use mathlib.Core.List.{List, [], ◌∷◌, Memᴰ}
use lib.ListN.{length}
use borrow.Author.Tests.{eq-eqb, ne_eqb, lt-ltb, le-ltb}
use Rattle.spec_base.specs.Limits.{farm_count, bay_count}
use Rattle.spec_language.specs.Ceiling.{ceiling}
use Rattle.spec_language.specs.States.{NoSetpause}
use Rattle.spec_language.specs.Machines.{State}
use Rattle.spec_language.specs.Statement.{Statement}
use Rattle.spec_sequence.specs.Check.{check_of}
use Rattle.spec_sequence.specs.Rows.{Spells}
use Rattle.spec_tick.specs.StateRecord.{encode_state}
use Rattle.spec_sequence.specs.Ceilings.{ceiling_of}
use Rattle.spec_base.specs.Bytes.{le_number}
use Rattle.spec_base.specs.Parts.{zeros}
use Rattle.numbers.proofs.Zeros.{length-zeros, slot-zeros, zeros_number}
use Rattle.spec_bay.specs.Ledgers.{total_in}
use Rattle.box_ledgers.proofs.Theorems.{cleared_total}
use Rattle.spec_bay.specs.Called.{Called, memory_after}
use Rattle.spec_bay.specs.Stretch.{stretch_length, length_in, is_empty, sequence_in, read_back_in, service_only_in, state_in, ledger_in, part_of, Terms}
use Rattle.spec_box.specs.Box.{box_length, empty_box, stretch_of, present, Call, admit, release, tick, save, restore, forget, service, panel, preview, ledger, new_year, buffers, is_for, call_of}
use Rattle.spec_box.specs.Lists.{Request, after_call, box_after}
use Rattle.spec_box.specs.Shares.{Sendable, AllSendable, none, each}
use Rattle.theory_box.proofs.Bays.{on_stretch}
use Rattle.theory_box.proofs.Standing.{not-empty, sequence-held}
use Rattle.theory_box.proofs.Reached.{part_vacant, part_held, empty_stretch_lem, kept_empty}
use Rattle.theory_box.proofs.Years.{at_first}
use Rattle.theory_box.proofs.Stretches.{result, no-bay, own, own_stretch, same_length, others_stay}
use Rattle.spec_box.specs.PaperBox.{PaperBay, PaperPlace, PaperBox, empty_paper, Reported, replies, PaperReply, down, part_on, present_on, place_call, with_place, paper_call, by_terms, by_label_sets}
use Rattle.spec_box.specs.Reports.{reported, reports, paper_reports, paper_after, Admitting, OnPaper, ByLabelSets, HeldIf, HeldOnPaper}
use Rattle.theory_box.proofs.PaperMachines.{Follows, terms_follow, labels_follow}
use Rattle.spec_bay.specs.Names.{find}
use Rattle.theory_box.proofs.PaperNames.{kept_if, find-kept}
use Rattle.theory_box.proofs.PaperAlike as alike
use Rattle.theory_box.proofs.PaperAlike.{Present, standing, bay_of, SameTotals, Alike, Same, refusal_reported, same-down}
use Rattle.theory_box.proofs.PaperMoves.{release-same, year-same, service-same, panel-same, save-same, forget-same, restore_same}
use Rattle.theory_box.proofs.PaperTicks.{tick_same}
use Rattle.theory_box.proofs.PaperPreviews.{preview-same}
use Rattle.theory_box.proofs.PaperAdmissions.{ledger_same, vacant-year-same, admit-same}

-- ---- a call that the machine is for: sets and names of 32 bits, and an accepted sequence spells such a statement
pub record Fits (For : Statement → Type 0) (c : Call) : Type 0 where
  pub sendable : Sendable c
  pub admitted : (t : Terms) → c ≡ admit t → check_of t.sequence t.read_back ≡ 0 → (p : Statement) → Spells t.sequence p → For p

-- ---- a call on a slot
module _ {S T R : Type 0} (m : Follows S T R) (k : ℕ) (s : List ℕ) (z : PaperPlace S T) where
  -- 13 for a bay that is not there for the call
  not_there : (c : Call) → Alike m s z → is_for c s ≡ false → {told : PaperReply S T R} → told ≡ down 13 (buffers c) z → Same m c (on_stretch k c s) told
  not_there c a i e = same-down m c s z a 13 (λ y. omega arith) (buffers c) (rw i) e

-- a bay that is present
module _ {S T R : Type 0} (m : Follows S T R) (k : ℕ) (s : List ℕ) (h : Present m s) (totals : ℕ → ℕ) (t : SameTotals s totals) where
  abbrev z : PaperPlace S T
  z = record { bay = some (bay_of m h); totals = totals }

  a : Alike m s (record { bay = some (bay_of m h); totals = totals })
  a = alike.present h refl t

  filled : is_empty s ≡ false
  filled = not-empty h.terms s (standing m h)

  present-same : (c : Call) → Fits m.For c → Same m c (on_stretch k c s) (place_call m.kind k c (record { bay = some (bay_of m h); totals = totals }))
  present-same (admit x) r = not_there m k s z (admit x) a filled refl
  present-same release r = rw filled (release-same m k s z h refl t)
  present-same (tick i answer trace) r = rw filled (tick_same m k s z h refl t i answer trace)
  present-same (save name) r = rw filled (save-same m k s z h refl t name r.sendable)
  present-same (restore name) r = rw filled (restore_same m k s z h refl t name)
  present-same (forget name) r = rw filled (forget-same m k s z h refl t name)
  present-same (service trace view) r = rw filled (service-same m k s z h refl t trace view)
  present-same (panel trace view) r = rw filled (panel-same m k s z h refl t trace view)
  present-same (preview i u buffer) r = rw filled (preview-same m s z h refl t i u buffer)
  present-same (ledger buffer) r = ledger_same m s z a t buffer
  present-same new_year r = year-same m k s z h refl t

-- an empty one
module _ {S T R : Type 0} (m : Follows S T R) (k : ℕ) (s : List ℕ) (sized : length s ≡ stretch_length) (empty : length_in s ≡ 0) (totals : ℕ → ℕ) (t : SameTotals s totals) where
  abbrev z₀ : PaperPlace S T
  z₀ = record { bay = Option.none; totals = totals }

  a₀ : Alike m s (record { bay = Option.none; totals = totals })
  a₀ = alike.vacant sized empty refl t

  free : is_empty s ≡ true
  free = eq-eqb (length_in s) 0 empty

  absent : (c : Call) → is_for c s ≡ false → {told : PaperReply S T R} → told ≡ down 13 (buffers c) (record { bay = Option.none; totals = totals }) → Same m c (on_stretch k c s) told
  absent c i e = not_there m k s z₀ c a₀ i e

  vacant-same : (c : Call) → Fits m.For c → Same m c (on_stretch k c s) (place_call m.kind k c (record { bay = Option.none; totals = totals }))
  vacant-same (admit x) r = rw free (admit-same m k s z₀ sized empty refl t x r.sendable (r.admitted x refl))
  vacant-same release r = absent release (rw free) refl
  vacant-same (tick i answer trace) r = absent (tick i answer trace) (rw free) refl
  vacant-same (save name) r = absent (save name) (rw free) refl
  vacant-same (restore name) r = absent (restore name) (rw free) refl
  vacant-same (forget name) r = absent (forget name) (rw free) refl
  vacant-same (service trace view) r = absent (service trace view) (rw free) refl
  vacant-same (panel trace view) r = absent (panel trace view) (rw free) refl
  vacant-same (preview i u buffer) r = absent (preview i u buffer) (rw free) refl
  vacant-same (ledger buffer) r = ledger_same m s z₀ a₀ t buffer
  vacant-same new_year r = vacant-year-same m k s z₀ sized empty refl t

stretch_same : {S T R : Type 0} (m : Follows S T R) (k : ℕ) (s : List ℕ) (z : PaperPlace S T) → Alike m s z → (c : Call) → Fits m.For c → Same m c (on_stretch k c s) (place_call m.kind k c z)
stretch_same {S = S} {T = T} m k s z (alike.vacant sized empty e t) c r =
    subst (λ (b : Option (PaperBay S T)). Same m c (on_stretch k c s) (place_call m.kind k c (record { bay = b; totals = z.totals }))) (sym e)
    (vacant-same m k s sized empty z.totals t c r)
stretch_same {S = S} {T = T} m k s z (alike.present h e t) c r =
    subst (λ (b : Option (PaperBay S T)). Same m c (on_stretch k c s) (place_call m.kind k c (record { bay = b; totals = z.totals }))) (sym e)
    (present-same m k s h z.totals t c r)

-- ---- boxes
pub record Simulates {S T R : Type 0} (m : Follows S T R) (box : List ℕ) (paper : PaperBox S T) : Type 0 where
  pub sized : length box ≡ box_length
  pub places : (bay : ℕ) → bay < bay_count → Alike m (stretch_of bay box) (paper bay)

-- a bay has the same part of the shared ceiling
same_part : {S T R : Type 0} (m : Follows S T R) (s : List ℕ) (z : PaperPlace S T) → Alike m s z → part_of s ≡ part_on z.bay
same_part m s z (alike.vacant sized empty e t) = part_vacant s empty ∙ ap part_on (sym e)
same_part m s z (alike.present h e t) =
    part_held h.terms s (standing m h) ∙ ap (ceiling_of h.terms.read_back) h.accepted.is_checked ∙ ap part_on (sym e)

same_parts : {S T R : Type 0} (m : Follows S T R) (box : List ℕ) (paper : PaperBox S T) → Simulates m box paper → (n : ℕ) → n ≤ bay_count → present n box ≡ present_on n paper
unfolding present present_on
same_parts m box paper h zero l = refl
same_parts m box paper h (suc n) l =
    ap₂ ◌+◌ (same_parts m box paper h n (omega arith)) (same_part m (stretch_of n box) (paper n) (h.places n (omega arith)))

pub record Step {S T R : Type 0} (m : Follows S T R) (box : List ℕ) (bay : ℕ) (c : Call) (told : Reported R × PaperBox S T) : Type 0 where
  pub report : reported m.kind.reads c (call_of box bay c) ≡ told.0
  pub after : Simulates m (memory_after (call_of box bay c)) told.1

call_step : {S T R : Type 0} (m : Follows S T R) (box : List ℕ) (paper : PaperBox S T) → Simulates m box paper → (bay : ℕ) (c : Call) → Fits m.For c → Step m box bay c (paper_call m.kind paper bay c)
call_step {S = S} {T = T} {R = R} m box paper h bay c r = elim (dec_lt bay bay_count) [ yes b ↦ inside b | no b ↦ outside (omega arith) ]
  where
    outside : bay_count ≤ bay → Step m box bay c (paper_call m.kind paper bay c)
    outside b =
        let e = no-bay box bay c b in
        subst (Step m box bay c) (sym (ap (λ (x : Bool). cond x
        ((place_call m.kind (present_on bay_count paper) c (paper bay)).0, with_place m.kind paper bay (place_call m.kind (present_on bay_count paper) c (paper bay)).1) (replies 13 (buffers c), paper)) (le-ltb bay bay_count b)))
        (record { report = ap (reported m.kind.reads c) e ∙ refusal_reported m.kind.reads c 13 (λ y. omega arith) box (buffers c); after = subst (λ (o : Called). Simulates m (memory_after o) paper) (sym e) h })

    inside : bay < bay_count → Step m box bay c (paper_call m.kind paper bay c)
    inside b =
        let told : PaperReply S T R = place_call m.kind (present_on bay_count paper) c (paper bay) in
        let s : List ℕ = stretch_of bay box in
        let k = ap (λ (n : ℕ). place_call m.kind n c (paper bay)) (same_parts m box paper h bay_count (omega arith)) in
        let x : Same m c (result box bay c) told =
        subst (Same m c (result box bay c)) k (stretch_same m (present bay_count box) s (paper bay) (h.places bay b) c r) in
        let w = own box bay c b h.sized in
        subst (Step m box bay c) (sym (ap (λ (x : Bool). cond x
        ((place_call m.kind (present_on bay_count paper) c (paper bay)).0, with_place m.kind paper bay (place_call m.kind (present_on bay_count paper) c (paper bay)).1) (replies 13 (buffers c), paper)) (lt-ltb bay bay_count b)))
        (record {
          report = ap (reported m.kind.reads c) w ∙ x.report;
          after = record {
            sized = same_length box bay c ∙ h.sized;
            places = λ i l. elim (ℕ_discrete i bay) [
              | yes q ↦ rw (eq-eqb i bay q)
                  (subst (λ (s : List ℕ). Alike m s told.1) (sym (ap (λ (j : ℕ). stretch_of j (memory_after (call_of box bay c))) q ∙ own_stretch box bay c b h.sized))
                  x.alike)
              | no q ↦ rw (ne_eqb i bay q) (subst (λ (s : List ℕ). Alike m s (paper i)) (sym (others_stay box bay c i q l)) (h.places i l))
            ];
          };
        })

-- ---- lists of calls
first_fits : {For : Statement → Type 0} (x : Request) (xs : List Request) → Sendable x.call → Admitting For (x ∷ xs) → Fits For x.call
first_fits x xs s a = record { sendable = s; admitted = a x (Memᴰ.head refl) }

pub from_alike : {S T R : Type 0} (m : Follows S T R) (box : List ℕ) (paper : PaperBox S T) → Simulates m box paper → (xs : List Request)
    → AllSendable xs → Admitting m.For xs → reports m.kind.reads call_of box xs ≡ paper_reports m.kind paper xs
unfolding reports paper_reports
from_alike {R = R} m box paper h [] none a = refl
from_alike {R = R} m box paper h (x ∷ xs) (each r k) a =
    let s = call_step m box paper h x.bay x.call (first_fits x xs r a) in
    ap₂ {B = List (Reported R)} {C = List (Reported R)} ◌∷◌ s.report
    (from_alike m (after_call call_of box x) (paper_call m.kind paper x.bay x.call).1 s.after xs k (λ y i. a y (Memᴰ.tail i)))

-- ---- from the empty box
zeros_empty : length_in (zeros stretch_length) ≡ 0
zeros_empty = ap le_number (slot-zeros 0 2 stretch_length (omega arith)) ∙ zeros_number 2

pub empty_simulates : {S T R : Type 0} (m : Follows S T R) → Simulates m empty_box empty_paper
empty_simulates m =
    record {
      sized = kept_empty.sized_box;
      places = λ bay b. alike.vacant (ap length (empty_stretch_lem bay b) ∙ length-zeros stretch_length) (ap length_in (empty_stretch_lem bay b) ∙ zeros_empty) refl
          (λ f l. ap (total_in f) (at_first bay b) ∙ cleared_total f l);
    }

-- every sequence is for the machine that keeps a label set
every : (xs : List Request) → Admitting (λ p. Unit {0}) xs
every xs x i t e c p q = tt

-- THE BOX ON PAPER
pub box_on_paper : OnPaper call_of
box_on_paper = from_alike terms_follow empty_box empty_paper (empty_simulates terms_follow)

pub box_by_labels : ByLabelSets call_of
box_by_labels xs k = from_alike labels_follow empty_box empty_paper (empty_simulates labels_follow) xs k (every xs)

-- ---- what is held after a list of calls
simulates_after : {S T R : Type 0} (m : Follows S T R) (box : List ℕ) (paper : PaperBox S T) → Simulates m box paper → (xs : List Request)
    → AllSendable xs → Admitting m.For xs → Simulates m (box_after call_of box xs) (paper_after m.kind paper xs)
unfolding box_after paper_after
simulates_after m box paper h [] none a = h
simulates_after m box paper h (x ∷ xs) (each r k) a =
    simulates_after m (after_call call_of box x) (paper_call m.kind paper x.bay x.call).1
    (call_step m box paper h x.bay x.call (first_fits x xs r a)).after xs k (λ y i. a y (Memᴰ.tail i))

-- the total that the box holds of a farm is the paper's, across comings back, takings out and new years
same_total : {S T R : Type 0} (m : Follows S T R) (s : List ℕ) (z : PaperPlace S T) → Alike m s z → SameTotals s z.totals
same_total m s z (alike.vacant sized empty e t) = t
same_total m s z (alike.present h e t) = t

pub totals_on : {S T R : Type 0} (m : Follows S T R) (xs : List Request) → AllSendable xs → Admitting m.For xs
    → (bay : ℕ) → bay < bay_count → (farm : ℕ) → farm < farm_count
    → total_in farm (ledger_in (stretch_of bay (box_after call_of empty_box xs))) ≡ (paper_after m.kind empty_paper xs bay).totals farm
totals_on m xs k a bay b =
    same_total m (stretch_of bay (box_after call_of empty_box xs)) (paper_after m.kind empty_paper xs bay)
    ((simulates_after m empty_box empty_paper (empty_simulates m) xs k a).places bay b)

-- the bay that the box holds is the paper's
same_positions : (o : Option ℕ) → kept_if (λ L. L) o ≡ o
same_positions Option.none = refl
same_positions (some L) = refl

same_held : (s : List ℕ) (z : PaperPlace State ℕ) → Alike labels_follow s z → HeldIf s z.bay
same_held s z (alike.vacant sized empty e t) = subst (HeldIf s) (sym e) empty
same_held s z (alike.present h e t) =
    subst (HeldIf s) (sym e)
    (record {
      sequence = subst (λ (x : List ℕ). Spells x h.accepted.statement) (sym (sequence-held h.terms s (standing labels_follow h))) h.accepted.spelled;
      read_back = h.holds.set;
      service_only = h.holds.service;
      state = h.bytes ∙ ap encode_state (sym h.at);
      part = h.holds.part ∙ ap (ceiling_of h.terms.read_back) h.accepted.is_checked;
      last = h.count;
      positions = λ name.
          h.agrees.alike name
          ∙ sym (ap (find name) h.saved ∙ find-kept (λ L. L) name h.names ∙ same_positions (find name h.names));
    })

pub held_on_paper : HeldOnPaper call_of
held_on_paper xs k bay b = (
  same_held (stretch_of bay (box_after call_of empty_box xs)) (paper_after by_label_sets empty_paper xs bay)
      ((simulates_after labels_follow empty_box empty_paper (empty_simulates labels_follow) xs k (every xs)).places bay b),
  totals_on labels_follow xs k (every xs) bay b,
)

pub every_sequence : (xs : List Request) → Admitting (λ p. Unit {0}) xs
every_sequence = every
