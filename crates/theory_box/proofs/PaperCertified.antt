-- The certificate: a reading has the paper's totals, which are what the paper delivered, and a whole number near their sum.
use Prim.Native.Nat.{ℕ, zero, suc, ◌+◌, ◌*◌, ◌≤◌, ◌<◌}
use native.Mathlib.Omega.{arith}
use native.Mathlib.Nat.{eq_of_mul-eq-mul_right}
use mathlib.Core.Path.{◌≡◌, refl, sym, ap, ap₂, ◌∙◌, subst}
use mathlib.Core.Bool.{false}
use mathlib.Core.List.{List, []}
use lib.Ieee.{Float, nan, inf, fin, binary32, up, down, to_bits}
use lib.Ieee.Exact.{HasValue}
use lib.Ieee.Fits.{down_pos}
use Rattle.spec_base.specs.Bytes.{le_bytes}
use Rattle.spec_base.specs.Limits.{litres_limit, farm_count, bay_count}
use Rattle.spec_base.specs.WholeLitres.{IsNumber, Near}
use Rattle.litres.proofs.Sums.{is_number, value_of}
use Rattle.spec_sequence.specs.Amounts.{amount_size}
use Rattle.spec_bay.specs.Ledgers.{field_in, total_in, exact_total, shown_total, reading_of, total_read}
use Rattle.box_ledgers.proofs.Totals.{holds}
use Rattle.box_ledgers.proofs.Theorems.{written, total_most, reading_within}
use Rattle.spec_bay.specs.Called.{Called, number, lent_after, first}
use Rattle.spec_bay.specs.Stretch.{ledger_in}
use Rattle.spec_box.specs.Box.{empty_box, stretch_of, ledger, call_of}
use Rattle.spec_box.specs.Lists.{Request, box_after}
use Rattle.spec_box.specs.Years.{sum_of}
use Rattle.theory_box.proofs.Stretches.{answered-inside}
use Rattle.theory_box.proofs.Years.{ledger_shows, ledger_numbers, sized_after}
use Rattle.spec_box.specs.PaperBox.{empty_paper}
use Rattle.spec_box.specs.Reports.{Admitting}
use Rattle.spec_box.specs.Shares.{AllSendable}
use Rattle.spec_box.specs.Certified.{delivered_on, over_farms, Certified, ReadingsCertified, ReadingsCertifiedByLabels, LedgersReadable, Certificate, CertificateByLabels}
use Rattle.theory_box.proofs.PaperMachines.{Follows, terms_follow, labels_follow}
use Rattle.theory_box.proofs.PaperBoxes.{totals_on, every_sequence, box_on_paper, box_by_labels}
use Rattle.theory_box.proofs.PaperAdmissions.{same-reading}
use Rattle.theory_box.proofs.PaperDeliveries.{totals-are-sums}

-- ---- whole numbers
-- a single-precision number is no two of them
pub one_number : (x : Float) (n k : ℕ) → IsNumber x n → IsNumber x k → n ≡ k
one_number nan n k v w = absurd v
one_number (inf s) n k v w = absurd v
one_number (fin s m e) n k v w = eq_of_mul-eq-mul_right (down e) (down_pos e) n k (sym v.1 ∙ w.1)

-- ---- a reading of a ledger that holds these totals is certified for them
same_exact : (held : List ℕ) (t : ℕ → ℕ) → ((f : ℕ) → f < farm_count → total_in f held ≡ t f) → (n : ℕ) → n ≤ farm_count → exact_total n held ≡ over_farms n t
unfolding exact_total over_farms
same_exact held t h zero l = refl
same_exact held t h (suc n) l = ap₂ ◌+◌ (same_exact held t h n (omega arith)) (h n (omega arith))

pub reading_certified : (held : List ℕ) (t : ℕ → ℕ) → ((f : ℕ) → f < farm_count → total_in f held ≡ t f) → Certified t (reading_of held)
reading_certified held t h =
    record {
      farm_exact = λ f l.
          let w = written (λ g. total_in g held) (le_bytes amount_size (to_bits binary32 (shown_total held))) f l (total_most f held) in
          let x : Float = field_in f (reading_of held) in
          is_number x (t f) (subst (λ (n : ℕ). HasValue x false n 1) (w.1 ∙ h f l) (value_of x (holds _ w.0)).0);
      farm_at_most = λ f l. subst (λ (n : ℕ). n ≤ litres_limit) (h f l) (total_most f held);
      total_near = subst (Near 496 (total_read (reading_of held))) (same_exact held t h farm_count (omega arith)) (reading_within held);
      bytes = same-reading (λ g. total_in g held) t h;
    }

-- ---- after every list of calls
module _ {S T R : Type 0} (m : Follows S T R) (xs : List Request) (k : AllSendable xs) (a : Admitting m.For xs) (bay : ℕ) where
  -- what a machine delivered is what the box holds
  delivered-is-held : bay < bay_count → (farm : ℕ) → farm < farm_count
      → total_in farm (ledger_in (stretch_of bay (box_after call_of empty_box xs))) ≡ delivered_on m.kind bay xs farm
  unfolding sum_of
  delivered-is-held b farm l = totals_on m xs k a bay b farm l ∙ totals-are-sums m.kind bay b farm empty_paper [] refl xs

  certified : (buffer : List ℕ) → number (call_of (box_after call_of empty_box xs) bay (ledger buffer)) ≡ 0
      → Certified (delivered_on m.kind bay xs) (first (lent_after (call_of (box_after call_of empty_box xs) bay (ledger buffer))))
  certified buffer n =
      let box = box_after call_of empty_box xs in
      let s = ledger_shows box bay buffer n in
      subst (Certified (delivered_on m.kind bay xs)) (sym (ap (λ (o : Called). first (lent_after o)) s.1 ∙ s.2.bytes))
      (reading_certified (ledger_in (stretch_of bay box)) (delivered_on m.kind bay xs) (delivered-is-held (answered-inside box bay (ledger buffer) n).0))

-- THE CERTIFICATE
pub readings_certified : ReadingsCertified call_of
readings_certified = certified terms_follow

pub readings_certified_by_labels : ReadingsCertifiedByLabels call_of
readings_certified_by_labels xs k = certified labels_follow xs k (every_sequence xs)

readable : LedgersReadable call_of
readable xs bay b buffer l = ((ledger_numbers (box_after call_of empty_box xs) (sized_after xs) bay b).1 buffer).0.1 l

pub certificate : Certificate call_of
certificate = record { on_paper = box_on_paper; readable = readable; certified = readings_certified }

pub certificate_by_labels : CertificateByLabels call_of
certificate_by_labels = record { by_labels = box_by_labels; readable = readable; certified = readings_certified_by_labels }
