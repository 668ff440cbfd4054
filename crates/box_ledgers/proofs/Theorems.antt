-- What 02, item 12, says of a ledger, of any bytes of its length.
use Prim.Native.Nat.{ℕ, zero, suc, ◌+◌, ◌*◌, ◌≤◌, ◌<◌}
use mathlib.Core.Path.{◌≡◌, refl, sym, ap, ◌∙◌, subst}
use mathlib.Core.Bool.{true, false, and-eq-true_iff}
use mathlib.Core.List.{List, [], ◌++◌, append-nil, append_assoc}
use native.Mathlib.Omega.{arith}
use native.Mathlib.Numerals.{add-one}
use native.Mathlib.Decide.{ℕ_discrete}
use lib.ListN.{length, take, drop, replicate}
use lib.Seq.{take_at, drop_at}
use lib.Dec.{T, lit<}
use lib.IntN.{pos}
use lib.Ieee.{Float, binary32, of_bits, to_bits, of_int, in_unsigned, fits}
use lib.Ieee.Bits.{of_bits-to_bits, to_bits-lt}
use lib.Ieee.Fits.{add-fits}
use Rattle.spec_base.specs.Limits.{litres_limit, farm_count}
use Rattle.spec_base.specs.Sets.{member}
use Rattle.sets.proofs.Booleans.{Tested, tested}
use Rattle.spec_base.specs.Bytes.{le_bytes, le_number}
use Rattle.numbers.proofs.Bytes.{length_le_bytes, le_round_trip}
use Rattle.spec_sequence.specs.Amounts.{amount_size, amount_bytes, are_bytes, float_in}
use Rattle.theory_sequence.proofs.Amounts.{amount-written}
use Rattle.spec_base.specs.WholeLitres.{whole, litres, ordered, Near}
use Rattle.litres.proofs.Sums.{Running, last, Added, added-first, added_next}
use Rattle.spec_bay.specs.Ledgers.{ledger_length, field_in, total_in, total_float, Exact, totals_bytes, cleared, NoneOutside, would_pass, passes, added, exact_total, shown_total, reading_of, total_read}
use Rattle.box_ledgers.proofs.Totals as totals
use Rattle.box_ledgers.proofs.Fields as fields

-- ---- adding an instant's litres x that pass no limit: 'Farm totals stay exact whole numbers'
module _ (x : ℕ → ℕ) (bs : List ℕ) (sized : length bs ≡ ledger_length) (below : passes bs x ≡ false) where
  most : (f : ℕ) → f < farm_count → total_in f bs + x f ≤ litres_limit
  most = totals.passes-not (λ f. total_in f bs) x farm_count below

  pub added-total : (f : ℕ) → f < farm_count → total_in f (added x bs) ≡ total_in f bs + x f
  added-total f h = fields.below-added x bs sized most farm_count f h (omega arith)

  pub added-sized : length (added x bs) ≡ ledger_length
  added-sized = fields.below_length x bs sized farm_count

  pub added-stays-exact : Exact bs → Exact (added x bs)
  added-stays-exact e = fields.below-exact x bs sized most farm_count (omega arith) e

-- a total is at most the limit, whatever the bytes are
pub total_most : (f : ℕ) (bs : List ℕ) → total_in f bs ≤ litres_limit
total_most = totals.total_most

-- ---- 'The ledger's total, added over farms 0 to 31 in that order, lies within 496 litres of the exact sum'
running : (bs : List ℕ) (n : ℕ) → n < farm_count → Added (λ f. total_float f bs) (ordered n (λ f. total_float f bs)) (n + 1)
unfolding ordered
running bs zero h = added-first (λ f. total_float f bs) (totals.totals_whole bs)
running bs (suc n) h =
    added_next (λ f. total_float f bs) (ordered n (λ f. total_float f bs)) (suc n) (totals.totals_whole bs) h
    (subst (λ (i : ℕ). Added (λ f. total_float f bs) (ordered n (λ f. total_float f bs)) i) (add-one n) (running bs n (omega arith)))

pub shown_running : (bs : List ℕ) → Running (shown_total bs) 32 (exact_total farm_count bs)
shown_running bs = subst (Running (shown_total bs) 32) (totals.exact-is bs farm_count) (running bs 31 (lit< tt)).2

-- it is a whole number, not above the exact sum by more than 496, nor below it
pub shown_within : (bs : List ℕ) → Near 496 (shown_total bs) (exact_total farm_count bs)
shown_within bs = last (shown_total bs) (exact_total farm_count bs) (shown_running bs)

-- ---- totals written
field_of : (n : ℕ) (t : ℕ → ℕ) (r : List ℕ) (f : ℕ) → f < n → take 4 (drop (f * 4) (totals_bytes n t ++ r)) ≡ amount_bytes (t f)
unfolding totals_bytes
field_of zero t r f h = absurd (omega arith)
field_of (suc n) t r f h =
    ap (λ (l : List ℕ). take 4 (drop (f * 4) l)) (append_assoc (totals_bytes n t) (amount_bytes (t n)) r)
    ∙ elim (ℕ_discrete f n) [
      | yes e ↦ here e
      | no e ↦ field_of n t (amount_bytes (t n) ++ r) f (omega arith)
    ]
  where
    here : f ≡ n → take 4 (drop (f * 4) (totals_bytes n t ++ (amount_bytes (t n) ++ r))) ≡ amount_bytes (t f)
    here e =
        let l : length (totals_bytes n t) ≡ f * 4 = let k = totals.length_totals n t in omega (arith, k, e) in
        ap (take 4) (drop_at (totals_bytes n t) (amount_bytes (t n) ++ r) (f * 4) l)
        ∙ take_at (amount_bytes (t n)) r 4 (length_le_bytes 4 (to_bits binary32 (of_int binary32 (pos (t n)))))
        ∙ ap (λ (k : ℕ). amount_bytes (t k)) (sym e)

module _ (t : ℕ → ℕ) (r : List ℕ) (f : ℕ) (small : f < farm_count) (most : t f ≤ litres_limit) where
  pub written : (whole (field_in f (totals_bytes farm_count t ++ r)) ≡ true) × (litres (field_in f (totals_bytes farm_count t ++ r)) ≡ t f)
  written =
      let w = amount-written (t f) most in
      let e : field_in f (totals_bytes farm_count t ++ r) ≡ float_in (amount_bytes (t f)) = ap (λ (l : List ℕ). of_bits binary32 (le_number l)) (field_of farm_count t r f small) in
      let v = ((and-eq-true_iff (are_bytes (amount_bytes (t f))) (in_unsigned binary32 32 (float_in (amount_bytes (t f))))).0 w.0).1 in
      (ap whole e ∙ v, ap litres e ∙ w.1)

  written-total : total_in f (totals_bytes farm_count t ++ r) ≡ t f
  written-total = totals.total-whole f (totals_bytes farm_count t ++ r) written.0 ∙ written.1

-- what is read of a farm is its total
pub reading_total : (bs : List ℕ) (f : ℕ) → f < farm_count → total_in f (reading_of bs) ≡ total_in f bs
reading_total bs f h = written-total (λ f. total_in f bs) (le_bytes amount_size (to_bits binary32 (shown_total bs))) f h (total_most f bs)

-- and so is the ledger's total: its bytes are those of the sum in single precision, and lie as near to the exact one
pub reading_shows : (bs : List ℕ) → total_read (reading_of bs) ≡ shown_total bs
unfolding ordered
reading_shows bs =
    let x = shown_total bs in
    let xs = le_bytes 4 (to_bits binary32 x) in
    let ts = totals_bytes farm_count (λ f. total_in f bs) in
    let fit : T (fits binary32 x) = add-fits binary32 (ordered 30 (λ f. total_float f bs)) (total_float 31 bs) in
    let at : take 4 (drop 128 (ts ++ xs)) ≡ xs =
    ap (take 4) (drop_at ts xs 128 (totals.length_totals farm_count (λ f. total_in f bs)) ∙ sym (append-nil xs))
    ∙ take_at xs [] 4 (length_le_bytes 4 (to_bits binary32 x)) in
    ap (λ (l : List ℕ). of_bits binary32 (le_number l)) at
    ∙ ap (of_bits binary32) (le_round_trip 4 (to_bits binary32 x) (to_bits-lt binary32 x fit)) ∙ of_bits-to_bits binary32 x fit

pub reading_within : (bs : List ℕ) → Near 496 (total_read (reading_of bs)) (exact_total farm_count bs)
reading_within bs = subst (λ (x : Float). Near 496 x (exact_total farm_count bs)) (sym (reading_shows bs)) (shown_within bs)

-- ---- the new year
pub cleared_total : (f : ℕ) → f < farm_count → total_in f cleared ≡ 0
cleared_total f h = ap (total_in f) (sym (append-nil cleared)) ∙ written-total (λ f. 0) [] f h (omega arith)

pub cleared-exact : Exact cleared
cleared-exact f h = ap (λ (l : List ℕ). whole (field_in f l)) (sym (append-nil cleared)) ∙ (written (λ f. 0) [] f h (omega arith)).0

pub cleared_sized : length cleared ≡ ledger_length
cleared_sized = totals.length_totals farm_count (λ f. 0)

-- '0 at first': lent memory whose bytes are all 00 has a cleared ledger
pub cleared-is : cleared ≡ replicate ledger_length 0
unfolding totals_bytes le_bytes to_bits of_int
cleared-is = refl

-- ---- only the farms of a set have litres, and none of these passes the limit
pub none_passes : (x : ℕ → ℕ) (bs : List ℕ) (farms : ℕ) → NoneOutside farms x
    → ((f : ℕ) → member f farms ≡ true → total_in f bs + x f ≤ litres_limit) → passes bs x ≡ false
none_passes x bs farms outside below = go farm_count (omega arith)
  where
    most : (n : ℕ) → n < farm_count → Tested (member n farms) → total_in n bs + x n ≤ litres_limit
    most n l (Tested.yes h) = below n h
    most n l (Tested.no h) = let e = outside n l h in let m = total_most n bs in omega (arith, e, m)

    go : (n : ℕ) → n ≤ farm_count → would_pass n (λ f. total_in f bs) x ≡ false
    go zero l = totals.passes_none (λ f. total_in f bs) x
    go (suc n) l =
        ap (λ (k : ℕ). would_pass k (λ f. total_in f bs) x) (sym (add-one n))
        ∙ totals.passes-next (λ f. total_in f bs) x n (go n (omega arith)) (most n (omega arith) (tested (member n farms)))
