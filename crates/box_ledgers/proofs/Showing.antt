-- The loop that writes the totals of the farms below n and adds them.
use Prim.Native.Nat.{ℕ, ◌+◌, ◌*◌, ◌≤◌, ◌<◌}
use mathlib.Core.Path.{◌≡◌, sym, ap, ◌∙◌, subst}
use mathlib.Core.Bool.{not}
use mathlib.Core.List.{List}
use native.Mathlib.Omega.{arith}
use lib.ListN.{length}
use lib.Seq.{sets}
use lib.Dec.{T}
use lib.Ieee.{Float, binary32, to_bits, add, is_nan}
use Rattle.spec_base.specs.Limits.{farm_count}
use Rattle.spec_base.specs.Bytes.{le_bytes}
use Rattle.numbers.proofs.Bytes.{length_le_bytes}
use Rattle.spec_sequence.specs.Amounts.{amount_bytes}
use Rattle.spec_base.specs.WholeLitres.{Near}
use Rattle.litres.proofs.Sums.{Added, added-first, added_next, added-all, added_no_nan}
use Rattle.spec_bay.specs.Ledgers.{reading_length, total_in, total_float, totals_bytes, exact_total, shown_total, reading_of, total_read}
use Rattle.box_ledgers.proofs.Totals.{totals_whole, totals_none, written_next, written_all}
use Rattle.box_ledgers.proofs.Theorems.{reading_within}

module _ (bs : List ℕ) where
  pub record Showing (n : ℕ) (t : Float) (l : List ℕ) : Type 0 where
    pub most : n ≤ farm_count
    pub sized : length l ≡ reading_length
    pub lent : List ℕ
    pub whole : length lent ≡ reading_length
    pub written : l ≡ sets lent 0 (totals_bytes n (λ f. total_in f bs))
    pub sum : Added (λ f. total_float f bs) t n

  pub show-first : {t : Float} {l : List ℕ} (lent : List ℕ) → length lent ≡ reading_length → t ≡ total_float 0 bs → l ≡ sets lent 0 (amount_bytes (total_in 0 bs)) → Showing 1 t l
  show-first {t} {l} lent z e h =
      let w = written_next (λ f. total_in f bs) reading_length 0 lent lent l z (totals_none lent (λ f. total_in f bs)) h in
      record {
        most = omega arith;
        sized = w.0;
        lent = lent;
        whole = z;
        written = w.1;
        sum = subst (λ (x : Float). Added (λ f. total_float f bs) x 1) (sym e) (added-first (λ f. total_float f bs) (totals_whole bs));
      }

  module _ {n : ℕ} {t : Float} {l : List ℕ} (s : Showing n t l) where
    pub show-next : {x : Float} {l' : List ℕ} → n < farm_count → x ≡ total_float n bs → l' ≡ sets l (n * 4) (amount_bytes (total_in n bs))
        → Showing (n + 1) (add binary32 t x) l'
    show-next {x} {l'} k e h =
        let w = written_next (λ f. total_in f bs) reading_length n s.lent l l' s.sized s.written h in
        record {
          most = omega arith;
          sized = w.0;
          lent = s.lent;
          whole = s.whole;
          written = w.1;
          sum = subst (λ (y : Float). Added (λ f. total_float f bs) (add binary32 t y) (n + 1)) (sym e)
              (added_next (λ f. total_float f bs) t n (totals_whole bs) k s.sum);
        }

    pub sum-no-nan : T (not (is_nan t))
    sum-no-nan = added_no_nan (λ f. total_float f bs) t n s.sum

    pub show-all : {l' : List ℕ} → farm_count ≤ n → l' ≡ sets l 128 (le_bytes 4 (to_bits binary32 t))
        → (l' ≡ reading_of bs) × Near 496 (total_read l') (exact_total farm_count bs)
    show-all {l'} k h =
        let m : n ≡ farm_count = let z = s.most in omega arith in
        let vs = le_bytes 4 (to_bits binary32 (shown_total bs)) in
        let e : l' ≡ reading_of bs =
        h ∙ ap (λ (x : Float). sets l 128 (le_bytes 4 (to_bits binary32 x))) (added-all (λ f. total_float f bs) t n k s.sum).0
        ∙ written_all (λ f. total_in f bs) vs s.lent l s.whole (length_le_bytes 4 (to_bits binary32 (shown_total bs)))
        (s.written ∙ ap (λ (i : ℕ). sets s.lent 0 (totals_bytes i (λ f. total_in f bs))) m) in
        (e, subst (λ (r : List ℕ). Near 496 (total_read r) (exact_total farm_count bs)) (sym e) (reading_within bs))
