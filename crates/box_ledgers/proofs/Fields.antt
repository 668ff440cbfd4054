-- A farm's field written: its total is the number written, and the others stay.
use Prim.Native.Nat.{ℕ, zero, suc, ◌+◌, ◌*◌, ◌^◌, ◌≤◌, ◌<◌}
use mathlib.Core.Path.{◌≡◌, refl, sym, ap, ap₂, ◌∙◌, subst}
use mathlib.Core.Logic.{◌≢◌, ◌⊎◌, inl, inr}
use mathlib.Core.Bool.{Bool, true, false, not, ◌&&◌, cond, and-eq-true_iff, and-true, and-false}
use mathlib.Core.List.{List, [], ◌∷◌, ◌++◌}
use native.Mathlib.Omega.{arith}
use native.Mathlib.Numerals.{add-one}
use native.Mathlib.Decide.{dec_lt, ℕ_discrete}
use lib.ListN.{length, get_or, take, drop, set, length-append}
use lib.Seq.{sets, sets-eq, length-sets, length-take-le, get_or-set_other, take_at, drop_at, drop-append-le}
use lib.IntN.{pos}
use lib.Dec.{eqb}
use lib.Ieee.{Float, binary32, of_bits, to_bits, of_int, in_unsigned}
use borrow.Author.Tests.{eqb-true, eq-eqb, ne_eqb}
use Rattle.spec_base.specs.Limits.{signal_count, litres_limit, farm_count}
use Rattle.spec_base.specs.Sets.{member, none, remove}
use Rattle.spec_base.specs.Widths.{Lowest}
use Rattle.sets.proofs.Booleans.{clash}
use Rattle.sets.proofs.Members.{member-none, member-remove, member_lt}
use Rattle.spec_base.specs.Bytes.{le_number, number_at}
use Rattle.numbers.proofs.Bytes.{length_le_bytes}
use Rattle.spec_sequence.specs.Amounts.{amount_bytes, are_bytes, float_in}
use Rattle.spec_sequence.specs.Commands.{bytes_at}
use Rattle.theory_sequence.proofs.Amounts.{amount-written}
use Rattle.theory_sequence.proofs.Front.{bytes_taken}
use Rattle.spec_base.specs.WholeLitres.{whole, litres}
use Rattle.spec_bay.specs.Ledgers.{ledger_length, field_in, total_in, Exact, NoneOutside, passes, added_to, added_below, added}
use Rattle.box_ledgers.proofs.Totals.{total-whole, passes-not}

-- ---- bytes elsewhere
get_d_sets : (vs l : List ℕ) (i k : ℕ) → (k < i) ⊎ (i + length vs ≤ k) → get_or (sets l i vs) k 0 ≡ get_or l k 0
get_d_sets [] l i k h = refl
get_d_sets (v ∷ vs) l i k (inl h) =
    get_d_sets vs (set l i v) (suc i) k (inl (omega arith)) ∙ get_or-set_other l i k v 0 (λ e. omega arith)
get_d_sets (v ∷ vs) l i k (inr h) =
    get_d_sets vs (set l i v) (suc i) k (inr (omega arith)) ∙ get_or-set_other l i k v 0 (λ e. omega arith)

same_bytes : (n i : ℕ) (s t : List ℕ) → ((k : ℕ) → i ≤ k → k < i + n → get_or s k 0 ≡ get_or t k 0) → bytes_at i n s ≡ bytes_at i n t
same_bytes zero i s t h = refl
same_bytes (suc n) i s t h = ap₂ ◌∷◌ (h i (omega arith) (omega arith)) (same_bytes n (suc i) s t (λ k a b. h k (omega arith) (omega arith)))

size-amount : (n : ℕ) → length (amount_bytes n) ≡ 4
size-amount n = length_le_bytes 4 (to_bits binary32 (of_int binary32 (pos n)))

module _ (bs : List ℕ) (sized : length bs ≡ ledger_length) where
  number-kept : (f g n : ℕ) → f < farm_count → f ≢ g → number_at (f * 4) 4 (sets bs (g * 4) (amount_bytes n)) ≡ number_at (f * 4) 4 bs
  number-kept f g n small other =
      let z = size-amount n in
      let l = length-sets bs (g * 4) (amount_bytes n) in
      ap le_number
      (sym (bytes_taken 4 (f * 4) (sets bs (g * 4) (amount_bytes n)) (omega (arith, l, sized, small)))
      ∙ same_bytes 4 (f * 4) (sets bs (g * 4) (amount_bytes n)) bs
      (λ k a b. get_d_sets (amount_bytes n) bs (g * 4) k (side k a b z (dec_lt f g)))
      ∙ bytes_taken 4 (f * 4) bs (omega (arith, sized, small)))
    where
      side : (k : ℕ) → f * 4 ≤ k → k < f * 4 + 4 → length (amount_bytes n) ≡ 4 → Dec (f < g) → (k < g * 4) ⊎ (g * 4 + length (amount_bytes n) ≤ k)
      side k a b z (yes h) = inl (omega arith)
      side k a b z (no h) = let d : f ≡ g → ⊥ = other in inr (omega (arith, z))

  number-set : (f n : ℕ) → f < farm_count → number_at (f * 4) 4 (sets bs (f * 4) (amount_bytes n)) ≡ le_number (amount_bytes n)
  number-set f n small =
      let z = size-amount n in
      let i = f * 4 in
      let vs = amount_bytes n in
      let r = drop (i + length vs) bs in
      let l : length (take i bs) ≡ i = length-take-le i bs (omega (arith, sized, small)) in
      let k : i ≤ length (take i bs ++ vs) = omega (arith, l, length-append (take i bs) vs) in
      ap le_number
      (ap (λ (w : List ℕ). take 4 (drop i w)) (sets-eq vs bs i (omega (arith, z, sized, small)))
      ∙ ap (take 4) (drop-append-le i (take i bs ++ vs) r k) ∙ ap (λ (w : List ℕ). take 4 (w ++ r)) (drop_at (take i bs) vs i l)
      ∙ take_at vs r 4 z)

  -- ---- the fields
  pub field-kept : (f g n : ℕ) → f < farm_count → f ≢ g → field_in f (sets bs (g * 4) (amount_bytes n)) ≡ field_in f bs
  field-kept f g n small other = ap (of_bits binary32) (number-kept f g n small other)

  pub field-set : (f n : ℕ) → f < farm_count → n ≤ litres_limit
      → (whole (field_in f (sets bs (f * 4) (amount_bytes n))) ≡ true) × (litres (field_in f (sets bs (f * 4) (amount_bytes n))) ≡ n)
  field-set f n small most =
      let w = amount-written n most in
      let e : field_in f (sets bs (f * 4) (amount_bytes n)) ≡ float_in (amount_bytes n) = ap (of_bits binary32) (number-set f n small) in
      let v = ((and-eq-true_iff (are_bytes (amount_bytes n)) (in_unsigned binary32 32 (float_in (amount_bytes n)))).0 w.0).1 in
      (ap whole e ∙ v, ap litres e ∙ w.1)

  pub total_kept : (f g n : ℕ) → f < farm_count → f ≢ g → total_in f (sets bs (g * 4) (amount_bytes n)) ≡ total_in f bs
  unfolding total_in
  total_kept f g n small other = ap (λ (x : Float). cond (whole x) (litres x) 0) (field-kept f g n small other)

  pub total-set : (f n : ℕ) → f < farm_count → n ≤ litres_limit → total_in f (sets bs (f * 4) (amount_bytes n)) ≡ n
  total-set f n small most = let h = field-set f n small most in total-whole f (sets bs (f * 4) (amount_bytes n)) h.0 ∙ h.1

  -- ---- one farm's litres
  pub added-length : (g n : ℕ) → length (added_to g n bs) ≡ ledger_length
  added-length g n = go (eqb n 0)
    where
      go : (b : Bool) → length (cond b bs (sets bs (g * 4) (amount_bytes (total_in g bs + n)))) ≡ ledger_length
      go true = sized
      go false = length-sets bs (g * 4) (amount_bytes (total_in g bs + n)) ∙ sized

  pub added-other : (f g n : ℕ) → f < farm_count → f ≢ g → total_in f (added_to g n bs) ≡ total_in f bs
  added-other f g n small other = go (eqb n 0)
    where
      go : (b : Bool) → total_in f (cond b bs (sets bs (g * 4) (amount_bytes (total_in g bs + n)))) ≡ total_in f bs
      go true = refl
      go false = total_kept f g (total_in g bs + n) small other

  pub added-one : (f n : ℕ) → f < farm_count → total_in f bs + n ≤ litres_limit → total_in f (added_to f n bs) ≡ total_in f bs + n
  added-one f n small most = go (eqb n 0) refl
    where
      go : (b : Bool) → eqb n 0 ≡ b → total_in f (cond b bs (sets bs (f * 4) (amount_bytes (total_in f bs + n)))) ≡ total_in f bs + n
      go true e = let z : n ≡ 0 = eqb-true n 0 e in omega (arith, z)
      go false e = total-set f (total_in f bs + n) small most

  pub added-exact : (g n : ℕ) → total_in g bs + n ≤ litres_limit → Exact bs → Exact (added_to g n bs)
  added-exact g n most x f small = go (eqb n 0) (ℕ_discrete f g)
    where
      go : (b : Bool) → Dec (f ≡ g) → whole (field_in f (cond b bs (sets bs (g * 4) (amount_bytes (total_in g bs + n))))) ≡ true
      go true d = x f small
      go false (yes e) =
          ap (λ (i : ℕ). whole (field_in f (sets bs (i * 4) (amount_bytes (total_in g bs + n))))) (sym e) ∙ (field-set f (total_in g bs + n) small most).0
      go false (no e) = ap whole (field-kept f g (total_in g bs + n) small e) ∙ x f small

-- ---- all farms'
module _ (x : ℕ → ℕ) (bs : List ℕ) (sized : length bs ≡ ledger_length) where
  pub below_length : (n : ℕ) → length (added_below n x bs) ≡ ledger_length
  unfolding added_below
  below_length zero = sized
  below_length (suc n) = added-length (added_below n x bs) (below_length n) n (x n)

  -- the farms from n on are as they were
  pub below-later : (n f : ℕ) → n ≤ f → f < farm_count → total_in f (added_below n x bs) ≡ total_in f bs
  unfolding added_below
  below-later zero f h small = refl
  below-later (suc n) f h small =
      added-other (added_below n x bs) (below_length n) f n (x n) small (λ e. omega arith) ∙ below-later n f (omega arith) small

  module _ (most : (f : ℕ) → f < farm_count → total_in f bs + x f ≤ litres_limit) where
    pub below_next : (n : ℕ) → n < farm_count → total_in n (added_below n x bs) + x n ≤ litres_limit
    below_next n small = let e = below-later n n (omega arith) small in subst (λ (k : ℕ). k + x n ≤ litres_limit) (sym e) (most n small)

    pub below-added : (n f : ℕ) → f < n → n ≤ farm_count → total_in f (added_below n x bs) ≡ total_in f bs + x f
    unfolding added_below
    below-added zero f h small = absurd (omega arith)
    below-added (suc n) f h small =
        elim (ℕ_discrete f n) [
          | yes e ↦ subst (λ (i : ℕ). total_in i (added_to n (x n) (added_below n x bs)) ≡ total_in i bs + x i) (sym e)
              (added-one (added_below n x bs) (below_length n) n (x n) (omega arith) (below_next n (omega arith))
              ∙ ap (λ (k : ℕ). k + x n) (below-later n n (omega arith) (omega arith)))
          | no e ↦ added-other (added_below n x bs) (below_length n) f n (x n) (omega arith) e ∙ below-added n f (omega arith) (omega arith)
        ]

    pub below-exact : (n : ℕ) → n ≤ farm_count → Exact bs → Exact (added_below n x bs)
    unfolding added_below
    below-exact zero small e = e
    below-exact (suc n) small e =
        added-exact (added_below n x bs) (below_length n) n (x n) (below_next n (omega arith)) (below-exact n (omega arith) e)

-- a turn of the loop that adds
pub added_next : (x : ℕ → ℕ) (l₀ l l' : List ℕ) (n : ℕ) → length l ≡ ledger_length → l ≡ added_below n x l₀ → l' ≡ added_to n (x n) l
    → (length l' ≡ ledger_length) × (l' ≡ added_below (n + 1) x l₀)
unfolding added_below
added_next x l₀ l l' n z e h = (ap length h ∙ added-length l z n (x n), h ∙ ap (added_to n (x n)) e ∙ ap (λ (k : ℕ). added_below k x l₀) (sym (add-one n)))

pub added-start : (x : ℕ → ℕ) (bs : List ℕ) → bs ≡ added_below 0 x bs
unfolding added_below
added-start x bs = refl

pub next_most : (x : ℕ → ℕ) (l₀ l : List ℕ) (n : ℕ) → length l₀ ≡ ledger_length → passes l₀ x ≡ false → l ≡ added_below n x l₀ → n < farm_count
    → total_in n l + x n ≤ litres_limit
next_most x l₀ l n z p e small =
    subst (λ (m : List ℕ). total_in n m + x n ≤ litres_limit) (sym e)
    (below_next x l₀ z (λ f h. passes-not (λ f. total_in f l₀) x farm_count p f h) n small)

-- a farm without litres
pub added_skip : (x : ℕ → ℕ) (bs : List ℕ) (n : ℕ) → x n ≡ 0 → added_below (suc n) x bs ≡ added_below n x bs
unfolding added_below
added_skip x bs n e = ap (λ (k : ℕ). added_to n k (added_below n x bs)) e

-- ---- the farms of a set, the lowest first: the litres of those that are not left are added
pub record Adding (x : ℕ → ℕ) (farms left : ℕ) (l₀ l : List ℕ) : Type 0 where
  pub sized : length l ≡ ledger_length
  pub up_to : ℕ
  pub most : up_to ≤ farm_count
  pub sum : l ≡ added_below up_to x l₀
  pub gone : (f : ℕ) → f < up_to → member f left ≡ false
  pub rest : (f : ℕ) → up_to ≤ f → member f left ≡ member f farms

pub adding_none : (x : ℕ → ℕ) (farms : ℕ) (l₀ : List ℕ) → length l₀ ≡ ledger_length → Adding x farms farms l₀ l₀
adding_none x farms l₀ z =
    record {
      sized = z;
      up_to = 0;
      most = omega arith;
      sum = added-start x l₀;
      gone = λ f h. absurd (omega arith);
      rest = λ f h. refl;
    }

module _ (x : ℕ → ℕ) (farms : ℕ) (outside : NoneOutside farms x) where
  skipped : (l₀ : List ℕ) (n m : ℕ) → n ≤ m → m ≤ farm_count → ((f : ℕ) → n ≤ f → f < m → member f farms ≡ false) → added_below m x l₀ ≡ added_below n x l₀
  skipped l₀ n zero a b h = let e : 0 ≡ n = omega arith in ap (λ (k : ℕ). added_below k x l₀) e
  skipped l₀ n (suc m) a b h =
      elim (ℕ_discrete n (suc m)) [
        | yes e ↦ ap (λ (k : ℕ). added_below k x l₀) (sym e)
        | no e ↦ added_skip x l₀ m (outside m (omega arith) (h m (omega arith) (omega arith)))
            ∙ skipped l₀ n m (omega arith) (omega arith) (λ f i j. h f i (omega arith))
      ]

  module _ (few : farms < 2 ^ signal_count) {left : ℕ} {l₀ l : List ℕ} (a : Adding x farms left l₀ l) {f : ℕ} (low : Lowest signal_count left f) (some : left ≡ none → ⊥) where
    reached : a.up_to ≤ f
    reached =
        elim (dec_lt f a.up_to) [
          | yes h ↦ clash (member f left) (low.found some) (a.gone f h)
          | no h ↦ omega arith
        ]

    pub adding-at : (f < farm_count) × (l ≡ added_below f x l₀)
    adding-at =
        let r = reached in
        let m : f < 32 = member_lt {w = signal_count} f few (sym (a.rest f r) ∙ low.found some) in
        (m, a.sum ∙ sym (skipped l₀ a.up_to f r (omega arith) (λ g i j. sym (a.rest g i) ∙ low.least g j)))

    pub adding-next : {next : ℕ} {after : List ℕ} → next ≡ remove f left → after ≡ added_to f (x f) l → Adding x farms next l₀ after
    adding-next {next} {after} e h =
        let r = reached in
        let k = adding-at in
        let w = added_next x l₀ l after f a.sized k.1 h in
        subst (λ (s : ℕ). Adding x farms s l₀ after) (sym e)
        (record {
          sized = w.0;
          up_to = f + 1;
          most = let m = k.0 in omega arith;
          sum = w.1;
          gone = λ g i. member-remove f left g ∙ without g i (ℕ_discrete f g);
          rest = λ g i. member-remove f left g
              ∙ ap (λ (b : Bool). member g left && not b) (ne_eqb f g (λ q. omega arith))
              ∙ and-true (member g left) ∙ a.rest g (omega arith);
        })
      where
        without : (g : ℕ) → g < f + 1 → Dec (f ≡ g) → (member g left && not (eqb f g)) ≡ false
        without g i (yes q) = ap (λ (b : Bool). member g left && not b) (eq-eqb f g q) ∙ and-false (member g left)
        without g i (no q) = ap (λ (b : Bool). b && not (eqb f g)) (low.least g (omega arith))

  pub adding-all : {left : ℕ} {l₀ l : List ℕ} → Adding x farms left l₀ l → left ≡ none → l ≡ added x l₀
  adding-all {left} {l₀} a e =
      a.sum ∙ sym (skipped l₀ a.up_to farm_count a.most (omega arith) (λ g i j. sym (a.rest g i) ∙ ap (member g) e ∙ member-none g))
