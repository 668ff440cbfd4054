-- Row 11 at a mask of at most one pause: there is no second one that it could exclude.
use Prim.Native.Nat.{ℕ, ◌+◌, ◌*◌, ◌-◌, ◌^◌, ◌%◌, ◌<◌, ◌≤◌}
use mathlib.Core.Path.{◌≡◌, refl, sym, ap, ◌∙◌, subst}
use mathlib.Core.Bool.{Bool, true, false, not, ◌&&◌, and-true}
use native.Mathlib.Omega.{arith}
use lib.Dec.{eqb, ltb}
use lib.Bits.{bit_xor, xor_self, xor_zero_r}
use lib.Pow.{pow_pos, pow-lt, pow-add, low}
use borrow.Author.Tests.{eq-eqb, eqb-true, ltb-true, ltb-false}
use Rattle.spec_base.specs.Sets.{member, none, empty, only, remove, below, from}
use Rattle.sets.proofs.Booleans.{Tested, tested}
use Rattle.sets.proofs.Members.{member-none, member-only, member-remove, ext}
use Rattle.sets.proofs.Algebra.{remove_absent}
use Rattle.sets.proofs.Halves.{below_all}
use Rattle.sets.proofs.Widths.{none_lt}
use Rattle.spec_language.specs.Statement.{Statement, nothing, pause, emit, exit, seq, par, loop, present, signal, try, setpause, suspend, held}
use Rattle.spec_language.specs.LabelTests.{Joint, alternative, parallel}
use Rattle.theory_language.specs.Ranks.{middle, ofParts, compatible}

-- ---- sets that no number divides in two
data Whole (k m : ℕ) : Type 0 where
  lower : below k m ≡ m → from k m ≡ none → Whole k m
  upper : below k m ≡ none → from k m ≡ m → Whole k m

abbrev Undivided : ℕ → Type 0
Undivided m = (k : ℕ) → Whole k m

all_lower : (k m : ℕ) → m < 2 ^ k → Whole k m
unfolding from none
all_lower k m h = Whole.lower (below_all k m h) (ap (bit_xor m) (below_all k m h) ∙ xor_self m)

all_upper : (k m : ℕ) → below k m ≡ none → Whole k m
unfolding from none
all_upper k m h = Whole.upper h (ap (bit_xor m) h ∙ xor_zero_r m)

none_undivided : Undivided none
none_undivided k = all_lower k none (none_lt k)

only_undivided : (i : ℕ) → Undivided (only i)
unfolding only below none
only_undivided i k = go (tested (ltb i k))
  where
    go : Tested (ltb i k) → Whole k (only i)
    go (Tested.yes h) = all_lower k (2 ^ i) (pow-lt (ltb-true i k h))
    go (Tested.no h) =
        let le : k ≤ i = ltb-false i k h in
        let e : i ≡ (i - k) + k = omega (arith, le) in
        let z : 2 ^ (i - k) * 2 ^ k ≡ 2 ^ (i - k) * 2 ^ k + 0 = omega arith in
        all_upper k (2 ^ i)
        (ap (λ (c : ℕ). 2 ^ c % 2 ^ k) e ∙ ap (λ (c : ℕ). c % 2 ^ k) (pow-add 2 (i - k) k ∙ z) ∙ low (2 ^ (i - k)) k (pow_pos k))

-- without i there is no member left
module _ (i m : ℕ) (left : remove i m ≡ none) where
  is-only : member i m ≡ true → m ≡ only i
  is-only h = ext m (only i) (λ j. go j (tested (eqb i j)))
    where
      go : (j : ℕ) → Tested (eqb i j) → member j m ≡ member j (only i)
      go j (Tested.yes e) = ap (λ (x : ℕ). member x m) (sym (eqb-true i j e)) ∙ h ∙ sym (member-only i j ∙ e)
      go j (Tested.no e) =
          sym (and-true (member j m)) ∙ ap (λ (b : Bool). member j m && not b) (sym e) ∙ sym (member-remove i m j)
          ∙ ap (member j) left ∙ member-none j ∙ sym (member-only i j ∙ e)

  undivided : Undivided m
  undivided = go (tested (member i m))
    where
      go : Tested (member i m) → Undivided m
      go (Tested.yes h) = subst Undivided (sym (is-only h)) (only_undivided i)
      go (Tested.no h) = subst Undivided (sym (sym (remove_absent i m h) ∙ left)) none_undivided

-- ---- row 11 at such a set
module _ (j : Joint) (k m : ℕ) (f g : ℕ → Bool) (first : (n : ℕ) → Undivided n → true ≡ f n) (second : (n : ℕ) → Undivided n → true ≡ g n) where
  one_part : (x : Bool) → true ≡ ofParts j x true true true
  one_part true = refl
  one_part false = refl

  of-whole : Undivided m → Whole k m → true ≡ ofParts j (empty (below k m)) (empty (from k m)) (f (below k m)) (g (from k m))
  of-whole u (Whole.lower a b) = rw (a, b, eq-eqb none none refl, ← first m u, ← second none none_undivided) (one_part (empty m))
  of-whole u (Whole.upper a b) = rw (a, b, eq-eqb none none refl) (second m u)

of_undivided : (base : ℕ) (p : Statement) (m : ℕ) → Undivided m → true ≡ compatible base p m
unfolding compatible
of_undivided base nothing m u = refl
of_undivided base (pause l) m u = refl
of_undivided base (emit s v) m u = refl
of_undivided base (exit n) m u = refl
of_undivided base (seq p q) m u =
    of-whole alternative (middle base p) m (compatible base p) (compatible (middle base p) q) (of_undivided base p) (of_undivided (middle base p) q) u (u (middle base p))
of_undivided base (par p q) m u =
    of-whole parallel (middle base p) m (compatible base p) (compatible (middle base p) q) (of_undivided base p) (of_undivided (middle base p) q) u (u (middle base p))
of_undivided base (loop a p) m u = of_undivided base p m u
of_undivided base (present s p q) m u =
    of-whole alternative (middle base p) m (compatible base p) (compatible (middle base p) q) (of_undivided base p) (of_undivided (middle base p) q) u (u (middle base p))
of_undivided base (signal sc a s p) m u = of_undivided base p m u
of_undivided base (try p) m u = of_undivided base p m u
of_undivided base (setpause l) m u = refl
of_undivided base (suspend s p) m u = of_undivided base p m u
of_undivided base (held s K p) m u = refl

-- the set w is m without i, and empty
pub single_step : {w : ℕ} (i base m : ℕ) (p : Statement) → w ≡ remove i m → empty w ≡ true → true ≡ compatible base p m
single_step {w} i base m p h e = of_undivided base p m (undivided i m (sym h ∙ eqb-true w none e))
