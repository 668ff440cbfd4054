-- What the members of each set are, and that two sets with the same members are one number.
use mathlib.Core.Path.{◌≡◌, refl, sym, ap, ◌∙◌}
use mathlib.Core.Logic.{◌⊎◌}
use mathlib.Core.Bool.{Bool, true, false, not, ◌&&◌, ◌||◌, and-eq-true_iff, false≢true, true≢false}
use Prim.Native.Nat.{ℕ, zero, suc, ◌+◌, ◌*◌, ◌/◌, ◌%◌, ◌^◌, ◌<◌, ◌≤◌, min, max}
use native.Mathlib.Nat.{pow-suc, mul-div_cancel, div-eq_of_lt, lt_of_lt_of_le}
use native.Mathlib.Omega.{arith}
use lib.Dec.{eqb, ltb, eqb-zero-suc, eqb-suc-zero, eqb-suc-suc}
use lib.Bits.{bit_or, bit_and, bit_xor, differ, or_step, and_step, xor_step, or_shr, and_shr, xor_shr}
use lib.Pow.{pow_mono, shr-shr}
use lib.Arith.{digits_mod, bin_ind}
use borrow.Author.Tests.{eqb-false, ltb-true, ltb-false, not-true}
use Rattle.spec_base.specs.Sets.{member, none, only, join, common, difference, insert, remove}
use Rattle.sets.proofs.Booleans.{or_l, or_r, or_cases, or_first, or_second, clash, same_test}

-- ---- one law for the three operations on digits
data Digit : ℕ → Type 0 where
  d0 : Digit 0
  d1 : Digit 1

digit : (n : ℕ) → n < 2 → Digit n
digit zero h = d0
digit (suc zero) h = d1
digit (suc (suc n)) h = absurd (omega arith)

module _ (op f : ℕ → ℕ → ℕ) (g : Bool → Bool → Bool)
    (step : (a b : ℕ) → op a b ≡ op (a / 2) (b / 2) * 2 + f (a % 2) (b % 2))
    (shr : (a b k : ℕ) → op a b / 2 ^ k ≡ op (a / 2 ^ k) (b / 2 ^ k))
    (small : (x y : ℕ) → x < 2 → y < 2 → f x y < 2)
    (same : (x y : ℕ) → Digit x → Digit y → eqb (f x y) 1 ≡ g (eqb x 1) (eqb y 1)) where
  low_digit : (a b : ℕ) → op a b % 2 ≡ f (a % 2) (b % 2)
  low_digit a b =
      ap (λ (x : ℕ). x % 2) (step a b)
      ∙ digits_mod (op (a / 2) (b / 2)) (small (a % 2) (b % 2) (omega arith) (omega arith))

  member-op : (i a b : ℕ) → member i (op a b) ≡ g (member i a) (member i b)
  unfolding member
  member-op i a b =
      ap (λ (x : ℕ). eqb (x % 2) 1) (shr a b i)
      ∙ ap (λ (x : ℕ). eqb x 1) (low_digit (a / 2 ^ i) (b / 2 ^ i))
      ∙ same (a / 2 ^ i % 2) (b / 2 ^ i % 2) (digit _ (omega arith)) (digit _ (omega arith))

abbrev xor : Bool → Bool → Bool
xor true b = not b
xor false b = b

or_same : (x y : ℕ) → Digit x → Digit y → eqb (max x y) 1 ≡ (eqb x 1 || eqb y 1)
or_same x y d0 d0 = refl
or_same x y d0 d1 = refl
or_same x y d1 d0 = refl
or_same x y d1 d1 = refl

and_same : (x y : ℕ) → Digit x → Digit y → eqb (min x y) 1 ≡ (eqb x 1 && eqb y 1)
and_same x y d0 d0 = refl
and_same x y d0 d1 = refl
and_same x y d1 d0 = refl
and_same x y d1 d1 = refl

xor_same : (x y : ℕ) → Digit x → Digit y → eqb (differ x y) 1 ≡ xor (eqb x 1) (eqb y 1)
xor_same x y d0 d0 = refl
xor_same x y d0 d1 = refl
xor_same x y d1 d0 = refl
xor_same x y d1 d1 = refl

or_small : (x y : ℕ) → x < 2 → y < 2 → max x y < 2
or_small x y h k = omega arith

and_small : (x y : ℕ) → x < 2 → y < 2 → min x y < 2
and_small x y h k = omega arith

xor_small : (x y : ℕ) → x < 2 → y < 2 → differ x y < 2
xor_small x y h k = go (digit x h) (digit y k)
  where
    go : {x y : ℕ} → Digit x → Digit y → differ x y < 2
    go d0 d0 = omega arith
    go d0 d1 = omega arith
    go d1 d0 = omega arith
    go d1 d1 = omega arith

-- ---- the members of each set
pub member-join : (i a b : ℕ) → member i (join a b) ≡ (member i a || member i b)
unfolding join
member-join = member-op bit_or max ◌||◌ or_step or_shr or_small or_same

pub member-common : (i a b : ℕ) → member i (common a b) ≡ (member i a && member i b)
unfolding common
member-common = member-op bit_and min ◌&&◌ and_step and_shr and_small and_same

member-xor : (i a b : ℕ) → member i (bit_xor a b) ≡ xor (member i a) (member i b)
member-xor = member-op bit_xor differ xor xor_step xor_shr xor_small xor_same

-- digit 0, and the others
pub member-zero : (s : ℕ) → member 0 s ≡ eqb (s % 2) 1
unfolding member
member-zero s = let e : s / 2 ^ 0 ≡ s = omega arith in ap (λ (x : ℕ). eqb (x % 2) 1) e

pub member-step : (i s : ℕ) → member (suc i) s ≡ member i (s / 2)
unfolding member
member-step i s = ap (λ (x : ℕ). eqb (x % 2) 1) (ap (λ (k : ℕ). s / 2 ^ k) (omega arith) ∙ sym (shr-shr s 1 i))

pub member-none : (i : ℕ) → member i none ≡ false
unfolding member none
member-none zero = refl
member-none (suc i) = member-step i 0 ∙ member-none i

-- a set of numbers below w is a number below 2 ^ w
pub member-high : {w s : ℕ} (i : ℕ) → s < 2 ^ w → w ≤ i → member i s ≡ false
unfolding member
member-high i h l = ap (λ (x : ℕ). eqb (x % 2) 1) (div-eq_of_lt (lt_of_lt_of_le h (pow_mono l)))

-- so its members are below w
pub member_lt : {w s : ℕ} (i : ℕ) → s < 2 ^ w → member i s ≡ true → i < w
member_lt {w} {s} i h m = go (ltb i w) refl
  where
    go : (b : Bool) → ltb i w ≡ b → i < w
    go true e = ltb-true i w e
    go false e = clash (member i s) m (member-high i h (ltb-false i w e))

double_half : (n : ℕ) → 2 ^ suc n / 2 ≡ 2 ^ n
double_half n = rw (pow-suc 2 n) (mul-div_cancel (2 ^ n) (omega arith))

even : (n : ℕ) → 2 ^ suc n % 2 ≡ 0
even n = rw (pow-suc 2 n) (omega arith)

pub member-only : (i j : ℕ) → member j (only i) ≡ eqb i j
unfolding member only none
member-only zero zero = refl
member-only zero (suc j) = rw (member-step, eqb-zero-suc) (member-none j)
member-only (suc i) zero = member-zero (2 ^ suc i) ∙ ap (λ (x : ℕ). eqb x 1) (even i) ∙ sym (eqb-suc-zero i)
member-only (suc i) (suc j) = rw (member-step, double_half, eqb-suc-suc) (member-only i j)

pub member-insert : (i s j : ℕ) → member j (insert i s) ≡ (member j s || eqb i j)
unfolding insert only join
member-insert i s j = member-join j s (only i) ∙ ap (λ (b : Bool). member j s || b) (member-only i j)

without : (a b : Bool) → xor a (a && b) ≡ (a && not b)
without true true = refl
without true false = refl
without false true = refl
without false false = refl

-- the members of s that t has not
pub member-difference : (i s t : ℕ) → member i (difference s t) ≡ (member i s && not (member i t))
unfolding difference common
member-difference i s t =
    member-xor i s (common s t) ∙ ap (λ (b : Bool). xor (member i s) b) (member-common i s t) ∙ without (member i s) (member i t)

pub member-remove : (i s j : ℕ) → member j (remove i s) ≡ (member j s && not (eqb i j))
unfolding remove only difference
member-remove i s j = member-difference j s (only i) ∙ ap (λ (b : Bool). member j s && not b) (member-only i j)

-- ---- being a member, or none
pub in_none {ℓ} : {A : Type ℓ} (k : ℕ) → member k none ≡ true → A
in_none k h = absurd (false≢true (sym (member-none k) ∙ h))

pub in_l : (k s t : ℕ) → member k s ≡ true → member k (join s t) ≡ true
in_l k s t h = member-join k s t ∙ or_l (member k s) (member k t) h

pub in_r : (k s t : ℕ) → member k t ≡ true → member k (join s t) ≡ true
in_r k s t h = member-join k s t ∙ or_r (member k s) (member k t) h

pub in_join : (k s t : ℕ) → member k (join s t) ≡ true → (member k s ≡ true) ⊎ (member k t ≡ true)
in_join k s t h = or_cases (member k s) (member k t) (sym (member-join k s t) ∙ h)

pub out_l : (k s t : ℕ) → member k (join s t) ≡ false → member k s ≡ false
out_l k s t h = or_first (member k s) (member k t) (sym (member-join k s t) ∙ h)

pub out_r : (k s t : ℕ) → member k (join s t) ≡ false → member k t ≡ false
out_r k s t h = or_second (member k s) (member k t) (sym (member-join k s t) ∙ h)

pub in_remove : (i s j : ℕ) → member j (remove i s) ≡ true → (member j s ≡ true) × (i ≡ j → ⊥)
in_remove i s j h =
    let x = (and-eq-true_iff (member j s) (not (eqb i j))).0 (sym (member-remove i s j) ∙ h) in
    (x.0, eqb-false i j (not-true (eqb i j) x.1))

-- ---- two sets with the same members are one number
low_same : (a b : ℕ) → member 0 a ≡ member 0 b → a % 2 ≡ b % 2
low_same a b h =
    go (digit (a % 2) (omega arith)) (digit (b % 2) (omega arith)) (sym (member-zero a) ∙ h ∙ member-zero b)
  where
    go : {x y : ℕ} → Digit x → Digit y → eqb x 1 ≡ eqb y 1 → x ≡ y
    go d0 d0 k = refl
    go d0 d1 k = absurd (false≢true k)
    go d1 d0 k = absurd (true≢false k)
    go d1 d1 k = refl

Same : ℕ → ℕ → Type 0
Same a b = (i : ℕ) → member i a ≡ member i b

same_half : (a b : ℕ) → Same a b → Same (a / 2) (b / 2)
unfolding Same
same_half a b h i = sym (member-step i a) ∙ h (suc i) ∙ member-step i b

pub ext : (a b : ℕ) → ((i : ℕ) → member i a ≡ member i b) → a ≡ b
unfolding Same
ext a = bin_ind (λ (n : ℕ). (b : ℕ) → Same n b → n ≡ b) base step a
  where
    base : (b : ℕ) → Same 0 b → 0 ≡ b
    base b = bin_ind (λ (n : ℕ). Same 0 n → 0 ≡ n) (λ h. refl)
        (λ n ih h. let x : 0 ≡ n / 2 = ih (same_half 0 n h) in
        let y : 0 % 2 ≡ n % 2 = low_same 0 n (h 0) in omega arith) b

    step : (n : ℕ) → ((b : ℕ) → Same (n / 2) b → n / 2 ≡ b) → (b : ℕ) → Same n b → n ≡ b
    step n ih b h =
        let x : n / 2 ≡ b / 2 = ih (b / 2) (same_half n b h) in
        let y : n % 2 ≡ b % 2 = low_same n b (h 0) in
        omega arith

pub same_set : (s t : ℕ) → ((i : ℕ) → member i s ≡ true → member i t ≡ true) → ((i : ℕ) → member i t ≡ true → member i s ≡ true) → s ≡ t
same_set s t f g = ext s t (λ i. same_test (member i s) (member i t) (f i) (g i))
