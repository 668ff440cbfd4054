-- A set held in two words, once for every width w of the first.
use Prim.Native.Nat.{ℕ, ◌+◌, ◌*◌, ◌-◌, ◌/◌, ◌%◌, ◌^◌, ◌≤◌, ◌<◌}
use mathlib.Core.Path.{◌≡◌, refl, sym, ap, ap₂, ◌∙◌, subst}
use mathlib.Core.Logic.{◌↔◌}
use mathlib.Core.Bool.{Bool, true, false}
use native.Mathlib.Omega.{arith}
use native.Mathlib.Nat.{mod-lt, div-lt_iff_lt-mul}
use mathlib.Core.List.{List}
use lib.Dec.{eqb, ltb}
use lib.ListN.{length, get_or, set, length-set}
use lib.Seq.{get_or-set_same, get_or-set_other}
use lib.Bits.{bit_and, bit_xor, and_block, or_block, xor_block, and_lt, and_zero_r}
use lib.Pow.{pow_pos, pow-add, shr-shr, split, high, low, field, mod-mod-pow, mod-pow-add}
use borrow.Author.Tests.{eq-eqb, eqb-true, ne_eqb, eqb-false, ltb-true, ltb-false, lt-ltb}
use Rattle.spec_base.specs.Limits.{word_labels}
use Rattle.spec_base.specs.Sets.{member, none, only, join, Subset, subset, Disjoint, disjoint, below}
use Rattle.spec_base.specs.Widths.{only_below, two_words, set_at, Lowest}
use Rattle.sets.proofs.Members.{member-none, member_lt}
use Rattle.sets.proofs.Algebra.{join-none_r}
use Rattle.sets.proofs.Tests.{subset-is, disjoint-is}
use Rattle.sets.proofs.Widths.{shifted_only, only_lt}

-- ---- a number and the two words that hold it
pub words_of : (w s : ℕ) → two_words w (s % 2 ^ w) (s / 2 ^ w) ≡ s
unfolding two_words
words_of w s = split s w

pub low_fits : (w s : ℕ) → s % 2 ^ w < 2 ^ w
low_fits w s = mod-lt s (pow_pos w)

pub words-none : (w : ℕ) → two_words w 0 0 ≡ none
unfolding two_words none
words-none w = omega arith

module _ (w a b : ℕ) (fits : a < 2 ^ w) where
  pub low_word : two_words w a b % 2 ^ w ≡ a
  unfolding two_words
  low_word = low b w fits

  pub high_word : two_words w a b / 2 ^ w ≡ b
  unfolding two_words
  high_word = high b w fits

  pub words-lt : (v : ℕ) → b < 2 ^ v → two_words w a b < 2 ^ (v + w)
  words-lt v h =
      subst (λ (x : ℕ). two_words w a b < x) (sym (pow-add 2 v w))
      ((div-lt_iff_lt-mul (pow_pos w)).0 (subst (λ (x : ℕ). x < 2 ^ v) (sym high_word) h))

-- ---- both words of a set stored in a list, and those of another
abbrev pub stored : (at v : ℕ) → List ℕ → List ℕ
stored at v m = set (set m at (v % 2 ^ word_labels)) (at + 1) (v / 2 ^ word_labels)

pub stored_here : (at v : ℕ) (m : List ℕ) → at + 1 < length m → set_at at (stored at v m) ≡ v
stored_here at v m h =
    let one = set m at (v % 2 ^ word_labels) in
    ap₂ (two_words word_labels)
    (get_or-set_other one (at + 1) at (v / 2 ^ word_labels) 0 (λ e. omega arith) ∙ get_or-set_same m at (v % 2 ^ word_labels) 0 (omega arith))
    (get_or-set_same one (at + 1) (v / 2 ^ word_labels) 0 (simp length-set (omega arith)))
    ∙ words_of word_labels v

pub stored_elsewhere : (at v i : ℕ) (m : List ℕ) → (i ≡ at → ⊥) → (i ≡ at + 1 → ⊥) → (i + 1 ≡ at → ⊥) → set_at i (stored at v m) ≡ set_at i m
stored_elsewhere at v i m f g h = ap₂ (two_words word_labels) (other i f g) (other (i + 1) h (λ e. f (omega arith)))
  where
    other : (j : ℕ) → (j ≡ at → ⊥) → (j ≡ at + 1 → ⊥) → get_or (stored at v m) j 0 ≡ get_or m j 0
    other j f g =
        get_or-set_other (set m at (v % 2 ^ word_labels)) (at + 1) j (v / 2 ^ word_labels) 0 g ∙ get_or-set_other m at j (v % 2 ^ word_labels) 0 f

-- ---- members
-- below w those of the first word
digit-below : (i j s : ℕ) → s % 2 ^ ((j + 1) + i) / 2 ^ i % 2 ≡ s / 2 ^ i % 2
digit-below i j s = ap (λ (x : ℕ). x % 2) (field s (j + 1) i) ∙ mod-mod-pow (s / 2 ^ i) j 1

member_below : (w i s : ℕ) → i < w → member i (s % 2 ^ w) ≡ member i s
unfolding member
member_below w i s h =
    let e : ((w - i - 1) + 1) + i ≡ w = omega arith in
    ap (λ (x : ℕ). eqb x 1) (ap (λ (v : ℕ). s % 2 ^ v / 2 ^ i % 2) (sym e) ∙ digit-below i (w - i - 1) s)

member_above : (w i s : ℕ) → member i (s / 2 ^ w) ≡ member (w + i) s
unfolding member
member_above w i s = ap (λ (x : ℕ). eqb (x % 2) 1) (shr-shr s w i)

module _ (w a b : ℕ) (fits : a < 2 ^ w) where
  pub member-low : (i : ℕ) → i < w → member i a ≡ member i (two_words w a b)
  member-low i h = ap (member i) (sym (low_word w a b fits)) ∙ member_below w i (two_words w a b) h

  member-moved : (i : ℕ) → member i b ≡ member (w + i) (two_words w a b)
  member-moved i = ap (member i) (sym (high_word w a b fits)) ∙ member_above w i (two_words w a b)

  -- from w on those of the second
  pub member-from : (i : ℕ) → w ≤ i → member (i - w) b ≡ member i (two_words w a b)
  member-from i h =
      let e : w + (i - w) ≡ i = omega arith in
      member-moved (i - w) ∙ ap (λ (j : ℕ). member j (two_words w a b)) e

  -- ---- the members below k
  pub below-low : (k : ℕ) → k ≤ w → two_words w (below k a) 0 ≡ below k (two_words w a b)
  unfolding two_words below
  below-low k h =
      let e : (w - k) + k ≡ w = omega arith in
      let z : 0 * 2 ^ w + a % 2 ^ k ≡ a % 2 ^ k = omega arith in
      z ∙ ap (λ (x : ℕ). x % 2 ^ k) (sym (low_word w a b fits) ∙ ap (λ (v : ℕ). two_words w a b % 2 ^ v) (sym e))
      ∙ mod-mod-pow (two_words w a b) (w - k) k

  pub below-high : (k : ℕ) → w ≤ k → two_words w a (below (k - w) b) ≡ below k (two_words w a b)
  unfolding two_words below
  below-high k h =
      let e : (k - w) + w ≡ k = omega arith in
      sym
      (ap (λ (v : ℕ). two_words w a b % 2 ^ v) (sym e) ∙ mod-pow-add (two_words w a b) (k - w) w
      ∙ ap₂ (λ (x y : ℕ). x % 2 ^ (k - w) * 2 ^ w + y) (high_word w a b fits) (low_word w a b fits))

-- ---- the set of one number, and of those of two sets
pub only-low : (w i : ℕ) → two_words w (only i) 0 ≡ only i
unfolding two_words only
only-low w i = omega arith

pub only_high : (w i : ℕ) → w ≤ i → two_words w 0 (only (i - w)) ≡ only i
unfolding two_words only
only_high w i h =
    let e : (i - w) + w ≡ i = omega arith in
    let z : 2 ^ (i - w) * 2 ^ w + 0 ≡ 2 ^ (i - w) * 2 ^ w = omega arith in
    z ∙ sym (pow-add 2 (i - w) w) ∙ ap (λ (x : ℕ). 2 ^ x) e

module _ (w a b c d : ℕ) (h : a < 2 ^ w) (k : c < 2 ^ w) where
  pub words-join : two_words w (join a c) (join b d) ≡ join (two_words w a b) (two_words w c d)
  unfolding two_words join
  words-join = sym (or_block w b d a c h k)

  pub words-and : two_words w (bit_and a c) (bit_and b d) ≡ bit_and (two_words w a b) (two_words w c d)
  unfolding two_words
  words-and = sym (and_block w b d a c h k)

  pub words-xor : two_words w (bit_xor a c) (bit_xor b d) ≡ bit_xor (two_words w a b) (two_words w c d)
  unfolding two_words
  words-xor = sym (xor_block w b d a c h k)

  -- ---- tests, word by word
  same_low : two_words w a b ≡ two_words w c d → a ≡ c
  same_low e = sym (low_word w a b h) ∙ ap (λ (x : ℕ). x % 2 ^ w) e ∙ low_word w c d k

  same-high : two_words w a b ≡ two_words w c d → b ≡ d
  same-high e = sym (high_word w a b h) ∙ ap (λ (x : ℕ). x / 2 ^ w) e ∙ high_word w c d k

  pub words_same : a ≡ c → eqb b d ≡ eqb (two_words w a b) (two_words w c d)
  words_same e = go (eqb b d) refl
    where
      go : (x : Bool) → eqb b d ≡ x → x ≡ eqb (two_words w a b) (two_words w c d)
      go true q = sym (eq-eqb (two_words w a b) (two_words w c d) (ap₂ (two_words w) e (eqb-true b d q)))
      go false q = sym (ne_eqb (two_words w a b) (two_words w c d) (λ z. eqb-false b d q (same-high z)))

  pub words-differ : (a ≡ c → ⊥) → false ≡ eqb (two_words w a b) (two_words w c d)
  words-differ f = sym (ne_eqb (two_words w a b) (two_words w c d) (λ z. f (same_low z)))

-- ---- what the code computes with the words of two sets
as_test : {x y : Bool} {P : Type 0} → x ≡ y → (y ≡ true) ↔ P → (x ≡ true) ↔ P
as_test e h = (λ q. h.0 (sym e ∙ q), λ q. e ∙ h.1 q)

module _ (w a b c d : ℕ) (h : a < 2 ^ w) (k : c < 2 ^ w) where
  abbrev s : ℕ
  s = two_words w a b

  abbrev t : ℕ
  t = two_words w c d

  pub words-difference : two_words w (bit_xor a (bit_and a c)) (bit_xor b (bit_and b d)) ≡ bit_xor s (bit_and s t)
  words-difference =
      words-xor w a b (bit_and a c) (bit_and b d) h (and_lt w a c h k) ∙ ap (bit_xor s) (words-and w a b c d h k)

  words-common : (e : ℕ) → eqb (two_words w (bit_and a c) (bit_and b d)) e ≡ eqb (bit_and s t) e
  words-common e = ap (λ (x : ℕ). eqb x e) (words-and w a b c d h k)

  pub subset-words : bit_and a c ≡ a → (eqb (bit_and b d) b ≡ true) ↔ Subset s t
  unfolding subset
  subset-words e =
      as_test (words_same w (bit_and a c) (bit_and b d) a b (and_lt w a c h k) h e ∙ words-common s) (subset-is s t)

  pub no-subset : (bit_and a c ≡ a → ⊥) → (false ≡ true) ↔ Subset s t
  unfolding subset
  no-subset f =
      as_test (words-differ w (bit_and a c) (bit_and b d) a b (and_lt w a c h k) h f ∙ words-common s) (subset-is s t)

  none-common : eqb (two_words w (bit_and a c) (bit_and b d)) (two_words w 0 0) ≡ eqb (bit_and s t) 0
  unfolding none
  none-common = ap (eqb (two_words w (bit_and a c) (bit_and b d))) (words-none w) ∙ words-common 0

  pub disjoint-words : bit_and a c ≡ 0 → (eqb (bit_and b d) 0 ≡ true) ↔ Disjoint s t
  unfolding disjoint none
  disjoint-words e =
      as_test (words_same w (bit_and a c) (bit_and b d) 0 0 (and_lt w a c h k) (pow_pos w) e ∙ none-common) (disjoint-is s t)

  pub no-disjoint : (bit_and a c ≡ 0 → ⊥) → (false ≡ true) ↔ Disjoint s t
  unfolding disjoint none
  no-disjoint f =
      as_test (words-differ w (bit_and a c) (bit_and b d) 0 0 (and_lt w a c h k) (pow_pos w) f ∙ none-common) (disjoint-is s t)

-- ---- one number more, or in common, in the word that has it
module _ (w a b l : ℕ) (fits : a < 2 ^ w) where
  pub one-low : l < w → two_words w (join a (only l)) b ≡ join (two_words w a b) (only l)
  unfolding none
  one-low h =
      ap (two_words w (join a (only l))) (sym (join-none_r b)) ∙ words-join w a b (only l) 0 fits (only_lt w l h)
      ∙ ap (join (two_words w a b)) (only-low w l)

  pub one-high : w ≤ l → two_words w a (join b (only (l - w))) ≡ join (two_words w a b) (only l)
  unfolding none
  one-high h =
      ap (λ (x : ℕ). two_words w x (join b (only (l - w)))) (sym (join-none_r a))
      ∙ words-join w a b 0 (only (l - w)) fits (pow_pos w) ∙ ap (join (two_words w a b)) (only_high w l h)

  pub common-low : l < w → eqb (bit_and a (only l)) 0 ≡ eqb (bit_and (two_words w a b) (only l)) 0
  common-low h =
      ap (λ (x : ℕ). eqb x 0)
      (alone ∙ ap (two_words w (bit_and a (only l))) (sym (and_zero_r b)) ∙ words-and w a b (only l) 0 fits (only_lt w l h)
      ∙ ap (bit_and (two_words w a b)) (only-low w l))
    where
      alone : bit_and a (only l) ≡ two_words w (bit_and a (only l)) 0
      alone = unfold two_words in omega arith

  pub common-high : w ≤ l → eqb (bit_and b (only (l - w))) 0 ≡ eqb (bit_and (two_words w a b) (only l)) 0
  unfolding none
  common-high h =
      words_same w 0 (bit_and b (only (l - w))) 0 0 (pow_pos w) (pow_pos w) refl
      ∙ ap₂ eqb
      (ap (λ (x : ℕ). two_words w x (bit_and b (only (l - w)))) (sym (and_zero_r a)) ∙ words-and w a b 0 (only (l - w)) fits (pow_pos w)
      ∙ ap (bit_and (two_words w a b)) (only_high w l h))
      (words-none w)

-- one, shifted, in either word
pub shifted_low : (w n i : ℕ) → i < w → w ≤ n → two_words w ((1 * 2 ^ i) % 2 ^ w) 0 ≡ only_below n i
shifted_low w n i h l =
    ap (λ (x : ℕ). two_words w x 0) (shifted_only w i h ∙ rw (lt-ltb i w h)) ∙ only-low w i ∙ rw (lt-ltb i n (omega arith))

pub shifted_high : (w v i : ℕ) → w ≤ i → i < v + w → two_words w 0 ((1 * 2 ^ (i - w)) % 2 ^ v) ≡ only_below (v + w) i
shifted_high w v i h l =
    let u : i - w < v = omega arith in
    ap (two_words w 0) (shifted_only v (i - w) u ∙ rw (lt-ltb (i - w) v u)) ∙ only_high w i h ∙ rw (lt-ltb i (v + w) l)

-- ---- the lowest member
module _ (w v a b : ℕ) (fits : a < 2 ^ w) where
  none-low : two_words w a b ≡ none → a ≡ none
  unfolding none
  none-low e = same_low w a b 0 0 fits (pow_pos w) (e ∙ sym (words-none w))

  none-high : two_words w a b ≡ none → b ≡ none
  unfolding none
  none-high e = same-high w a b 0 0 fits (pow_pos w) (e ∙ sym (words-none w))

  both-none : a ≡ none → b ≡ none → two_words w a b ≡ none
  unfolding none
  both-none e f = ap₂ (two_words w) e f ∙ words-none w

  pub lowest-low : (i : ℕ) → (a ≡ none → ⊥) → Lowest w a i → Lowest (v + w) (two_words w a b) i
  lowest-low i f l =
      let h : i < w = member_lt i fits (l.found f) in
      record {
        found = λ g. sym (member-low w a b fits i h) ∙ l.found f;
        least = λ j q. sym (member-low w a b fits j (omega arith)) ∙ l.least j q;
        absent = λ e. absurd (f (none-low e));
      }

  pub lowest-high : (i : ℕ) → a ≡ none → Lowest v b i → Lowest (v + w) (two_words w a b) (w + i)
  lowest-high i e l =
      record {
        found = λ g. sym (member-moved w a b fits i) ∙ l.found (λ z. g (both-none e z));
        least = λ j q. go j q (ltb j w) refl;
        absent = λ z. let q = l.absent (none-high z) in omega arith;
      }
    where
      go : (j : ℕ) → j < w + i → (x : Bool) → ltb j w ≡ x → member j (two_words w a b) ≡ false
      go j q true z = sym (member-low w a b fits j (ltb-true j w z)) ∙ ap (member j) e ∙ member-none j
      go j q false z =
          let k : w ≤ j = ltb-false j w z in
          sym (member-from w a b fits j k) ∙ l.least (j - w) (omega arith)
