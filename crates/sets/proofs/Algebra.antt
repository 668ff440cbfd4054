-- Unions and meets of sets, a number taken out of one, and sets that are the same but for some members.
use Prim.Native.Nat.{ℕ, ◌^◌}
use mathlib.Core.Path.{◌≡◌, refl, sym, ap, ap₂, ◌∙◌}
use mathlib.Core.Logic.{◌↔◌}
use mathlib.Core.Bool.{Bool, true, false, not, ◌&&◌, ◌||◌, and-true, and-false, or_assoc, and-or_distrib_left, and-eq-true_iff}
use native.Mathlib.Omega.{arith}
use lib.Dec.{eqb}
use lib.Bits.{bit_or, or_self, or_zero_l, or_zero_r, or_add_and, and_le_l, and_le_r}
use lib.Pow.{pow_pos}
use borrow.Author.Tests.{eqb-true, eq-eqb, ne_eqb}
use Rattle.spec_base.specs.Sets.{member, none, empty, only, join, common, difference, remove}
use Rattle.sets.proofs.Booleans.{same_test}
use Rattle.sets.proofs.Members.{member-join, member-common, member-difference, member-remove, ext}

pub join-none_l : (s : ℕ) → join none s ≡ s
unfolding join none
join-none_l s = or_zero_l s

pub join-none_r : (s : ℕ) → join s none ≡ s
unfolding join none
join-none_r s = or_zero_r s

pub join_self : (s : ℕ) → join s s ≡ s
unfolding join
join_self s = or_self s

pub join_assoc : (a b c : ℕ) → join a (join b c) ≡ join (join a b) c
join_assoc a b c =
    ext _ _
    (λ i. member-join i a (join b c) ∙ ap (λ (x : Bool). member i a || x) (member-join i b c) ∙ sym (or_assoc (member i a) (member i b) (member i c))
    ∙ sym (member-join i (join a b) c ∙ ap (λ (x : Bool). x || member i c) (member-join i a b)))

swapped : (x y z t : Bool) → ((x || y) || (z || t)) ≡ ((x || z) || (y || t))
swapped true y z t = refl
swapped false true true t = refl
swapped false true false t = refl
swapped false false z t = refl

pub join_swap : (a b c d : ℕ) → join (join a b) (join c d) ≡ join (join a c) (join b d)
join_swap a b c d =
    ext (join (join a b) (join c d)) (join (join a c) (join b d))
    (λ i. members i a b c d ∙ swapped (member i a) (member i b) (member i c) (member i d) ∙ sym (members i a c b d))
  where
    members : (i a b c d : ℕ) → member i (join (join a b) (join c d)) ≡ ((member i a || member i b) || (member i c || member i d))
    members i a b c d = member-join i (join a b) (join c d) ∙ ap₂ ◌||◌ (member-join i a b) (member-join i c d)

pub empty_join : (a b : ℕ) → empty (join a b) ≡ (empty a && empty b)
unfolding join none
empty_join a b =
    same_test _ _
    (λ h. let e = eqb-true (bit_or a b) 0 h in
    (and-eq-true_iff (empty a) (empty b)).1
    (eq-eqb a 0 (omega (arith, or_add_and a b, and_le_r a b)), eq-eqb b 0 (omega (arith, or_add_and a b, and_le_l a b))))
    (λ h. let d = (and-eq-true_iff (empty a) (empty b)).0 h in rw (eqb-true a 0 d.0, eqb-true b 0 d.1))

pub only-some : (i : ℕ) → empty (only i) ≡ false
unfolding only none
only-some i = ne_eqb (2 ^ i) 0 (λ e. omega (arith, pow_pos i, e))

pub common-join : (s a b : ℕ) → common s (join a b) ≡ join (common s a) (common s b)
common-join s a b =
    ext _ _
    (λ i. member-common i s (join a b) ∙ ap (λ (x : Bool). member i s && x) (member-join i a b)
    ∙ and-or_distrib_left (member i s) (member i a) (member i b)
    ∙ sym (member-join i (common s a) (common s b) ∙ ap₂ ◌||◌ (member-common i s a) (member-common i s b)))

-- ---- what is taken out
absent : (i s j : ℕ) (b : Bool) → eqb i j ≡ b → member i s ≡ false → (member j s && not b) ≡ member j s
absent i s j true e h = and-false (member j s) ∙ sym (ap (λ (k : ℕ). member k s) (sym (eqb-true i j e)) ∙ h)
absent i s j false e h = and-true (member j s)

-- taking out what is no member changes nothing
pub remove_absent : (i s : ℕ) → member i s ≡ false → remove i s ≡ s
remove_absent i s h = ext (remove i s) s (λ j. member-remove i s j ∙ absent i s j (eqb i j) refl h)

-- two sets are the same but for the members of v exactly if their differences with v are one set
same_outside : (a b c : Bool) → (c ≡ false → a ≡ b) → (a && not c) ≡ (b && not c)
same_outside a b true h = and-false a ∙ sym (and-false b)
same_outside a b false h = ap (λ (x : Bool). x && true) (h refl)

kept : (a c : Bool) → c ≡ false → (a && not c) ≡ a
kept a c h = ap (λ (x : Bool). a && not x) h ∙ and-true a

pub differences_same : (v s t : ℕ) → (difference s v ≡ difference t v) ↔ ((i : ℕ) → member i v ≡ false → member i s ≡ member i t)
differences_same v s t = (
  λ e i h. sym (kept (member i s) (member i v) h) ∙ sym (member-difference i s v) ∙ ap (member i) e ∙ member-difference i t v
      ∙ kept (member i t) (member i v) h,
  λ h. ext (difference s v) (difference t v)
      (λ i. member-difference i s v ∙ same_outside (member i s) (member i t) (member i v) (h i) ∙ sym (member-difference i t v)),
)
