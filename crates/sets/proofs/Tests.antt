-- The tests of sets are true exactly if the relation holds, and disjoint sets by their parts.
use Prim.Native.Nat.{ℕ}
use mathlib.Core.Path.{◌≡◌, sym, ap, ◌∙◌}
use mathlib.Core.Logic.{⊎_elim, ◌↔◌}
use mathlib.Core.Bool.{Bool, true, ◌&&◌, and-eq-true_iff}
use borrow.Author.Tests.{eqb-true, eq-eqb}
use Rattle.spec_base.specs.Sets.{member, none, join, common, Subset, subset, Disjoint, disjoint}
use Rattle.sets.proofs.Booleans.{same_test, implies_is, apart_is}
use Rattle.sets.proofs.Members.{member-common, member-none, member-join, in_none, in_l, in_r, in_join, out_l, out_r, ext}

pub subset-is : (s t : ℕ) → (subset s t ≡ true) ↔ Subset s t
unfolding subset common
subset-is s t = (
  λ h i. (implies_is (member i s) (member i t)).1 (sym (member-common i s t) ∙ ap (member i) (eqb-true (common s t) s h)),
  λ h. eq-eqb (common s t) s (ext (common s t) s (λ i. member-common i s t ∙ (implies_is (member i s) (member i t)).0 (h i))),
)

-- a test of code that tells it
pub subset_by : (b : Bool) (s t : ℕ) → (b ≡ true) ↔ Subset s t → b ≡ subset s t
subset_by b s t h = same_test b (subset s t) (λ e. (subset-is s t).1 (h.0 e)) (λ e. h.1 ((subset-is s t).0 e))

pub disjoint-is : (s t : ℕ) → (disjoint s t ≡ true) ↔ Disjoint s t
unfolding disjoint common
disjoint-is s t = (
  λ h i. (apart_is (member i s) (member i t)).1
      (sym (member-common i s t) ∙ ap (member i) (eqb-true (common s t) none h) ∙ member-none i),
  λ h. eq-eqb (common s t) none
      (ext (common s t) none (λ i. member-common i s t ∙ (apart_is (member i s) (member i t)).0 (h i) ∙ sym (member-none i))),
)

-- ---- disjoint sets
pub disjoint-none : (s : ℕ) → disjoint s none ≡ true
disjoint-none s = (disjoint-is s none).1 (λ i h. member-none i)

pub none-disjoint : (s : ℕ) → disjoint none s ≡ true
none-disjoint s = (disjoint-is none s).1 (λ i h. in_none i h)

pub disjoint_right : (s a b : ℕ) → disjoint s (join a b) ≡ (disjoint s a && disjoint s b)
disjoint_right s a b =
    same_test _ _
    (λ h. let f = (disjoint-is s (join a b)).0 h in
    (and-eq-true_iff (disjoint s a) (disjoint s b)).1 (
      (disjoint-is s a).1 (λ i x. out_l i a b (f i x)),
      (disjoint-is s b).1 (λ i x. out_r i a b (f i x)),
    ))
    (λ h. let d = (and-eq-true_iff (disjoint s a) (disjoint s b)).0 h in
    (disjoint-is s (join a b)).1 (λ i x. member-join i a b ∙ rw ((disjoint-is s a).0 d.0 i x, (disjoint-is s b).0 d.1 i x)))

pub disjoint_left : (a b s : ℕ) → disjoint (join a b) s ≡ (disjoint a s && disjoint b s)
disjoint_left a b s =
    same_test _ _
    (λ h. let f = (disjoint-is (join a b) s).0 h in
    (and-eq-true_iff (disjoint a s) (disjoint b s)).1
    ((disjoint-is a s).1 (λ i x. f i (in_l i a b x)), (disjoint-is b s).1 (λ i x. f i (in_r i a b x))))
    (λ h. let d = (and-eq-true_iff (disjoint a s) (disjoint b s)).0 h in
    (disjoint-is (join a b) s).1 (λ i x. ⊎_elim ((disjoint-is a s).0 d.0 i) ((disjoint-is b s).0 d.1 i) (in_join i a b x)))
