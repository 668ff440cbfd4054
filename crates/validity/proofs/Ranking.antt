-- A mask is made label by label, each at its noted rank.
use Prim.Native.Nat.{ℕ, ◌^◌, ◌<◌, ◌≤◌}
use mathlib.Core.Path.{◌≡◌, sym, ap, ap₂, ◌∙◌, subst}
use mathlib.Core.Bool.{true, not, ◌&&◌, ◌||◌, cond, and-true, and-eq-true_iff}
use mathlib.Core.List.{List}
use native.Mathlib.Omega.{arith}
use native.Mathlib.Decide.{dec_lt}
use lib.Dec.{eqb, ltb}
use borrow.Author.Tests.{eqb-true, lt-ltb}
use Rattle.spec_base.specs.Limits.{label_count}
use Rattle.spec_base.specs.Sets.{member, none, only, join, remove, Subset}
use Rattle.spec_base.specs.Widths.{only_below}
use Rattle.sets.proofs.Booleans.{clash, Tested, tested}
use Rattle.sets.proofs.Members.{member-join, member-high, member-only, member-remove, ext}
use Rattle.sets.proofs.Algebra.{join-none_l, join-none_r, join_assoc}
use Rattle.spec_language.specs.Statement.{Statement}
use Rattle.spec_language.specs.LabelTests.{pauses, distinct}
use Rattle.theory_language.specs.Ranks.{pause_count, mask}
use Rattle.theory_language.proofs.LabelTests.{distinct_is}
use Rattle.theory_language.proofs.Ranks.{mask-none, mask-join, mask-only, rank_lt}
use Rattle.theory_language.proofs.Counts.{few_pauses}
use Rattle.layout.specs.Notes.{Noted, pausesIn, rank_in}
use Rattle.validity.specs.Activity.{Ranked, Masked}

-- a member and the others
with_others : (l s : ℕ) → member l s ≡ true → join (only l) (remove l s) ≡ s
with_others l s h =
    ext (join (only l) (remove l s)) s
    (λ i. member-join i (only l) (remove l s) ∙ ap₂ ◌||◌ (member-only l i) (member-remove l s i) ∙ go i (tested (eqb l i)))
  where
    go : (i : ℕ) → Tested (eqb l i) → (eqb l i || (member i s && not (eqb l i))) ≡ member i s
    go i (Tested.yes e) = rw e (sym (ap (λ (k : ℕ). member k s) (sym (eqb-true l i e)) ∙ h))
    go i (Tested.no e) = rw e (and-true (member i s))

-- the labels left, and what their ranks add to the mask
pub record Ranking (notes : List ℕ) (L left m : ℕ) : Type 0 where
  pub within : Subset left L
  pub adds : (p : Statement) → Noted p notes → distinct p ≡ true → Subset L (pauses p) → join m (mask 0 p left) ≡ mask 0 p L

pub ranking_begin : (notes : List ℕ) (L m : ℕ) → m ≡ none → Ranking notes L L m
ranking_begin notes L m e = record { within = λ i h. h; adds = λ p n d s. rw e (join-none_l (mask 0 p L)) }

pub ranking_end : (notes : List ℕ) (L left m : ℕ) → Ranking notes L left m → left ≡ none → Masked notes L m
ranking_end notes L left m f e p n d s =
    sym (join-none_r m) ∙ ap (join m) (sym (mask-none 0 p) ∙ ap (mask 0 p) (sym e)) ∙ f.adds p n d s

module _ (notes : List ℕ) (L left m : ℕ) (f : Ranking notes L left m) (g : Ranked notes L) (l : ℕ) (h : member l left ≡ true) where
  -- the rank that the notes give
  module _ (k : ℕ) (ek : k ≡ cond (ltb l label_count) (rank_in notes l) 0) where
    noted-rank : k ≡ rank_in notes l
    noted-rank = ek ∙ rw (lt-ltb l label_count (g l (f.within l h)).0)

    pub rank-small : k < label_count
    rank-small = omega (arith, noted-rank, (g l (f.within l h)).1)

    pub ranking-on : (s next n : ℕ) → s ≡ only_below label_count k → next ≡ join m s → n ≡ remove l left → Ranking notes L n next
    ranking-on s next n es ej en =
        record {
          within = λ i o. f.within i ((and-eq-true_iff (member i left) (not (eqb l i))).0 (sym (member-remove l left i) ∙ ap (member i) (sym en) ∙ o)).0;
          adds = λ p no d sub.
              let e : s ≡ mask 0 p (only l) = es ∙ rw (lt-ltb k label_count rank-small)
              (ap only (noted-rank ∙ no.ranked d l (sub l (f.within l h))) ∙ sym (mask-only 0 p l ((distinct_is p).0 d) (sub l (f.within l h)))) in
              ap₂ join (ej ∙ ap (join m) e) (ap (mask 0 p) en)
              ∙ sym (join_assoc m (mask 0 p (only l)) (mask 0 p (remove l left)))
              ∙ ap (join m) (sym (mask-join 0 p (only l) (remove l left)) ∙ ap (mask 0 p) (with_others l left h))
              ∙ f.adds p no d sub;
        }

-- the labels of a subset of the noted pauses, x
module _ (p : Statement) (notes : List ℕ) (L x : ℕ) (n : Noted p notes) (ex : x ≡ pausesIn notes) (s : Subset L x) where
  pub paused-in : Subset L (pauses p)
  paused-in = subst (Subset L) (ex ∙ n.paused) s

  -- their ranks are numbers of a mask, if all labels are
  pub ranked : distinct p ≡ true → x < 2 ^ label_count → Ranked notes L
  ranked d small l h =
      let m : member l (pauses p) ≡ true = paused-in l h in
      let f : pause_count p ≤ label_count =
      few_pauses label_count p ((distinct_is p).0 d) (subst (λ (k : ℕ). k < 2 ^ label_count) (ex ∙ n.paused) small) in
      (go (dec_lt l label_count), omega (arith, n.ranked d l m, rank_lt 0 p l m, f))
    where
      go : Dec (l < label_count) → l < label_count
      go (yes i) = i
      go (no i) = clash (member l x) (s l h) (member-high {w = label_count} l small (omega (arith, i)))
