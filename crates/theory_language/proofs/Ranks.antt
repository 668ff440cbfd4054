-- Ranks: the mask of a command of two parts splits at the first rank of the second part, a mask is empty where no pause
-- is active, it gives the active labels back, and it is made label by label.
use Prim.Native.Nat.{ℕ, ◌+◌, ◌%◌, ◌^◌, ◌<◌, ◌≤◌}
use mathlib.Core.Path.{◌≡◌, refl, sym, ap, ap₂, ◌∙◌, subst}
use mathlib.Core.Logic.{⊎_elim, ◌↔◌}
use mathlib.Core.Bool.{Bool, true, false, not, ◌&&◌, ◌||◌, cond}
use native.Mathlib.Omega.{arith}
use lib.Bits.{bit_or, or_zero_l, or_mod}
use lib.Pow.{pow_mono, mod-mod-pow}
use borrow.Author.Tests.{eqb-true, eq-eqb, not-true}
use Rattle.spec_base.specs.Sets.{member, none, empty, only, join, below, from}
use Rattle.sets.proofs.Booleans.{never, clash, Tested, tested, same_test}
use Rattle.sets.proofs.Members.{member-join, member-only, in_none, in_join}
use Rattle.sets.proofs.Algebra.{join-none_l, join-none_r, join_self, join_swap, empty_join, only-some}
use Rattle.sets.proofs.Halves.{none_over, only-over, below-join, from-join}
use Rattle.sets.proofs.Widths.{none_lt, only_lt, join_lt}
use Rattle.spec_language.specs.Statement.{Statement, nothing, pause, emit, exit, seq, par, loop, present, signal, try, setpause, suspend, held}
use Rattle.spec_language.specs.Places.{loop₁, signal₁, try₁, suspend₁}
use Rattle.spec_language.specs.States.{active, Distinct}
use Rattle.spec_language.specs.LabelTests.{Joint, labels_of, pauses, active_labels}
use Rattle.theory_language.specs.Ranks.{pause_count, middle, mask, rank, labels_by}
use Rattle.theory_language.proofs.Places.{distinct_part, disjoint_parts}
use Rattle.theory_language.proofs.Activity.{active-is, active_labels-none, active_labels_pause, active_labels_two}
use Rattle.theory_language.proofs.Order.{Joined, sequence, test, sides, first_part, second_part}
use Rattle.theory_language.proofs.LabelTests.{pauses-is}

-- ---- the ranks of p are those from base, as many as it has pauses
lt_two : (base m n a b : ℕ) → a < 2 ^ (base + m) → b < 2 ^ ((base + m) + n) → join a b < 2 ^ (base + (m + n))
lt_two base m n a b h k =
    let e : (base + m) + n ≡ base + (m + n) = omega arith in
    let g : 2 ^ (base + m) ≤ 2 ^ (base + (m + n)) = pow_mono (omega arith) in
    join_lt (base + (m + n)) a b (omega (arith, h, g)) (subst (λ (c : ℕ). b < 2 ^ c) e k)

pub mask_lt : (base : ℕ) (p : Statement) (L : ℕ) → mask base p L < 2 ^ middle base p
unfolding mask pause_count
mask_lt base nothing L = none_lt (base + 0)
mask_lt base (pause l) L = go (member l L)
  where
    go : (b : Bool) → cond b (only base) none < 2 ^ (base + 1)
    go true = only_lt (base + 1) base (omega arith)
    go false = none_lt (base + 1)
mask_lt base (emit s v) L = none_lt (base + 0)
mask_lt base (exit n) L = none_lt (base + 0)
mask_lt base (seq p q) L =
    lt_two base (pause_count p) (pause_count q) _ _ (mask_lt base p L) (mask_lt (middle base p) q L)
mask_lt base (par p q) L =
    lt_two base (pause_count p) (pause_count q) _ _ (mask_lt base p L) (mask_lt (middle base p) q L)
mask_lt base (loop a p) L = mask_lt base p L
mask_lt base (present s p q) L =
    lt_two base (pause_count p) (pause_count q) _ _ (mask_lt base p L) (mask_lt (middle base p) q L)
mask_lt base (signal sc a s p) L = mask_lt base p L
mask_lt base (try p) L = mask_lt base p L
mask_lt base (setpause l) L = none_lt (base + 0)
mask_lt base (suspend s p) L = mask_lt base p L
mask_lt base (held s K p) L = none_lt (base + 0)

over_two : (base m a b : ℕ) → a % 2 ^ base ≡ 0 → b % 2 ^ (base + m) ≡ 0 → join a b % 2 ^ base ≡ 0
unfolding join none
over_two base m a b h k =
    let e : b % 2 ^ (m + base) ≡ 0 = subst (λ (c : ℕ). b % 2 ^ c ≡ 0) (let c : base + m ≡ m + base = omega arith in c) k in
    let z : b % 2 ^ base ≡ 0 = sym (mod-mod-pow b m base) ∙ ap (λ (c : ℕ). c % 2 ^ base) e ∙ none_over base in
    or_mod a b base ∙ ap₂ bit_or h z ∙ or_zero_l 0

mask-over : (base : ℕ) (p : Statement) (L : ℕ) → mask base p L % 2 ^ base ≡ 0
unfolding mask
mask-over base nothing L = none_over base
mask-over base (pause l) L = go (member l L)
  where
    go : (b : Bool) → cond b (only base) none % 2 ^ base ≡ 0
    go true = only-over base
    go false = none_over base
mask-over base (emit s v) L = none_over base
mask-over base (exit n) L = none_over base
mask-over base (seq p q) L =
    over_two base (pause_count p) _ _ (mask-over base p L) (mask-over (middle base p) q L)
mask-over base (par p q) L =
    over_two base (pause_count p) _ _ (mask-over base p L) (mask-over (middle base p) q L)
mask-over base (loop a p) L = mask-over base p L
mask-over base (present s p q) L =
    over_two base (pause_count p) _ _ (mask-over base p L) (mask-over (middle base p) q L)
mask-over base (signal sc a s p) L = mask-over base p L
mask-over base (try p) L = mask-over base p L
mask-over base (setpause l) L = none_over base
mask-over base (suspend s p) L = mask-over base p L
mask-over base (held s K p) L = none_over base

-- ---- SPLIT
-- the mask of a command of two parts is the masks of the parts, below and from the first rank of the second
pub split_two : {j : Joint} {p q w : Statement} (base L : ℕ) → Joined j p q w
    → mask base w L ≡ join (mask base p L) (mask (middle base p) q L)
unfolding mask
split_two base L sequence = refl
split_two base L test = refl
split_two base L sides = refl

pub split_below : {j : Joint} {p q w : Statement} (base L : ℕ) → Joined j p q w
    → below (middle base p) (mask base w L) ≡ mask base p L
split_below {p = p} {q = q} base L t =
    ap (below (middle base p)) (split_two base L t)
    ∙ below-join (middle base p) (mask base p L) (mask (middle base p) q L) (mask_lt base p L) (mask-over (middle base p) q L)

pub split_from : {j : Joint} {p q w : Statement} (base L : ℕ) → Joined j p q w
    → from (middle base p) (mask base w L) ≡ mask (middle base p) q L
split_from {p = p} {q = q} base L t =
    ap (from (middle base p)) (split_two base L t)
    ∙ from-join (middle base p) (mask base p L) (mask (middle base p) q L) (mask_lt base p L) (mask-over (middle base p) q L)

-- ---- EMPTY
empty_two : (a b : ℕ) (x y : Bool) → empty a ≡ not x → empty b ≡ not y → empty (join a b) ≡ not (x || y)
empty_two a b x y h k = empty_join a b ∙ ap₂ ◌&&◌ h k ∙ go x y
  where
    go : (x y : Bool) → (not x && not y) ≡ not (x || y)
    go true y = refl
    go false y = refl

pub empty_is : (base : ℕ) (p : Statement) (L : ℕ) → empty (mask base p L) ≡ not (active p L)
unfolding mask active
empty_is base nothing L = eq-eqb none none refl
empty_is base (pause l) L = go (member l L)
  where
    go : (b : Bool) → empty (cond b (only base) none) ≡ not b
    go true = only-some base
    go false = eq-eqb none none refl
empty_is base (emit s v) L = eq-eqb none none refl
empty_is base (exit n) L = eq-eqb none none refl
empty_is base (seq p q) L =
    empty_two _ _ (active p L) (active q L) (empty_is base p L) (empty_is (middle base p) q L)
empty_is base (par p q) L =
    empty_two _ _ (active p L) (active q L) (empty_is base p L) (empty_is (middle base p) q L)
empty_is base (loop a p) L = empty_is base p L
empty_is base (present s p q) L =
    empty_two _ _ (active p L) (active q L) (empty_is base p L) (empty_is (middle base p) q L)
empty_is base (signal sc a s p) L = empty_is base p L
empty_is base (try p) L = empty_is base p L
empty_is base (setpause l) L = eq-eqb none none refl
empty_is base (suspend s p) L = empty_is base p L
empty_is base (held s K p) L = eq-eqb none none refl

pub none_is : (base : ℕ) (p : Statement) (L : ℕ) → (mask base p L ≡ none) ↔ (active p L ≡ false)
none_is base p L = (
  λ h. not-true (active p L) (sym (empty_is base p L) ∙ eq-eqb (mask base p L) none h),
  λ h. eqb-true (mask base p L) none (empty_is base p L ∙ ap not h),
)

active-none : (p : Statement) → active p none ≡ false
active-none p = never (active p none) (λ h. let w = (active-is p none).0 h in in_none w.0 w.1)

pub mask-none : (base : ℕ) (p : Statement) → mask base p none ≡ none
mask-none base p = (none_is base p none).1 (active-none p)

-- the mask of a part of a command of two parts, and whether it is empty
module _ {j : Joint} {p q w : Statement} (base L : ℕ) (t : Joined j p q w) where
  pub first-empty : empty (below (middle base p) (mask base w L)) ≡ not (active p L)
  first-empty = ap empty (split_below base L t) ∙ empty_is base p L

  pub second_empty : empty (from (middle base p) (mask base w L)) ≡ not (active q L)
  second_empty = ap empty (split_from base L t) ∙ empty_is (middle base p) q L

-- ---- LABELS BY RANKS
module _ (L : ℕ) where
  pause-labels : (base l : ℕ) → Tested (member l L) → cond (empty (cond (member l L) (only base) none)) none (only l) ≡ active_labels (pause l) L
  unfolding active
  pause-labels base l (Tested.yes h) = rw (h, only-some base) (sym (active_labels_pause l L h))
  pause-labels base l (Tested.no h) = rw (h, eq-eqb none none refl) (sym (active_labels-none (pause l) L h))

  two-labels : {j : Joint} {p q w : Statement} (base : ℕ) → Joined j p q w → labels_by base p (mask base p L) ≡ active_labels p L
      → labels_by (middle base p) q (mask (middle base p) q L) ≡ active_labels q L
      → join (labels_by base p (below (middle base p) (mask base w L))) (labels_by (middle base p) q (from (middle base p) (mask base w L)))
      ≡ active_labels w L
  two-labels {p = p} {q = q} base t f g =
      ap₂ join (ap (labels_by base p) (split_below base L t) ∙ f) (ap (labels_by (middle base p) q) (split_from base L t) ∙ g)
      ∙ sym (active_labels_two L t)

  pub labels-by : (base : ℕ) (p : Statement) → labels_by base p (mask base p L) ≡ active_labels p L
  unfolding labels_by active_labels labels_of mask active
  labels-by base nothing = sym (active_labels-none nothing L refl)
  labels-by base (pause l) = pause-labels base l (tested (member l L))
  labels-by base (emit s v) = sym (active_labels-none (emit s v) L refl)
  labels-by base (exit n) = sym (active_labels-none (exit n) L refl)
  labels-by base (seq p q) = two-labels {q = q} base sequence (labels-by base p) (labels-by (middle base p) q)
  labels-by base (par p q) = two-labels {q = q} base sides (labels-by base p) (labels-by (middle base p) q)
  labels-by base (loop a p) = labels-by base p
  labels-by base (present s p q) = two-labels {q = q} base (test {s = s}) (labels-by base p) (labels-by (middle base p) q)
  labels-by base (signal sc a s p) = labels-by base p
  labels-by base (try p) = labels-by base p
  labels-by base (setpause l) = sym (active_labels-none (setpause l) L refl)
  labels-by base (suspend s p) = labels-by base p
  labels-by base (held s K p) = sym (active_labels-none (held s K p) L refl)

-- a part whose mask is empty need not be entered
pub labels_by_none : (base : ℕ) (p : Statement) → labels_by base p none ≡ none
labels_by_none base p = ap (labels_by base p) (sym (mask-none base p)) ∙ labels-by none base p ∙ active_labels-none p none (active-none p)

-- ---- MASK BY LABELS: label by label, each at its rank
pub mask-join : (base : ℕ) (p : Statement) (L M : ℕ) → mask base p (join L M) ≡ join (mask base p L) (mask base p M)
unfolding mask
mask-join base nothing L M = sym (join-none_l none)
mask-join base (pause l) L M = ap (λ (b : Bool). cond b (only base) none) (member-join l L M) ∙ go (member l L) (member l M)
  where
    go : (x y : Bool) → cond (x || y) (only base) none ≡ join (cond x (only base) none) (cond y (only base) none)
    go true true = sym (join_self (only base))
    go true false = sym (join-none_r (only base))
    go false true = sym (join-none_l (only base))
    go false false = sym (join-none_l none)
mask-join base (emit s v) L M = sym (join-none_l none)
mask-join base (exit n) L M = sym (join-none_l none)
mask-join base (seq p q) L M =
    ap₂ join (mask-join base p L M) (mask-join (middle base p) q L M)
    ∙ join_swap (mask base p L) (mask base p M) (mask (middle base p) q L) (mask (middle base p) q M)
mask-join base (par p q) L M =
    ap₂ join (mask-join base p L M) (mask-join (middle base p) q L M)
    ∙ join_swap (mask base p L) (mask base p M) (mask (middle base p) q L) (mask (middle base p) q M)
mask-join base (loop a p) L M = mask-join base p L M
mask-join base (present s p q) L M =
    ap₂ join (mask-join base p L M) (mask-join (middle base p) q L M)
    ∙ join_swap (mask base p L) (mask base p M) (mask (middle base p) q L) (mask (middle base p) q M)
mask-join base (signal sc a s p) L M = mask-join base p L M
mask-join base (try p) L M = mask-join base p L M
mask-join base (setpause l) L M = sym (join-none_l none)
mask-join base (suspend s p) L M = mask-join base p L M
mask-join base (held s K p) L M = sym (join-none_l none)

active-only : (p : Statement) (l : ℕ) → active p (only l) ≡ member l (pauses p)
active-only p l = same_test (active p (only l)) (member l (pauses p)) to from
  where
    to : active p (only l) ≡ true → member l (pauses p) ≡ true
    to h =
        let w = (active-is p (only l)).0 h in
        let e : l ≡ w.0 = eqb-true l w.0 (sym (member-only l w.0) ∙ w.1) in
        subst (λ (k : ℕ). member k (pauses p) ≡ true) (sym e) ((pauses-is p w.0).1 w.2)

    from : member l (pauses p) ≡ true → active p (only l) ≡ true
    from h = (active-is p (only l)).1 (l, member-only l l ∙ eq-eqb l l refl, (pauses-is p l).0 h)

-- l has no pause in p
mask-other : (base : ℕ) (p : Statement) (l : ℕ) → member l (pauses p) ≡ false → mask base p (only l) ≡ none
mask-other base p l h = (none_is base p (only l)).1 (active-only p l ∙ h)

-- in two parts that share no label, the one that has l
rank_two : {j : Joint} {p q w : Statement} (base l : ℕ) → Joined j p q w → Distinct w
    → (Distinct p → member l (pauses p) ≡ true → mask base p (only l) ≡ only (rank base p l))
    → (Distinct q → member l (pauses q) ≡ true → mask (middle base p) q (only l) ≡ only (rank (middle base p) q l))
    → member l (join (pauses p) (pauses q)) ≡ true
    → join (mask base p (only l)) (mask (middle base p) q (only l))
    ≡ only (cond (member l (pauses p)) (rank base p l) (rank (middle base p) q l))
rank_two {p = p} {q = q} base l t d f g h = go (tested (member l (pauses p)))
  where
    go : Tested (member l (pauses p))
        → join (mask base p (only l)) (mask (middle base p) q (only l))
        ≡ only (cond (member l (pauses p)) (rank base p l) (rank (middle base p) q l))
    go (Tested.yes e) =
        let n : member l (pauses q) ≡ false =
        never (member l (pauses q)) (λ m. disjoint_parts (first_part t) (second_part t) d l ((pauses-is p l).0 e) ((pauses-is q l).0 m)) in
        rw (e, mask-other (middle base p) q l n) (join-none_r (mask base p (only l)) ∙ f (distinct_part (first_part t) d) e)
    go (Tested.no e) =
        let m : member l (pauses q) ≡ true =
        ⊎_elim (λ x. clash (member l (pauses p)) x e) (λ x. x) (in_join l (pauses p) (pauses q) h) in
        rw (e, mask-other base p l e) (join-none_l (mask (middle base p) q (only l)) ∙ g (distinct_part (second_part t) d) m)

pub mask-only : (base : ℕ) (p : Statement) (l : ℕ) → Distinct p → member l (pauses p) ≡ true
    → mask base p (only l) ≡ only (rank base p l)
unfolding mask rank labels_of active
mask-only base nothing l d h = in_none l h
mask-only base (pause k) l d h = ap (λ (b : Bool). cond b (only base) none) (active-only (pause k) l ∙ h)
mask-only base (emit s v) l d h = in_none l h
mask-only base (exit n) l d h = in_none l h
mask-only base (seq p q) l d h = rank_two base l sequence d (mask-only base p l) (mask-only (middle base p) q l) h
mask-only base (par p q) l d h = rank_two base l sides d (mask-only base p l) (mask-only (middle base p) q l) h
mask-only base (loop a p) l d h = mask-only base p l (distinct_part (loop₁ {a = a}) d) h
mask-only base (present s p q) l d h = rank_two base l (test {s = s}) d (mask-only base p l) (mask-only (middle base p) q l) h
mask-only base (signal sc a s p) l d h = mask-only base p l (distinct_part (signal₁ {sc = sc} {a = a} {s = s}) d) h
mask-only base (try p) l d h = mask-only base p l (distinct_part try₁ d) h
mask-only base (setpause k) l d h = in_none l h
mask-only base (suspend s p) l d h = mask-only base p l (distinct_part (suspend₁ {s = s}) d) h
mask-only base (held s K p) l d h = in_none l h

-- the rank of a pause is one of p's ranks
lt_parts : (base m n i k : ℕ) (x y : Bool) → (x ≡ true → i < base + m) → (y ≡ true → k < (base + m) + n) → (x || y) ≡ true
    → cond x i k < base + (m + n)
lt_parts base m n i k true y f g h = omega (arith, f refl)
lt_parts base m n i k false y f g h = omega (arith, g h)

pub rank_lt : (base : ℕ) (p : Statement) (l : ℕ) → member l (pauses p) ≡ true → rank base p l < base + pause_count p
unfolding rank pause_count labels_of
rank_lt base nothing l h = in_none l h
rank_lt base (pause k) l h = omega arith
rank_lt base (emit s v) l h = in_none l h
rank_lt base (exit n) l h = in_none l h
rank_lt base (seq p q) l h =
    lt_parts base (pause_count p) (pause_count q) _ _ (member l (pauses p)) (member l (pauses q))
    (rank_lt base p l) (rank_lt (middle base p) q l) (sym (member-join l (pauses p) (pauses q)) ∙ h)
rank_lt base (par p q) l h =
    lt_parts base (pause_count p) (pause_count q) _ _ (member l (pauses p)) (member l (pauses q))
    (rank_lt base p l) (rank_lt (middle base p) q l) (sym (member-join l (pauses p) (pauses q)) ∙ h)
rank_lt base (loop a p) l h = rank_lt base p l h
rank_lt base (present s p q) l h =
    lt_parts base (pause_count p) (pause_count q) _ _ (member l (pauses p)) (member l (pauses q))
    (rank_lt base p l) (rank_lt (middle base p) q l) (sym (member-join l (pauses p) (pauses q)) ∙ h)
rank_lt base (signal sc a s p) l h = rank_lt base p l h
rank_lt base (try p) l h = rank_lt base p l h
rank_lt base (setpause k) l h = in_none l h
rank_lt base (suspend s p) l h = rank_lt base p l h
rank_lt base (held s K p) l h = in_none l h
