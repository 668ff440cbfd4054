-- Laws of activity and expansion: both depend only on the labels of a statement's own pauses.
use Prim.Native.Nat.{ℕ}
use mathlib.Core.Path.{◌≡◌, refl, sym, ap₂, ◌∙◌, subst}
use mathlib.Core.Logic.{◌↔◌, ⊎_elim}
use mathlib.Core.Bool.{true, false, ◌||◌, and-eq-true_iff, false≢true}
use mathlib.Core.List.{[]}
use borrow.Author.Tests.{eqb-true}
use Rattle.spec_base.specs.Sets.{member, none, only, join, common}
use Rattle.sets.proofs.Booleans.{or_l, or_r, or_cases, never, clash, same_test}
use Rattle.sets.proofs.Members.{member-common, member-only, in_none, same_set}
use Rattle.sets.proofs.Algebra.{common-join}
use Rattle.spec_language.specs.Statement.{Statement, nothing, pause, emit, exit, seq, par, loop, present, signal, try, setpause, suspend, held}
use Rattle.spec_language.specs.Places.{Part, PartOf, seq₁, seq₂, par₁, par₂, loop₁, present₁, present₂, signal₁, try₁, suspend₁, Place, At}
use Rattle.spec_language.specs.States.{Holds, active, Awake}
use Rattle.spec_language.specs.Expansion.{expand}
use Rattle.spec_language.specs.LabelTests.{Joint, labels_of, pauses, active_labels}
use Rattle.theory_language.proofs.Places.{holds_in, Disjoint}
use Rattle.theory_language.proofs.Order.{Joined, sequence, test, sides}
use Rattle.theory_language.proofs.LabelTests.{pauses-is}

-- ---- active in 01's words
awake_in : {d : Part} {c p : Statement} (L : ℕ) → PartOf d c p → Awake c L → Awake p L
awake_in L i w = (w.0, w.1, holds_in (pause w.0) i w.2)

active_awake : (p : Statement) (L : ℕ) → active p L ≡ true → Awake p L
unfolding active
active_awake nothing L h = absurd (false≢true h)
active_awake (pause l) L h = (l, h, ([], At.here))
active_awake (emit s v) L h = absurd (false≢true h)
active_awake (exit n) L h = absurd (false≢true h)
active_awake (seq p q) L h =
    ⊎_elim (λ x. awake_in L seq₁ (active_awake p L x)) (λ x. awake_in L seq₂ (active_awake q L x)) (or_cases (active p L) (active q L) h)
active_awake (par p q) L h =
    ⊎_elim (λ x. awake_in L par₁ (active_awake p L x)) (λ x. awake_in L par₂ (active_awake q L x)) (or_cases (active p L) (active q L) h)
active_awake (loop a p) L h = awake_in L loop₁ (active_awake p L h)
active_awake (present s p q) L h =
    ⊎_elim (λ x. awake_in L present₁ (active_awake p L x)) (λ x. awake_in L present₂ (active_awake q L x))
    (or_cases (active p L) (active q L) h)
active_awake (signal sc a s p) L h = awake_in L signal₁ (active_awake p L h)
active_awake (try p) L h = awake_in L try₁ (active_awake p L h)
active_awake (setpause l) L h = absurd (false≢true h)
active_awake (suspend s p) L h = awake_in L suspend₁ (active_awake p L h)
active_awake (held s K p) L h = absurd (false≢true h)

pub active_part : {d : Part} {c p : Statement} (L : ℕ) → PartOf d c p → active c L ≡ true → active p L ≡ true
unfolding active
active_part L (seq₁ {p = p} {q = q}) h = or_l (active p L) (active q L) h
active_part L (seq₂ {p = p} {q = q}) h = or_r (active p L) (active q L) h
active_part L (par₁ {p = p} {q = q}) h = or_l (active p L) (active q L) h
active_part L (par₂ {p = p} {q = q}) h = or_r (active p L) (active q L) h
active_part L loop₁ h = h
active_part L (present₁ {p = p} {q = q}) h = or_l (active p L) (active q L) h
active_part L (present₂ {p = p} {q = q}) h = or_r (active p L) (active q L) h
active_part L signal₁ h = h
active_part L try₁ h = h
active_part L suspend₁ h = h

awake_active : (l L : ℕ) {a : Place} {p : Statement} → member l L ≡ true → At (pause l) a p → active p L ≡ true
unfolding active
awake_active l L h At.here = h
awake_active l L h (At.inside i x) = active_part L i (awake_active l L h x)

-- ACTIVE
pub active-is : (p : Statement) (L : ℕ) → (active p L ≡ true) ↔ Awake p L
active-is p L = (active_awake p L, λ w. awake_active w.0 L w.1 w.2.1)

-- ---- only the labels of the statement's own pauses count
abbrev pub Same : Statement → ℕ → ℕ → Type 0
Same p L M = (l : ℕ) → Holds p (pause l) → member l L ≡ member l M

pub same_part : {d : Part} {c p : Statement} (L M : ℕ) → PartOf d c p → Same p L M → Same c L M
same_part L M i h l x = h l (holds_in (pause l) i x)

pub active_same : (p : Statement) (L M : ℕ) → Same p L M → active p L ≡ active p M
unfolding active
active_same nothing L M h = refl
active_same (pause l) L M h = h l ([], At.here)
active_same (emit s v) L M h = refl
active_same (exit n) L M h = refl
active_same (seq p q) L M h = ap₂ ◌||◌ (active_same p L M (same_part L M seq₁ h)) (active_same q L M (same_part L M seq₂ h))
active_same (par p q) L M h = ap₂ ◌||◌ (active_same p L M (same_part L M par₁ h)) (active_same q L M (same_part L M par₂ h))
active_same (loop a p) L M h = active_same p L M (same_part L M loop₁ h)
active_same (present s p q) L M h =
    ap₂ ◌||◌ (active_same p L M (same_part L M present₁ h)) (active_same q L M (same_part L M present₂ h))
active_same (signal sc a s p) L M h = active_same p L M (same_part L M signal₁ h)
active_same (try p) L M h = active_same p L M (same_part L M try₁ h)
active_same (setpause l) L M h = refl
active_same (suspend s p) L M h = active_same p L M (same_part L M suspend₁ h)
active_same (held s K p) L M h = refl

-- ---- the active labels inside it, in 02's words
pub active_labels-is : (p : Statement) (L l : ℕ) → (member l (active_labels p L) ≡ true) ↔ ((member l L ≡ true) × Holds p (pause l))
unfolding active_labels common
active_labels-is p L l = (
  λ h. let x = (and-eq-true_iff (member l L) (member l (pauses p))).0 (sym (member-common l L (pauses p)) ∙ h) in
      (x.0, (pauses-is p l).0 x.1),
  λ h. member-common l L (pauses p) ∙ (and-eq-true_iff (member l L) (member l (pauses p))).1 (h.0, (pauses-is p l).1 h.1),
)

abbrev pub Inside : Statement → ℕ → Type 0
Inside p L = (l : ℕ) → member l L ≡ true → Holds p (pause l)

pub active_labels_inside : (p : Statement) (L : ℕ) → Inside p (active_labels p L)
active_labels_inside p L l h = ((active_labels-is p L l).0 h).1

-- they wake the same pauses
pub active_labels_wakes : (p : Statement) (L : ℕ) → Same p (active_labels p L) L
active_labels_wakes p L l x =
    same_test (member l (active_labels p L)) (member l L) (λ h. ((active_labels-is p L l).0 h).0) (λ h. (active_labels-is p L l).1 (h, x))

pub active_labels_same : (p : Statement) (L M : ℕ) → Same p L M → active_labels p L ≡ active_labels p M
active_labels_same p L M s = same_set _ _ (half L M s) (half M L (λ l x. sym (s l x)))
  where
    half : (L M : ℕ) → Same p L M → (l : ℕ) → member l (active_labels p L) ≡ true → member l (active_labels p M) ≡ true
    half L M s l h = let x = (active_labels-is p L l).0 h in (active_labels-is p M l).1 (sym (s l x.1) ∙ x.0, x.1)

-- of labels of its own pauses all are active; of an inactive statement none is
pub active_labels-all : (p : Statement) (L : ℕ) → Inside p L → active_labels p L ≡ L
active_labels-all p L i = same_set _ _ (λ l h. ((active_labels-is p L l).0 h).0) (λ l h. (active_labels-is p L l).1 (h, i l h))

pub active_labels-none : (p : Statement) (L : ℕ) → active p L ≡ false → active_labels p L ≡ none
active_labels-none p L n =
    same_set _ _
    (λ l h. let x = (active_labels-is p L l).0 h in clash (active p L) (awake_active l L x.0 x.1.1) n) (λ l h. in_none l h)

pub active_labels_pause : (l L : ℕ) → member l L ≡ true → active_labels (pause l) L ≡ only l
unfolding labels_of
active_labels_pause l L m =
    same_set _ _
    (λ k h. (pauses-is (pause l) k).1 (active_labels_inside (pause l) L k h))
    (λ k h. (active_labels-is (pause l) L k).1
    (subst (λ (i : ℕ). member i L ≡ true) (eqb-true l k (sym (member-only l k) ∙ h)) m, (pauses-is (pause l) k).0 h))

pub active_labels_two : {j : Joint} {p q w : Statement} (L : ℕ) → Joined j p q w
    → active_labels w L ≡ join (active_labels p L) (active_labels q L)
unfolding active_labels labels_of common
active_labels_two L (sequence {p = p} {q = q}) = common-join L (pauses p) (pauses q)
active_labels_two L (test {p = p} {q = q}) = common-join L (pauses p) (pauses q)
active_labels_two L (sides {p = p} {q = q}) = common-join L (pauses p) (pauses q)

pub expand_same : (p : Statement) (L M : ℕ) → Same p L M → expand p L ≡ expand p M
unfolding expand
expand_same nothing L M h = refl
expand_same (pause l) L M h = refl
expand_same (emit s v) L M h = refl
expand_same (exit n) L M h = refl
expand_same (seq p q) L M h =
    rw (
      active_same p L M (same_part L M seq₁ h),
      expand_same p L M (same_part L M seq₁ h),
      expand_same q L M (same_part L M seq₂ h),
    )
expand_same (par p q) L M h =
    rw (
      active_same p L M (same_part L M par₁ h),
      active_same q L M (same_part L M par₂ h),
      expand_same p L M (same_part L M par₁ h),
      expand_same q L M (same_part L M par₂ h),
    )
expand_same (loop a p) L M h = rw (expand_same p L M (same_part L M loop₁ h))
expand_same (present s p q) L M h =
    rw (
      active_same p L M (same_part L M present₁ h),
      expand_same p L M (same_part L M present₁ h),
      expand_same q L M (same_part L M present₂ h),
    )
expand_same (signal sc a s p) L M h = rw (expand_same p L M (same_part L M signal₁ h))
expand_same (try p) L M h = rw (expand_same p L M (same_part L M try₁ h))
expand_same (setpause l) L M h = refl
expand_same (suspend s p) L M h =
    rw (
      active_same p L M (same_part L M suspend₁ h),
      active_labels_same p L M (same_part L M suspend₁ h),
      expand_same p L M (same_part L M suspend₁ h),
    )
expand_same (held s K p) L M h = refl

-- a statement expands by its active labels
pub expand-active_labels : (p : Statement) (L : ℕ) → expand p (active_labels p L) ≡ expand p L
expand-active_labels p L = expand_same p (active_labels p L) L (active_labels_wakes p L)

pub expand_suspend : (s : ℕ) (p : Statement) (L : ℕ) → active p L ≡ true → expand (suspend s p) L ≡ held s (active_labels p L) (expand p L)
unfolding expand
expand_suspend s p L h = rw h

-- ---- labels of other pauses wake nothing
pub asleep : (p q : Statement) (L : ℕ) → Disjoint p q → Inside q L → active p L ≡ false
asleep p q L d i = never (active p L) (λ h. let w = active_awake p L h in d w.0 w.2 (i w.0 w.1))
