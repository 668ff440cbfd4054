-- Each test of LabelTests is true exactly if the definition by places holds (01, rows 8 to 11).
use Prim.Native.Nat.{ℕ}
use mathlib.Core.Path.{◌≡◌, refl, sym, ap, ◌∙◌, subst, subst₂}
use mathlib.Core.Logic.{◌⊎◌, inl, inr, ⊎_elim, ◌↔◌}
use mathlib.Core.Bool.{Bool, true, false, not, ◌&&◌, ◌||◌, false≢true}
use lib.Dec.{eqb}
use native.Mathlib.Omega.{arith}
use Rattle.spec_base.specs.Sets.{member, none, join, subset, Disjoint, disjoint}
use Rattle.sets.proofs.Booleans.{or_l, or_r, or_cases, never, clash}
use Rattle.sets.proofs.Members.{in_join}
use Rattle.sets.proofs.Tests.{subset-is, disjoint-is, disjoint_right, disjoint_left}
use Rattle.sets.proofs.Lowest.{some_is}
use Rattle.spec_language.specs.Statement.{Statement, nothing, pause, emit, exit, seq, par, loop, present, signal, try, setpause, suspend, held}
use Rattle.spec_language.specs.Places.{Part, PartOf, seq₁, seq₂, par₁, par₂, loop₁, present₁, present₂, signal₁, try₁, suspend₁, Place, At, Exclusive, Compatible}
use Rattle.spec_language.specs.States.{Holds, Valid, Distinct, Targeted, NoSetpause, WellFormed}
use Rattle.spec_language.specs.LabelTests.{pauses, setpauses, triggers, every_label, distinct, targeted, Joint, alternative, parallel, exclusive_with, concurrent_with, exclusive, well_formed, valid}
use Rattle.theory_language.proofs.Places.{distinct_part, disjoint_parts}
use Rattle.theory_language.proofs.Order.{Joined, sequence, test, sides, first_part, second_part, Before, before_exclusive, exclusive_before, exclusive-sym, exclusive_irreflexive, beside-compatible, at_part, at_unique, NoParts, Order, same, ordered, order}
use Rattle.theory_language.proofs.LabelSets.{Counted, as_pause, as_setpause, counted_leaf, Named, labels_at, labels_from, Pair, pair-from, pair-at, label-before, triggers_are, every-to, every-from}

-- ---- pauses and setpauses
pub pauses-is : (p : Statement) (l : ℕ) → (member l (pauses p) ≡ true) ↔ Holds p (pause l)
pauses-is p l = (λ h. to (labels_from true false l p h), λ n. labels_at true false l (as_pause refl) n.1)
  where
    standing : {w : Statement} {a : Place} → Counted true false l w → At w a p → Holds p (pause l)
    standing {a = a} (as_pause e) u = (a, u)
    standing (as_setpause e) u = absurd (false≢true e)

    to : Named true false p l → Holds p (pause l)
    to n = standing n.counted n.stands

pub setpauses_is : (p : Statement) (l : ℕ) → (member l (setpauses p) ≡ true) ↔ Holds p (setpause l)
setpauses_is p l = (λ h. to (labels_from false true l p h), λ n. labels_at false true l (as_setpause refl) n.1)
  where
    standing : {w : Statement} {a : Place} → Counted false true l w → At w a p → Holds p (setpause l)
    standing (as_pause e) u = absurd (false≢true e)
    standing {a = a} (as_setpause e) u = (a, u)

    to : Named false true p l → Holds p (setpause l)
    to n = standing n.counted n.stands

-- ---- row 9
pub targeted_is : (p : Statement) → (targeted p ≡ true) ↔ Targeted p
targeted_is p = (
  λ h l n. (pauses-is p l).0 ((subset-is (setpauses p) (pauses p)).0 h l ((setpauses_is p l).1 n)),
  λ t. (subset-is (setpauses p) (pauses p)).1 (λ l m. (pauses-is p l).1 (t l ((setpauses_is p l).0 m))),
)

-- then the label of each trigger has a pause
pub trigger_paused : (p : Statement) (l : ℕ) → targeted p ≡ true → member l (triggers p) ≡ true → member l (pauses p) ≡ true
trigger_paused p l h m =
    ⊎_elim (λ u. u) ((subset-is (setpauses p) (pauses p)).0 h l)
    (in_join l (pauses p) (setpauses p) (sym (ap (member l) (triggers_are p)) ∙ m))

-- ---- the labels that have others before them
pub rivals_paused : (p : Statement) (k l : ℕ) → member l (exclusive_with p k) ≡ true → member k (pauses p) ≡ true
rivals_paused p k l h = label-before true false alternative k l p h

pub aside_paused : (p : Statement) (k l : ℕ) → targeted p ≡ true → member l (concurrent_with p k) ≡ true → member k (pauses p) ≡ true
aside_paused p k l t h = trigger_paused p k t (label-before true true parallel k l p h)

-- ---- row 8
three : (a b c : Bool) → (a && (b && c)) ≡ true → (a ≡ true) × (b ≡ true) × (c ≡ true)
three true true c h = (refl, refl, h)
three true false c h = absurd (false≢true h)
three false b c h = absurd (false≢true h)

all_three : (a b c : Bool) → a ≡ true → b ≡ true → c ≡ true → (a && (b && c)) ≡ true
all_three a b c h k m = rw (h, k, m)

distinct_in : {d : Part} {c p : Statement} → PartOf d c p → distinct p ≡ true → distinct c ≡ true
unfolding distinct
distinct_in (seq₁ {p = p} {q = q}) h = (three (disjoint (pauses p) (pauses q)) (distinct p) (distinct q) h).1
distinct_in (seq₂ {p = p} {q = q}) h = (three (disjoint (pauses p) (pauses q)) (distinct p) (distinct q) h).2
distinct_in (par₁ {p = p} {q = q}) h = (three (disjoint (pauses p) (pauses q)) (distinct p) (distinct q) h).1
distinct_in (par₂ {p = p} {q = q}) h = (three (disjoint (pauses p) (pauses q)) (distinct p) (distinct q) h).2
distinct_in loop₁ h = h
distinct_in (present₁ {p = p} {q = q}) h = (three (disjoint (pauses p) (pauses q)) (distinct p) (distinct q) h).1
distinct_in (present₂ {p = p} {q = q}) h = (three (disjoint (pauses p) (pauses q)) (distinct p) (distinct q) h).2
distinct_in signal₁ h = h
distinct_in try₁ h = h
distinct_in suspend₁ h = h

parts_disjoint : {j : Joint} {p q w : Statement} → Joined j p q w → distinct w ≡ true → Disjoint (pauses p) (pauses q)
unfolding distinct
parts_disjoint (sequence {p = p} {q = q}) h = (disjoint-is (pauses p) (pauses q)).0 (three (disjoint (pauses p) (pauses q)) (distinct p) (distinct q) h).0
parts_disjoint (test {p = p} {q = q}) h = (disjoint-is (pauses p) (pauses q)).0 (three (disjoint (pauses p) (pauses q)) (distinct p) (distinct q) h).0
parts_disjoint (sides {p = p} {q = q}) h = (disjoint-is (pauses p) (pauses q)).0 (three (disjoint (pauses p) (pauses q)) (distinct p) (distinct q) h).0

regroup : (o a b c p q : Bool) → (o && ((a && b) && (c && (p && q)))) ≡ ((o && (a && p)) && ((b && c) && q))
regroup false a b c p q = refl
regroup true false b c p q = refl
regroup true true false c true q = refl
regroup true true false c false q = refl
regroup true true true true p q = refl
regroup true true true false true q = refl
regroup true true true false false q = refl

-- row 8 at two parts, where labels were seen before
pub once_both : (o : Bool) (seen a b : ℕ) (p q : Bool)
    → (o && (disjoint seen (join a b) && (disjoint a b && (p && q))))
    ≡ ((o && (disjoint seen a && p)) && (disjoint (join seen a) b && q))
once_both o seen a b p q =
    rw (disjoint_right seen a b, disjoint_left seen a b) (regroup o (disjoint seen a) (disjoint seen b) (disjoint a b) p q)

-- no label stands before itself
not_before : {j : Joint} {p : Statement} {a b : Place} (l : ℕ) → distinct p ≡ true → At (pause l) a p → At (pause l) b p → Before j p a b → ⊥
not_before l h u v (Before.across t) =
    clash _ (labels_at true false l (as_pause refl) (at_part (second_part t) u))
    (parts_disjoint t h l (labels_at true false l (as_pause refl) (at_part (first_part t) v)))
not_before l h u v (Before.inside i r) = not_before l (distinct_in i h) (at_part i u) (at_part i v) r

-- a pause has no parts
pause_leaf : (l : ℕ) → NoParts (pause l)
pause_leaf l = counted_leaf {x = true} {y = false} {l = l} (as_pause refl)

to_distinct : (p : Statement) → distinct p ≡ true → Distinct p
to_distinct p h l a b u v = go (order (pause_leaf l) (pause_leaf l) u v)
  where
    go : Order p a b → a ≡ b
    go (same e) = e
    go (ordered (inl r)) = absurd (not_before l h u v r)
    go (ordered (inr r)) = absurd (not_before l h v u r)

pub pauses_apart : {j : Joint} {p q w : Statement} → Joined j p q w → Distinct w → Disjoint (pauses p) (pauses q)
pauses_apart {p = p} {q = q} t d l m =
    never (member l (pauses q)) (λ n. disjoint_parts (first_part t) (second_part t) d l ((pauses-is p l).0 m) ((pauses-is q l).0 n))

distinct_two : {j : Joint} {p q w : Statement} → Joined j p q w → (Distinct p → distinct p ≡ true) → (Distinct q → distinct q ≡ true)
    → Distinct w → (disjoint (pauses p) (pauses q) && (distinct p && distinct q)) ≡ true
distinct_two {p = p} {q = q} t f g d =
    all_three (disjoint (pauses p) (pauses q)) (distinct p) (distinct q)
    ((disjoint-is (pauses p) (pauses q)).1 (pauses_apart t d))
    (f (distinct_part (first_part t) d))
    (g (distinct_part (second_part t) d))

from_distinct : (p : Statement) → Distinct p → distinct p ≡ true
unfolding distinct
from_distinct nothing d = refl
from_distinct (pause l) d = refl
from_distinct (emit s v) d = refl
from_distinct (exit n) d = refl
from_distinct (seq p q) d = distinct_two sequence (from_distinct p) (from_distinct q) d
from_distinct (par p q) d = distinct_two sides (from_distinct p) (from_distinct q) d
from_distinct (loop a p) d = from_distinct p (distinct_part (loop₁ {a = a}) d)
from_distinct (present s p q) d = distinct_two (test {s = s}) (from_distinct p) (from_distinct q) d
from_distinct (signal sc a s p) d = from_distinct p (distinct_part (signal₁ {sc = sc} {a = a} {s = s}) d)
from_distinct (try p) d = from_distinct p (distinct_part try₁ d)
from_distinct (setpause l) d = refl
from_distinct (suspend s p) d = from_distinct p (distinct_part (suspend₁ {s = s}) d)
from_distinct (held s K p) d = refl

pub distinct_is : (p : Statement) → (distinct p ≡ true) ↔ Distinct p
distinct_is p = (to_distinct p, from_distinct p)

-- ---- exclusive pauses
-- pauses with labels k and l at exclusive places
abbrev pub Apart : Statement → ℕ → ℕ → Type 0
Apart p k l = (a : Place) × (b : Place) × At (pause k) a p × At (pause l) b p × Exclusive p a b

apart_sym : {p : Statement} (k l : ℕ) → Apart p k l → Apart p l k
apart_sym k l x = (x.1, x.0, x.3, x.2, exclusive-sym x.4)

rivals_from : (p : Statement) (k l : ℕ) → member l (exclusive_with p k) ≡ true → Apart p k l
rivals_from p k l h = go (pair-from true false alternative k l p h)
  where
    found : {v w : Statement} {a b : Place} → Counted true false k v → Counted true false l w → At v a p → At w b p → Before alternative p a b → Apart p k l
    found {a = a} {b = b} (as_pause e) (as_pause f) u v r = (a, b, u, v, before_exclusive r)
    found (as_pause e) (as_setpause f) u v r = absurd (false≢true f)
    found (as_setpause e) n u v r = absurd (false≢true e)

    go : Pair true false alternative p k l → Apart p k l
    go r = found r.later_counted r.earlier_counted r.later_stands r.earlier_stands r.order

rivals_at : (p : Statement) (k l : ℕ) {a b : Place} → At (pause k) a p → At (pause l) b p → Before alternative p a b → member l (exclusive_with p k) ≡ true
rivals_at p k l u v r = pair-at true false alternative k l (as_pause refl) (as_pause refl) u v r

pub exclusive-is : (p : Statement) (k l : ℕ) → (exclusive p k l ≡ true) ↔ Apart p k l
exclusive-is p k l = (to, from)
  where
    to : exclusive p k l ≡ true → Apart p k l
    to h = ⊎_elim (rivals_from p k l) (λ m. apart_sym l k (rivals_from p l k m)) (or_cases (member l (exclusive_with p k)) (member k (exclusive_with p l)) h)

    from : Apart p k l → exclusive p k l ≡ true
    from x =
        ⊎_elim
        (λ r. or_l (member l (exclusive_with p k)) (member k (exclusive_with p l)) (rivals_at p k l x.2 x.3 r))
        (λ r. or_r (member l (exclusive_with p k)) (member k (exclusive_with p l)) (rivals_at p l k x.3 x.2 r))
        (exclusive_before x.4)

-- ---- row 10
-- no two labels with exclusive pauses have triggers on two sides of a parallel
abbrev pub Unmixed : Statement → Type 0
Unmixed p = (k l : ℕ) → member l (concurrent_with p k) ≡ true → exclusive p k l ≡ true → ⊥

not-and : (a b : Bool) → not (a && b) ≡ true → a ≡ true → b ≡ true → ⊥
not-and true true h e f = false≢true h
not-and true false h e f = false≢true f
not-and false b h e f = false≢true e

and-not : (a b : Bool) → (a ≡ true → b ≡ true → ⊥) → not (a && b) ≡ true
and-not true true f = absurd (f refl refl)
and-not true false f = refl
and-not false b f = refl

pub unmixed_is : (p : Statement) → (well_formed p ≡ true) ↔ Unmixed p
unfolding well_formed
unmixed_is p = (to, from)
  where
    to : every_label p (λ k. every_label p (λ l. not (member l (concurrent_with p k) && exclusive p k l))) ≡ true → Unmixed p
    to h k l m x =
        let r = pair-from true true parallel k l p m in
        let inK = labels_at true true k r.later_counted r.later_stands in
        let inL = labels_at true true l r.earlier_counted r.earlier_stands in
        not-and (member l (concurrent_with p k)) (exclusive p k l)
        (every-to (λ l. not (member l (concurrent_with p k) && exclusive p k l)) p
        (every-to (λ k. every_label p (λ l. not (member l (concurrent_with p k) && exclusive p k l))) p h k inK)
        l inL)
        m x

    from : Unmixed p → every_label p (λ k. every_label p (λ l. not (member l (concurrent_with p k) && exclusive p k l))) ≡ true
    from f =
        every-from (λ k. every_label p (λ l. not (member l (concurrent_with p k) && exclusive p k l))) p
        (λ k inK. every-from (λ l. not (member l (concurrent_with p k) && exclusive p k l)) p
        (λ l inL. and-not (member l (concurrent_with p k)) (exclusive p k l) (f k l)))

same_label : {x y : Bool} {k l : ℕ} {v w : Statement} → Counted x y k v → Counted x y l w → v ≡ w → k ≡ l
same_label (as_pause e) (as_pause f) z = cc
same_label (as_pause e) (as_setpause f) z = absurd (let n : ◌≡◌ {A = ℕ} 0 1 = cc in omega arith)
same_label (as_setpause e) (as_pause f) z = absurd (let n : ◌≡◌ {A = ℕ} 0 1 = cc in omega arith)
same_label (as_setpause e) (as_setpause f) z = cc

module _ (p : Statement) (unique : Distinct p) where
  -- two triggers, not both pauses, of labels with exclusive pauses
  module _ (f : Unmixed p) (k l : ℕ) (x : Apart p k l) where
    distinct-labels : k ≡ l → ⊥
    distinct-labels e =
        exclusive_irreflexive
        (subst (λ (b : Place). Exclusive p x.0 b)
        (sym (unique k x.0 x.1 x.2 (subst (λ (m : ℕ). At (pause m) x.1 p) (sym e) x.3))) x.4)

    apart-triggers : {v w : Statement} {a b : Place} → Counted true true k v → Counted true true l w → At v a p → At w b p → Exclusive p a b
    apart-triggers {w = w} {a = a} {b = b} m n u v = go (order (counted_leaf m) (counted_leaf n) u v)
      where
        go : Order p a b → Exclusive p a b
        go (same z) = absurd (distinct-labels (same_label m n (at_unique u (subst (λ (c : Place). At w c p) (sym z) v))))
        go (ordered {j = alternative} (inl r)) = before_exclusive r
        go (ordered {j = alternative} (inr r)) = exclusive-sym (before_exclusive r)
        go (ordered {j = parallel} (inl r)) = absurd (f k l (pair-at true true parallel k l m n u v r) ((exclusive-is p k l).1 x))
        go (ordered {j = parallel} (inr r)) = absurd (f l k (pair-at true true parallel l k n m v u r) ((exclusive-is p l k).1 (apart_sym k l x)))

  formed : Unmixed p → WellFormed p
  formed f k l a b u v e =
      record {
        setpauses = λ c d m n. apart-triggers f k l (a, b, u, v, e) (as_setpause refl) (as_setpause refl) m n;
        setpause_pause = λ c d m n. apart-triggers f k l (a, b, u, v, e) (as_setpause refl) (as_pause refl) m n;
        pause_setpause = λ c d m n. apart-triggers f k l (a, b, u, v, e) (as_pause refl) (as_setpause refl) m n;
      }

  unmixed : WellFormed p → Unmixed p
  unmixed g k l m h = go ((exclusive-is p k l).0 h) (pair-from true true parallel k l p m)
    where
      clash : {v w : Statement} {a b : Place} → Apart p k l → Counted true true k v → Counted true true l w → At v a p → At w b p → Exclusive p a b
      clash {a = a} {b = b} x (as_pause e) (as_pause f) u v =
          subst₂ (λ (c d : Place). Exclusive p c d) (unique k x.0 a x.2 u) (unique l x.1 b x.3 v) x.4
      clash {a = a} {b = b} x (as_pause e) (as_setpause f) u v = (g k l x.0 x.1 x.2 x.3 x.4).pause_setpause a b u v
      clash {a = a} {b = b} x (as_setpause e) (as_pause f) u v = (g k l x.0 x.1 x.2 x.3 x.4).setpause_pause a b u v
      clash {a = a} {b = b} x (as_setpause e) (as_setpause f) u v = (g k l x.0 x.1 x.2 x.3 x.4).setpauses a b u v

      go : Apart p k l → Pair true true parallel p k l → ⊥
      go x r =
          beside-compatible r.order (clash x r.later_counted r.earlier_counted r.later_stands r.earlier_stands)

  pub wellFormed-is : (well_formed p ≡ true) ↔ WellFormed p
  wellFormed-is = (λ h. formed ((unmixed_is p).0 h), λ g. (unmixed_is p).1 (unmixed g))

pub no_setpause_formed : (p : Statement) → NoSetpause p → WellFormed p
no_setpause_formed p none k l a b u v e =
    record {
      setpauses = λ c d m n. absurd (none k (c, m));
      setpause_pause = λ c d m n. absurd (none k (c, m));
      pause_setpause = λ c d m n. absurd (none l (d, n));
    }

-- ---- row 11
not_or : (a b : Bool) → (not a || b) ≡ true → a ≡ true → b ≡ true
not_or true b h e = h
not_or false b h e = absurd (false≢true e)

or_not : (a b : Bool) → (a ≡ true → b ≡ true) → (not a || b) ≡ true
or_not true b f = f refl
or_not false b f = refl

-- the labels exclusive with k in L, all told by a row of k or by the row of another
abbrev Apartless : Statement → ℕ → Type 0
Apartless p L = (k : ℕ) → member k (triggers p) ≡ true → (not (member k L) || disjoint (exclusive_with p k) L) ≡ true

module _ (p : Statement) (L : ℕ) where
  no_rival : Apartless p L → (k l : ℕ) → member k L ≡ true → member l L ≡ true → member l (exclusive_with p k) ≡ true → ⊥
  no_rival f k l inK inL r =
      let x = rivals_from p k l r in
      clash (member l L) inL
      ((disjoint-is (exclusive_with p k) L).0
      (not_or (member k L) (disjoint (exclusive_with p k) L) (f k (labels_at true true k (as_pause refl) x.2)) inK) l r)

  together : Apartless p L → (k l : ℕ) → member k L ≡ true → member l L ≡ true → (a b : Place) → At (pause k) a p → At (pause l) b p → Compatible p a b
  together f k l inK inL a b u v e =
      ⊎_elim (no_rival f k l inK inL) (no_rival f l k inL inK)
      (or_cases (member l (exclusive_with p k)) (member k (exclusive_with p l)) ((exclusive-is p k l).1 (a, b, u, v, e)))

  apartless : Valid p L → Apartless p L
  apartless v k in_p =
      or_not (member k L) (disjoint (exclusive_with p k) L)
      (λ inK. (disjoint-is (exclusive_with p k) L).1 (λ l r. never (member l L)
      (λ inL. let x = rivals_from p k l r in v.together k l inK inL x.0 x.1 x.2 x.3 x.4)))

  pub valid-is : (valid p L ≡ true) ↔ Valid p L
  unfolding valid
  valid-is = (
    λ h. let t = three (not (eqb L none)) (subset L (pauses p)) (every_label p (λ k. not (member k L) || disjoint (exclusive_with p k) L)) h in
        record {
          some = (some_is L).0 t.0;
          paused = λ l m. (pauses-is p l).0 ((subset-is L (pauses p)).0 t.1 l m);
          together = together (every-to (λ k. not (member k L) || disjoint (exclusive_with p k) L) p t.2);
        },
    λ v. all_three (not (eqb L none)) (subset L (pauses p)) (every_label p (λ k. not (member k L) || disjoint (exclusive_with p k) L))
        ((some_is L).1 v.some)
        ((subset-is L (pauses p)).1 (λ l m. (pauses-is p l).1 (v.paused l m)))
        (every-from (λ k. not (member k L) || disjoint (exclusive_with p k) L) p (apartless v)),
  )
