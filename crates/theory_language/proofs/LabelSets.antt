-- The sets of LabelTests by places: labels_of holds the labels of pauses and setpauses, before the pairs in order.
use Prim.Native.Nat.{ℕ}
use mathlib.Core.Path.{◌≡◌, refl, sym, ◌∙◌, subst}
use mathlib.Core.Logic.{⊎_elim}
use mathlib.Core.Bool.{Bool, true, false, ◌&&◌, cond, and-eq-true_iff, false≢true}
use mathlib.Core.List.{[], ◌∷◌}
use borrow.Author.Tests.{eqb-true, eq-eqb}
use Rattle.spec_base.specs.Sets.{member, none, only, join}
use Rattle.sets.proofs.Members.{member-none, member-only, in_none, in_l, in_r, in_join, same_set}
use Rattle.spec_language.specs.Statement.{Statement, nothing, pause, emit, exit, seq, par, loop, present, signal, try, setpause, suspend, held}
use Rattle.spec_language.specs.Places.{Part, first, second, PartOf, seq₁, seq₂, par₁, par₂, loop₁, present₁, present₂, signal₁, try₁, suspend₁, Place, At}
use Rattle.spec_language.specs.LabelTests.{labels_of, Joint, alternative, parallel, at_joint, if_member, before, every_label, triggers}
use Rattle.theory_language.proofs.Order.{Joined, sequence, test, sides, first_part, second_part, Before, at_part, NoParts}

-- ---- the labels of a statement
-- the command w is a pause l, if pauses count, or a setpause l, if setpauses count
pub data Counted (x y : Bool) (l : ℕ) : Statement → Type 0 where
  as_pause : x ≡ true → Counted x y l (pause l)
  as_setpause : y ≡ true → Counted x y l (setpause l)

pub counted_leaf : {x y : Bool} {l : ℕ} {w : Statement} → Counted x y l w → NoParts w
counted_leaf (as_pause e) d c i = elim i [ ]
counted_leaf (as_setpause e) d c i = elim i [ ]

-- such a command stands in p
pub record Named (x y : Bool) (p : Statement) (l : ℕ) : Type 0 where
  pub command : Statement
  pub place : Place
  pub counted : Counted x y l command
  pub stands : At command place p

pub named_in : {x y : Bool} {d : Part} {c p : Statement} {l : ℕ} → PartOf d c p → Named x y c l → Named x y p l
named_in {d = d} i n =
    record { command = n.command; place = d ∷ n.place; counted = n.counted; stands = At.inside i n.stands }

module _ (x y : Bool) (l : ℕ) where
  labels-part : {d : Part} {c p : Statement} → PartOf d c p → member l (labels_of x y c) ≡ true → member l (labels_of x y p) ≡ true
  unfolding labels_of
  labels-part (seq₁ {p = p} {q = q}) h = in_l l (labels_of x y p) (labels_of x y q) h
  labels-part (seq₂ {p = p} {q = q}) h = in_r l (labels_of x y p) (labels_of x y q) h
  labels-part (par₁ {p = p} {q = q}) h = in_l l (labels_of x y p) (labels_of x y q) h
  labels-part (par₂ {p = p} {q = q}) h = in_r l (labels_of x y p) (labels_of x y q) h
  labels-part loop₁ h = h
  labels-part (present₁ {p = p} {q = q}) h = in_l l (labels_of x y p) (labels_of x y q) h
  labels-part (present₂ {p = p} {q = q}) h = in_r l (labels_of x y p) (labels_of x y q) h
  labels-part signal₁ h = h
  labels-part try₁ h = h
  labels-part suspend₁ h = h

  in_leaf : (b : Bool) → b ≡ true → member l (cond b (only l) none) ≡ true
  in_leaf true e = member-only l l ∙ eq-eqb l l refl
  in_leaf false e = absurd (false≢true e)

  counted-here : {w : Statement} → Counted x y l w → member l (labels_of x y w) ≡ true
  unfolding labels_of
  counted-here (as_pause e) = in_leaf x e
  counted-here (as_setpause e) = in_leaf y e

  pub labels_at : {w p : Statement} {a : Place} → Counted x y l w → At w a p → member l (labels_of x y p) ≡ true
  labels_at n At.here = counted-here n
  labels_at n (At.inside i u) = labels-part i (labels_at n u)

  from-leaf : (b : Bool) (k : ℕ) → member l (cond b (only k) none) ≡ true → (b ≡ true) × (k ≡ l)
  from-leaf true k h = (refl, eqb-true k l (sym (member-only k l) ∙ h))
  from-leaf false k h = in_none l h

  here-pause : (k : ℕ) → (x ≡ true) × (k ≡ l) → Named x y (pause k) l
  here-pause k e =
      subst (λ (m : ℕ). Named x y (pause m) l) (sym e.1)
      (record { command = pause l; place = []; counted = as_pause e.0; stands = At.here })

  here-setpause : (k : ℕ) → (y ≡ true) × (k ≡ l) → Named x y (setpause k) l
  here-setpause k e =
      subst (λ (m : ℕ). Named x y (setpause m) l) (sym e.1)
      (record { command = setpause l; place = []; counted = as_setpause e.0; stands = At.here })

  in_two : {j : Joint} {p q w : Statement} → Joined j p q w
      → (member l (labels_of x y p) ≡ true → Named x y p l) → (member l (labels_of x y q) ≡ true → Named x y q l)
      → member l (join (labels_of x y p) (labels_of x y q)) ≡ true → Named x y w l
  in_two {p = p} {q = q} t f g h =
      ⊎_elim (λ u. named_in (first_part t) (f u)) (λ u. named_in (second_part t) (g u)) (in_join l (labels_of x y p) (labels_of x y q) h)

  pub labels_from : (p : Statement) → member l (labels_of x y p) ≡ true → Named x y p l
  unfolding labels_of
  labels_from nothing h = in_none l h
  labels_from (pause k) h = here-pause k (from-leaf x k h)
  labels_from (emit s v) h = in_none l h
  labels_from (exit n) h = in_none l h
  labels_from (seq p q) h = in_two sequence (labels_from p) (labels_from q) h
  labels_from (par p q) h = in_two sides (labels_from p) (labels_from q) h
  labels_from (loop a p) h = named_in loop₁ (labels_from p h)
  labels_from (present s p q) h = in_two (test {s = s}) (labels_from p) (labels_from q) h
  labels_from (signal sc a s p) h = named_in signal₁ (labels_from p h)
  labels_from (try p) h = named_in try₁ (labels_from p h)
  labels_from (setpause k) h = here-setpause k (from-leaf y k h)
  labels_from (suspend s p) h = named_in suspend₁ (labels_from p h)
  labels_from (held s K p) h = in_none l h

-- ---- labels in order
-- a counted command with label k stands before one with label l, across a joint j
pub record Pair (x y : Bool) (j : Joint) (p : Statement) (k l : ℕ) : Type 0 where
  pub later : Statement
  pub earlier : Statement
  pub at : Place
  pub from : Place
  pub later_counted : Counted x y k later
  pub earlier_counted : Counted x y l earlier
  pub later_stands : At later at p
  pub earlier_stands : At earlier from p
  pub order : Before j p at from

pair_in : {x y : Bool} {j : Joint} {d : Part} {c p : Statement} {k l : ℕ} → PartOf d c p → Pair x y j c k l → Pair x y j p k l
pair_in {d = d} i r =
    record {
      later = r.later;
      earlier = r.earlier;
      at = d ∷ r.at;
      from = d ∷ r.from;
      later_counted = r.later_counted;
      earlier_counted = r.earlier_counted;
      later_stands = At.inside i r.later_stands;
      earlier_stands = At.inside i r.earlier_stands;
      order = Before.inside i r.order;
    }

pair_across : {x y : Bool} {j : Joint} {p q w : Statement} {k l : ℕ} → Joined j p q w → Named x y q k → Named x y p l → Pair x y j w k l
pair_across t m n =
    record {
      later = m.command;
      earlier = n.command;
      at = second ∷ m.place;
      from = first ∷ n.place;
      later_counted = m.counted;
      earlier_counted = n.counted;
      later_stands = At.inside (second_part t) m.stands;
      earlier_stands = At.inside (first_part t) n.stands;
      order = Before.across t;
    }

pub member_if : (l k s t : ℕ) → member l (if_member k s t) ≡ (member k s && member l t)
member_if l k s t = go (member k s)
  where
    go : (b : Bool) → member l (cond b t none) ≡ (b && member l t)
    go true = refl
    go false = member-none l

-- a label across the joint of two parts
across_two : {j : Joint} {p q w : Statement} (x y : Bool) (k l : ℕ) → Joined j p q w
    → member l (if_member k (labels_of x y q) (labels_of x y p)) ≡ true → member l (before x y j w k) ≡ true
unfolding before
across_two x y k l (sequence {p = p} {q = q}) h =
    in_l l (if_member k (labels_of x y q) (labels_of x y p)) (join (before x y alternative p k) (before x y alternative q k)) h
across_two x y k l (test {p = p} {q = q}) h =
    in_l l (if_member k (labels_of x y q) (labels_of x y p)) (join (before x y alternative p k) (before x y alternative q k)) h
across_two x y k l (sides {p = p} {q = q}) h =
    in_l l (if_member k (labels_of x y q) (labels_of x y p)) (join (before x y parallel p k) (before x y parallel q k)) h

module _ (x y : Bool) (j : Joint) (k l : ℕ) where
  abbrev crossing : Joint → Statement → Statement → ℕ
  crossing i p q = at_joint j i (if_member k (labels_of x y q) (labels_of x y p))

  abbrev inBefore : Statement → Type 0
  inBefore p = member l (before x y j p k) ≡ true

  at_same : (i : Joint) (s : ℕ) → member l (at_joint j i s) ≡ true → (i ≡ j) × (member l s ≡ true)
  at_same i s h = go j i h
    where
      go : (j i : Joint) → member l (at_joint j i s) ≡ true → (i ≡ j) × (member l s ≡ true)
      go alternative alternative h = (refl, h)
      go alternative parallel h = in_none l h
      go parallel alternative h = in_none l h
      go parallel parallel h = (refl, h)

  pair-two : {i : Joint} {p q w : Statement} → Joined i p q w → (inBefore p → Pair x y j p k l) → (inBefore q → Pair x y j q k l)
      → member l (join (crossing i p q) (join (before x y j p k) (before x y j q k))) ≡ true → Pair x y j w k l
  pair-two {i} {p} {q} {w} t f g h =
      ⊎_elim
      (λ u. cross (at_same i (if_member k (labels_of x y q) (labels_of x y p)) u))
      (λ u. ⊎_elim (λ v. pair_in (first_part t) (f v)) (λ v. pair_in (second_part t) (g v)) (in_join l (before x y j p k) (before x y j q k) u))
      (in_join l (crossing i p q) (join (before x y j p k) (before x y j q k)) h)
    where
      cross : (i ≡ j) × (member l (if_member k (labels_of x y q) (labels_of x y p)) ≡ true) → Pair x y j w k l
      cross e =
          let m = (and-eq-true_iff (member k (labels_of x y q)) (member l (labels_of x y p))).0
          (sym (member_if l k (labels_of x y q) (labels_of x y p)) ∙ e.1) in
          pair_across (subst (λ (n : Joint). Joined n p q w) e.0 t) (labels_from x y k q m.0) (labels_from x y l p m.1)

  pub pair-from : (p : Statement) → inBefore p → Pair x y j p k l
  unfolding before
  pair-from nothing h = in_none l h
  pair-from (pause m) h = in_none l h
  pair-from (emit s v) h = in_none l h
  pair-from (exit n) h = in_none l h
  pair-from (seq p q) h = pair-two sequence (pair-from p) (pair-from q) h
  pair-from (par p q) h = pair-two sides (pair-from p) (pair-from q) h
  pair-from (loop a p) h = pair_in loop₁ (pair-from p h)
  pair-from (present s p q) h = pair-two (test {s = s}) (pair-from p) (pair-from q) h
  pair-from (signal sc a s p) h = pair_in signal₁ (pair-from p h)
  pair-from (try p) h = pair_in try₁ (pair-from p h)
  pair-from (setpause m) h = in_none l h
  pair-from (suspend s p) h = pair_in suspend₁ (pair-from p h)
  pair-from (held s K p) h = in_none l h

  in-first : (r s t : ℕ) → member l s ≡ true → member l (join r (join s t)) ≡ true
  in-first r s t h = in_r l r (join s t) (in_l l s t h)

  in-second : (r s t : ℕ) → member l t ≡ true → member l (join r (join s t)) ≡ true
  in-second r s t h = in_r l r (join s t) (in_r l s t h)

  before-part : {d : Part} {c p : Statement} → PartOf d c p → inBefore c → inBefore p
  unfolding before
  before-part (seq₁ {p = p} {q = q}) h = in-first (crossing alternative p q) (before x y j p k) (before x y j q k) h
  before-part (seq₂ {p = p} {q = q}) h = in-second (crossing alternative p q) (before x y j p k) (before x y j q k) h
  before-part (par₁ {p = p} {q = q}) h = in-first (crossing parallel p q) (before x y j p k) (before x y j q k) h
  before-part (par₂ {p = p} {q = q}) h = in-second (crossing parallel p q) (before x y j p k) (before x y j q k) h
  before-part loop₁ h = h
  before-part (present₁ {p = p} {q = q}) h = in-first (crossing alternative p q) (before x y j p k) (before x y j q k) h
  before-part (present₂ {p = p} {q = q}) h = in-second (crossing alternative p q) (before x y j p k) (before x y j q k) h
  before-part signal₁ h = h
  before-part try₁ h = h
  before-part suspend₁ h = h

  pub pair-at : {p v w : Statement} {a b : Place} → Counted x y k v → Counted x y l w → At v a p → At w b p → Before j p a b → inBefore p
  pair-at m n u v (Before.across {p = p} {q = q} t) =
      across_two x y k l t
      (member_if l k (labels_of x y q) (labels_of x y p)
      ∙ (and-eq-true_iff (member k (labels_of x y q)) (member l (labels_of x y p))).1
      (labels_at x y k m (at_part (second_part t) u), labels_at x y l n (at_part (first_part t) v)))
  pair-at m n u v (Before.inside i r) = before-part i (pair-at m n (at_part i u) (at_part i v) r)

  -- a label with others before it is one
  pub label-before : (p : Statement) → inBefore p → member k (labels_of x y p) ≡ true
  label-before p h = let n = pair-from p h in labels_at x y k n.later_counted n.later_stands

-- ---- every label
module _ (f : ℕ → Bool) where
  every-part : {d : Part} {c p : Statement} → PartOf d c p → every_label p f ≡ true → every_label c f ≡ true
  unfolding every_label
  every-part (seq₁ {p = p} {q = q}) h = ((and-eq-true_iff (every_label p f) (every_label q f)).0 h).0
  every-part (seq₂ {p = p} {q = q}) h = ((and-eq-true_iff (every_label p f) (every_label q f)).0 h).1
  every-part (par₁ {p = p} {q = q}) h = ((and-eq-true_iff (every_label p f) (every_label q f)).0 h).0
  every-part (par₂ {p = p} {q = q}) h = ((and-eq-true_iff (every_label p f) (every_label q f)).0 h).1
  every-part loop₁ h = h
  every-part (present₁ {p = p} {q = q}) h = ((and-eq-true_iff (every_label p f) (every_label q f)).0 h).0
  every-part (present₂ {p = p} {q = q}) h = ((and-eq-true_iff (every_label p f) (every_label q f)).0 h).1
  every-part signal₁ h = h
  every-part try₁ h = h
  every-part suspend₁ h = h

  every_here : {l : ℕ} {w : Statement} → Counted true true l w → every_label w f ≡ true → f l ≡ true
  unfolding every_label
  every_here (as_pause e) h = h
  every_here (as_setpause e) h = h

  every-at : {l : ℕ} {w p : Statement} {a : Place} → Counted true true l w → At w a p → every_label p f ≡ true → f l ≡ true
  every-at n At.here h = every_here n h
  every-at n (At.inside i u) h = every-at n u (every-part i h)

  -- a test of every label is a test of every member of the triggers
  pub every-to : (p : Statement) → every_label p f ≡ true → (l : ℕ) → member l (triggers p) ≡ true → f l ≡ true
  every-to p h l m = let n = labels_from true true l p m in every-at n.counted n.stands h

  abbrev Every : Statement → Type 0
  Every p = (l : ℕ) → member l (triggers p) ≡ true → f l ≡ true

  every_in : {d : Part} {c p : Statement} → PartOf d c p → Every p → Every c
  every_in i g l h = g l (labels-part true true l i h)

  every_two : {j : Joint} {p q w : Statement} → Joined j p q w → (Every p → every_label p f ≡ true) → (Every q → every_label q f ≡ true)
      → Every w → (every_label p f && every_label q f) ≡ true
  every_two {p = p} {q = q} t g h e =
      (and-eq-true_iff (every_label p f) (every_label q f)).1 (g (every_in (first_part t) e), h (every_in (second_part t) e))

  pub every-from : (p : Statement) → Every p → every_label p f ≡ true
  unfolding every_label
  every-from nothing e = refl
  every-from (pause l) e = e l (labels_at true true l (as_pause refl) At.here)
  every-from (emit s v) e = refl
  every-from (exit n) e = refl
  every-from (seq p q) e = every_two sequence (every-from p) (every-from q) e
  every-from (par p q) e = every_two sides (every-from p) (every-from q) e
  every-from (loop a p) e = every-from p (every_in (loop₁ {a = a}) e)
  every-from (present s p q) e = every_two (test {s = s}) (every-from p) (every-from q) e
  every-from (signal sc a s p) e = every-from p (every_in (signal₁ {sc = sc} {a = a} {s = s}) e)
  every-from (try p) e = every-from p (every_in try₁ e)
  every-from (setpause l) e = e l (labels_at true true l (as_setpause refl) At.here)
  every-from (suspend s p) e = every-from p (every_in (suspend₁ {s = s}) e)
  every-from (held s K p) e = refl

-- the triggers are the pauses and the setpauses
pub triggers_are : (p : Statement) → triggers p ≡ join (labels_of true false p) (labels_of false true p)
triggers_are p = same_set _ _ to from
  where
    found : {w : Statement} {a : Place} (l : ℕ) → Counted true true l w → At w a p → member l (join (labels_of true false p) (labels_of false true p)) ≡ true
    found l (as_pause e) u = in_l l (labels_of true false p) (labels_of false true p) (labels_at true false l (as_pause refl) u)
    found l (as_setpause e) u = in_r l (labels_of true false p) (labels_of false true p) (labels_at false true l (as_setpause refl) u)

    to : (l : ℕ) → member l (triggers p) ≡ true → member l (join (labels_of true false p) (labels_of false true p)) ≡ true
    to l h = let n = labels_from true true l p h in found l n.counted n.stands

    more : {x y : Bool} {w : Statement} (l : ℕ) → Counted x y l w → Counted true true l w
    more l (as_pause e) = as_pause refl
    more l (as_setpause e) = as_setpause refl

    from : (l : ℕ) → member l (join (labels_of true false p) (labels_of false true p)) ≡ true → member l (triggers p) ≡ true
    from l h =
        ⊎_elim
        (λ u. let n = labels_from true false l p u in labels_at true true l (more l n.counted) n.stands)
        (λ u. let n = labels_from false true l p u in labels_at true true l (more l n.counted) n.stands)
        (in_join l (labels_of true false p) (labels_of false true p) h)
