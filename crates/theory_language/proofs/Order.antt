-- Places in order: of two places of pauses and setpauses, one is the other, or one stands before the other across the
-- parts of a command, which are alternatives or the sides of a parallel.
use Prim.Native.Nat.{ℕ}
use mathlib.Core.Path.{◌≡◌, refl, sym, ap, subst, ◌∙◌}
use mathlib.Core.Logic.{◌⊎◌, inl, inr}
use mathlib.Core.List.{◌∷◌, tail-eq_of_cons-eq, head-eq_of_cons-eq}
use Rattle.spec_language.specs.Statement.{Statement, seq, par, present}
use Rattle.spec_language.specs.Places.{Part, first, second, PartOf, seq₁, seq₂, par₁, par₂, loop₁, present₁, present₂, signal₁, try₁, suspend₁, Place, At, Alternative, Exclusive}
use Rattle.spec_language.specs.LabelTests.{Joint, alternative, parallel}
use Rattle.theory_language.proofs.Places.{part_unique, first≢second, other_heads}

-- a command of two parts, with what they are to each other
pub data Joined : Joint → Statement → Statement → Statement → Type 0 where
  sequence : {p q : Statement} → Joined alternative p q (seq p q)
  test : {s : ℕ} {p q : Statement} → Joined alternative p q (present s p q)
  sides : {p q : Statement} → Joined parallel p q (par p q)

pub first_part : {j : Joint} {p q w : Statement} → Joined j p q w → PartOf first p w
first_part sequence = seq₁
first_part test = present₁
first_part sides = par₁

pub second_part : {j : Joint} {p q w : Statement} → Joined j p q w → PartOf second q w
second_part sequence = seq₂
second_part test = present₂
second_part sides = par₂

-- `Before j p a b`: b stands before a in p, across a joint j
pub data Before (j : Joint) : Statement → Place → Place → Type 0 where
  across : {p q w : Statement} {a b : Place} → Joined j p q w → Before j w (second ∷ a) (first ∷ b)
  inside : {d : Part} {c p : Statement} {a b : Place} → PartOf d c p → Before j c a b → Before j p (d ∷ a) (d ∷ b)

-- a command at a place of a part stands in that part
pub at_part : {d : Part} {c p w : Statement} {a : Place} → PartOf d c p → At w (d ∷ a) p → At w a c
at_part {w = w} {a = a} i (At.inside k u) = subst (λ (z : Statement). At w a z) (part_unique k i) u

pub at_unique : {v w p : Statement} {a : Place} → At v a p → At w a p → v ≡ w
at_unique At.here At.here = refl
at_unique (At.inside i u) (At.inside k v) = at_unique u (at_part i (At.inside k v))

-- ---- exclusive places are those in order across alternatives
to_alternative : {p q w : Statement} → Joined alternative p q w → Alternative w
to_alternative sequence = Alternative.sequence
to_alternative test = Alternative.test

from_alternative : {w : Statement} → Alternative w → (p : Statement) × (q : Statement) × Joined alternative p q w
from_alternative (Alternative.sequence {p = p} {q = q}) = (p, q, sequence)
from_alternative (Alternative.test {p = p} {q = q}) = (p, q, test)

pub before_exclusive : {p : Statement} {a b : Place} → Before alternative p a b → Exclusive p a b
before_exclusive (Before.across t) = Exclusive.apart' (to_alternative t)
before_exclusive (Before.inside i r) = Exclusive.inside i (before_exclusive r)

pub exclusive-sym : {p : Statement} {a b : Place} → Exclusive p a b → Exclusive p b a
exclusive-sym (Exclusive.apart x) = Exclusive.apart' x
exclusive-sym (Exclusive.apart' x) = Exclusive.apart x
exclusive-sym (Exclusive.inside i x) = Exclusive.inside i (exclusive-sym x)

abbrev pub EitherBefore : Joint → Statement → Place → Place → Type 0
EitherBefore j p a b = Before j p a b ⊎ Before j p b a

either_inside : {j : Joint} {d : Part} {c p : Statement} {a b : Place} → PartOf d c p → EitherBefore j c a b → EitherBefore j p (d ∷ a) (d ∷ b)
either_inside i (inl r) = inl (Before.inside i r)
either_inside i (inr r) = inr (Before.inside i r)

pub exclusive_before : {p : Statement} {a b : Place} → Exclusive p a b → EitherBefore alternative p a b
exclusive_before (Exclusive.apart x) = inr (Before.across (from_alternative x).2)
exclusive_before (Exclusive.apart' x) = inl (Before.across (from_alternative x).2)
exclusive_before (Exclusive.inside i x) = either_inside i (exclusive_before x)

no_sides : {p q w : Statement} → Joined parallel p q w → Alternative w → ⊥
no_sides sides x = elim x [ ]

-- sides of a parallel are compatible
beside_at : {p : Statement} {a b x y : Place} → Before parallel p a b → Exclusive p x y → x ≡ a → y ≡ b → ⊥
beside_at (Before.across t) (Exclusive.apart x) h k = first≢second (head-eq_of_cons-eq h)
beside_at (Before.across t) (Exclusive.apart' x) h k = no_sides t x
beside_at (Before.across t) (Exclusive.inside i x) h k = first≢second (sym (head-eq_of_cons-eq k) ∙ head-eq_of_cons-eq h)
beside_at (Before.inside i r) (Exclusive.apart x) h k = other_heads h k refl
beside_at (Before.inside i r) (Exclusive.apart' x) h k = other_heads k h refl
beside_at {p = p} (Before.inside {d = d} {c = c} i r) (Exclusive.inside {c = c'} {a = a'} {b = b'} k x) h e =
    let m : PartOf d c' p = subst (λ (z : Part). PartOf z c' p) (head-eq_of_cons-eq h) k in
    beside_at r (subst (λ (z : Statement). Exclusive z a' b') (part_unique m i) x) (tail-eq_of_cons-eq h) (tail-eq_of_cons-eq e)

pub beside-compatible : {p : Statement} {a b : Place} → Before parallel p a b → Exclusive p a b → ⊥
beside-compatible r x = beside_at r x refl refl

irreflexive_at : {p : Statement} {a b : Place} → Exclusive p a b → a ≡ b → ⊥
irreflexive_at (Exclusive.apart x) e = first≢second (head-eq_of_cons-eq e)
irreflexive_at (Exclusive.apart' x) e = first≢second (sym (head-eq_of_cons-eq e))
irreflexive_at (Exclusive.inside i x) e = irreflexive_at x (tail-eq_of_cons-eq e)

pub exclusive_irreflexive : {p : Statement} {a : Place} → Exclusive p a a → ⊥
exclusive_irreflexive x = irreflexive_at x refl

-- ---- two commands without parts
pub data Order (p : Statement) (a b : Place) : Type 0 where
  same : a ≡ b → Order p a b
  ordered : {j : Joint} → EitherBefore j p a b → Order p a b

abbrev pub NoParts : Statement → Type 0
NoParts x = (d : Part) (c : Statement) → PartOf d c x → ⊥

order_inside : {d : Part} {c p : Statement} {a b : Place} → PartOf d c p → Order c a b → Order p (d ∷ a) (d ∷ b)
order_inside {d} i (same e) = same (ap (λ (l : Place). d ∷ l) e)
order_inside i (ordered r) = ordered (either_inside i r)

joint : {c c₂ w : Statement} → PartOf first c w → PartOf second c₂ w → (j : Joint) × Joined j c c₂ w
joint seq₁ seq₂ = (alternative, sequence)
joint present₁ present₂ = (alternative, test)
joint par₁ par₂ = (parallel, sides)
joint loop₁ x = elim x [ ]
joint signal₁ x = elim x [ ]
joint try₁ x = elim x [ ]
joint suspend₁ x = elim x [ ]

order_parts : {d e : Part} {c c₂ w : Statement} {a b : Place} → PartOf d c w → PartOf e c₂ w → (PartOf d c₂ w → d ≡ e → Order w (d ∷ a) (d ∷ b)) → Order w (d ∷ a) (e ∷ b)
order_parts {d = first} {e = first} i k f = f k refl
order_parts {d = first} {e = second} i k f = ordered (inr (Before.across (joint i k).1))
order_parts {d = second} {e = first} i k f = ordered (inl (Before.across (joint k i).1))
order_parts {d = second} {e = second} i k f = f k refl

pub order : {x y p : Statement} {a b : Place} → NoParts x → NoParts y → At x a p → At y b p → Order p a b
order f g At.here At.here = same refl
order f g At.here (At.inside i v) = absurd (f _ _ i)
order f g (At.inside i u) At.here = absurd (g _ _ i)
order f g (At.inside i u) (At.inside k v) = order_parts i k (λ m e. order_inside i (order f g u (at_part i (At.inside m v))))
