-- Row 11 by ranks: the test of a mask is true exactly if the active pauses are pairwise compatible.
use Prim.Native.Nat.{ℕ}
use mathlib.Core.Path.{◌≡◌, refl, sym, ap, ◌∙◌}
use mathlib.Core.Logic.{◌↔◌}
use mathlib.Core.Bool.{Bool, true, false, not, ◌&&◌, and-eq-true_iff, false≢true}
use mathlib.Core.List.{◌∷◌}
use native.Mathlib.Omega.{arith}
use borrow.Author.Tests.{ne_eqb}
use Rattle.spec_base.specs.Sets.{member, none, empty, subset, below, from}
use Rattle.sets.proofs.Booleans.{clash, Tested, tested, same_test}
use Rattle.sets.proofs.Members.{in_none}
use Rattle.sets.proofs.Tests.{subset-is}
use Rattle.sets.proofs.Lowest.{some_is}
use Rattle.spec_language.specs.Statement.{Statement, Value, nothing, pause, emit, exit, seq, par, loop, present, signal, try, setpause, suspend, held}
use Rattle.spec_language.specs.Places.{Part, first, second, PartOf, loop₁, signal₁, try₁, suspend₁, Place, At, Alternative, Exclusive}
use Rattle.spec_language.specs.States.{active}
use Rattle.spec_language.specs.LabelTests.{Joint, alternative, parallel, pauses, valid}
use Rattle.theory_language.specs.Ranks.{middle, mask, ofParts, compatible}
use Rattle.theory_language.proofs.Places.{Together, together_part, exclusive_part}
use Rattle.theory_language.proofs.Activity.{active-is}
use Rattle.theory_language.proofs.Order.{Joined, sequence, test, sides, first_part, second_part, at_part}
use Rattle.theory_language.proofs.LabelTests.{pauses-is, valid-is}
use Rattle.theory_language.proofs.Ranks.{split_below, split_from, first-empty, second_empty}

awake : {p : Statement} {a : Place} (k L : ℕ) → member k L ≡ true → At (pause k) a p → active p L ≡ true
awake {p = p} {a = a} k L m u = (active-is p L).1 (k, m, (a, u))

together_idle : (p : Statement) (L : ℕ) → active p L ≡ false → Together p L
together_idle p L h k l m n a b u v x = clash (active p L) (awake k L m u) h

-- a command with no part or a single one
together_single : {p : Statement} (L : ℕ) → (Alternative p → ⊥)
    → ((d : Part) (c : Statement) → PartOf d c p → Together c L) → Together p L
together_single L o f k l m n a b u v (Exclusive.apart x) = o x
together_single L o f k l m n a b u v (Exclusive.apart' x) = o x
together_single L o f k l m n a b u v (Exclusive.inside {d = d} {c = c} {a = a₁} {b = b₁} i x) =
    f d c i k l m n a₁ b₁ (at_part i u) (at_part i v) x

-- not two alternatives are active
abbrev Apart : Joint → Bool → Bool → Type 0
Apart j x y = j ≡ alternative → x ≡ true → y ≡ true → ⊥

joint_is : {j : Joint} {p q w : Statement} → Joined j p q w → Alternative w → j ≡ alternative
joint_is sequence x = refl
joint_is test x = refl
joint_is sides x = elim x [ ]

alternative_is : {j : Joint} {p q w : Statement} → Joined j p q w → j ≡ alternative → Alternative w
alternative_is sequence e = Alternative.sequence
alternative_is test e = Alternative.test
alternative_is sides e = absurd (let z : ◌≡◌ {A = ℕ} 0 1 = cc in omega arith)

module _ {j : Joint} {p q w : Statement} (L : ℕ) (t : Joined j p q w) where
  together-two : Together p L → Together q L → Apart j (active p L) (active q L) → Together w L
  together-two f g h k l m n a b u v (Exclusive.apart x) =
      h (joint_is t x) (awake k L m (at_part (first_part t) u)) (awake l L n (at_part (second_part t) v))
  together-two f g h k l m n a b u v (Exclusive.apart' x) =
      h (joint_is t x) (awake l L n (at_part (first_part t) v)) (awake k L m (at_part (second_part t) u))
  together-two f g h k l m n a b u v (Exclusive.inside {d = first} {a = a₁} {b = b₁} i x) =
      f k l m n a₁ b₁ (at_part (first_part t) u) (at_part (first_part t) v) (exclusive_part (first_part t) (Exclusive.inside i x))
  together-two f g h k l m n a b u v (Exclusive.inside {d = second} {a = a₁} {b = b₁} i x) =
      g k l m n a₁ b₁ (at_part (second_part t) u) (at_part (second_part t) v) (exclusive_part (second_part t) (Exclusive.inside i x))

  together-apart : Together w L → Apart j (active p L) (active q L)
  together-apart f e x y =
      let u = (active-is p L).0 x in
      let v = (active-is q L).0 y in
      f u.0 v.0 u.1 v.1 (first ∷ u.2.0) (second ∷ v.2.0)
      (At.inside (first_part t) u.2.1) (At.inside (second_part t) v.2.1) (Exclusive.apart (alternative_is t e))

-- the test of two parts, whose activities are x and y
abbrev tests : Joint → (x y a b : Bool) → Bool
tests j x y a b = ofParts j (not x) (not y) a b

tests-to : (j : Joint) (x y a b : Bool) → tests j x y a b ≡ true
    → (x ≡ true → a ≡ true) × (y ≡ true → b ≡ true) × Apart j x y
tests-to j false y a b h = (λ e. absurd (false≢true e), λ e. h, λ z e. absurd (false≢true e))
tests-to j true false a b h = (λ e. h, λ e. absurd (false≢true e), λ z e f. false≢true f)
tests-to alternative true true a b h = absurd (false≢true h)
tests-to parallel true true a b h =
    let c = (and-eq-true_iff a b).0 h in
    (λ e. c.0, λ e. c.1, λ z e f. absurd (let n : ◌≡◌ {A = ℕ} 0 1 = cc in omega arith))

tests_from : (j : Joint) (x y a b : Bool) → a ≡ true → b ≡ true → Apart j x y → tests j x y a b ≡ true
tests_from j false y a b h k f = k
tests_from j true false a b h k f = h
tests_from alternative true true a b h k f = absurd (f refl refl refl)
tests_from parallel true true a b h k f = (and-eq-true_iff a b).1 (h, k)

-- the test of the active pauses of p
abbrev passes : ℕ → Statement → ℕ → Bool
passes base p L = compatible base p (mask base p L)

of_parts : {j : Joint} {p q w : Statement} (base m : ℕ) → Joined j p q w
    → compatible base w m
    ≡ ofParts j (empty (below (middle base p) m)) (empty (from (middle base p) m))
    (compatible base p (below (middle base p) m)) (compatible (middle base p) q (from (middle base p) m))
unfolding compatible
of_parts base m sequence = refl
of_parts base m test = refl
of_parts base m sides = refl

compatible_two : {j : Joint} {p q w : Statement} (base L : ℕ) → Joined j p q w
    → passes base w L ≡ tests j (active p L) (active q L) (passes base p L) (passes (middle base p) q L)
compatible_two {w = w} base L t =
    of_parts base (mask base w L) t ∙ rw (first-empty base L t, second_empty base L t, split_below base L t, split_from base L t)

abbrev Tests : ℕ → Statement → ℕ → Type 0
Tests base p L = passes base p L ≡ true

module _ {j : Joint} {p q w : Statement} (base L : ℕ) (t : Joined j p q w) where
  two_to : (Tests base p L → Together p L) → (Tests (middle base p) q L → Together q L) → Tests base w L → Together w L
  two_to f g h =
      let c = tests-to j (active p L) (active q L) (passes base p L) (passes (middle base p) q L)
      (sym (compatible_two base L t) ∙ h) in
      together-two L t (go p (tested (active p L)) (λ e. f (c.0 e))) (go q (tested (active q L)) (λ e. g (c.1 e))) c.2
    where
      go : (p : Statement) → Tested (active p L) → (active p L ≡ true → Together p L) → Together p L
      go p (Tested.yes e) f = f e
      go p (Tested.no e) f = together_idle p L e

  two_from : (Together p L → Tests base p L) → (Together q L → Tests (middle base p) q L) → Together w L → Tests base w L
  two_from f g h =
      compatible_two base L t
      ∙ tests_from j (active p L) (active q L) (passes base p L) (passes (middle base p) q L)
      (f (together_part L (first_part t) h)) (g (together_part L (second_part t) h)) (together-apart L t h)

-- no part
in_nothing : {P : Type 0} {d : Part} {c : Statement} → PartOf d c nothing → P
in_nothing i = elim i [ ]

in_pause : {P : Type 0} {l : ℕ} {d : Part} {c : Statement} → PartOf d c (pause l) → P
in_pause i = elim i [ ]

in_emit : {P : Type 0} {s : ℕ} {v : Value} {d : Part} {c : Statement} → PartOf d c (emit s v) → P
in_emit i = elim i [ ]

in_exit : {P : Type 0} {n : ℕ} {d : Part} {c : Statement} → PartOf d c (exit n) → P
in_exit i = elim i [ ]

in_setpause : {P : Type 0} {l : ℕ} {d : Part} {c : Statement} → PartOf d c (setpause l) → P
in_setpause i = elim i [ ]

in_held : {P : Type 0} {s K : ℕ} {p : Statement} {d : Part} {c : Statement} → PartOf d c (held s K p) → P
in_held i = elim i [ ]

compatible-to : (base : ℕ) (p : Statement) (L : ℕ) → Tests base p L → Together p L
unfolding compatible mask
compatible-to base nothing L h = together_single L (λ x. elim x [ ]) (λ d c i. in_nothing i)
compatible-to base (pause l) L h = together_single L (λ x. elim x [ ]) (λ d c i. in_pause i)
compatible-to base (emit s v) L h = together_single L (λ x. elim x [ ]) (λ d c i. in_emit i)
compatible-to base (exit n) L h = together_single L (λ x. elim x [ ]) (λ d c i. in_exit i)
compatible-to base (seq p q) L h = two_to base L sequence (compatible-to base p L) (compatible-to (middle base p) q L) h
compatible-to base (par p q) L h = two_to base L sides (compatible-to base p L) (compatible-to (middle base p) q L) h
compatible-to base (loop a p) L h = together_single L (λ x. elim x [ ]) (λ d c i. go i (compatible-to base p L h))
  where
    go : {d : Part} {c : Statement} → PartOf d c (loop a p) → Together p L → Together c L
    go loop₁ f = f
compatible-to base (present s p q) L h = two_to base L (test {s = s}) (compatible-to base p L) (compatible-to (middle base p) q L) h
compatible-to base (signal sc a s p) L h = together_single L (λ x. elim x [ ]) (λ d c i. go i (compatible-to base p L h))
  where
    go : {d : Part} {c : Statement} → PartOf d c (signal sc a s p) → Together p L → Together c L
    go signal₁ f = f
compatible-to base (try p) L h = together_single L (λ x. elim x [ ]) (λ d c i. go i (compatible-to base p L h))
  where
    go : {d : Part} {c : Statement} → PartOf d c (try p) → Together p L → Together c L
    go try₁ f = f
compatible-to base (setpause l) L h = together_single L (λ x. elim x [ ]) (λ d c i. in_setpause i)
compatible-to base (suspend s p) L h = together_single L (λ x. elim x [ ]) (λ d c i. go i (compatible-to base p L h))
  where
    go : {d : Part} {c : Statement} → PartOf d c (suspend s p) → Together p L → Together c L
    go suspend₁ f = f
compatible-to base (held s K p) L h = together_single L (λ x. elim x [ ]) (λ d c i. in_held i)

compatible_from : (base : ℕ) (p : Statement) (L : ℕ) → Together p L → Tests base p L
unfolding compatible mask
compatible_from base nothing L f = refl
compatible_from base (pause l) L f = refl
compatible_from base (emit s v) L f = refl
compatible_from base (exit n) L f = refl
compatible_from base (seq p q) L f = two_from base L sequence (compatible_from base p L) (compatible_from (middle base p) q L) f
compatible_from base (par p q) L f = two_from base L sides (compatible_from base p L) (compatible_from (middle base p) q L) f
compatible_from base (loop a p) L f = compatible_from base p L (together_part L (loop₁ {a = a}) f)
compatible_from base (present s p q) L f = two_from base L (test {s = s}) (compatible_from base p L) (compatible_from (middle base p) q L) f
compatible_from base (signal sc a s p) L f = compatible_from base p L (together_part L (signal₁ {sc = sc} {a = a} {s = s}) f)
compatible_from base (try p) L f = compatible_from base p L (together_part L try₁ f)
compatible_from base (setpause l) L f = refl
compatible_from base (suspend s p) L f = compatible_from base p L (together_part L (suspend₁ {s = s}) f)
compatible_from base (held s K p) L f = refl

pub compatible-is : (base : ℕ) (p : Statement) (L : ℕ) → (compatible base p (mask base p L) ≡ true) ↔ Together p L
compatible-is base p L = (compatible-to base p L, compatible_from base p L)

-- row 11 by ranks
pub valid_by : (base : ℕ) (p : Statement) (L : ℕ) → valid p L ≡ (not (empty L) && (subset L (pauses p) && compatible base p (mask base p L)))
valid_by base p L = same_test (valid p L) (not (empty L) && (subset L (pauses p) && passes base p L)) to from
  where
    to : valid p L ≡ true → (not (empty L) && (subset L (pauses p) && passes base p L)) ≡ true
    to h =
        let v = (valid-is p L).0 h in
        (and-eq-true_iff (not (empty L)) (subset L (pauses p) && passes base p L)).1 (
          ap not (ne_eqb L none (λ e. in_none v.some.0 (sym (ap (member v.some.0) e) ∙ v.some.1))),
          (and-eq-true_iff (subset L (pauses p)) (passes base p L)).1 (
            (subset-is L (pauses p)).1 (λ l m. (pauses-is p l).1 (v.paused l m)),
            compatible_from base p L v.together,
          ),
        )

    from : (not (empty L) && (subset L (pauses p) && passes base p L)) ≡ true → valid p L ≡ true
    from h =
        let c = (and-eq-true_iff (not (empty L)) (subset L (pauses p) && passes base p L)).0 h in
        let d = (and-eq-true_iff (subset L (pauses p)) (passes base p L)).0 c.1 in
        (valid-is p L).1 (
        record {
          some = (some_is L).0 c.0;
          paused = λ l m. (pauses-is p l).0 ((subset-is L (pauses p)).0 d.0 l m);
          together = compatible-to base p L d.1;
        }
        )
