-- Row 11 at a command of each shape, from what the code finds of its parts.
use Prim.Native.Nat.{ℕ, ◌+◌, ◌-◌}
use mathlib.Core.Path.{◌≡◌, refl, sym, ap, ap₂, ◌∙◌, subst}
use mathlib.Core.Bool.{Bool, true, false, ◌&&◌}
use mathlib.Core.List.{List}
use lib.Dec.{eqb}
use lib.ListN.{get_or}
use Rattle.spec_base.specs.Sets.{empty, below, from}
use Rattle.spec_language.specs.Statement.{Statement, nothing}
use Rattle.theory_language.specs.Ranks.{middle, ofParts, compatible}
use Rattle.spec_sequence.specs.Commands.{Command, operands_of, partCount, build}
use Rattle.theory_sequence.proofs.Table.{byte_of, leaves, ones, twos}
use Rattle.layout.specs.Layout.{rest, Two, Lies, Ready, Pair}
use Rattle.layout.proofs.Parts.{rest-is}
use Rattle.layout.specs.Joints.{joint_of}
use Rattle.commands.proofs.Shapes.{Shaped, leaf_apart, one_apart, two-apart}

-- ---- commands of two parts
abbrev of_two : (parallel : Bool) (base m : ℕ) (p q : Statement) → Bool
of_two j base m p q =
    ofParts (joint_of j) (empty (below (middle base p) m)) (empty (from (middle base p) m))
    (compatible base p (below (middle base p) m)) (compatible (middle base p) q (from (middle base p) m))

-- x and y are the masks of the parts of a command of two; k is the table's number of pauses before the second part
module _ (base m : ℕ) (p q : Statement) (j : Bool) (k x y : ℕ) (ek : k ≡ middle base p) (ex : x ≡ below k m) (ey : y ≡ from k m) {r : Bool} where
  split : r ≡ ofParts (joint_of j) (empty x) (empty y) (compatible base p x) (compatible (middle base p) q y) → r ≡ of_two j base m p q
  split h =
      h ∙ ap₂ (λ (u v : ℕ). ofParts (joint_of j) (empty u) (empty v) (compatible base p u) (compatible (middle base p) q v))
      (ex ∙ ap (λ (i : ℕ). below i m) ek) (ey ∙ ap (λ (i : ℕ). from i m) ek)

  pub second-only : empty x ≡ true → r ≡ compatible (middle base p) q y → r ≡ of_two j base m p q
  second-only e h = split (rw e h)

  module _ (e : empty x ≡ false) where
    pub first-only : empty y ≡ true → r ≡ compatible base p x → r ≡ of_two j base m p q
    first-only f h = split (rw (e, f) h)

    module _ (f : empty y ≡ false) where
      pub both-active : j ≡ false → r ≡ false → r ≡ of_two j base m p q
      both-active o h = split (rw (e, f, o) h)

      pub both-parts : j ≡ true → r ≡ (compatible base p x && compatible (middle base p) q y) → r ≡ of_two j base m p q
      both-parts o h = split (rw (e, f, o) h)

-- the code's way to say that both are
pub both : {a b r : Bool} → a ≡ true → r ≡ b → r ≡ (a && b)
both e h = rw e h

pub neither : {a : Bool} (b : Bool) → a ≡ false → false ≡ (a && b)
neither b e = rw e

-- ---- the commands of each shape
module _ (base m a : ℕ) (xs : List ℕ) where
  leaf-compatible : (c : Command) → partCount c ≡ 0 → compatible base (build c a xs nothing nothing) m ≡ true
  unfolding compatible
  leaf-compatible = leaves (λ (c : Command). compatible base (build c a xs nothing nothing) m ≡ true) refl refl refl refl refl refl

  one-compatible : (c : Command) → partCount c ≡ 1 → (q : Statement) → compatible base (build c a xs q nothing) m ≡ compatible base q m
  unfolding compatible
  one-compatible =
      ones (λ (c : Command). (q : Statement) → compatible base (build c a xs q nothing) m ≡ compatible base q m)
      (λ q. refl) (λ q. refl) (λ q. refl) (λ q. refl)

  two-compatible : (c : Command) → partCount c ≡ 2 → (p q : Statement) → compatible base (build c a xs p q) m ≡ of_two (eqb (byte_of c) 5) base m p q
  unfolding compatible
  two-compatible =
      twos (λ (c : Command). (p q : Statement) → compatible base (build c a xs p q) m ≡ of_two (eqb (byte_of c) 5) base m p q)
      (λ p q. refl) (λ p q. refl) (λ p q. refl)

-- ---- row 11 of the statement p that lies at the front of the bytes
module _ {t : List ℕ} {d a : ℕ} {bs : List ℕ} (r : Ready t d a bs) {w : ℕ} (base m : ℕ) (p : Statement) (l : Lies t d base a bs p) where
  pub leaf_step : Shaped bs 0 w → true ≡ compatible base p m
  leaf_step y = rw (leaf_apart r y base p l, leaf-compatible base m a (operands_of y.c bs) y.c y.parts)

  module _ {x : Bool} where
    pub one-step : Shaped bs 1 w → ((q : Statement) → Lies t (d - 1) base (a + w) (rest w bs) q → x ≡ compatible base q m) → x ≡ compatible base p m
    one-step y f =
        let z = one_apart r y base p l in
        rw (z.1.0, one-compatible base m a (operands_of y.c bs) y.c y.parts z.0) (f z.0 z.1.1)

    pub two-step : Shaped bs 2 w
        → ((q q' : Statement) → Two (Lies t (d - 1)) t base a w bs q q' → x ≡ of_two (eqb (get_or bs 0 0) 5) base m q q') → x ≡ compatible base p m
    two-step y f =
        let z = two-apart r y base p l in
        rw (z.2.0, two-compatible base m a (operands_of y.c bs) y.c y.parts z.0 z.1, ← y.byte) (f z.0 z.1 z.2.1)

-- ---- the two parts of a command whose bytes are handed on whole
pub whole_pair : {t : List ℕ} {d a w : ℕ} {bs : List ℕ} → Pair t d a w bs → Pair t d a w (rest 0 bs)
whole_pair {t} {d} {a} {w} {bs} r = subst (λ (l : List ℕ). Pair t d a w l) (sym (rest-is 0 bs)) r

pub whole_two : {L : (base a : ℕ) → List ℕ → Statement → Type 0} {t : List ℕ} {base a w : ℕ} {bs : List ℕ} {p q : Statement} → Two L t base a w bs p q
    → Two L t base a w (rest 0 bs) p q
whole_two {L} {t} {base} {a} {w} {bs} {p} {q} h = subst (λ (l : List ℕ). Two L t base a w l p q) (sym (rest-is 0 bs)) h
