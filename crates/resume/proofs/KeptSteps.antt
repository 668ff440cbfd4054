-- The labels of the active pauses at a command of each shape, from what the code finds of its parts.
use Prim.Native.Nat.{ℕ, ◌+◌, ◌-◌, ◌<◌}
use mathlib.Core.Path.{◌≡◌, refl, sym, ap, ap₂, ◌∙◌, subst}
use mathlib.Core.Bool.{true, false}
use mathlib.Core.List.{List}
use lib.ListN.{get_or}
use borrow.Author.Tests.{eqb-true, lt-ltb}
use Rattle.spec_base.specs.Limits.{label_count}
use Rattle.spec_base.specs.Sets.{none, empty, join, below, from}
use Rattle.spec_base.specs.Widths.{only_below}
use Rattle.sets.proofs.Algebra.{join-none_l, join-none_r, join_assoc}
use Rattle.labels.specs.declared.Labels.{Labels}
use Rattle.labels.specs.Labels.{label_set}
use Rattle.spec_language.specs.Statement.{Statement, nothing, pause}
use Rattle.theory_language.specs.Ranks.{middle, labels_by}
use Rattle.theory_language.proofs.Ranks.{labels_by_none}
use Rattle.spec_sequence.specs.Commands.{Command, operands_of, partCount, build}
use Rattle.theory_sequence.proofs.Table.{byte_of, leaves, ones, twos}
use Rattle.layout.specs.Layout.{rest, Two, Lies, Ready}
use Rattle.commands.proofs.Shapes.{Shaped, leaf_apart, one_apart, two-apart}
use Rattle.resume.specs.Labelled.{Joined}

-- ---- labels added to those found
same_labels : {s t : ℕ} {u v : Labels} → s ≡ t → Joined s u v → Joined t u v
same_labels {u = u} {v = v} e a = subst (λ (x : ℕ). Joined x u v) e a

none-added : (u : Labels) → Joined none u u
none-added u = record { adds = sym (join-none_r (label_set u)) }

both_added : {s t : ℕ} {u v w : Labels} → Joined s u v → Joined t v w → Joined (join s t) u w
both_added {s} {t} {u} a b = record { adds = b.adds ∙ ap (λ (z : ℕ). join z t) a.adds ∙ sym (join_assoc (label_set u) s t) }

-- labels added to none
pub from_none : {s : ℕ} {u v : Labels} → label_set u ≡ none → Joined s u v → label_set v ≡ s
from_none {s} e a = a.adds ∙ ap (λ (x : ℕ). join x s) e ∙ join-none_l s

-- ---- any command
-- what is said of a command is said of the statement that it is
pub here : (t p : Statement) (base m : ℕ) {u v : Labels} → p ≡ t → Joined (labels_by base t m) u v → Joined (labels_by base p m) u v
here t p base m h k = same_labels (ap (λ (z : Statement). labels_by base z m) (sym h)) k

-- a statement whose mask is empty is not entered
pub empty_step : (base m : ℕ) (p : Statement) {u : Labels} → empty m ≡ true → Joined (labels_by base p m) u u
empty_step base m p {u} e = same_labels (sym (ap (labels_by base p) (eqb-true m none e) ∙ labels_by_none base p)) (none-added u)

pub pause_step : (base m l : ℕ) {u v : Labels} → l < label_count → empty m ≡ false → Joined (only_below label_count l) u v
    → Joined (labels_by base (pause l) m) u v
unfolding labels_by
pause_step base m l s e h = rw e (rw (lt-ltb l label_count s) at h)

-- ---- commands of two parts
abbrev of_two : (base m : ℕ) (p q : Statement) → ℕ
of_two base m p q = join (labels_by base p (below (middle base p) m)) (labels_by (middle base p) q (from (middle base p) m))

-- f and g are the masks of the parts of a command of two; k is the table's number of pauses before the second part
pub parts_step : (base m : ℕ) (p q : Statement) (k : ℕ) {f g : ℕ} {u v w : Labels} → k ≡ middle base p → f ≡ below k m → g ≡ from k m
    → Joined (labels_by base p f) u v → Joined (labels_by (middle base p) q g) v w → Joined (of_two base m p q) u w
parts_step base m p q k hk hf hg hv hw =
    let x = ap (labels_by base p) (hf ∙ ap (λ (i : ℕ). below i m) hk) in
    let y = ap (labels_by (middle base p) q) (hg ∙ ap (λ (i : ℕ). from i m) hk) in
    same_labels (ap₂ join x y) (both_added hv hw)

-- ---- the commands of each shape
module _ (base m a : ℕ) (xs : List ℕ) where
  leaf-labels : (c : Command) → partCount c ≡ 0 → (byte_of c ≡ 1 → ⊥) → labels_by base (build c a xs nothing nothing) m ≡ none
  unfolding labels_by
  leaf-labels =
      leaves (λ (c : Command). (byte_of c ≡ 1 → ⊥) → labels_by base (build c a xs nothing nothing) m ≡ none)
      (λ n. refl) (λ n. absurd (n refl)) (λ n. refl) (λ n. refl) (λ n. refl) (λ n. refl)

  one-labels : (c : Command) → partCount c ≡ 1 → (q : Statement) → labels_by base (build c a xs q nothing) m ≡ labels_by base q m
  unfolding labels_by
  one-labels =
      ones (λ (c : Command). (q : Statement) → labels_by base (build c a xs q nothing) m ≡ labels_by base q m)
      (λ q. refl) (λ q. refl) (λ q. refl) (λ q. refl)

  two-labels : (c : Command) → partCount c ≡ 2 → (p q : Statement) → labels_by base (build c a xs p q) m ≡ of_two base m p q
  unfolding labels_by
  two-labels =
      twos (λ (c : Command). (p q : Statement) → labels_by base (build c a xs p q) m ≡ of_two base m p q) (λ p q. refl) (λ p q. refl) (λ p q. refl)

-- ---- the statement p that lies at the front of the bytes
module _ {t : List ℕ} {d a : ℕ} {bs : List ℕ} (r : Ready t d a bs) {w : ℕ} (base m : ℕ) (p : Statement) (l : Lies t d base a bs p) where
  pub leaf_step : Shaped bs 0 w → (get_or bs 0 0 ≡ 1 → ⊥) → {u : Labels} → Joined (labels_by base p m) u u
  leaf_step y n {u} =
      let e : byte_of y.c ≡ 1 → ⊥ = λ h. n (y.byte ∙ h) in
      rw (leaf_apart r y base p l, leaf-labels base m a (operands_of y.c bs) y.c y.parts e) (none-added u)

  module _ {u v : Labels} where
    pub one-step : Shaped bs 1 w → ((q : Statement) → Lies t (d - 1) base (a + w) (rest w bs) q → Joined (labels_by base q m) u v)
        → Joined (labels_by base p m) u v
    one-step y f =
        let z = one_apart r y base p l in
        rw (z.1.0, one-labels base m a (operands_of y.c bs) y.c y.parts z.0) (f z.0 z.1.1)

    pub two-step : Shaped bs 2 w → ((q q' : Statement) → Two (Lies t (d - 1)) t base a w bs q q' → Joined (of_two base m q q') u v)
        → Joined (labels_by base p m) u v
    two-step y f =
        let z = two-apart r y base p l in
        rw (z.2.0, two-labels base m a (operands_of y.c bs) y.c y.parts z.0 z.1) (f z.0 z.1 z.2.1)
