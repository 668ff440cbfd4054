-- The rows of a survey of the whole that starts from empty rows are those of the statement.
use Prim.Native.Nat.{ℕ, ◌+◌, ◌*◌}
use native.Mathlib.Omega.{arith}
use mathlib.Core.Path.{◌≡◌, refl, ap, ap₂, ◌∙◌, subst}
use mathlib.Core.Bool.{Bool, true, false, cond}
use mathlib.Core.List.{List}
use lib.Dec.{ltb}
use lib.ListN.{replicate, get_or, get_or-replicate, length-replicate}
use borrow.Author.Tests.{ltb-true}
use Rattle.spec_base.specs.Limits.{label_count}
use Rattle.spec_base.specs.Sets.{member, none, join}
use Rattle.sets.proofs.Booleans.{Tested, tested}
use Rattle.sets.proofs.Algebra.{join-none_l}
use Rattle.spec_language.specs.Statement.{Statement}
use Rattle.spec_language.specs.LabelTests.{labels_of, Joint, before}
use Rattle.labels.specs.declared.Labels.{Labels}
use Rattle.labels.specs.Labels.{label_set}
use Rattle.theory_language.specs.LabelRows.{fill}
use Rattle.theory_language.proofs.LabelRows.{fill_is}
use Rattle.wellformed.specs.Rows.{no_labels, row_below, row_of, Updates}

pub nothing_before : (x y : Bool) (j : Joint) (p : Statement) {s : ℕ} {m n : List Labels} → s ≡ none → Updates (fill x y j p s) m n → Updates (fill x y j p none) m n
nothing_before x y j p {s} {m} {n} e t = subst (λ (k : ℕ). Updates (fill x y j p k) m n) e t

no_rows : (w k : ℕ) (empty : Labels) → label_set empty ≡ none → row_below w (replicate w empty) k ≡ none
unfolding row_below
no_rows w k empty e = go (tested (ltb k w))
  where
    go : Tested (ltb k w) → cond (ltb k w) (label_set (get_or (replicate w empty) k no_labels)) none ≡ none
    go (Tested.yes h) = rw h (ap label_set (get_or-replicate w k empty no_labels (ltb-true k w h)) ∙ e)
    go (Tested.no h) = rw h

pub fresh_rows : (x y : Bool) (j : Joint) (p : Statement) (m n : List Labels) (empty : Labels) → label_set empty ≡ none → m ≡ replicate label_count empty → Updates (fill x y j p none) m n
    → (k : ℕ) → row_of n k ≡ before x y j p k
fresh_rows x y j p m n empty z e t k =
    ap (λ (f : ℕ → ℕ). f k) (t.updates (rw e (length-replicate {A = Labels} label_count empty))).1
    ∙ fill_is x y j p none (row_of m) k
    ∙ ap₂ (λ (a b : ℕ). join a (join b (before x y j p k))) (ap (λ (l : List Labels). row_of l k) e ∙ no_rows label_count k empty z) (nothing (member k (labels_of x y p)))
    ∙ join-none_l (join none (before x y j p k))
    ∙ join-none_l (before x y j p k)
  where
    nothing : (b : Bool) → cond b none none ≡ none
    nothing true = refl
    nothing false = refl
