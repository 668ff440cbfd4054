-- What a store to a row does to the rows, once for every width w.
use mathlib.Core.Path.{◌≡◌, refl, sym, ap, ◌∙◌, fun_ext}
use mathlib.Core.Bool.{Bool, true, false, cond}
use mathlib.Core.List.{List}
use Prim.Native.Nat.{ℕ, ◌≤◌, ◌<◌}
use native.Mathlib.Omega.{arith}
use lib.Dec.{eqb, ltb}
use lib.ListN.{length, get_or, set, length-set}
use lib.Seq.{get_or-set_same, get_or-set_other}
use borrow.Author.Tests.{eqb-true, eqb-false, lt-ltb, le-ltb}
use Rattle.spec_base.specs.Sets.{none, join}
use Rattle.labels.specs.declared.Labels.{Labels}
use Rattle.labels.specs.Labels.{label_set}
use Rattle.theory_language.specs.LabelRows.{add_row}
use Rattle.wellformed.specs.Rows.{no_labels, row_below, add_row_below, UpdatesBelow}

abbrev pub row_at : List Labels → ℕ → Labels
row_at m k = get_or m k no_labels

pub row_here : (w k : ℕ) (m : List Labels) → k < w → label_set (row_at m k) ≡ row_below w m k
unfolding row_below
row_here w k m h = rw (lt-ltb k w h)

pub no_row : (w k : ℕ) (m : List Labels) → w ≤ k → none ≡ row_below w m k
unfolding row_below
no_row w k m h = rw (le-ltb k w h)

pub added : (w k s : ℕ) (v : Labels) (m : List Labels) → k < w → label_set v ≡ join (label_set (row_at m k)) s
    → UpdatesBelow w (add_row_below w k s) m (set m k v)
unfolding row_below add_row
added w k s v m h e =
    record { updates = λ l. (simp length-set l, rw (lt-ltb k w h) (fun_ext (λ i. go l i (eqb k i) refl))) }
  where
    go : length m ≡ w → (i : ℕ) (b : Bool) → eqb k i ≡ b
        → cond (ltb i w) (label_set (row_at (set m k v) i)) none
        ≡ cond b (join (cond (ltb i w) (label_set (row_at m i)) none) s) (cond (ltb i w) (label_set (row_at m i)) none)
    go l i true q =
        let z : k ≡ i = eqb-true k i q in
        let t : ltb i w ≡ true = ap (λ (n : ℕ). ltb n w) (sym z) ∙ lt-ltb k w h in
        rw t
        (ap (λ (n : ℕ). label_set (row_at (set m k v) n)) (sym z) ∙ ap label_set (get_or-set_same m k v no_labels (omega arith)) ∙ e
        ∙ ap (λ (n : ℕ). join (label_set (row_at m n)) s) z)
    go l i false q = ap (λ (x : Labels). cond (ltb i w) (label_set x) none) (get_or-set_other m k i v no_labels (λ z. eqb-false k i q (sym z)))

pub kept : (w k s : ℕ) (m : List Labels) → w ≤ k → UpdatesBelow w (add_row_below w k s) m m
kept w k s m h = record { updates = λ l. (l, rw (le-ltb k w h)) }
