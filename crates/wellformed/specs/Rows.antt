-- Rows of label sets, one for each label.
use Rattle.std.specs.Prelude.{ℕ, ◌≡◌, List, cond, get_or, length, ltb}
use Rattle.spec_base.specs.Limits.{label_count}
use Rattle.spec_base.specs.Sets.{none}
use Rattle.labels.specs.declared.Labels.{Labels}
use Rattle.labels.specs.Labels.{label_set}
use Rattle.theory_language.specs.LabelRows.{add_row}

-- what an index behind the end gives
abbrev pub no_labels : Labels
no_labels = record { low = 0; high = 0 }

-- the row of k, for labels below w: no other label has one
unfoldable pub row_below : (w : ℕ) → List Labels → ℕ → ℕ
row_below w rows k = cond (ltb k w) (label_set (get_or rows k no_labels)) none

abbrev pub add_row_below : (w k s : ℕ) → (ℕ → ℕ) → ℕ → ℕ
add_row_below w k s rows = cond (ltb k w) (add_row k s rows) rows

-- w rows become w rows by f
pub record UpdatesBelow (w : ℕ) (f : (ℕ → ℕ) → ℕ → ℕ) (m n : List Labels) : Type 0 where
  pub updates : length m ≡ w → (length n ≡ w) × (row_below w n ≡ f (row_below w m))

abbrev pub row_of : List Labels → ℕ → ℕ
row_of = row_below label_count

abbrev pub Updates : ((ℕ → ℕ) → ℕ → ℕ) → List Labels → List Labels → Type 0
Updates = UpdatesBelow label_count
