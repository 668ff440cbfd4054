-- What the label rules give for the statement that the bytes encode.
use Rattle.std.specs.Prelude.{ℕ, ◌≡◌, List}
use Rattle.spec_language.specs.Statement.{Statement}
use Rattle.spec_base.specs.Limits.{max_depth}
use Rattle.layout.specs.Layout.{Lies}
use Rattle.layout.specs.Notes.{Noted}
use Rattle.spec_sequence.specs.Check.{label_rules, number_of}

-- r is the number that the label rules give the statement that is encoded there and was noted
abbrev pub ByLabels : (bs notes : List ℕ) (r : ℕ) → Type 0
ByLabels bs notes r = (t : List ℕ) (p : Statement) → Lies t max_depth 0 0 bs p → Noted p notes → r ≡ number_of (label_rules p)
