-- Row 10 of the statement that the bytes encode.
use Rattle.std.specs.Prelude.{ℕ, ◌≡◌, Bool, true, List}
use Rattle.spec_language.specs.Statement.{Statement}
use Rattle.spec_language.specs.LabelTests.{pauses, targeted, well_formed}
use Rattle.spec_base.specs.Limits.{max_depth}
use Rattle.layout.specs.Layout.{Lies}

-- r says whether the statement encoded there is well-formed; s are its pauses, and row 9 does not hold of it
abbrev pub TellsWellFormed : (bs : List ℕ) (s : ℕ) (r : Bool) → Type 0
TellsWellFormed bs s r =
    (t : List ℕ) (p : Statement) → Lies t max_depth 0 0 bs p → s ≡ pauses p → targeted p ≡ true → r ≡ well_formed p
