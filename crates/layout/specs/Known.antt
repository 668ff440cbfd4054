-- What the check leaves of a sound sequence for reacting.
use Rattle.std.specs.Prelude.{◌≡◌, true, List, ℕ, length}
use Rattle.spec_language.specs.Statement.{Statement}
use Rattle.spec_language.specs.LabelTests.{distinct}
use Rattle.spec_base.specs.Limits.{max_bytes, max_depth}
use Rattle.layout.specs.Layout.{Lies}
use Rattle.layout.specs.Notes.{Noted}

-- p is encoded in bs, the table of second parts and the notes of labels are its, and row 8 does not hold of it
pub record Known (t notes bs : List ℕ) (p : Statement) : Type 0 where
  pub lies : Lies t max_depth 0 0 bs p
  pub noted : Noted p notes
  pub once : distinct p ≡ true
  pub long : length t ≡ max_bytes

-- that of some statement
pub record Sound (t notes bs : List ℕ) : Type 0 where
  pub p : Statement
  pub known : Known t notes bs p
