-- The check's verdict on a sequence with a read-back set: its number, and of a sound sequence what reacting needs.
use Rattle.std.specs.Prelude.{ℕ, ◌≡◌, List}
use Rattle.spec_language.specs.Statement.{Statement}
use Rattle.spec_sequence.specs.Writer.{Ranged}
use Rattle.spec_sequence.specs.Check.{sound, checked, check_of}
use Rattle.layout.specs.Known.{Known}

pub record Judged (bs : List ℕ) (read_back : ℕ) (t notes : List ℕ) (r : ℕ) : Type 0 where
  pub number : r ≡ check_of bs read_back
  pub known : (p : Statement) → checked bs read_back ≡ sound p → Known t notes bs p

-- what is known of a sequence that passed the check, with the table and the notes that it left
pub record Passed (bs : List ℕ) (read_back : ℕ) (t notes : List ℕ) : Type 0 where
  pub p : Statement
  pub is : checked bs read_back ≡ sound p
  pub ranged : Ranged p
  pub known : Known t notes bs p
