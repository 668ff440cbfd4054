-- What an admission asks of a sequence with a read-back set (02, item 8): the row that turns it down, or its ceiling.
use Rattle.std.specs.Prelude.{ℕ, ◌≡◌, Result, Ok}
use Rattle.spec_sequence.specs.Check.{Checked, sound, bad}
use Rattle.spec_sequence.specs.Ceilings.{ceiling_of}
use Rattle.limits.specs.declared.rows.Refusal.{Refusal}
use Rattle.limits.specs.Rows.{Refuses}

abbrev pub PlanOf : (read_back : ℕ) → Checked → Result ℕ Refusal → Type 0
PlanOf read_back (bad number) r = Refuses r number
PlanOf read_back (sound p) r = r ≡ Ok (ceiling_of read_back (sound p))
