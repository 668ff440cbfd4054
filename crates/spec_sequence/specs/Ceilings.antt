-- The ceiling of a sequence with a read-back set (02, item 6): that of the program; of a sequence that is turned down, 0.
use Rattle.std.specs.Prelude.{ℕ}
use Rattle.spec_language.specs.Ceiling.{ceiling}
use Rattle.spec_sequence.specs.Program.{program}
use Rattle.spec_sequence.specs.Check.{Checked, sound, bad}

abbrev pub ceiling_of : (read_back : ℕ) → Checked → ℕ
ceiling_of read_back (sound p) = ceiling (program read_back p)
ceiling_of read_back (bad number) = 0
