-- What reading a whole sequence answers and leaves.
use Rattle.std.specs.Prelude.{ℕ, ◌-◌, ◌≡◌, List, length, Result, Ok}
use Rattle.spec_language.specs.Statement.{Statement}
use Rattle.spec_base.specs.Limits.{max_bytes, max_signals}
use Rattle.spec_sequence.specs.Reader.{Read, accepted, refused, read_all}
use Rattle.spec_language.specs.Sizes.{signal_nesting}
use Rattle.layout.specs.Layout.{Marked}
use Rattle.layout.specs.Notes.{no_notes, note}
use Rattle.limits.specs.declared.rows.Refusal.{Refusal}
use Rattle.limits.specs.Rows.{Refuses}
use Rattle.reading.specs.declared.reader.Reading.{Reading}

abbrev pub ReadingOf : Read → Result Reading Refusal → Type 0
ReadingOf (accepted p n) r = r ≡ Ok (record { bytes = n; left = max_signals - signal_nesting p })
ReadingOf (refused number) r = Refuses r number

-- the answer r for the bytes; if they are accepted, t has the second parts of the statement and the notes are its notes
pub record Reads (bs t notes : List ℕ) (r : Result Reading Refusal) : Type 0 where
  pub answer : ReadingOf (read_all bs) r
  pub marked : (p : Statement) (n : ℕ) → read_all bs ≡ accepted p n → Marked t 0 0 p × (notes ≡ note p no_notes)
  pub long : (p : Statement) (n : ℕ) → read_all bs ≡ accepted p n → length t ≡ max_bytes
