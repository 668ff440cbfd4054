-- The theorems of this crate: the check finds the first row that holds, the reader accepts what the writer writes, no bytes
-- spell a held suspend, and litres are the whole numbers up to the limit.
use Prim.Native.Nat.{ℕ}
use mathlib.Core.Path.{◌≡◌}
use mathlib.Core.Logic.{◌↔◌}
use mathlib.Core.Bool.{true}
use mathlib.Core.List.{List}
use lib.ListN.{length}
use lib.IntN.{pos}
use lib.Ieee.{binary32, of_int}
use Rattle.spec_language.specs.Statement.{Statement}
use Rattle.spec_language.specs.States.{Source}
use Rattle.spec_base.specs.Limits.{max_depth, max_signals}
use Rattle.spec_sequence.specs.Amounts.{amount_size, IsAmount, is_amount, amount_in, float_in}
use Rattle.spec_sequence.specs.Reader.{accepted, read}
use Rattle.spec_sequence.specs.Check.{check_of}
use Rattle.spec_sequence.specs.Rows.{Spells, Row, ByRows}
use Rattle.theory_sequence.proofs.Writer as writer
use Rattle.theory_sequence.proofs.Rows as rows
use Rattle.theory_sequence.proofs.Source as source
use Rattle.theory_sequence.proofs.Amounts as amounts

-- 0 if no row of 'Turned down' holds, else the first number in the order of the rows whose row does, for every read-back set
pub check_by_rows : (bs : List ℕ) (read_back : ℕ) → ByRows (check_of bs read_back) (Row bs read_back)
check_by_rows = rows.check_by_rows

-- the reader accepts all bytes as p exactly if p is within the limits and they are its bytes
pub reads_what_is-written : (bs : List ℕ) (p : Statement) → (read max_depth max_signals 0 bs ≡ accepted p (length bs)) ↔ Spells bs p
reads_what_is-written = writer.reads_what_is-written

-- what bytes spell is source: a held suspend is only what remains of a suspend
pub spells_source : (bs : List ℕ) (p : Statement) → Spells bs p → Source p
spells_source = source.spells_source

-- 02, item 12, row 18: what the reader tests is that four bytes are a whole number of litres from 0 to 16,777,216
pub litres_taken : (xs : List ℕ) → length xs ≡ amount_size → (is_amount xs ≡ true) ↔ IsAmount xs
litres_taken = amounts.litres_taken

-- and the number that it reads is that one
pub litres_read : (xs : List ℕ) (a : IsAmount xs) → (amount_in xs ≡ a.number) × (float_in xs ≡ of_int binary32 (pos a.number))
litres_read = amounts.litres_read
