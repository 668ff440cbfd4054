-- The check of a sequence with a read-back set (01, 'Turned down', rows 2 to 10, and 18 of 02, item 12): the statement that the bytes hold, or the
-- first row that holds.
use Rattle.std.specs.Prelude.{ℕ, ◌&&◌, cond, List, length, leb, ltb}
use Rattle.spec_language.specs.Statement.{Statement}
use Rattle.spec_language.specs.LabelTests.{distinct, targeted, well_formed}
use Rattle.spec_base.specs.Limits.{max_bytes, max_signals, bytes_row, depth_row, behind_row, twice_row, unpaused_row, form_row}
use Rattle.spec_sequence.specs.Reader.{Read, accepted, refused, read_all}
use Rattle.spec_language.specs.Sizes.{signal_nesting}
use Rattle.spec_sequence.specs.Program.{program}

pub data Checked : Type 0 where
  sound : (p : Statement) → Checked
  bad : (number : ℕ) → Checked

-- rows 8, 9 and 10
abbrev pub label_rules : Statement → Checked
label_rules p = cond (distinct p) (cond (targeted p) (cond (well_formed p) (sound p) (bad form_row)) (bad unpaused_row)) (bad twice_row)

-- Rows 3 to 6 from the reader; row 6 again, 'if the declarations make the nesting of signals exceed six' (02, item 5); row 7
abbrev pub after_read : (read_back n : ℕ) → Read → Checked
after_read read_back n (refused number) = bad number
after_read read_back n (accepted p count) =
    cond (ltb max_signals (signal_nesting (program read_back p))) (bad depth_row) (cond (ltb count n) (bad behind_row) (label_rules p))

-- row 2
unfoldable pub checked : List ℕ → (read_back : ℕ) → Checked
checked bs read_back =
    cond (leb 1 (length bs) && leb (length bs) max_bytes) (after_read read_back (length bs) (read_all bs)) (bad bytes_row)

abbrev pub number_of : Checked → ℕ
number_of (sound p) = 0
number_of (bad number) = number

unfoldable pub check_of : List ℕ → (read_back : ℕ) → ℕ
check_of bs read_back = number_of (checked bs read_back)
