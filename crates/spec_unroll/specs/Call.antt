-- The call that writes loops out (02, item 13): its number, the result's length and the lent buffer after it, for all arguments.
use Rattle.std.specs.Prelude.{ℕ, Bool, ◌&&◌, cond, List, ◌++◌, length, drop, eqb, leb}
use Rattle.spec_base.specs.Limits.{max_bytes, max_depth, length_row, setpause_row, unrolled_row}
use Rattle.spec_base.specs.Sets.{empty}
use Rattle.spec_language.specs.Statement.{Statement}
use Rattle.spec_language.specs.LabelTests.{setpauses}
use Rattle.spec_sequence.specs.Writer.{bytes_of, size}
use Rattle.spec_language.specs.Sizes.{depth_of}
use Rattle.spec_sequence.specs.Check.{Checked, sound, bad, checked}
use Rattle.spec_unroll.specs.Unrolled.{unrolled}

pub data Unrolling : Type 0 where
  unrolling : (number count : ℕ) (buffer : List ℕ) → Unrolling

abbrev pub number : Unrolling → ℕ
number (unrolling n count buffer) = n

-- after an error the length is 0 and every byte keeps its value
abbrev pub refused : (number : ℕ) (buffer : List ℕ) → Unrolling
refused n buffer = unrolling n 0 buffer

-- the result goes to the front of the buffer; the bytes after it keep their values
abbrev pub written : (result buffer : List ℕ) → Unrolling
written result buffer = unrolling 0 (length result) (result ++ drop (length result) buffer)

-- the result passes neither 1,024 bytes nor depth 64
abbrev pub fits : Statement → Bool
fits p = leb (size (unrolled p)) max_bytes && leb (depth_of (unrolled p)) max_depth

-- '21 exactly if the result passes 1,024 bytes or depth 64'
abbrev pub of_plain : Statement → (buffer : List ℕ) → Unrolling
of_plain p buffer = cond (fits p) (written (bytes_of (unrolled p)) buffer) (refused unrolled_row buffer)

-- '20 if it has a setpause'
abbrev pub of_statement : Statement → (buffer : List ℕ) → Unrolling
of_statement p buffer = cond (empty (setpauses p)) (of_plain p buffer) (refused setpause_row buffer)

-- 'after the original's own check'
abbrev pub of_checked : Checked → (buffer : List ℕ) → Unrolling
of_checked (bad n) buffer = refused n buffer
of_checked (sound p) buffer = of_statement p buffer

-- 'number 1 for another buffer length'
unfoldable pub unroll_of : (sequence : List ℕ) (read_back : ℕ) (buffer : List ℕ) → Unrolling
unroll_of sequence read_back buffer =
    cond (eqb (length buffer) max_bytes) (of_checked (checked sequence read_back) buffer) (refused length_row buffer)
