-- A line, its buffer and its text.
use Rattle.std.specs.Prelude.{ℕ, ◌≡◌, List, length, drop}
use Rattle.spec_programs.specs.Text.{input_cut, refusal}
use Rattle.limits.specs.Rows.{row_number}
use Rattle.files.specs.declared.FileError.{FileError}
use Rattle.files.specs.declared.FileError.TheVariants.{Cut, Refused}
use Rattle.lines.specs.declared.line.Line.{Line}

-- the bytes of a line's buffer
abbrev pub line_length : ℕ
line_length = 160

-- the words before a number
abbrev pub most_words : ℕ
most_words = 139

-- the line has the text
pub record Displays (line : Line) (text : List ℕ) : Type 0 where
  pub told : drop line.from line.bytes ≡ text
  pub sized : length line.bytes ≡ line_length

-- what is said of a file that comes to nothing
abbrev pub failure_of : FileError → List ℕ
failure_of Cut = input_cut
failure_of (Refused row) = refusal (row_number row)
