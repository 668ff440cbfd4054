-- What the code's answer stands for: a file.
use Rattle.std.specs.Prelude.{ℕ, List, Result, Ok, Err}
use Rattle.spec_programs.specs.File.{File, cut, refused, runs, sequence_in, read_back_in, inputs_in}
use Rattle.limits.specs.Rows.{row_number}
use Rattle.files.specs.declared.FileError.{FileError}
use Rattle.files.specs.declared.FileError.TheVariants as errors

abbrev pub file_by : List ℕ → Result (Unit {0}) FileError → File
file_by file (Err errors.Cut) = cut
file_by file (Err (errors.Refused row)) = refused (row_number row)
file_by file (Ok done) = runs (sequence_in file) (read_back_in file) (inputs_in file)
