-- What the code's answer stands for, with the buffer after it: the bytes to write.
use Rattle.std.specs.Prelude.{ℕ, List, Result, Ok, Err}
use Rattle.spec_programs.specs.Text.{input_cut, refusal}
use Rattle.spec_programs.specs.Output.{with_sequence}
use Rattle.limits.specs.Rows.{row_number}
use Rattle.files.specs.declared.FileError.{FileError}
use Rattle.files.specs.declared.FileError.TheVariants as errors

abbrev pub output_by : (file buffer : List ℕ) → Result ℕ FileError → List ℕ
output_by file buffer (Err errors.Cut) = input_cut
output_by file buffer (Err (errors.Refused row)) = refusal (row_number row)
output_by file buffer (Ok n) = with_sequence file n buffer
