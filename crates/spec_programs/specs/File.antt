-- The file of a run (01, 'Bays to run'; 02, item 5): the sequence's length in 2 bytes, the sequence, the read-back set in 4 bytes,
-- then 4 bytes an instant.
use Rattle.std.specs.Prelude.{ℕ, zero, suc, ◌+◌, ◌-◌, ◌%◌, Bool, ◌&&◌, cond, List, [], ◌∷◌, length, take, drop, eqb, leb}
use Rattle.std.proofs.Math.Option.{Option, none, some}
use Rattle.spec_sequence.specs.Check.{check_of}
use Rattle.spec_base.specs.Bytes.{le_number}
use Rattle.spec_base.specs.Limits.{signal_bytes}

abbrev pub length_bytes : ℕ
length_bytes = 2

-- the most bytes of a file, its first two among them
abbrev pub max_file : ℕ
max_file = 65536

abbrev pub sequence_length : List ℕ → ℕ
sequence_length file = le_number (take length_bytes file)

-- where the read-back set begins
abbrev pub read_back_at : List ℕ → ℕ
read_back_at file = length_bytes + sequence_length file

-- where the inputs begin
abbrev pub inputs_at : List ℕ → ℕ
inputs_at file = read_back_at file + signal_bytes

unfoldable pub sequence_in : List ℕ → List ℕ
sequence_in file = take (sequence_length file) (drop length_bytes file)

unfoldable pub read_back_in : List ℕ → ℕ
read_back_in file = le_number (take signal_bytes (drop (read_back_at file) file))

-- the numbers of 4 bytes each
unfoldable pub words : List ℕ → List ℕ
words (a ∷ b ∷ c ∷ d ∷ rest) = le_number (a ∷ b ∷ c ∷ d ∷ []) ∷ words rest
words (a ∷ b ∷ c ∷ []) = []
words (a ∷ b ∷ []) = []
words (a ∷ []) = []
words [] = []

unfoldable pub inputs_in : List ℕ → List ℕ
inputs_in file = words (drop (inputs_at file) file)

abbrev pub first : List ℕ → Option ℕ
first [] = none
first (x ∷ xs) = some x

-- not longer than allowed, not ended early, and no bytes over
abbrev pub whole : List ℕ → Bool
whole file =
    leb (length file) max_file && leb length_bytes (length file) && leb (inputs_at file) (length file)
    && eqb ((length file - inputs_at file) % signal_bytes) 0

pub data File : Type 0 where
  cut : File
  refused : (number : ℕ) → File
  runs : (sequence : List ℕ) (read_back : ℕ) (inputs : List ℕ) → File

-- the check's number decides
abbrev pub by_number : (number : ℕ) (sequence : List ℕ) (read_back : ℕ) (inputs : List ℕ) → File
by_number zero sequence read_back inputs = runs sequence read_back inputs
by_number (suc n) sequence read_back inputs = refused (suc n)

unfoldable pub file_of : List ℕ → File
file_of file =
    cond (whole file)
    (by_number (check_of (sequence_in file) (read_back_in file)) (sequence_in file) (read_back_in file) (inputs_in file))
    cut
