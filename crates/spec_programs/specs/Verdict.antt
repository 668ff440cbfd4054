-- What the replay program says of a file (02, item 14), for all bytes: a run file's head (the sequence's length, the sequence and the
-- read-back set), and where a run file has its inputs, a recording.
use Rattle.std.specs.Prelude.{ℕ, zero, suc, ◌/◌, Bool, ◌&&◌, cond, List, [], ◌∷◌, ◌++◌, length, drop, leb}
use Rattle.spec_tick.specs.Record.{recordLength}
use Rattle.spec_replay.specs.Replay.{Replayed, replayed, replay_of}
use Rattle.spec_programs.specs.Text.{numeral, space, newline, input_cut, refusal}
use Rattle.spec_programs.specs.File.{inputs_at, sequence_in, read_back_in}

-- the most bytes of a file, its head among them
abbrev pub max_file : ℕ
max_file = 4194304

abbrev pub recording_in : List ℕ → List ℕ
recording_in file = drop (inputs_at file) file

-- not longer than allowed, and not ended within its head
abbrev pub whole : List ℕ → Bool
whole file = leb (length file) max_file && leb (inputs_at file) (length file)

-- accepted, a space and the number of records
abbrev pub acceptance : ℕ → List ℕ
acceptance records =
    (0x61 ∷ 0x63 ∷ 0x63 ∷ 0x65 ∷ 0x70 ∷ 0x74 ∷ 0x65 ∷ 0x64 ∷ space ∷ []) ++ (numeral 10 1 records ++ newline ∷ [])

-- differs at, a space and the place
abbrev pub difference : ℕ → List ℕ
difference place =
    (0x64 ∷ 0x69 ∷ 0x66 ∷ 0x66 ∷ 0x65 ∷ 0x72 ∷ 0x73 ∷ space ∷ 0x61 ∷ 0x74 ∷ space ∷ []) ++ (numeral 10 1 place ++ newline ∷ [])

abbrev pub said : (records : ℕ) → Replayed → List ℕ
said records (replayed zero zero) = acceptance records
said records (replayed zero (suc k)) = difference (suc k)
said records (replayed (suc n) k) = refusal (suc n)

unfoldable pub verdict_of : List ℕ → List ℕ
verdict_of file =
    cond (whole file)
    (said (length (recording_in file) / recordLength) (replay_of (sequence_in file) (read_back_in file) (recording_in file)))
    input_cut
