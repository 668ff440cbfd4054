-- A recording checked against a sequence (02, item 14): the number and the place after the call, for all arguments.
use Rattle.std.specs.Prelude.{ℕ, zero, suc, ◌+◌, ◌/◌, ◌%◌, Bool, true, false, ◌&&◌, cond, List, [], ◌∷◌, map, length, take, drop, eqb}
use Rattle.spec_base.specs.Limits.{recording_row}
use Rattle.spec_sequence.specs.Check.{check_of}
use Rattle.spec_tick.specs.Record.{recordLength, input_in}
use Rattle.spec_tick.specs.Recording.{recording_of}

-- ---- a recording as records
unfoldable pub first_records : (n : ℕ) → List ℕ → List (List ℕ)
first_records zero bs = []
first_records (suc n) bs = take recordLength bs ∷ first_records n (drop recordLength bs)

abbrev pub records_in : List ℕ → List (List ℕ)
records_in recording = first_records (length recording / recordLength) recording

-- 'the inputs recorded'
abbrev pub inputs_in : List ℕ → List ℕ
inputs_in recording = map input_in (records_in recording)

-- ---- 'the first record that differs'
unfoldable pub same : List ℕ → List ℕ → Bool
same [] [] = true
same [] (y ∷ ys) = false
same (x ∷ xs) [] = false
same (x ∷ xs) (y ∷ ys) = eqb x y && same xs ys

-- its place, counted from k, or 0 if none differs; a record that none was made for differs
unfoldable pub first_difference : (k : ℕ) → (given made : List (List ℕ)) → ℕ
first_difference k [] made = 0
first_difference k (r ∷ given) [] = k
first_difference k (r ∷ given) (m ∷ made) = cond (same r m) (first_difference (k + 1) given made) k

-- against 'what a fresh machine gives on the inputs recorded', counted from 1
unfoldable pub place_of : (sequence : List ℕ) (read_back : ℕ) (recording : List ℕ) → ℕ
place_of sequence read_back recording =
    first_difference 1 (records_in recording) (recording_of sequence read_back (inputs_in recording))

-- ---- the call: its number, and the place beside it
pub data Replayed : Type 0 where
  replayed : (number place : ℕ) → Replayed

abbrev pub number : Replayed → ℕ
number (replayed n place) = n

abbrev pub place : Replayed → ℕ
place (replayed n k) = k

-- '22, after the sequence's check, for a length that isn't a multiple of 37'
abbrev pub by_length : (recording : List ℕ) (place : ℕ) → Replayed
by_length recording place = cond (eqb (length recording % recordLength) 0) (replayed 0 place) (replayed recording_row 0)

-- 'beside the number it gives a place, 0 after an error'
abbrev pub by_check : (number : ℕ) → (accepted : Replayed) → Replayed
by_check zero accepted = accepted
by_check (suc n) accepted = replayed (suc n) 0

unfoldable pub replay_of : (sequence : List ℕ) (read_back : ℕ) (recording : List ℕ) → Replayed
replay_of sequence read_back recording =
    by_check (check_of sequence read_back) (by_length recording (place_of sequence read_back recording))
