-- The bytes that lines of the file give: a buffer, and how many bytes of it are meant.
use Rattle.std.specs.Prelude.{ℕ, zero, suc, ◌+◌, cond, Option, None, Some, List, length, replicate, set, ltb}
use Rattle.vectors_notation.specs.Digits.{number_in}
use Rattle.vectors_notation.specs.Words.{next_space}
use Rattle.vectors_notation.specs.declared.Bytes.{Bytes}

abbrev pub room_length : ℕ
room_length = 2048

-- a count that no buffer has: a line was malformed
abbrev pub malformed_count : ℕ
malformed_count = 0xFFFFFFFFFFFFFFFF

pub data Held : Type 0 where
  held : (room : List ℕ) (count : ℕ) → Held

abbrev pub holds : Bytes → Held
holds b = held b.room b.count

unfoldable pub zeroed : (count : ℕ) → Held
zeroed count = held (replicate room_length 0) count

-- what a result holds; a malformed line gives none
abbrev pub held_or_malformed : Option Bytes → Held
held_or_malformed None = zeroed malformed_count
held_or_malformed (Some b) = holds b

-- one byte more
abbrev pub pushed : Held → (value : ℕ) → Held
pushed (held room count) value =
    cond (ltb value 256) (cond (ltb count room_length) (held (set room count value) (count + 1)) (zeroed malformed_count)) (zeroed malformed_count)

-- the words from `at` on, at most n of them, a byte each
unfoldable pub words_from : (line : List ℕ) (n at : ℕ) → Held → Held
words_from line zero at h = h
words_from line (suc n) at h =
    cond (ltb at (length line)) (words_from line n (next_space line at) (pushed h (number_in 16 line at (next_space line at)))) h

abbrev pub appended : (line : List ℕ) (from : ℕ) → Held → Held
appended line from h = words_from line (length line) from h

-- the same n times over
unfoldable pub again : (n : ℕ) (line : List ℕ) (from : ℕ) → Held → Held
again zero line from h = h
again (suc n) line from h = again n line from (appended line from h)

-- as often as the number at `from` says, to the base 10
unfoldable pub repeated : (line : List ℕ) (from : ℕ) → Held → Held
repeated line from h =
    cond (ltb from (length line))
    (cond (ltb (number_in 10 line from (next_space line from)) room_length)
    (again (number_in 10 line from (next_space line from)) line (next_space line from) h)
    (zeroed malformed_count))
    (zeroed malformed_count)
