-- The words on a line: each is a space and what follows it up to the next one.
use Rattle.std.specs.Prelude.{ℕ, ◌+◌, cond, List, length, ltb, slice_range}
use Rattle.vectors_notation.specs.Scan.{index_of}
use Rattle.vectors_notation.specs.Digits.{no_number, number_in}

-- where the word that begins at `at` ends: at the next space, or with the line
abbrev pub next_space : (line : List ℕ) (at : ℕ) → ℕ
next_space line at = at + 1 + index_of 32 (slice_range line (at + 1) (length line))

-- its number to the base 16, and its end; behind the line there is no word
abbrev pub word_value : (line : List ℕ) (at : ℕ) → ℕ
word_value line at = cond (ltb at (length line)) (number_in 16 line at (next_space line at)) no_number

abbrev pub word_end : (line : List ℕ) (at : ℕ) → ℕ
word_end line at = cond (ltb at (length line)) (next_space line at) (length line)
