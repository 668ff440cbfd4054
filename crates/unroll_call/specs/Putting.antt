-- Bytes put into a buffer, one behind the other.
use Rattle.std.specs.Prelude.{ℕ, ◌+◌, ◌≤◌, ◌<◌, ◌≡◌, cond, List, [], ◌∷◌, eqb, length, get_or}
use Rattle.std.proofs.lemmas.List.Edits.{sets}
use Rattle.spec_base.specs.Limits.{max_bytes}
use Rattle.spec_sequence.specs.Commands.{bytes_at}

-- from index i on the buffer b has got the bytes xs, and r is the index behind them
pub record Put (i : ℕ) (xs b b' : List ℕ) (r : ℕ) : Type 0 where
  pub after : b' ≡ sets b i xs
  pub end : r ≡ i + length xs

-- n more bytes can be put from index i on
pub record Room (i n : ℕ) (b : List ℕ) : Type 0 where
  pub fits : i + n ≤ length b
  pub sized : length b ≡ max_bytes

-- n operand bytes, from index `at` of s on, can be put from index i on: a command has none, one or five
pub record Operands (at n : ℕ) (s : List ℕ) (i : ℕ) (b : List ℕ) : Type 0 where
  pub there : at + n ≤ length s
  pub count : 1 < n → n ≡ 5
  pub room : Room i n b

-- ---- 'in the copy, pauses become setpauses and loops become their bodies' (02, item 13)
-- the command byte b in a copy
abbrev pub copied_byte : ℕ → ℕ
copied_byte b = cond (eqb b 1) 10 b

-- the own bytes, in a copy, of the command b with operand bytes xs: none of a loop
abbrev pub copied_head : (b : ℕ) (xs : List ℕ) → List ℕ
copied_head b xs = cond (eqb b 6) [] (copied_byte b ∷ xs)

-- those of the command at index `at` of s, with n operand bytes, can be put from index i on
pub record Copyable (at n : ℕ) (s : List ℕ) (i : ℕ) (b : List ℕ) : Type 0 where
  pub there : at + (1 + n) ≤ length s
  pub count : 1 < n → n ≡ 5
  pub room : Room i (length (copied_head (get_or s at 0) (bytes_at (at + 1) n s))) b
