-- What the reading traversal answers, and what it leaves in the table of second parts and in the notes.
-- All offsets are those of the whole sequence.
use Rattle.std.specs.Prelude.{ℕ, ◌+◌, ◌-◌, ◌*◌, ◌≤◌, ◌<◌, ◌≡◌, ◌⊎◌, List, get_or, length, drop}
use Rattle.std.specs.Prelude as std
use Rattle.std.proofs.Math.Option.{some}
use Rattle.spec_language.specs.Statement.{Statement, nothing}
use Rattle.spec_base.specs.Limits.{label_count, signal_count, max_bytes, max_signals, command_row, missing_row, operand_row, depth_row, litres_row}
use Rattle.spec_sequence.specs.Commands.{Command, command_of, partCount, first_operand, head_length, build}
use Rattle.spec_sequence.specs.Reader.{Read, accepted, refused, Front, command, bad, last_part, first_part, read}
use Rattle.layout.specs.Layout.{Marked}
use Rattle.layout.specs.Notes.{pauses_counted, note_count, note_within}

-- ---- one number for an answer: so many rowUnits for a row, else an offset
abbrev pub row_unit : ℕ
row_unit = 1048576

-- the bytes of the command itself
abbrev pub head_of : Front → ℕ
head_of (command c xs) = head_length c
head_of (bad number) = number * row_unit

-- the offset behind the statement that was read at offset a
abbrev pub packed : (a : ℕ) → Read → ℕ
packed a (accepted p n) = a + n
packed a (refused number) = number * row_unit

-- r packs a row of reading (01, rows 3 to 6; 02, item 12)
abbrev pub Packed : ℕ → Type 0
Packed r =
    (r ≡ command_row * row_unit) ⊎ (r ≡ missing_row * row_unit) ⊎ (r ≡ operand_row * row_unit) ⊎ (r ≡ depth_row * row_unit)
    ⊎ (r ≡ litres_row * row_unit)

-- ---- the traversal, while the table t becomes u and the notes m become n
-- what it requires: the bytes from offset a on are within the limit, no more than a pauses came before, and no more signals are
-- allowed than in the whole sequence
pub record Readable (signals a : ℕ) (bs t m : List ℕ) : Type 0 where
  pub fits : a + length bs ≤ max_bytes
  pub counted : pauses_counted m ≤ a
  pub long : length t ≡ max_bytes
  pub noted : length m ≡ note_count
  pub allowed : signals ≤ max_signals

-- the first operand byte x of the command byte b is in its range where it is noted, with fewer pauses before it than bytes are allowed
pub record Notable (b x : ℕ) (m : List ℕ) : Type 0 where
  pub pausing : b ≡ 1 → x < label_count
  pub targeting : b ≡ 10 → x < label_count
  pub naming : b ≡ 12 → x < signal_count
  pub few : pauses_counted m < max_bytes

-- what a command without parts notes, by its byte and its first operand byte
abbrev pub LeafNoted : (b x : ℕ) (m n : List ℕ) → Type 0
LeafNoted b x m n =
    (c : Command) (a around : ℕ) (xs : List ℕ) → command_of b ≡ some c → partCount c ≡ 0 → first_operand xs ≡ x
    → n ≡ note_within around (build c a xs nothing nothing) m

-- p has its entries, and those that do not belong to its k bytes at offset a are as they were
pub record Entered (t u : List ℕ) (base a k : ℕ) (p : Statement) : Type 0 where
  pub long : length u ≡ length t
  pub marked : Marked u base a p
  pub below : (i : ℕ) → i < a → get_or u i 0 ≡ get_or t i 0
  pub above : (i : ℕ) → a + k ≤ i → get_or u i 0 ≡ get_or t i 0

-- after a refusal nothing is promised of the table and the notes
abbrev pub Filled : (signals a : ℕ) → (t u m n : List ℕ) → Read → Type 0
Filled signals a t u m n (accepted p k) = Entered t u (pauses_counted m) a k p × (n ≡ note_within (max_signals - signals) p m)
Filled signals a t u m n (refused number) = Unit {0}

-- the answer r for what was read at offset a, with so many signals allowed
abbrev pub Done : (signals a : ℕ) → (t u m n : List ℕ) → Read → ℕ → Type 0
Done signals a t u m n y r = (r ≡ packed a y) × Filled signals a t u m n y

-- ---- a command without parts
-- the bytes from offset a on are within the limit, and no more than a pauses came before
pub record Fitting (a : ℕ) (bs m : List ℕ) : Type 0 where
  pub fits : a + length bs ≤ max_bytes
  pub counted : pauses_counted m ≤ a

-- the answer r for the command at their front, however many signals are allowed: the table stays
abbrev pub LeafRead : (depth a : ℕ) → (bs m n : List ℕ) → ℕ → Type 0
LeafRead depth a bs m n r = (signals : ℕ) (t : List ℕ) → Done signals a t t m n (read depth signals a bs) r

-- the answer, or none and nothing is noted
abbrev pub Ahead : (depth a : ℕ) → (bs m n : List ℕ) → std.Option ℕ → Type 0
Ahead depth a bs m n std.None = n ≡ m
Ahead depth a bs m n (std.Some r) = LeafRead depth a bs m n r

-- ---- the two parts of a command
-- the two parts of the command c at offset a with operands xs, by a reader r of parts; bs is behind the command
abbrev pub pair_read : (ℕ → List ℕ → Read) → Command → (a : ℕ) (xs : List ℕ) → List ℕ → Read
pair_read r c a xs bs =
    first_part (λ p k. last_part (λ q. build c a xs p q) (head_length c + k) (r (a + (head_length c + k)) (drop k bs))) (r (a + head_length c) bs)
