-- The reader (01, 'Commands' and rows 3 to 6 of 'Turned down'; 02, item 12, row 18): from bytes to the statement at their front with the
-- count of its bytes, or the number of the first row that holds, command by command from the left.
use Rattle.std.specs.Prelude.{ℕ, zero, suc, ◌+◌, ◌-◌, cond, List, [], ◌∷◌, drop, ltb}
use Rattle.std.proofs.Math.Option.{Option, none, some}
use Rattle.spec_language.specs.Statement.{Statement, nothing}
use Rattle.spec_base.specs.Limits.{max_depth, max_signals, command_row, missing_row, operand_row, depth_row, litres_row}
use Rattle.spec_sequence.specs.Commands.{Command, command_of, operandCount, partCount, in_range, litres_fit, head_length, declares, build}

pub data Read : Type 0 where
  accepted : (p : Statement) (count : ℕ) → Read
  refused : (number : ℕ) → Read

-- The command at the front of the bytes with its operand bytes, or row 3, 4, 5 or 18.
pub data Front : Type 0 where
  command : (c : Command) (operands : List ℕ) → Front
  bad : (number : ℕ) → Front

abbrev pub after : ℕ → Option (List ℕ) → Option (List ℕ)
after x none = none
after x (some xs) = some (x ∷ xs)

-- the first n bytes, if there are so many
abbrev pub first_bytes : ℕ → List ℕ → Option (List ℕ)
first_bytes zero bs = some []
first_bytes (suc n) [] = none
first_bytes (suc n) (x ∷ bs) = after x (first_bytes n bs)

abbrev pub with_operands : Command → Option (List ℕ) → Front
with_operands c none = bad missing_row
with_operands c (some xs) = cond (in_range c xs) (cond (litres_fit c xs) (command c xs) (bad litres_row)) (bad operand_row)

abbrev pub with_command : Option Command → List ℕ → Front
with_command none bs = bad command_row
with_command (some c) bs = with_operands c (first_bytes (operandCount c) bs)

unfoldable pub front : List ℕ → Front
front [] = bad missing_row
front (b ∷ bs) = with_command (command_of b) bs

-- ---- the parts of a command c at offset a with operands xs, by a reader r of parts, given their offset and their bytes
abbrev pub last_part : (Statement → Statement) → ℕ → Read → Read
last_part f n (accepted p m) = accepted (f p) (n + m)
last_part f n (refused number) = refused number

abbrev pub first_part : (Statement → ℕ → Read) → Read → Read
first_part next (accepted p m) = next p m
first_part next (refused number) = refused number

-- by the number of parts
abbrev pub read_parts : (ℕ → List ℕ → Read) → Command → (a : ℕ) (xs : List ℕ) → ℕ → List ℕ → Read
read_parts r c a xs zero bs = accepted (build c a xs nothing nothing) (head_length c)
read_parts r c a xs (suc zero) bs = last_part (λ p. build c a xs p nothing) (head_length c) (r (a + head_length c) (drop (head_length c) bs))
read_parts r c a xs (suc (suc n)) bs =
    first_part
    (λ p m. last_part (λ q. build c a xs p q) (head_length c + m) (r (a + (head_length c + m)) (drop (head_length c + m) bs)))
    (r (a + head_length c) (drop (head_length c) bs))

-- row 6: no depth left for the command, or no signal left for a signal command
abbrev pub too_deep : Front → Read
too_deep (bad number) = refused number
too_deep (command c xs) = refused depth_row

abbrev pub read_command : (ℕ → ℕ → List ℕ → Read) → (signals a : ℕ) → List ℕ → Front → Read
read_command r signals a bs (bad number) = refused number
read_command r signals a bs (command c xs) =
    cond (ltb signals (declares c)) (refused depth_row) (read_parts (r (signals - declares c)) c a xs (partCount c) bs)

-- The statement at offset a, where `depth` levels and `signals` signal commands are still allowed.
unfoldable pub read : (depth signals a : ℕ) → List ℕ → Read
read zero signals a bs = too_deep (front bs)
read (suc depth) signals a bs = read_command (read depth) signals a bs (front bs)

-- the statement at the front of a whole sequence
abbrev pub read_all : List ℕ → Read
read_all bs = read max_depth max_signals 0 bs
