-- Rows 2 to 10 of 01's 'Turned down', and 18 (02, item 12), each as a proposition about the bytes. Commands are met one by one from the left.
use Rattle.std.specs.Prelude.{ℕ, zero, suc, ◌+◌, ◌*◌, ◌≤◌, ◌<◌, ◌≡◌, refl, ◌⊎◌, ◌≢◌, ◌↔◌, true, false, ◌&&◌, cond, List, [], ◌∷◌, ◌++◌, length, drop, replicate, leb, ltb, eqb}
use Rattle.std.proofs.Common.{arith}
use Rattle.std.proofs.Math.Option.{Option, none, some}
use Rattle.spec_language.specs.Statement.{Statement}
use Rattle.spec_language.specs.States.{Distinct, Targeted, WellFormed}
use Rattle.spec_base.specs.Limits.{last_command, max_bytes, max_depth, max_signals, bytes_row, command_row, missing_row, operand_row, depth_row, behind_row, twice_row, unpaused_row, form_row, litres_row}
use Rattle.spec_sequence.specs.Amounts.{IsAmount}
use Rattle.spec_sequence.specs.Commands.{Command, deliver, command_of, operandCount, operands_of, partCount, in_range, head_length, declares}
use Rattle.spec_sequence.specs.Reader.{Front, command, bad, front}
use Rattle.spec_language.specs.Sizes.{signal_nesting}
use Rattle.spec_sequence.specs.Program.{program}
use Rattle.spec_sequence.specs.Writer.{bytes_of, Within, PlacedAt, Written}

-- a statement that is awaited, inside so many commands, so many of them signal commands
pub data Awaited : Type 0 where
  awaits : (around signals : ℕ) → Awaited

-- where reading stands: the offset of the next byte, and the statements awaited, the next one first
pub data Reached : Type 0 where
  at : (offset : ℕ) (awaited : List Awaited) → Reached

-- ---- rows 3 to 6 and 18 at one command: what is wrong where a statement is awaited and these bytes are left
pub data Fault : List ℕ → Awaited → (number : ℕ) → Type 0 where
  -- command byte above 0C
  unknown : {s : Awaited} {b : ℕ} {bs : List ℕ} → last_command < b → Fault (b ∷ bs) s command_row
  -- operand or statement missing at the end
  no_statement : {s : Awaited} → Fault [] s missing_row
  no_operand : {s : Awaited} {b : ℕ} {bs : List ℕ} {c : Command} → command_of b ≡ some c → length bs < operandCount c → Fault (b ∷ bs) s missing_row
  -- operand outside its range
  out_of_range : {s : Awaited} {b : ℕ} {bs : List ℕ} {c : Command} → command_of b ≡ some c → operandCount c ≤ length bs
      → in_range c (operands_of c (b ∷ bs)) ≡ false → Fault (b ∷ bs) s operand_row
  -- 02, item 12: 'at its command right after 5, for v not whole, below 0, minus zero or above 16,777,216'
  no_litres : {s : Awaited} {b : ℕ} {bs : List ℕ} → command_of b ≡ some deliver → operandCount deliver ≤ length bs
      → in_range deliver (operands_of deliver (b ∷ bs)) ≡ true → ¬ IsAmount (drop 1 (operands_of deliver (b ∷ bs))) → Fault (b ∷ bs) s litres_row
  -- depth over 64, or a seventh signal inside six; the command has passed 3, 4, 5 and 18
  too_deep : {d g : ℕ} {bs xs : List ℕ} {c : Command} → front bs ≡ command c xs → max_depth ≤ d → Fault bs (awaits d g) depth_row
  too_many_signals : {d g : ℕ} {bs xs : List ℕ} {c : Command} → front bs ≡ command c xs → max_signals < g + declares c
      → Fault bs (awaits d g) depth_row

-- ---- from one command to the next
abbrev pub enter : (a d g : ℕ) → List Awaited → Front → Option Reached
enter a d g awaited (bad number) = none
enter a d g awaited (command c xs) =
    cond (ltb d max_depth && leb (g + declares c) max_signals)
    (some (at (a + head_length c) (replicate (partCount c) (awaits (suc d) (g + declares c)) ++ awaited)))
    none

abbrev pub next : List ℕ → Option Reached → Option Reached
next bs none = none
next bs (some (at a [])) = none
next bs (some (at a (awaits d g ∷ awaited))) = enter a d g awaited (front (drop a bs))

-- where reading stands after n commands, if all of them are sound
unfoldable pub walk : ℕ → List ℕ → Option Reached
walk zero bs = some (at 0 (awaits 0 0 ∷ []))
walk (suc n) bs = next bs (walk n bs)

-- ---- the rows
-- the bytes are the statement p, which is within the limits and whose places are the offsets of its commands
abbrev pub Spells : List ℕ → Statement → Type 0
Spells bs p = (bs ≡ bytes_of p) × Within max_depth max_signals p × PlacedAt 0 p

-- of a sequence with a read-back set
pub data Row (bs : List ℕ) (read_back : ℕ) : (number : ℕ) → Type 0 where
  -- no bytes or over 1,024
  row_2 : (length bs ≡ 0) ⊎ (max_bytes < length bs) → Row bs read_back bytes_row
  -- rows 3 to 6 and 18 at the first command that is not sound
  row_3_to_6 : (n : ℕ) {a number : ℕ} {s : Awaited} {awaited : List Awaited} → walk n bs ≡ some (at a (s ∷ awaited))
      → Fault (drop a bs) s number → Row bs read_back number
  -- 02, item 5: the bytes begin with a whole statement, and 'the declarations make the nesting of signals exceed six'
  row_6 : {p : Statement} {n : ℕ} → Written max_depth max_signals 0 bs p n → max_signals < signal_nesting (program read_back p)
      → Row bs read_back depth_row
  -- bytes after the statement
  row_7 : (n : ℕ) {a : ℕ} → walk n bs ≡ some (at a []) → a < length bs → Row bs read_back behind_row
  -- two pauses with one label; a setpause whose label has no pause; not well-formed
  row_8 : {p : Statement} → Spells bs p → ¬ Distinct p → Row bs read_back twice_row
  row_9 : {p : Statement} → Spells bs p → ¬ Targeted p → Row bs read_back unpaused_row
  row_10 : {p : Statement} → Spells bs p → ¬ WellFormed p → Row bs read_back form_row

-- The place of a number in the order of the rows: by its size, but 18 right after 5 (02, item 12).
abbrev pub rank : ℕ → ℕ
rank n = cond (eqb n litres_row) 11 (2 * n)

-- A number goes by rows: n is given exactly if row n holds and no row before it does, 0 exactly if none holds.
pub record ByRows (n : ℕ) (Holds : ℕ → Type 0) : Type 0 where
  pub refusal : (m : ℕ) → m ≢ 0 → (n ≡ m) ↔ (Holds m × ((k : ℕ) → rank k < rank m → ¬ Holds k))
  pub acceptance : (n ≡ 0) ↔ ((m : ℕ) → ¬ Holds m)

-- ---- by hand
-- 18 is after 5 and before 6
after_five : (rank 5 < rank 18) × (rank 18 < rank 6)
after_five = (omega arith, omega arith)

-- the litres of 0C 02 00 00 00 3F are its last four bytes
half_a_litre : (s : Awaited) → ¬ IsAmount (0x00 ∷ 0x00 ∷ 0x00 ∷ 0x3F ∷ []) → Fault (0x0C ∷ 0x02 ∷ 0x00 ∷ 0x00 ∷ 0x00 ∷ 0x3F ∷ []) s 18
unfolding command_of
half_a_litre s h = Fault.no_litres {bs = 0x02 ∷ 0x00 ∷ 0x00 ∷ 0x00 ∷ 0x3F ∷ []} refl (omega arith) refl h
