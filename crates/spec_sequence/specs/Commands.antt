-- The table of commands (01, 'Commands'; 02, items 1 and 12): the command of a byte, its operands and its parts.
use Rattle.std.specs.Prelude.{ℕ, zero, suc, ◌+◌, Bool, true, ◌&&◌, List, [], ◌∷◌, get_or, drop, leb, ltb}
use Rattle.std.proofs.Math.Option.{Option, none, some}
use Rattle.spec_language.specs.Statement.{local, pure, litres, Statement}
use Rattle.spec_base.specs.Limits.{label_count, signal_count, max_exit}
use Rattle.spec_sequence.specs.Amounts.{amount_size, is_amount, amount_in}

pub data Command : Type 0 where
  nothing pause emit exit seq par loop present signal try setpause suspend deliver : Command

-- the commands of the bytes 00 to 0A, in the order of 01's table, and 02's 0B and 0C
abbrev pub table : List (Option Command)
table =
    some Command.nothing
    ∷ some Command.pause
    ∷ some Command.emit
    ∷ some Command.exit
    ∷ some Command.seq
    ∷ some Command.par
    ∷ some Command.loop
    ∷ some Command.present
    ∷ some Command.signal
    ∷ some Command.try
    ∷ some Command.setpause
    ∷ some Command.suspend
    ∷ some Command.deliver
    ∷ []

-- no command above
unfoldable pub command_of : ℕ → Option Command
command_of b = get_or table b none

-- the operand bytes of a command, counted
abbrev pub operandCount : Command → ℕ
operandCount nothing = 0
operandCount pause = 1
operandCount emit = 1
operandCount exit = 1
operandCount seq = 0
operandCount par = 0
operandCount loop = 0
operandCount present = 1
operandCount signal = 1
operandCount try = 0
operandCount setpause = 1
operandCount suspend = 1
operandCount deliver = 1 + amount_size

abbrev pub partCount : Command → ℕ
partCount nothing = 0
partCount pause = 0
partCount emit = 0
partCount exit = 0
partCount seq = 2
partCount par = 2
partCount loop = 1
partCount present = 2
partCount signal = 1
partCount try = 1
partCount setpause = 0
partCount suspend = 1
partCount deliver = 0

-- the n bytes at offset i
abbrev pub bytes_at : (i n : ℕ) → List ℕ → List ℕ
bytes_at i zero bs = []
bytes_at i (suc n) bs = get_or bs i 0 ∷ bytes_at (suc i) n bs

-- the operand bytes of the command c at the front of the bytes
abbrev pub operands_of : Command → List ℕ → List ℕ
operands_of c bs = bytes_at 1 (operandCount c) bs

-- the first operand byte
abbrev pub first_operand : List ℕ → ℕ
first_operand xs = get_or xs 0 0

-- are the operand bytes xs in their ranges?
abbrev pub in_range : Command → List ℕ → Bool
in_range nothing xs = true
in_range pause xs = ltb (first_operand xs) label_count
in_range emit xs = ltb (first_operand xs) signal_count
in_range exit xs = leb 1 (first_operand xs) && leb (first_operand xs) max_exit
in_range seq xs = true
in_range par xs = true
in_range loop xs = true
in_range present xs = ltb (first_operand xs) signal_count
in_range signal xs = ltb (first_operand xs) signal_count
in_range try xs = true
in_range setpause xs = ltb (first_operand xs) label_count
in_range suspend xs = ltb (first_operand xs) signal_count
in_range deliver xs = ltb (first_operand xs) signal_count

-- 02, item 12: do the operand bytes behind the signal hold litres that an emission can carry?
abbrev pub litres_fit : Command → List ℕ → Bool
litres_fit nothing xs = true
litres_fit pause xs = true
litres_fit emit xs = true
litres_fit exit xs = true
litres_fit seq xs = true
litres_fit par xs = true
litres_fit loop xs = true
litres_fit present xs = true
litres_fit signal xs = true
litres_fit try xs = true
litres_fit setpause xs = true
litres_fit suspend xs = true
litres_fit deliver xs = is_amount (drop 1 xs)

-- the command byte and its operand bytes
abbrev pub head_length : Command → ℕ
head_length c = 1 + operandCount c

-- the signals that a command declares around its part
abbrev pub declares : Command → ℕ
declares nothing = 0
declares pause = 0
declares emit = 0
declares exit = 0
declares seq = 0
declares par = 0
declares loop = 0
declares present = 0
declares signal = 1
declares try = 0
declares setpause = 0
declares suspend = 0
declares deliver = 0

-- the statement of a command at offset a with operand bytes xs and parts p and q; what it does not have is left out
abbrev pub build : Command → (a : ℕ) (xs : List ℕ) (p q : Statement) → Statement
build nothing a xs p q = Statement.nothing
build pause a xs p q = Statement.pause (first_operand xs)
build emit a xs p q = Statement.emit (first_operand xs) pure
build exit a xs p q = Statement.exit (first_operand xs)
build seq a xs p q = Statement.seq p q
build par a xs p q = Statement.par p q
build loop a xs p q = Statement.loop a p
build present a xs p q = Statement.present (first_operand xs) p q
build signal a xs p q = Statement.signal local a (first_operand xs) p
build try a xs p q = Statement.try p
build setpause a xs p q = Statement.setpause (first_operand xs)
build suspend a xs p q = Statement.suspend (first_operand xs) p
build deliver a xs p q = Statement.emit (first_operand xs) (litres (amount_in (drop 1 xs)))
