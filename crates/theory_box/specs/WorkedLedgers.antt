-- The ledger of a bay by itself, worked by hand (02, item 12): numbers and answers of calls, and the total of farm 2 after them.
use Rattle.std.specs.Prelude.{ℕ, List, [], ◌∷◌, ◌++◌, replicate}
use Rattle.spec_bay.specs.Ledgers.{ledger_length, reading_length, total_in}
use Rattle.spec_bay.specs.Stretch.{ledger_in}
use Rattle.spec_box.specs.Box.{ledger, new_year}
use Rattle.spec_box.specs.Lists.{Request, box_after}
use Rattle.theory_box.specs.Worked.{admitted, released, ticked, Line, line, alone, empty_stretch}
use Rattle.theory_box.specs.WorkedPositions.{saved, back_to}

-- litres v for farm 2, v as single-precision bytes
abbrev delivery : (v : List ℕ) → List ℕ
delivery v = 0x0C ∷ 0x02 ∷ v

abbrev one : List ℕ
one = 0x00 ∷ 0x00 ∷ 0x80 ∷ 0x3F ∷ []

abbrev five : List ℕ
five = 0x00 ∷ 0x00 ∷ 0xA0 ∷ 0x40 ∷ []

abbrev pub seven : List ℕ
seven = 0x00 ∷ 0x00 ∷ 0xE0 ∷ 0x40 ∷ []

-- 16,777,215 and 16,777,216
abbrev most : List ℕ
most = 0xFF ∷ 0xFF ∷ 0x7F ∷ 0x4B ∷ []

abbrev limit : List ℕ
limit = 0x00 ∷ 0x00 ∷ 0x80 ∷ 0x4B ∷ []

-- litres v, then pause 0, then what follows
abbrev then_pause : (v rest : List ℕ) → List ℕ
then_pause v rest = 0x04 ∷ delivery v ++ (0x04 ∷ 0x01 ∷ 0x00 ∷ rest)

-- 5 litres, a pause, and nothing
abbrev pub five_once : List ℕ
five_once = then_pause five (0x00 ∷ [])

-- 16,777,216 litres, a pause, and one more
abbrev pub one_too_many : List ℕ
one_too_many = then_pause limit (delivery one)

-- 16,777,215 litres, a pause, and two more
abbrev two_more : List ℕ
two_more = then_pause most (0x04 ∷ delivery one ++ delivery one)

-- 16,777,215 litres, a pause, and one more
abbrev oneMore : List ℕ
oneMore = then_pause most (delivery one)

-- 5 litres beside a loop that fails at once: the instant is wrong
abbrev pub five_in_vain : List ℕ
five_in_vain = 0x05 ∷ delivery five ++ (0x06 ∷ 0x00 ∷ [])

-- signal 0, not emitted: 5 litres with it, 7 without
abbrev pub by_run : List ℕ
by_run = 0x08 ∷ 0x00 ∷ 0x07 ∷ 0x00 ∷ delivery five ++ delivery seven

-- ---- calls
abbrev read_into : (length : ℕ) → Request
read_into n = record { bay = 0; call = ledger (replicate n 77) }

abbrev pub year_of : (bay : ℕ) → Request
year_of bay = record { bay = bay; call = new_year }

-- the total of farm 2 after calls to a bay number whose ledger is cleared
abbrev pub total_after : List Request → ℕ
total_after xs = total_in 2 (ledger_in (box_after (alone 0) empty_stretch xs))

-- an empty bay has a ledger too: read into 132 bytes, and cleared
abbrev pub ledgers_calls : List Line
ledgers_calls =
    line (read_into reading_length) 0 0 ∷ line (read_into ledger_length) 1 77 ∷ line (year_of 0) 0 0 ∷ []

-- 19 writes nothing: the machine waits and can be saved, its answer stays, and the same tick gives 19 again until the year is new
abbrev pub turned_down : List Line
turned_down =
    line (admitted 0 one_too_many) 0 0
    ∷ line (ticked 0) 0 1
    ∷ line (ticked 0) 19 77
    ∷ line (saved 0 1) 0 0
    ∷ line (ticked 0) 19 77
    ∷ line (year_of 0) 0 0
    ∷ line (ticked 0) 0 0
    ∷ line (ticked 0) 12 77
    ∷ []

-- totals: 16,777,215 and one; 16,777,215 and two, which is turned down; 5 twice, over a coming back, a taking out and an admission;
-- 7 of the chosen run; and none in a wrong instant
abbrev pub filled_up : List Request
filled_up = admitted 0 oneMore ∷ ticked 0 ∷ ticked 0 ∷ []

abbrev pub overfull : List Request
overfull = admitted 0 two_more ∷ ticked 0 ∷ ticked 0 ∷ []

abbrev pub twice : List Request
twice =
    admitted 0 five_once ∷ ticked 0 ∷ saved 0 1 ∷ back_to 0 1 ∷ released 0 ∷ admitted 0 five_once ∷ ticked 0 ∷ []

abbrev pub chosen_run : List Request
chosen_run = admitted 0 by_run ∷ ticked 0 ∷ []

abbrev pub in_vain : List Request
in_vain = admitted 0 five_in_vain ∷ ticked 0 ∷ []
