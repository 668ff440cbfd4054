-- The widths and limits of 01 and 02, each named once for the definitions; limits names them for the code.
use Rattle.std.specs.Prelude.{ℕ, ◌-◌, ◌^◌}

-- ---- 01, 'Commands', and 02, item 7: labels are 0 to 127, signals 0 to 31, exits 1 to 15
abbrev pub label_count : ℕ
label_count = 128

-- a label set is held in two words of so many bits
abbrev pub word_labels : ℕ
word_labels = 64

abbrev pub signal_count : ℕ
signal_count = 32

abbrev pub max_exit : ℕ
max_exit = 15

-- the greatest command byte (02, items 1 and 12): row 3 begins above it
abbrev pub last_command : ℕ
last_command = 12

-- the outermost command has depth 1
abbrev pub max_depth : ℕ
max_depth = 64

-- signal commands around a command
abbrev pub max_signals : ℕ
max_signals = 6

abbrev pub max_bytes : ℕ
max_bytes = 1024

-- the place of an error of a read-back declaration (02, item 5)
abbrev pub read_back_place : ℕ
read_back_place = 65535

-- the greatest number of litres that an emission carries or a farm's total holds (02, item 12)
abbrev pub litres_limit : ℕ
litres_limit = 16777216

-- ---- 01, 'States and resuming', and 02, items 6 and 7: the bytes of a word of labels, of a label set, of a place, of a signal
-- set and of a number of reactions
abbrev pub word_bytes : ℕ
word_bytes = 8

abbrev pub label_bytes : ℕ
label_bytes = 16

abbrev pub place_bytes : ℕ
place_bytes = 2

abbrev pub signal_bytes : ℕ
signal_bytes = 4

abbrev pub reactions_bytes : ℕ
reactions_bytes = 4

-- how many numbers those hold
abbrev pub reactions_count : ℕ
reactions_count = 256 ^ reactions_bytes

-- ---- 02, item 9: how many positions a bay keeps, and the bytes of a position's name
abbrev pub max_positions : ℕ
max_positions = 16

abbrev pub name_bytes : ℕ
name_bytes = 4

-- ---- 02, item 10: the bytes of the number of an instant, and the greatest one
abbrev pub number_bytes : ℕ
number_bytes = 4

abbrev pub last_number : ℕ
last_number = 256 ^ number_bytes - 1

-- ---- 02, item 8: the bays of a box, and 'a shared ceiling of 65,536 reactions an instant'
abbrev pub bay_count : ℕ
bay_count = 8

abbrev pub shared_ceiling : ℕ
shared_ceiling = 65536

-- ---- 02, item 11: 'at most six inputs of unknown status'
abbrev pub max_unknown : ℕ
max_unknown = 6

-- ---- 02, item 12: a signal's number is its farm's
abbrev pub farm_count : ℕ
farm_count = signal_count

-- ---- 01, 'One reaction': the kinds of error
-- a loop whose body ended
abbrev pub instantaneous_kind : ℕ
instantaneous_kind = 1

-- not reactive
abbrev pub not_reactive_kind : ℕ
not_reactive_kind = 2

-- not strongly deterministic
abbrev pub not_deterministic_kind : ℕ
not_deterministic_kind = 3

-- ---- 01, 'Turned down', and 02, items 8 to 14: the numbers that turn a call down
-- a lent buffer's length
abbrev pub length_row : ℕ
length_row = 1

-- a sequence of no bytes or too many
abbrev pub bytes_row : ℕ
bytes_row = 2

-- a byte that is no command
abbrev pub command_row : ℕ
command_row = 3

-- an operand or a statement missing
abbrev pub missing_row : ℕ
missing_row = 4

-- an operand outside its range
abbrev pub operand_row : ℕ
operand_row = 5

-- too deep, or too many signals around
abbrev pub depth_row : ℕ
depth_row = 6

-- bytes behind the statement
abbrev pub behind_row : ℕ
behind_row = 7

-- two pauses with one label
abbrev pub twice_row : ℕ
twice_row = 8

-- a setpause whose label has no pause
abbrev pub unpaused_row : ℕ
unpaused_row = 9

-- not well-formed
abbrev pub form_row : ℕ
form_row = 10

-- a malformed state
abbrev pub malformed_row : ℕ
malformed_row = 11

-- a machine that is over
abbrev pub over_row : ℕ
over_row = 12

-- no such bay
abbrev pub bay_row : ℕ
bay_row = 13

-- the shared ceiling
abbrev pub ceiling_row : ℕ
ceiling_row = 14

-- not waiting, or no such position
abbrev pub position_row : ℕ
position_row = 15

-- too many positions
abbrev pub positions_row : ℕ
positions_row = 16

-- too many unknown inputs
abbrev pub unknown_row : ℕ
unknown_row = 17

-- litres outside their range
abbrev pub litres_row : ℕ
litres_row = 18

-- a farm's total that would pass the limit
abbrev pub ledger_row : ℕ
ledger_row = 19

-- a setpause in a sequence to unroll
abbrev pub setpause_row : ℕ
setpause_row = 20

-- a result too long or too deep
abbrev pub unrolled_row : ℕ
unrolled_row = 21

-- a recording that is no whole number of records
abbrev pub recording_row : ℕ
recording_row = 22
