-- Boxes that are not the box on paper, with a slip each, and the lists of calls that tell.
use Rattle.std.specs.Prelude.{ℕ, suc, ◌+◌, ◌*◌, ◌%◌, not, ◌&&◌, cond, List, [], ◌∷◌, length, replicate, eqb}
use Rattle.spec_base.specs.Limits.{signal_bytes, bay_count}
use Rattle.spec_tick.specs.AnswerRecord.{answer_length}
use Rattle.spec_tick.specs.Record.{recordLength}
use Rattle.spec_tick.specs.Recording.{blank}
use Rattle.spec_base.specs.Parts.{slot, put, zeros}
use Rattle.spec_bay.specs.Names.{is_known}
use Rattle.spec_bay.specs.Table.{lookup}
use Rattle.spec_bay.specs.Ledgers.{ledger_length, reading_length}
use Rattle.spec_bay.specs.Called.{Called, called, number, memory_after, lent_after, first}
use Rattle.spec_bay.specs.Stretch.{sequence_at, read_back_at, bay_length, stretch_length, is_empty, positions_in, Terms}
use Rattle.spec_box.specs.Box.{stretch_of, Call, admit, release, tick, save, restore, ledger, buffers, call_of}
use Rattle.spec_box.specs.Lists.{Calling, Request}

-- ---- calls to bay 0
abbrev pub to : Call → Request
to c = record { bay = 0; call = c }

abbrev pub instant : Call
instant = tick 0 blank (replicate recordLength 0)

abbrev pub reading : Call
reading = ledger (replicate reading_length 0)

abbrev pub alone : (sequence : List ℕ) → Terms
alone sequence = record { sequence = sequence; read_back = 0; service_only = 0 }

-- ---- the sequence that is held changes: pause 0, emit 0, pause 1, where from a second position on the emission is of signal 1. Both
-- sequences have the same length, labels and ceiling, and no claim about one call sees it
abbrev pub emits_zero : List ℕ
emits_zero = 0x04 ∷ 0x04 ∷ 0x01 ∷ 0x00 ∷ 0x02 ∷ 0x00 ∷ 0x01 ∷ 0x01 ∷ []

abbrev pub changes_sequence : Calling
changes_sequence box bay c =
    let o = call_of box bay c in
    cond (is_known (lookup 2 (positions_in (stretch_of bay (memory_after o)))))
    (called (number o) (put (bay * stretch_length + (sequence_at + 5)) 1 (1 ∷ []) (memory_after o)) (lent_after o)) o

-- a position before the emission and one behind it, and back to the first
abbrev pub back_before : List Request
back_before =
    to (admit (alone emits_zero)) ∷ to instant ∷ to (save 1) ∷ to instant ∷ to (save 2) ∷ to (restore 1) ∷ to instant ∷ []

-- ---- the ledger is gone with the bay
abbrev pub forgets_at_release : Calling
forgets_at_release box bay c =
    let o = call_of box bay c in
    cond (not (is_empty (stretch_of bay box)) && is_empty (stretch_of bay (memory_after o)))
    (called (number o) (put (bay * stretch_length + bay_length) ledger_length (zeros ledger_length) (memory_after o)) (lent_after o)) o

-- 5 litres for farm 2
abbrev pub delivers_five : List ℕ
delivers_five = 0x0C ∷ 0x02 ∷ 0x00 ∷ 0x00 ∷ 0xA0 ∷ 0x40 ∷ []

abbrev pub taken_out : List Request
taken_out = to (admit (alone delivers_five)) ∷ to instant ∷ to release ∷ to reading ∷ []

-- ---- a bay reads back what the next bay number does
abbrev pub reads_back_neighbour : Calling
reads_back_neighbour box bay c =
    call_of (put (bay * stretch_length + read_back_at) signal_bytes (slot read_back_at signal_bytes (stretch_of (suc bay % bay_count) box)) box) bay c

-- emits signal 0, and beside it pauses where signal 0 is present
abbrev pub waits_if_read : List ℕ
waits_if_read = 0x05 ∷ 0x02 ∷ 0x00 ∷ 0x07 ∷ 0x00 ∷ 0x01 ∷ 0x00 ∷ 0x00 ∷ []

abbrev pub beside_reader : List Request
beside_reader =
    record { bay = 1; call = admit (record { sequence = waits_if_read; read_back = 1; service_only = 0 }) }
    ∷ to (admit (alone waits_if_read))
    ∷ to instant
    ∷ []

-- ---- a ledger that nobody can read: each reading is turned down
abbrev pub hides_ledger : Calling
hides_ledger box bay c =
    let o = call_of box bay c in cond (eqb (length (first (lent_after o))) reading_length) (called 1 box (buffers c)) o

-- ---- instants that tell the plant nothing: answer and record are 00, and the ledger is right
abbrev pub tells_nothing : Calling
tells_nothing box bay c =
    let o = call_of box bay c in
    cond (eqb (number o) 0 && eqb (length (first (lent_after o))) answer_length)
    (called 0 (memory_after o) (zeros answer_length ∷ zeros recordLength ∷ [])) o

-- ---- a position after the delivery, and back to it: the total of a box that rewinds its ledger is then 0 (WrongLedgers)
abbrev pub delivered : List ℕ
delivered = 0x04 ∷ 0x0C ∷ 0x02 ∷ 0x00 ∷ 0x00 ∷ 0xA0 ∷ 0x40 ∷ 0x01 ∷ 0x00 ∷ []

abbrev pub back_behind : List Request
back_behind = to (admit (alone delivered)) ∷ to instant ∷ to (save 1) ∷ to (restore 1) ∷ to reading ∷ []
