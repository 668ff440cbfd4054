-- The calls of a bay on its slot (02, items 8 to 12): the number, the slot after the call and the lent buffers after it.
use Rattle.std.specs.Prelude.{ℕ, zero, suc, ◌+◌, ◌&&◌, cond, List, [], ◌∷◌, eqb, leb, length}
use Rattle.std.proofs.Math.Option.{Option, some, none}
use Rattle.spec_language.specs.Ceiling.{ceiling}
use Rattle.spec_sequence.specs.Program.{program}
use Rattle.spec_sequence.specs.Check.{Checked, sound, bad, checked}
use Rattle.spec_base.specs.Parts.{put}
use Rattle.spec_tick.specs.StateRecord.{state_length, state_record, phase_in, labels_in}
use Rattle.spec_bay.specs.Table.{table_length, lookup, Kept, kept, save_of, forget_of}
use Rattle.spec_base.specs.Bytes.{le_bytes}
use Rattle.spec_base.specs.Limits.{number_bytes, shared_ceiling, length_row, ceiling_row, position_row, ledger_row}
use Rattle.spec_tick.specs.Record.{recordLength, record_of, panel_length, panel_of}
use Rattle.spec_tick.specs.Recording.{following}
use Rattle.spec_bay.specs.Preview.{Previewed, previewed, preview_of}
use Rattle.spec_tick.specs.Tick.{Outcome, outcome, tick_of}
use Rattle.spec_tick.specs.Deliveries.{deliveries}
use Rattle.spec_bay.specs.Ledgers as Ledgers
use Rattle.spec_bay.specs.Ledgers.{reading_length, passes, added, reading_of}
use Rattle.spec_bay.specs.Called.{Called, called}
use Rattle.spec_bay.specs.Stretch.{state_at, count_at, positions_at, sequence_in, read_back_in, service_only_in, state_in, last_number_in, positions_in, ledger_in, vacated, with_ledger, Terms, filled}

-- 02, item 12: what the tick on what the bay holds delivers to a farm; nothing where it is turned down, and nothing in a wrong instant
abbrev pub delivering : (s : List ℕ) (e farm : ℕ) → ℕ
delivering s e = deliveries (sequence_in s) (read_back_in s) (state_in s) e

-- THE TICK (02, items 8, 10 and 12), by what the tick on its own comes to, with these litres: one turned down writes nothing, nor does one
-- answered '19, last of all', if 'the exact sum of a farm's total and its litres would pass 16,777,216'; an instant moves the state,
-- enters its litres, is counted, and leaves its number, inputs, answer and next state in the buffer `trace`
abbrev pub by_outcome : (s : List ℕ) (e : ℕ) (answer trace : List ℕ) (litres : ℕ → ℕ) → Outcome → Called
by_outcome s e answer trace litres (outcome (suc n) state answered) = called (suc n) s (answer ∷ trace ∷ [])
by_outcome s e answer trace litres (outcome zero state answered) =
    cond (passes (ledger_in s) litres) (called ledger_row s (answer ∷ trace ∷ []))
    (called 0
    (put count_at number_bytes (le_bytes number_bytes (following (last_number_in s)))
    (with_ledger (added litres (ledger_in s)) (put state_at state_length state s)))
    (answered ∷ record_of (following (last_number_in s)) e answered state ∷ []))

-- number 1 for a record's buffer of another length, then the tick on the sequence, the state and the read-back set that the bay holds
unfoldable pub bay_tick_of : (s : List ℕ) (e : ℕ) (answer trace : List ℕ) → Called
bay_tick_of s e answer trace =
    cond (eqb (length trace) recordLength)
    (by_outcome s e answer trace (delivering s e) (tick_of (sequence_in s) (state_in s) e (read_back_in s) answer))
    (called length_row s (answer ∷ trace ∷ []))

unfoldable pub bay_release_of : (s : List ℕ) → Called
bay_release_of s = called 0 (vacated s) []

-- an admission: 'if Item 6's ceilings of those present and its own sum to no more'; `present` is what those present have
abbrev pub by_check : (present : ℕ) (s : List ℕ) → Terms → Checked → Called
by_check present s t (bad number) = called number s []
by_check present s t (sound p) =
    cond (leb (present + ceiling (program t.read_back p)) shared_ceiling) (called 0 (filled t (ceiling (program t.read_back p)) s) [])
    (called ceiling_row s [])

unfoldable pub bay_admit_of : (present : ℕ) (s : List ℕ) → Terms → Called
bay_admit_of present s t = by_check present s t (checked t.sequence t.read_back)

-- ---- positions (02, item 9)
-- what a call makes of the table, put where the slot has it
abbrev pub positions_kept : List ℕ → Kept → Called
positions_kept s (kept number t) = called number (put positions_at table_length t s) []

-- 'the label set of a waiting machine': 15 for one that is not waiting, then 16 for a seventeenth name
unfoldable pub bay_save_of : (s : List ℕ) (name : ℕ) → Called
bay_save_of s name =
    cond (eqb (phase_in (state_in s)) 1) (positions_kept s (save_of name (labels_in (state_in s)) (positions_in s))) (called position_row s [])

unfoldable pub bay_forget_of : (s : List ℕ) (name : ℕ) → Called
bay_forget_of s name = positions_kept s (forget_of name (positions_in s))

-- 'Coming back sets phase and labels', whatever the state was
abbrev pub restored : List ℕ → Option ℕ → Called
restored s none = called position_row s []
restored s (some labels) = called 0 (put state_at state_length (state_record 1 labels) s) []

unfoldable pub bay_restore_of : (s : List ℕ) (name : ℕ) → Called
bay_restore_of s name = restored s (lookup name (positions_in s))

-- ---- the readers of a record (02, item 10): any record of 37 bytes; they leave the slot
abbrev pub showing : (s : List ℕ) (shown : List ℕ) (viewLength : ℕ) (trace view : List ℕ) → Called
showing s shown viewLength trace view =
    cond (eqb (length trace) recordLength && eqb (length view) viewLength) (called 0 s (shown ∷ [])) (called length_row s (view ∷ []))

-- 'The bay's service reader shows the record whole'
unfoldable pub bay_service_of : (s trace view : List ℕ) → Called
bay_service_of s trace view = showing s trace recordLength trace view

-- 'The bay's panel reader shows .. number, code, inputs and emitted set, with service-only signals cleared in both sets'
unfoldable pub bay_panel_of : (s trace view : List ℕ) → Called
bay_panel_of s trace view = showing s (panel_of (service_only_in s) trace) panel_length trace view

-- ---- a preview (02, item 11): 'The machine stays', and with it the slot
abbrev pub stretch_kept : List ℕ → Previewed → Called
stretch_kept s (previewed number buffer) = called number s (buffer ∷ [])

unfoldable pub bay_preview_of : (s : List ℕ) (e unknown : ℕ) (buffer : List ℕ) → Called
bay_preview_of s e unknown buffer = stretch_kept s (preview_of (sequence_in s) (state_in s) e unknown (read_back_in s) buffer)

-- ---- the ledger of the bay number (02, item 12)
-- 'Reading it writes the 32 totals, then the ledger's total .. into 132 lent bytes'; the slot stays
unfoldable pub bay_ledger_of : (s totals : List ℕ) → Called
bay_ledger_of s totals = cond (eqb (length totals) reading_length) (called 0 s (reading_of (ledger_in s) ∷ [])) (called length_row s (totals ∷ []))

-- 'cleared only by a call for the new year'
unfoldable pub bay_new_year_of : (s : List ℕ) → Called
bay_new_year_of s = called 0 (with_ledger Ledgers.cleared s) []
