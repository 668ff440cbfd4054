-- The tick of a bay in the layers of the code: the state, then the litres, then the record.
use Rattle.std.specs.Prelude.{ℕ, zero, suc, cond, List, [], ◌∷◌}
use Rattle.spec_base.specs.Bytes.{le_bytes}
use Rattle.spec_base.specs.Limits.{number_bytes}
use Rattle.spec_base.specs.Parts.{put}
use Rattle.spec_tick.specs.StateRecord.{state_length}
use Rattle.spec_tick.specs.Record.{record_of}
use Rattle.spec_tick.specs.Recording.{following}
use Rattle.spec_tick.specs.Tick.{Outcome, outcome, tick_of}
use Rattle.spec_bay.specs.Ledgers.{passes, added}
use Rattle.spec_bay.specs.Called.{Called, called, first}
use Rattle.spec_bay.specs.Stretch.{state_at, count_at, sequence_in, read_back_in, state_in, last_number_in, ledger_in, with_ledger}
use Rattle.spec_bay.specs.BayCalls.{delivering}

-- what a tick makes of the state record, put where the slot has it
abbrev pub state_kept : List ℕ → Outcome → Called
state_kept s (outcome number state answer) = called number (put state_at state_length state s) (answer ∷ [])

-- the tick on the sequence, the state and the read-back set that the bay holds, without ledger and record
unfoldable pub bay_step_of : (s : List ℕ) (e : ℕ) (answer : List ℕ) → Called
bay_step_of s e answer = state_kept s (tick_of (sequence_in s) (state_in s) e (read_back_in s) answer)

-- its litres are entered in the ledger of the bay number, or 19
abbrev pub charged : (s : List ℕ) (litres : ℕ → ℕ) (answer : List ℕ) → Called → Called
charged s litres answer (called zero after lent) =
    cond (passes (ledger_in s) litres) (called 19 s (answer ∷ [])) (called 0 (with_ledger (added litres (ledger_in s)) after) lent)
charged s litres answer (called (suc n) after lent) = called (suc n) after lent

unfoldable pub bay_charged_of : (s : List ℕ) (e : ℕ) (answer : List ℕ) → Called
bay_charged_of s e answer = charged s (delivering s e) answer (bay_step_of s e answer)

-- an instant is counted, and leaves its record
abbrev pub counted : List ℕ → List ℕ
counted s = put count_at number_bytes (le_bytes number_bytes (following (last_number_in s))) s

abbrev pub recorded : (e : ℕ) (trace : List ℕ) → Called → Called
recorded e trace (called zero s lent) = called 0 (counted s) (first lent ∷ record_of (following (last_number_in s)) e (first lent) (state_in s) ∷ [])
recorded e trace (called (suc n) s lent) = called (suc n) s (first lent ∷ trace ∷ [])
