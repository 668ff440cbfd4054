-- The number of a refusal's row, and that of a call: 0 for one that is not turned down (01, 'Turned down'; 02, items 8 to 14).
use Rattle.std.specs.Prelude.{ℕ, ◌≡◌, Result, Ok, Err}
use Rattle.spec_base.specs.Limits.{length_row, bytes_row, command_row, missing_row, operand_row, depth_row, behind_row, twice_row, unpaused_row, form_row, malformed_row, over_row, bay_row, ceiling_row, position_row, positions_row, unknown_row, litres_row, ledger_row, setpause_row, unrolled_row, recording_row}
use Rattle.limits.specs.declared.rows.Refusal.{Refusal}
use Rattle.limits.specs.declared.rows.Refusal.TheVariants as refusals

abbrev pub row_number : Refusal → ℕ
row_number refusals.Length = length_row
row_number refusals.Bytes = bytes_row
row_number refusals.Command = command_row
row_number refusals.Missing = missing_row
row_number refusals.Operand = operand_row
row_number refusals.Depth = depth_row
row_number refusals.Behind = behind_row
row_number refusals.Twice = twice_row
row_number refusals.Unpaused = unpaused_row
row_number refusals.Form = form_row
row_number refusals.Malformed = malformed_row
row_number refusals.Over = over_row
row_number refusals.Bay = bay_row
row_number refusals.Ceiling = ceiling_row
row_number refusals.Position = position_row
row_number refusals.Positions = positions_row
row_number refusals.Unknown = unknown_row
row_number refusals.Litres = litres_row
row_number refusals.Ledger = ledger_row
row_number refusals.Setpause = setpause_row
row_number refusals.Unrolled = unrolled_row
row_number refusals.Recording = recording_row

abbrev pub call_number : {A : Type 0} → Result A Refusal → ℕ
call_number (Ok done) = 0
call_number (Err refusal) = row_number refusal

-- r is turned down, by the row of that number
abbrev pub Refuses : {A : Type 0} → Result A Refusal → (number : ℕ) → Type 0
Refuses r number = (refusal : Refusal) × (r ≡ Err refusal) × (row_number refusal ≡ number)
