-- The slot of a bay as bytes (02, item 8): what its admission fixes, what its calls move, and behind both what outlives its
-- release, the ledger of the bay number. A box is eight of them.
use Rattle.std.specs.Prelude.{ℕ, ◌+◌, Bool, cond, List, length, eqb}
use Rattle.spec_base.specs.Limits.{max_bytes, signal_bytes, reactions_bytes, number_bytes}
use Rattle.spec_base.specs.Bytes.{le_bytes, le_number}
use Rattle.spec_base.specs.Parts.{slot, put, zeros}
use Rattle.spec_tick.specs.StateRecord.{state_length}
use Rattle.spec_bay.specs.Table.{table_length}
use Rattle.spec_bay.specs.Ledgers.{ledger_length}

-- ---- where the fields begin
-- fixed by the admission: the length of the sequence (0: the bay is empty), the sequence, its read-back set, its ceiling and the
-- service-only set (02, item 10)
abbrev pub length_bytes : ℕ
length_bytes = 2

abbrev pub sequence_at : ℕ
sequence_at = length_bytes

abbrev pub read_back_at : ℕ
read_back_at = sequence_at + max_bytes

abbrev pub ceiling_at : ℕ
ceiling_at = read_back_at + signal_bytes

abbrev pub service_at : ℕ
service_at = ceiling_at + reactions_bytes

-- moved by calls: the state record, the number of the last instant (02, item 10) and the positions (02, item 9)
abbrev pub state_at : ℕ
state_at = service_at + signal_bytes

abbrev pub count_at : ℕ
count_at = state_at + state_length

abbrev pub positions_at : ℕ
positions_at = count_at + number_bytes

-- what a release clears ends here, and the ledger of the bay number begins (02, item 12)
abbrev pub bay_length : ℕ
bay_length = positions_at + table_length

abbrev pub stretch_length : ℕ
stretch_length = bay_length + ledger_length

-- ---- the fields
abbrev pub length_in : List ℕ → ℕ
length_in s = le_number (slot 0 length_bytes s)

abbrev pub is_empty : List ℕ → Bool
is_empty s = eqb (length_in s) 0

abbrev pub sequence_in : List ℕ → List ℕ
sequence_in s = slot sequence_at (length_in s) s

abbrev pub read_back_in : List ℕ → ℕ
read_back_in s = le_number (slot read_back_at signal_bytes s)

abbrev pub ceiling_in : List ℕ → ℕ
ceiling_in s = le_number (slot ceiling_at reactions_bytes s)

abbrev pub service_only_in : List ℕ → ℕ
service_only_in s = le_number (slot service_at signal_bytes s)

abbrev pub state_in : List ℕ → List ℕ
state_in s = slot state_at state_length s

-- the number of the last instant; 0 before the first
abbrev pub last_number_in : List ℕ → ℕ
last_number_in s = le_number (slot count_at number_bytes s)

abbrev pub positions_in : List ℕ → List ℕ
positions_in s = slot positions_at table_length s

abbrev pub ledger_in : List ℕ → List ℕ
ledger_in s = slot bay_length ledger_length s

-- the part of the shared ceiling that the bay has
unfoldable pub part_of : List ℕ → ℕ
part_of s = cond (is_empty s) 0 (ceiling_in s)

-- ---- a slot that is written
-- a bay taken out
unfoldable pub vacated : List ℕ → List ℕ
vacated s = put 0 bay_length (zeros bay_length) s

-- the ledger written
abbrev pub with_ledger : (ledger : List ℕ) → List ℕ → List ℕ
with_ledger ledger s = put bay_length ledger_length ledger s

-- what an admission fixes
pub record Terms : Type 0 where
  pub sequence : List ℕ
  pub read_back : ℕ
  pub service_only : ℕ

abbrev pub terms : (sequence : List ℕ) (read_back service_only : ℕ) → Terms
terms sequence read_back service_only = record { sequence = sequence; read_back = read_back; service_only = service_only }

-- a bay admitted: all that a release clears is cleared, and so the machine is fresh
unfoldable pub filled : Terms → (ceiling : ℕ) → List ℕ → List ℕ
filled t ceiling s =
    put service_at signal_bytes (le_bytes signal_bytes t.service_only)
    (put ceiling_at reactions_bytes (le_bytes reactions_bytes ceiling)
    (put read_back_at signal_bytes (le_bytes signal_bytes t.read_back)
    (put sequence_at (length t.sequence) t.sequence
    (put 0 length_bytes (le_bytes length_bytes (length t.sequence))
    (vacated s)))))
