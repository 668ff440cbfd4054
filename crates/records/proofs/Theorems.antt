-- The theorems of this crate (02, item 10): the fields of a record, the numbers of a recording, and when two records give one panel
-- the same bytes.
use Prim.Native.Nat.{ℕ, ◌+◌, ◌^◌, ◌≤◌, ◌<◌, min}
use mathlib.Core.Path.{◌≡◌}
use mathlib.Core.Logic.{◌↔◌}
use mathlib.Core.Option.{some}
use mathlib.Core.List.{List, map}
use lib.ListN.{length, get_elem?}
use Rattle.spec_base.specs.Limits.{signal_bytes, number_bytes, last_number}
use Rattle.spec_tick.specs.StateRecord.{state_length}
use Rattle.spec_tick.specs.AnswerRecord.{answer_length}
use Rattle.spec_tick.specs.Tick.{tick_of}
use Rattle.spec_tick.specs.Demands.{outcomes, cleared}
use Rattle.spec_tick.specs.Record.{recordLength, record_of, number_in, input_in, answer_in, state_in, panel_length, panel_of, Agree, Bytes}
use Rattle.spec_tick.specs.Recording.{following, recording_of, call_on, records_of}
use Rattle.records.proofs.Records as records
use Rattle.records.proofs.Panels as panels
use Rattle.records.proofs.Recordings as recordings

-- RECORDS
pub length_record : (n e : ℕ) (answer state : List ℕ) → length answer ≡ answer_length → length state ≡ state_length
    → length (record_of n e answer state) ≡ recordLength
length_record = records.record_sized

pub fields : (n e : ℕ) (answer state : List ℕ) → length answer ≡ answer_length → length state ≡ state_length
    → (n < 256 ^ number_bytes → number_in (record_of n e answer state) ≡ n)
    × (e < 256 ^ signal_bytes → input_in (record_of n e answer state) ≡ e)
    × (answer_in (record_of n e answer state) ≡ answer) × (state_in (record_of n e answer state) ≡ state)
fields n e answer state a s = (
  records.number-field n e answer state,
  records.input-field n e answer state,
  records.answer-field n e answer state a s,
  records.state-field n e answer state a s,
)

-- RECORDINGS are those of a list of ticks from a cleared record
pub recording_is : (sequence : List ℕ) (read_back : ℕ) (es : List ℕ)
    → recording_of sequence read_back es ≡ records_of 1 es (outcomes tick_of sequence read_back cleared (map call_on es))
recording_is = recordings.recording_is

-- NUMBERS count on and stay at the greatest; those of a recording are 1, 2, 3 ..
pub following-is : (n : ℕ) → n ≤ last_number → following n ≡ min (n + 1) last_number
following-is = recordings.following-is

pub number_at : (sequence : List ℕ) (read_back : ℕ) (es : List ℕ) (i : ℕ) (r : List ℕ)
    → get_elem? (recording_of sequence read_back es) i ≡ some r → number_in r ≡ min (i + 1) last_number
number_at = recordings.number_at

-- PANEL: 13 bytes, the same of two records exactly if they agree in number, code and, service-only signals aside, inputs and
-- emitted set
pub length_panel : (service_only : ℕ) (r : List ℕ) → length (panel_of service_only r) ≡ panel_length
length_panel = panels.length_panel

pub panel_alike : (service_only : ℕ) (r s : List ℕ) → Bytes r → Bytes s
    → (panel_of service_only r ≡ panel_of service_only s) ↔ Agree service_only r s
panel_alike = panels.panel_alike
