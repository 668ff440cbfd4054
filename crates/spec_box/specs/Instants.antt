-- The records that the instants of a bay leave over a list of calls (02, item 10), and what 02 says of them, each sentence a
-- predicate of any function in the place of `call_of`, which theory_box has of `call_of`.
use Rattle.std.specs.Prelude.{ℕ, ◌+◌, ◌≤◌, ◌<◌, min, ◌≡◌, ◌≢◌, ◌↔◌, List, [], ◌∷◌, length}
use Rattle.std.proofs.Math.Option.{some}
use Rattle.std.proofs.Math.ListN.{get_elem?}
use Rattle.spec_base.specs.Limits.{last_number, bay_count, length_row}
use Rattle.spec_tick.specs.Record.{recordLength, record_of, number_in, panel_length, panel_of, Bytes, Agree}
use Rattle.spec_tick.specs.Recording.{following}
use Rattle.spec_bay.specs.Called.{called, number, memory_after, lent_after, first}
use Rattle.spec_bay.specs.Stretch.{length_in, state_in, last_number_in, service_only_in}
use Rattle.spec_box.specs.Box.{box_length, stretch_of, Call, tick, service, panel}
use Rattle.spec_box.specs.Lists.{Calling, Request, box_after}
use Rattle.spec_box.specs.BayRuns.{over_ticks, counts_as_instant, OverBay}

-- the second of the buffers: the record's
abbrev pub second : List (List ℕ) → List ℕ
second [] = []
second (b ∷ bs) = first bs

-- the records of a bay's instants, in their order
abbrev pub records_in : Calling → (bay : ℕ) → List ℕ → List Request → List (List ℕ)
records_in = over_ticks counts_as_instant (λ box e answer trace o. second (lent_after o))

-- ---- what 02 says
-- 'Each instant of a bay leaves in lent memory a record': number, inputs, answer and next state, in every box, whatever its bytes; the
-- number follows the one that the bay had, and the bay has it from then on
abbrev pub RecordIs : Calling → Type 0
RecordIs call =
    (box : List ℕ) (bay e : ℕ) (answer trace : List ℕ) → number (call box bay (tick e answer trace)) ≡ 0
    → (second (lent_after (call box bay (tick e answer trace)))
    ≡ record_of (following (last_number_in (stretch_of bay box))) e (first (lent_after (call box bay (tick e answer trace))))
    (state_in (stretch_of bay (memory_after (call box bay (tick e answer trace))))))
    × (last_number_in (stretch_of bay box) ≤ last_number
    → last_number_in (stretch_of bay (memory_after (call box bay (tick e answer trace)))) ≡ following (last_number_in (stretch_of bay box)))

-- 'from 1 at admission, going on after coming back to a position, staying at the greatest', whatever calls come in between
abbrev pub NumberedFromOne : Calling → Type 0
NumberedFromOne call =
    OverBay call (λ bay t from xs. (i : ℕ) (r : List ℕ) → get_elem? (records_in call bay from xs) i ≡ some r → number_in r ≡ min (i + 1) last_number)

-- 'a set of service-only signals, fixed on admission'
abbrev pub ServiceOnlyFixed : Calling → Type 0
ServiceOnlyFixed call = OverBay call (λ bay t from xs. service_only_in (stretch_of bay (box_after call from xs)) ≡ t.service_only)

-- 'The bay's service reader shows the record whole', and the panel reader what a panel may see; both leave the box
abbrev pub ServiceShows : Calling → Type 0
ServiceShows call =
    (box : List ℕ) (bay : ℕ) (trace view : List ℕ) → number (call box bay (service trace view)) ≡ 0
    → call box bay (service trace view) ≡ called 0 box (trace ∷ [])

abbrev pub PanelShows : Calling → Type 0
PanelShows call =
    (box : List ℕ) (bay : ℕ) (trace view : List ℕ) → number (call box bay (panel trace view)) ≡ 0
    → call box bay (panel trace view) ≡ called 0 box (panel_of (service_only_in (stretch_of bay box)) trace ∷ [])

-- 'Two records give one bay's panel the same bytes exactly if they agree in number, code and, service-only signals aside, inputs and
-- emitted set'
abbrev pub PanelsAlike : Calling → Type 0
PanelsAlike call =
    (box : List ℕ) (bay : ℕ) (r s view view' : List ℕ) → Bytes r → Bytes s
    → number (call box bay (panel r view)) ≡ 0 → number (call box bay (panel s view')) ≡ 0
    → (lent_after (call box bay (panel r view)) ≡ lent_after (call box bay (panel s view')))
    ↔ Agree (service_only_in (stretch_of bay box)) r s

-- 'number 1 for a record or service bytes not of 37, or panel bytes not 13', of a filled bay
abbrev pub ReaderNumbers : Calling → ((trace view : List ℕ) → Call) → (viewLength : ℕ) → Type 0
ReaderNumbers call reader viewLength =
    (box : List ℕ) → length box ≡ box_length → (bay : ℕ) → bay < bay_count → length_in (stretch_of bay box) ≢ 0 → (trace view : List ℕ)
    → ((number (call box bay (reader trace view)) ≡ 0) ↔ ((length trace ≡ recordLength) × (length view ≡ viewLength)))
    × (number (call box bay (reader trace view)) ≢ 0 → number (call box bay (reader trace view)) ≡ length_row)

abbrev pub RecordLength : Calling → Type 0
RecordLength call =
    (box : List ℕ) → length box ≡ box_length → (bay : ℕ) → bay < bay_count → length_in (stretch_of bay box) ≢ 0
    → (e : ℕ) (answer trace : List ℕ) → length trace ≢ recordLength → number (call box bay (tick e answer trace)) ≡ length_row

pub record RecordDemands (call : Calling) : Type 0 where
  pub record_is : RecordIs call
  pub numbered_from_one : NumberedFromOne call
  pub service_only_fixed : ServiceOnlyFixed call
  pub service_shows : ServiceShows call
  pub panel_shows : PanelShows call
  pub panels_alike : PanelsAlike call
  pub service_numbers : ReaderNumbers call service recordLength
  pub panel_numbers : ReaderNumbers call panel panel_length
  pub record_length : RecordLength call
