-- The records of a bay by itself, worked by hand (02, item 10).
use Rattle.std.specs.Prelude.{ℕ, List, [], ◌∷◌, map, replicate}
use Rattle.spec_tick.specs.StateRecord.{state_record}
use Rattle.spec_tick.specs.AnswerRecord.{answer_length, answer_record}
use Rattle.spec_tick.specs.Record.{record_of, number_in, panel_length}
use Rattle.spec_bay.specs.Called.{lent_after, first}
use Rattle.spec_box.specs.Box.{admit, tick, service, panel}
use Rattle.spec_box.specs.Lists.{Request, box_after}
use Rattle.spec_box.specs.Instants.{second, records_in}
use Rattle.theory_box.specs.Worked.{ends, admitted, released, ticked, Line, line, alone, empty_stretch}
use Rattle.theory_box.specs.WorkedPositions.{two_stages, saved, back_to}

-- a tick with a record's buffer of this length
abbrev ticked_into : (length : ℕ) → Request
ticked_into n = record { bay = 0; call = tick 0 (replicate answer_length 77) (replicate n 77) }

-- ---- the numbers of the instants: two, one turned down, a third after a coming back, and the first after a new admission
abbrev instants : List Request
instants =
    admitted 0 two_stages
    ∷ ticked 0
    ∷ saved 0 1
    ∷ ticked 0
    ∷ ticked_into 36
    ∷ back_to 0 1
    ∷ ticked 0
    ∷ released 0
    ∷ admitted 0 two_stages
    ∷ ticked 0
    ∷ []

abbrev pub numbers : List ℕ
numbers = map number_in (records_in (alone 0) 0 empty_stretch instants)

-- ---- the record's buffer of a machine that is over
abbrev pub left_by_refusal : List ℕ
left_by_refusal =
    second (lent_after (alone 0 (box_after (alone 0) empty_stretch (admitted 0 ends ∷ ticked 0 ∷ [])) 0 (ticked 0).call))

-- ---- the readers: a record of this length that begins with 5, and a view of this length
abbrev service_into : (length view : ℕ) → Request
service_into n v = record { bay = 0; call = service (5 ∷ replicate n 0) (replicate v 77) }

abbrev panel_into : (length view : ℕ) → Request
panel_into n v = record { bay = 0; call = panel (5 ∷ replicate n 0) (replicate v 77) }

-- each with its number and the first byte of the buffer
abbrev pub lengths : List Line
lengths =
    line (service_into 36 37) 13 77
    ∷ line (panel_into 36 13) 13 77
    ∷ line (admitted 0 two_stages) 0 0
    ∷ line (ticked_into 36) 1 77
    ∷ line (ticked_into 38) 1 77
    ∷ line (ticked_into 37) 0 1
    ∷ line (service_into 36 37) 0 5
    ∷ line (service_into 35 37) 1 77
    ∷ line (service_into 37 37) 1 77
    ∷ line (service_into 36 36) 1 77
    ∷ line (panel_into 36 13) 0 5
    ∷ line (panel_into 35 13) 1 77
    ∷ line (panel_into 36 12) 1 77
    ∷ line (panel_into 36 37) 1 77
    ∷ []

-- ---- the panel of a bay with service-only signals 2 and 3: instant 258 on inputs 0 and 2, which emits 1 and 3
abbrev hiding : Request
hiding = record { bay = 0; call = admit (record { sequence = two_stages; read_back = 0; service_only = 0x0C }) }

abbrev pub shown_on_panel : List ℕ
shown_on_panel =
    first (lent_after (alone 0 (box_after (alone 0) empty_stretch (hiding ∷ [])) 0
    (panel (record_of 258 0x05 (answer_record 1 0 0 0x0A 4) (state_record 1 2)) (replicate panel_length 77))))
