-- Boxes with one slip each in the calls of positions (02, item 9), which break a claim of Positions or of BayRuns.
use Rattle.std.specs.Prelude.{ℕ, ◌+◌, ◌*◌, ◌&&◌, cond, List, [], ◌∷◌, length, eqb, leb}
use Rattle.spec_base.specs.Limits.{max_positions}
use Rattle.spec_base.specs.Bytes.{le_number}
use Rattle.spec_tick.specs.StateRecord.{labels_at, labels_in}
use Rattle.spec_base.specs.Parts.{slot, put}
use Rattle.spec_bay.specs.Names.{is_known}
use Rattle.spec_bay.specs.Table.{table_length, lookup}
use Rattle.box_positions.specs.Places.{names}
use Rattle.spec_bay.specs.Called.{called, memory_after}
use Rattle.spec_bay.specs.Stretch.{sequence_at, state_at, positions_at, stretch_length, sequence_in, state_in, positions_in, vacated}
use Rattle.spec_box.specs.Box.{stretch_of, in_box, call_of}
use Rattle.spec_box.specs.Lists.{Calling}
use Rattle.theory_box.specs.WrongBoxes.{instead, altered}

-- a release that leaves the positions
abbrev pub keeps_positions : Calling
keeps_positions box bay c =
    altered
    (instead 0 (in_box bay box (called 0 (put positions_at table_length (positions_in (stretch_of bay box)) (vacated (stretch_of bay box))) [])))
    (λ name o. o) (λ o. o) c (call_of box bay c)

-- a save under a known name that leaves what was saved first
abbrev pub keeps_first : Calling
keeps_first box bay c =
    altered (λ o. o)
    (λ name o. cond (is_known (lookup name (positions_in (stretch_of bay box)))) (instead 0 (called 0 box []) o) o)
    (λ o. o) c (call_of box bay c)

-- 16 where 16 names are known, before 15 for a machine that is not waiting
abbrev pub full_first : Calling
full_first box bay c =
    altered (λ o. o)
    (λ name. instead 15 (called (cond (leb max_positions (length (names (positions_in (stretch_of bay box))))) 16 15) box []))
    (λ o. o) c (call_of box bay c)

-- a restore that leaves the phase
abbrev pub leaves_phase : Calling
leaves_phase box bay c =
    altered (λ o. o) (λ name o. o)
    (instead 0
    (in_box bay box
    (called 0 (put state_at labels_at (slot state_at labels_at (stretch_of bay box)) (stretch_of bay (memory_after (call_of box bay c)))) [])))
    c (call_of box bay c)

-- pause 0 and emit 8, and then pause 1; and the same with 9 in the place of 8
abbrev pub eight_first : List ℕ
eight_first = 0x04 ∷ 0x04 ∷ 0x01 ∷ 0x00 ∷ 0x02 ∷ 0x08 ∷ 0x01 ∷ 0x01 ∷ []

abbrev nine_first : List ℕ
nine_first = 0x04 ∷ 0x04 ∷ 0x01 ∷ 0x00 ∷ 0x02 ∷ 0x09 ∷ 0x01 ∷ 0x01 ∷ []

-- a save that puts the second for the first while the machine waits at label 1, from where the first part is not reached: length, labels,
-- ceiling and litres are the same, and no answer tells of it until the bay comes back to label 0
abbrev pub changes_emission : Calling
changes_emission box bay c =
    altered (λ o. o)
    (λ name o.
    cond (eqb (le_number (sequence_in (stretch_of bay box))) (le_number eight_first) && eqb (labels_in (state_in (stretch_of bay box))) 2)
    (instead 0 (called 0 (put (bay * stretch_length + sequence_at) (length nine_first) nine_first (memory_after o)) []) o)
    o)
    (λ o. o) c (call_of box bay c)
