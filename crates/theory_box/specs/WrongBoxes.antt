-- Boxes that break a claim of 02, item 8, each with one slip. theory_box refutes the claim for each.
use Rattle.std.specs.Prelude.{ℕ, zero, suc, ◌+◌, ◌%◌, cond, List, [], ◌∷◌, eqb}
use Rattle.spec_base.specs.Limits.{bay_count}
use Rattle.spec_tick.specs.StateRecord.{state_length}
use Rattle.spec_base.specs.Parts.{put, zeros}
use Rattle.spec_tick.specs.Tick.{tick_of}
use Rattle.spec_bay.specs.Called.{Called, called, number, memory_after}
use Rattle.spec_bay.specs.Stretch.{length_bytes, state_at, sequence_in, read_back_in, ceiling_in, state_in}
use Rattle.spec_bay.specs.BayCalls.{delivering, by_outcome, bay_admit_of}
use Rattle.spec_box.specs.Box.{stretch_of, present, Call, on_admit, on_release, on_tick, on_save, on_restore, in_box, call_of}
use Rattle.spec_box.specs.Lists.{Calling}

-- another result for a call that is answered with this number
abbrev pub instead : ℕ → Called → Called → Called
instead n other o = cond (eqb (number o) n) other o

-- what a call comes to, with another one for a release, for a save or for a restore
abbrev pub altered : (released : Called → Called) (saved : ℕ → Called → Called) (restored : Called → Called) → Call → Called → Called
altered released saved restored c o = on_save (on_restore (on_release o (released o) c) (λ name. restored o) c) (λ name. saved name o) c

-- a tick that reads the neighbour's state
abbrev pub reads_neighbour : Calling
reads_neighbour box bay c =
    on_tick (call_of box bay c)
    (λ e answer trace.
    cond (eqb (number (call_of box bay c)) 13) (called 13 box (answer ∷ trace ∷ []))
    (in_box bay box
    (by_outcome (stretch_of bay box) e answer trace (delivering (stretch_of bay box) e)
    (tick_of (sequence_in (stretch_of bay box)) (state_in (stretch_of (suc bay % bay_count) box)) e (read_back_in (stretch_of bay box)) answer))))
    c

-- an admission that forgets the last bay in the sum
abbrev pub forgets_bay : Calling
forgets_bay box bay c =
    on_admit (call_of box bay c)
    (λ t. instead 14 (in_box bay box (bay_admit_of (present 7 box) (stretch_of bay box) t)) (call_of box bay c)) c

-- an admission that leaves the state record as it finds it
abbrev pub keeps_state : Calling
keeps_state box bay c =
    on_admit (call_of box bay c)
    (λ t. instead 0
    (in_box bay box (called 0 (put state_at state_length (state_in (stretch_of bay box)) (stretch_of bay (memory_after (call_of box bay c)))) []))
    (call_of box bay c))
    c

-- a release that leaves the ceiling, and an admission that counts the ceilings of bays that were taken out too
unfoldable pub stored_in : (n : ℕ) → List ℕ → ℕ
stored_in zero box = 0
stored_in (suc n) box = stored_in n box + ceiling_in (stretch_of n box)

abbrev pub keeps_part : Calling
keeps_part box bay c =
    on_admit
    (altered (instead 0 (in_box bay box (called 0 (put 0 length_bytes (zeros length_bytes) (stretch_of bay box)) []))) (λ name o. o) (λ o. o)
    c (call_of box bay c))
    (λ t. instead 0 (in_box bay box (bay_admit_of (stored_in bay_count box) (stretch_of bay box) t)) (call_of box bay c))
    c

-- a call turned down that clears the first byte of the box
abbrev clearing : Called → Called
clearing (called zero memory lent) = called 0 memory lent
clearing (called (suc n) memory lent) = called (suc n) (put 0 1 (zeros 1) memory) lent

abbrev pub refusal_writes : Calling
refusal_writes box bay c = clearing (call_of box bay c)
