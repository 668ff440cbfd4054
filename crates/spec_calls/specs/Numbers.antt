-- The numbers that a call can give: the 16 calls of a host (include/intake.h) with all their arguments, the number that each gives by its
-- definition, and one table of rows. A number is in a call's row exactly if some arguments give it.
use Rattle.std.specs.Prelude.{ℕ, ◌^◌, ◌≡◌, ◌≢◌, ◌↔◌, Bool, true, false, ◌&&◌, ◌||◌, List, [], ◌∷◌, ◌++◌, eqb, ltb}
use Rattle.std.proofs.Math.Option.{Option, some, none}
use Rattle.spec_base.specs.Limits.{length_row, bytes_row, command_row, missing_row, operand_row, depth_row, behind_row, twice_row, unpaused_row, form_row, malformed_row, over_row, bay_row, ceiling_row, position_row, positions_row, unknown_row, litres_row, ledger_row, setpause_row, unrolled_row, recording_row}
use Rattle.spec_sequence.specs.Amounts.{are_bytes}
use Rattle.spec_sequence.specs.Check.{checked, check_of}
use Rattle.spec_sequence.specs.Ceilings.{ceiling_of}
use Rattle.spec_tick.specs.Tick.{tick_of}
use Rattle.spec_tick.specs.Demands as demands
use Rattle.spec_unroll.specs.Call as unrolled
use Rattle.spec_unroll.specs.Call.{unroll_of}
use Rattle.spec_replay.specs.Replay as replayed
use Rattle.spec_replay.specs.Replay.{replay_of}
use Rattle.spec_bay.specs.Called.{number}
use Rattle.spec_bay.specs.Stretch.{Terms}
use Rattle.spec_box.specs.Box.{empty_box, admit, release, tick, save, restore, forget, service, panel, preview, ledger, new_year, call_of}
use Rattle.spec_box.specs.Lists.{Request, box_after}
use Rattle.spec_box.specs.Shares.{AllSendable}

-- ---- the calls of a host
pub data CallName : Type 0 where
  intake_check : CallName
  intake_ceiling : CallName
  intake_tick : CallName
  intake_unroll : CallName
  intake_replay : CallName
  intake_box_admit : CallName
  intake_box_release : CallName
  intake_box_tick : CallName
  intake_box_save : CallName
  intake_box_restore : CallName
  intake_box_forget : CallName
  intake_box_service : CallName
  intake_box_panel : CallName
  intake_box_preview : CallName
  intake_box_ledger : CallName
  intake_box_new_year : CallName

-- a call with its arguments, on boxes of some kind
pub data HostCall (Box : Type 0) : CallName → Type 0 where
  checks : (sequence : List ℕ) (read_back : ℕ) → HostCall Box intake_check
  measures : (sequence : List ℕ) (read_back : ℕ) → HostCall Box intake_ceiling
  ticks : (sequence state : List ℕ) (input read_back : ℕ) (answer : List ℕ) → HostCall Box intake_tick
  unrolls : (sequence : List ℕ) (read_back : ℕ) (buffer : List ℕ) → HostCall Box intake_unroll
  replays : (sequence : List ℕ) (read_back : ℕ) (recording : List ℕ) → HostCall Box intake_replay
  admits : (box : Box) (bay : ℕ) → Terms → HostCall Box intake_box_admit
  releases : (box : Box) (bay : ℕ) → HostCall Box intake_box_release
  ticks_bay : (box : Box) (bay input : ℕ) (answer trace : List ℕ) → HostCall Box intake_box_tick
  saves : (box : Box) (bay name : ℕ) → HostCall Box intake_box_save
  restores : (box : Box) (bay name : ℕ) → HostCall Box intake_box_restore
  forgets : (box : Box) (bay name : ℕ) → HostCall Box intake_box_forget
  shows_service : (box : Box) (bay : ℕ) (trace view : List ℕ) → HostCall Box intake_box_service
  shows_panel : (box : Box) (bay : ℕ) (trace view : List ℕ) → HostCall Box intake_box_panel
  previews : (box : Box) (bay input unknown : ℕ) (buffer : List ℕ) → HostCall Box intake_box_preview
  reads_ledger : (box : Box) (bay : ℕ) (totals : List ℕ) → HostCall Box intake_box_ledger
  begins_year : (box : Box) (bay : ℕ) → HostCall Box intake_box_new_year

-- the number that it gives; intake_ceiling gives a ceiling and no number
abbrev pub call_gives : {Box : Type 0} (bytes : Box → List ℕ) {name : CallName} → HostCall Box name → Option ℕ
call_gives bytes (checks sequence read_back) = some (check_of sequence read_back)
call_gives bytes (measures sequence read_back) = none
call_gives bytes (ticks sequence state e read_back answer) = some (demands.number (tick_of sequence state e read_back answer))
call_gives bytes (unrolls sequence read_back buffer) = some (unrolled.number (unroll_of sequence read_back buffer))
call_gives bytes (replays sequence read_back recording) = some (replayed.number (replay_of sequence read_back recording))
call_gives bytes (admits box bay t) = some (number (call_of (bytes box) bay (admit t)))
call_gives bytes (releases box bay) = some (number (call_of (bytes box) bay release))
call_gives bytes (ticks_bay box bay e answer trace) = some (number (call_of (bytes box) bay (tick e answer trace)))
call_gives bytes (saves box bay name) = some (number (call_of (bytes box) bay (save name)))
call_gives bytes (restores box bay name) = some (number (call_of (bytes box) bay (restore name)))
call_gives bytes (forgets box bay name) = some (number (call_of (bytes box) bay (forget name)))
call_gives bytes (shows_service box bay trace view) = some (number (call_of (bytes box) bay (service trace view)))
call_gives bytes (shows_panel box bay trace view) = some (number (call_of (bytes box) bay (panel trace view)))
call_gives bytes (previews box bay e unknown buffer) = some (number (call_of (bytes box) bay (preview e unknown buffer)))
call_gives bytes (reads_ledger box bay totals) = some (number (call_of (bytes box) bay (ledger totals)))
call_gives bytes (begins_year box bay) = some (number (call_of (bytes box) bay new_year))

-- ---- what a host can pass: bytes, and numbers of 32 bits
abbrev pub is_word : ℕ → Bool
is_word n = ltb n (256 ^ 4)

-- a bay number and the bytes of its box
abbrev placed : (box : List ℕ) (bay : ℕ) → Bool
placed box bay = are_bytes box && is_word bay

abbrev pub passable : {Box : Type 0} (bytes : Box → List ℕ) {name : CallName} → HostCall Box name → Bool
passable bytes (checks sequence read_back) = are_bytes sequence && is_word read_back
passable bytes (measures sequence read_back) = are_bytes sequence && is_word read_back
passable bytes (ticks sequence state e read_back answer) = are_bytes sequence && are_bytes state && is_word e && is_word read_back && are_bytes answer
passable bytes (unrolls sequence read_back buffer) = are_bytes sequence && is_word read_back && are_bytes buffer
passable bytes (replays sequence read_back recording) = are_bytes sequence && is_word read_back && are_bytes recording
passable bytes (admits box bay t) = placed (bytes box) bay && are_bytes t.sequence && is_word t.read_back && is_word t.service_only
passable bytes (releases box bay) = placed (bytes box) bay
passable bytes (ticks_bay box bay e answer trace) = placed (bytes box) bay && is_word e && are_bytes answer && are_bytes trace
passable bytes (saves box bay name) = placed (bytes box) bay && is_word name
passable bytes (restores box bay name) = placed (bytes box) bay && is_word name
passable bytes (forgets box bay name) = placed (bytes box) bay && is_word name
passable bytes (shows_service box bay trace view) = placed (bytes box) bay && are_bytes trace && are_bytes view
passable bytes (shows_panel box bay trace view) = placed (bytes box) bay && are_bytes trace && are_bytes view
passable bytes (previews box bay e unknown buffer) = placed (bytes box) bay && is_word e && is_word unknown && are_bytes buffer
passable bytes (reads_ledger box bay totals) = placed (bytes box) bay && are_bytes totals
passable bytes (begins_year box bay) = placed (bytes box) bay

-- ---- THE TABLE
-- a sequence that is turned down: 01, 'the check 2 to 10', and 02, item 12, '18, at its command right after 5'
abbrev pub refusals : List ℕ
refusals = bytes_row ∷ command_row ∷ missing_row ∷ operand_row ∷ depth_row ∷ behind_row ∷ twice_row ∷ unpaused_row ∷ form_row ∷ litres_row ∷ []

-- for boxes that calls reach from the empty one
abbrev pub row_for : CallName → List ℕ
-- '0 is acceptance'
row_for intake_check = 0 ∷ refusals
row_for intake_ceiling = []
-- 'The tick gives 1 to 12'; 'The tick on its own knows no ledger and never gives 19'
row_for intake_tick = 0 ∷ length_row ∷ malformed_row ∷ over_row ∷ refusals
-- item 13: 'number 1 for another buffer length; after the original's own check, 20 if it has a setpause; then 21 ..'
row_for intake_unroll = 0 ∷ length_row ∷ setpause_row ∷ unrolled_row ∷ refusals
-- item 14: '22, after the sequence's check, for a length that isn't a multiple of 37'
row_for intake_replay = 0 ∷ recording_row ∷ refusals
-- item 8: '13, before all others, ..; 14 for the sum, after the sequence's own check'
row_for intake_box_admit = 0 ∷ bay_row ∷ ceiling_row ∷ refusals
row_for intake_box_release = 0 ∷ bay_row ∷ []
-- item 12: '19, last of all and writing nothing'; the state of a bay is never one that row 11 turns down
row_for intake_box_tick = 0 ∷ length_row ∷ over_row ∷ bay_row ∷ ledger_row ∷ []
-- item 9: '15 to save a machine that isn't waiting, or for an unknown name to come back to or forget; then 16 for a seventeenth name'
row_for intake_box_save = 0 ∷ bay_row ∷ position_row ∷ positions_row ∷ []
row_for intake_box_restore = 0 ∷ bay_row ∷ position_row ∷ []
row_for intake_box_forget = 0 ∷ bay_row ∷ position_row ∷ []
-- item 10: 'number 1 for a record or service bytes not of 37, or panel bytes not 13'
row_for intake_box_service = 0 ∷ length_row ∷ bay_row ∷ []
row_for intake_box_panel = 0 ∷ length_row ∷ bay_row ∷ []
-- item 11: 'number 1 for another length than 10; 17 for a seventh unknown, after 12'; item 12: 'Previews .. never give 19'
row_for intake_box_preview = 0 ∷ length_row ∷ over_row ∷ bay_row ∷ unknown_row ∷ []
-- item 12: 'number 1 for a ledger reading not of 132 bytes'; a new year has no error but 13 for a bay number above 7
row_for intake_box_ledger = 0 ∷ length_row ∷ bay_row ∷ []
row_for intake_box_new_year = 0 ∷ bay_row ∷ []

-- In a box of any bytes there is 1 also, for a box of another length, and where a machine is asked, what turns its sequence or state down.
abbrev pub also_anywhere : CallName → List ℕ
also_anywhere intake_check = []
also_anywhere intake_ceiling = []
also_anywhere intake_tick = []
also_anywhere intake_unroll = []
also_anywhere intake_replay = []
also_anywhere intake_box_admit = length_row ∷ []
also_anywhere intake_box_release = length_row ∷ []
also_anywhere intake_box_tick = malformed_row ∷ refusals
also_anywhere intake_box_save = length_row ∷ []
also_anywhere intake_box_restore = length_row ∷ []
also_anywhere intake_box_forget = length_row ∷ []
also_anywhere intake_box_service = []
also_anywhere intake_box_panel = []
also_anywhere intake_box_preview = malformed_row ∷ refusals
also_anywhere intake_box_ledger = []
also_anywhere intake_box_new_year = length_row ∷ []

abbrev pub row_anywhere : CallName → List ℕ
row_anywhere name = also_anywhere name ++ row_for name

-- ---- what the table says
-- n is one of a list of numbers
unfoldable pub one_of : (n : ℕ) → List ℕ → Bool
one_of n [] = false
one_of n (k ∷ ks) = eqb n k || one_of n ks

-- a box that a list of calls comes to from the empty one, calls turned down included
pub record ReachedBox : Type 0 where
  pub before : List Request
  pub sendable : AllSendable before

abbrev pub reached_bytes : ReachedBox → List ℕ
reached_bytes box = box_after call_of empty_box box.before

-- no arguments give another number
abbrev pub GivesOnly : {Box : Type 0} (bytes : Box → List ℕ) (row : CallName → List ℕ) → Type 0
GivesOnly {Box} bytes row =
    (name : CallName) (c : HostCall Box name) (n : ℕ) → call_gives bytes c ≡ some n → one_of n (row name) ≡ true

-- and each number of a row is given, by arguments that a host can pass; of the calls that made a box, what AllSendable asks
abbrev pub GivesEach : {Box : Type 0} (bytes : Box → List ℕ) (row : CallName → List ℕ) → Type 0
GivesEach {Box} bytes row =
    (name : CallName) (n : ℕ) → one_of n (row name) ≡ true
    → (c : HostCall Box name) × (passable bytes c ≡ true) × (call_gives bytes c ≡ some n)

-- so a number is in a call's row exactly if some arguments give it
abbrev pub NumberGiven : {Box : Type 0} (bytes : Box → List ℕ) (row : CallName → List ℕ) → Type 0
NumberGiven {Box} bytes row =
    (name : CallName) (n : ℕ) → (one_of n (row name) ≡ true) ↔ ((c : HostCall Box name) × (call_gives bytes c ≡ some n))

pub record RowsExact {Box : Type 0} (bytes : Box → List ℕ) (row : CallName → List ℕ) : Type 0 where
  pub gives_only : GivesOnly bytes row
  pub gives_each : GivesEach bytes row
  pub number_given : NumberGiven bytes row

-- the ceiling is 0 exactly if the check turns the sequence down
abbrev pub CeilingRefuses : Type 0
CeilingRefuses = (sequence : List ℕ) (read_back : ℕ) → (ceiling_of read_back (checked sequence read_back) ≡ 0) ↔ (check_of sequence read_back ≢ 0)

-- THE NUMBERS of the 16 calls: in boxes that calls reach from the empty one, and in every box, whatever its bytes
pub record TableExact : Type 0 where
  pub from_empty : RowsExact reached_bytes row_for
  pub anywhere : RowsExact (λ (box : List ℕ). box) row_anywhere
  pub ceiling_refuses : CeilingRefuses
