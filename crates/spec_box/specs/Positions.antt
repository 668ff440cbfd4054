-- The positions of a bay over a list of calls (02, item 9), by name and with no table in them, and what 02 says of them: each sentence
-- a predicate of any function in the place of `call_of`, which theory_box has of `call_of`.
use Rattle.std.specs.Prelude.{ℕ, ◌<◌, ◌≡◌, ◌≢◌, ◌↔◌, List, []}
use Rattle.std.proofs.Math.Option.{some, none}
use Rattle.spec_base.specs.Limits.{bay_count, position_row, positions_row}
use Rattle.spec_language.specs.Statement.{Statement}
use Rattle.spec_language.specs.States.{Valid}
use Rattle.spec_language.specs.Expansion.{expand}
use Rattle.spec_language.specs.Machines.{State, Rewriting}
use Rattle.spec_sequence.specs.Rows.{Spells}
use Rattle.spec_tick.specs.StateRecord.{state_length, phase_in, labels_in, encode_state}
use Rattle.spec_base.specs.Parts.{put}
use Rattle.spec_bay.specs.Names.{Position, find, save_named, forget_named, positions_after}
use Rattle.spec_bay.specs.Table.{lookup, SixteenKnown}
use Rattle.spec_bay.specs.Called.{number, memory_after}
use Rattle.spec_bay.specs.Stretch.{state_at, length_in, sequence_in, state_in, positions_in, Terms}
use Rattle.spec_box.specs.Box.{empty_box, stretch_of, Call, admit, release, save, restore, forget, on_release, on_save, on_forget}
use Rattle.spec_box.specs.Lists.{Calling, Request, after_call, box_after, calls_to, in_turn, if_answered}
use Rattle.spec_box.specs.Shares.{Sendable, AllSendable}
use Rattle.spec_box.specs.BayRuns.{NotTakenOut, Onwards, RunOf, Rewrites}
use Rattle.spec_box.specs.Claims.{InBoxes}

-- ---- by name
-- what a call answered 0 makes of them, the machine having these labels
abbrev pub changed_by : Call → (labels : ℕ) → List (Position ℕ) → List (Position ℕ)
changed_by c labels ps =
    on_save (on_forget (on_release ps [] c) (λ name. positions_after (forget_named name ps)) c)
    (λ name. positions_after (save_named name labels ps)) c

-- over a list of calls
unfoldable pub saved_in : Calling → (bay : ℕ) → List ℕ → List (Position ℕ) → List Request → List (Position ℕ)
saved_in call bay box ps xs =
    in_turn (if_answered call bay (λ c. changed_by c.call (labels_in (state_in (stretch_of bay c.box))))) ps (calls_to (after_call call) bay box xs)

-- each position held is the label set that the machine had when it was last saved under that name
abbrev pub PositionsSaved : Calling → Type 0
PositionsSaved call =
    (xs : List Request) → AllSendable xs → (bay : ℕ) → bay < bay_count → (name : ℕ)
    → lookup name (positions_in (stretch_of bay (box_after call empty_box xs))) ≡ find name (saved_in call bay empty_box [] xs)

-- 'the label set of a waiting machine': it is valid for the sequence that the bay holds
abbrev pub PositionsValid : List ℕ → Type 0
PositionsValid box =
    (bay : ℕ) → bay < bay_count → (p : Statement) → Spells (sequence_in (stretch_of bay box)) p
    → (name labels : ℕ) → lookup name (positions_in (stretch_of bay box)) ≡ some labels → Valid p labels

-- ---- 'Errors', of a filled bay
-- '15 to save a machine that isn't waiting .. then 16 for a seventeenth name'
abbrev pub SaveNumbers : Calling → List ℕ → Type 0
SaveNumbers call box =
    (bay : ℕ) → bay < bay_count → length_in (stretch_of bay box) ≢ 0 → (name : ℕ)
    → ((number (call box bay (save name)) ≡ position_row) ↔ (phase_in (state_in (stretch_of bay box)) ≢ 1))
    × ((number (call box bay (save name)) ≡ positions_row)
    ↔ ((phase_in (state_in (stretch_of bay box)) ≡ 1) × (lookup name (positions_in (stretch_of bay box)) ≡ none)
    × SixteenKnown (positions_in (stretch_of bay box))))
    × (number (call box bay (save name)) ≢ position_row → number (call box bay (save name)) ≢ positions_row → number (call box bay (save name)) ≡ 0)

-- '15 .. for an unknown name to come back to or forget'
abbrev pub KnownOnly : Calling → ((name : ℕ) → Call) → List ℕ → Type 0
KnownOnly call c box =
    (bay : ℕ) → bay < bay_count → length_in (stretch_of bay box) ≢ 0 → (name : ℕ)
    → ((number (call box bay (c name)) ≡ position_row) ↔ (lookup name (positions_in (stretch_of bay box)) ≡ none))
    × (number (call box bay (c name)) ≢ position_row → number (call box bay (c name)) ≡ 0)

-- ---- every box, whatever its bytes
-- 'Coming back sets phase and labels', and nothing else of the bay
abbrev pub ComesBack : Calling → Type 0
ComesBack call =
    (box : List ℕ) (bay name : ℕ) → number (call box bay (restore name)) ≡ 0
    → (labels : ℕ) × (lookup name (positions_in (stretch_of bay box)) ≡ some labels)
    × (stretch_of bay (memory_after (call box bay (restore name)))
    ≡ put state_at state_length (encode_state (State.waits labels)) (stretch_of bay box))

-- 'A bay taken out loses its positions', and one admitted knows none
abbrev pub NoneKnown : (bay : ℕ) → List ℕ → Type 0
NoneKnown bay box = (name : ℕ) → lookup name (positions_in (stretch_of bay box)) ≡ none

abbrev pub LosesPositions : Calling → Type 0
LosesPositions call =
    (box : List ℕ) (bay : ℕ) → (number (call box bay release) ≡ 0 → NoneKnown bay (memory_after (call box bay release)))
    × ((t : Terms) → number (call box bay (admit t)) ≡ 0 → NoneKnown bay (memory_after (call box bay (admit t))))

-- ---- a bay from a coming back on
-- 'the answers from there up to the next coming back or the taking out': in a box that calls reach an admission; then calls that do not
-- take the bay out, saves and comings back among them; then a coming back. From there on the run is that of the ADMITTED terms, setpause
-- included, from the label set that was last saved under that name; 'Without setpause, the answers .. equal rewriting started from the
-- expansion of that set', and so do the litres
abbrev pub FromPosition : Calling → (bay : ℕ) → Terms → (opened : List ℕ) → Type 0
FromPosition call bay t opened =
    (ys : List Request) → AllSendable ys → NotTakenOut call bay opened ys
    → (name : ℕ) → number (call (box_after call opened ys) bay (restore name)) ≡ 0
    → (labels : ℕ) × (find name (saved_in call bay opened [] ys) ≡ some labels)
    × ((xs : List Request) → Onwards call bay (memory_after (call (box_after call opened ys) bay (restore name))) xs
    → RunOf call bay t (encode_state (State.waits labels)) (memory_after (call (box_after call opened ys) bay (restore name))) xs
    × Rewrites call bay t (λ p. Rewriting.waits (expand p labels)) (memory_after (call (box_after call opened ys) bay (restore name))) xs)

abbrev pub TicksFromPosition : Calling → Type 0
TicksFromPosition call =
    (zs : List Request) → AllSendable zs → (bay : ℕ) (t : Terms) → Sendable (admit t)
    → number (call (box_after call empty_box zs) bay (admit t)) ≡ 0
    → FromPosition call bay t (memory_after (call (box_after call empty_box zs) bay (admit t)))

pub record PositionDemands (call : Calling) : Type 0 where
  pub positions_saved : PositionsSaved call
  pub positions_valid : InBoxes call PositionsValid
  pub save_numbers : InBoxes call (SaveNumbers call)
  pub restore_numbers : InBoxes call (KnownOnly call restore)
  pub forget_numbers : InBoxes call (KnownOnly call forget)
  pub comes_back : ComesBack call
  pub loses_positions : LosesPositions call
  pub ticks_from_position : TicksFromPosition call
