-- What 02, item 8, says of a box, each sentence a predicate of any function in the place of `call_of`: theory_box has them of
-- `call_of`, and refutes them for boxes that break them (WrongBoxes).
use Rattle.std.specs.Prelude.{ℕ, ◌+◌, ◌≤◌, ◌<◌, ◌≡◌, ◌≢◌, ◌↔◌, List, length}
use Rattle.spec_base.specs.Limits.{shared_ceiling, bay_count, length_row, bay_row, ceiling_row}
use Rattle.spec_sequence.specs.Check.{checked, check_of}
use Rattle.spec_sequence.specs.Ceilings.{ceiling_of}
use Rattle.spec_bay.specs.Called.{called, number, memory_after, lent_after}
use Rattle.spec_bay.specs.Stretch.{length_in, sequence_in, read_back_in, ceiling_in, part_of, Terms}
use Rattle.spec_box.specs.Box.{box_length, empty_box, stretch_of, present, Call, admit, release, on_admit, on_ledgers, buffers}
use Rattle.spec_box.specs.Lists.{Calling, Request, box_after, asked, answers}
use Rattle.spec_box.specs.Shares.{AllSendable, sum_of_reactions, OneTickEach}
use Rattle.spec_box.specs.BayRuns.{TermsFixed, TicksInBay}
use Rattle.spec_box.specs.Leaves.{AdmissionLeaves, ReleaseLeaves}

-- 'A refused call changes nothing in the box', whatever bytes it has: nor in the buffers that it was lent
abbrev pub RefusalsLeave : Calling → Type 0
RefusalsLeave call =
    (box : List ℕ) (bay : ℕ) (c : Call) → number (call box bay c) ≢ 0 → call box bay c ≡ called (number (call box bay c)) box (buffers c)

-- a call to a bay leaves the slots of the others, and the length of the box
abbrev pub OthersStay : Calling → Type 0
OthersStay call =
    (box : List ℕ) (bay : ℕ) (c : Call) → (length (memory_after (call box bay c)) ≡ length box)
    × ((other : ℕ) → other ≢ bay → other < bay_count → stretch_of other (memory_after (call box bay c)) ≡ stretch_of other box)

-- 'Two runs from an empty box, written by its calls only, with the same calls to one bay in the same order and its admissions
-- answered alike, give it the same answers and states, whatever the others get', and whatever bytes the buffers had that it was lent for
-- writing: the same slot, of which the state is a field
abbrev pub Isolated : Calling → Type 0
Isolated call =
    (bay : ℕ) → bay < bay_count → (xs ys : List Request) → asked call bay empty_box xs ≡ asked call bay empty_box ys
    → (answers call bay empty_box xs ≡ answers call bay empty_box ys)
    × (stretch_of bay (box_after call empty_box xs) ≡ stretch_of bay (box_after call empty_box ys))

-- 'only admission depends on them, through that sum': in two boxes with the same slot of the bay, and for an admission the same
-- sum of the ceilings of those present, a call to the bay gives the same answer and slot
abbrev pub SumAlike : Call → (box box' : List ℕ) → Type 0
SumAlike c box box' = (t : Terms) → c ≡ admit t → present bay_count box ≡ present bay_count box'

abbrev pub BySum : Calling → Type 0
BySum call =
    (box box' : List ℕ) (bay : ℕ) → bay < bay_count → length box ≡ box_length → length box' ≡ box_length
    → stretch_of bay box ≡ stretch_of bay box' → (c : Call) → SumAlike c box box'
    → (number (call box bay c) ≡ number (call box' bay c)) × (lent_after (call box bay c) ≡ lent_after (call box' bay c))
    × (stretch_of bay (memory_after (call box bay c)) ≡ stretch_of bay (memory_after (call box' bay c)))

-- ---- the shared ceiling, in every box that a list of calls comes to from the empty one
abbrev pub InBoxes : Calling → (List ℕ → Type 0) → Type 0
InBoxes call Holds = (xs : List Request) → AllSendable xs → Holds (box_after call empty_box xs)

-- the ceiling of the sequence and read-back set that a bay holds
abbrev pub ceiling_held : List ℕ → ℕ
ceiling_held s = ceiling_of (read_back_in s) (checked (sequence_in s) (read_back_in s))

-- a bay that is filled holds an accepted sequence with its ceiling
abbrev pub CeilingsStored : List ℕ → Type 0
CeilingsStored box =
    (bay : ℕ) → bay < bay_count → length_in (stretch_of bay box) ≢ 0
    → (check_of (sequence_in (stretch_of bay box)) (read_back_in (stretch_of bay box)) ≡ 0)
    × (ceiling_in (stretch_of bay box) ≡ ceiling_held (stretch_of bay box))

-- 'under a shared ceiling of 65,536 reactions an instant': the ceilings of those present sum to no more, and so do the reactions
-- of one tick of each bay, in any order
abbrev pub WithinCeiling : List ℕ → Type 0
WithinCeiling box = present bay_count box ≤ shared_ceiling

abbrev pub RoundsWithin : Calling → List ℕ → Type 0
RoundsWithin call box = (ticks : List Request) → OneTickEach ticks → sum_of_reactions call box ticks ≤ shared_ceiling

-- 'A bay is admitted .. if Item 6's ceilings of those present and its own sum to no more': an accepted sequence, into an empty bay
abbrev pub AdmitsBySum : Calling → List ℕ → Type 0
AdmitsBySum call box =
    (bay : ℕ) → bay < bay_count → length_in (stretch_of bay box) ≡ 0
    → (t : Terms) → check_of t.sequence t.read_back ≡ 0
    → (number (call box bay (admit t)) ≡ 0)
    ↔ (present bay_count box + ceiling_of t.read_back (checked t.sequence t.read_back) ≤ shared_ceiling)

-- 'A bay taken out gives its part back'
abbrev pub GivesBack : Calling → List ℕ → Type 0
GivesBack call box =
    (bay : ℕ) → bay < bay_count → length_in (stretch_of bay box) ≢ 0
    → (number (call box bay release) ≡ 0)
    × (present bay_count (memory_after (call box bay release)) + part_of (stretch_of bay box) ≡ present bay_count box)

-- ---- 'Errors', in every box, whatever its bytes
-- '13, before all others, for a bay number above 7, one already filled on admission, or an empty one otherwise'; 'The ledger's calls take an
-- empty bay too'
abbrev pub NotThere : Call → List ℕ → Type 0
NotThere c s = on_admit (on_ledgers (length_in s ≡ 0) ⊥ c) (λ t. length_in s ≢ 0) c

abbrev pub Thirteen : Calling → Type 0
Thirteen call =
    (box : List ℕ) → length box ≡ box_length → (bay : ℕ) (c : Call)
    → (number (call box bay c) ≡ bay_row) ↔ (bay < bay_count → NotThere c (stretch_of bay box))

-- bytes that are no box, by their length, have bay numbers and no bays
abbrev pub NoBox : Calling → Type 0
NoBox call =
    (box : List ℕ) → length box ≢ box_length → (bay : ℕ) (c : Call)
    → (bay_count ≤ bay → number (call box bay c) ≡ bay_row) × (bay < bay_count → number (call box bay c) ≡ length_row)

-- '14 for the sum, after the sequence's own check'
abbrev pub Fourteen : Calling → Type 0
Fourteen call =
    (box : List ℕ) → length box ≡ box_length → (bay : ℕ) → bay < bay_count → length_in (stretch_of bay box) ≡ 0
    → (t : Terms) → (check_of t.sequence t.read_back ≢ 0 → number (call box bay (admit t)) ≡ check_of t.sequence t.read_back)
    × (check_of t.sequence t.read_back ≡ 0
    → (number (call box bay (admit t)) ≡ ceiling_row)
    ↔ (shared_ceiling < present bay_count box + ceiling_of t.read_back (checked t.sequence t.read_back)))

pub record BoxDemands (call : Calling) : Type 0 where
  pub refusals_leave : RefusalsLeave call
  pub others_stay : OthersStay call
  pub isolated : Isolated call
  pub by_sum : BySum call
  pub admission_leaves : AdmissionLeaves call
  pub terms_fixed : TermsFixed call
  pub ticks_in_bay : TicksInBay call
  pub ceilings_stored : InBoxes call CeilingsStored
  pub within_ceiling : InBoxes call WithinCeiling
  pub rounds_within : InBoxes call (RoundsWithin call)
  pub admits_by_sum : InBoxes call (AdmitsBySum call)
  pub gives_back : InBoxes call (GivesBack call)
  pub release_leaves : ReleaseLeaves call
  pub thirteen : Thirteen call
  pub no_box : NoBox call
  pub fourteen : Fourteen call
