-- THE BOX ON PAPER (02, items 8 to 12): what the calls to a box answer, with no bytes of a box in it. Under each bay number there is no
-- bay, or the statement that was admitted, its sets, a machine, the number of its last instant and its positions; and a total for each
-- farm. Of a buffer that a call writes, the paper reads the length. The machine is one of two: that of 01, 'The fitters' paper', which
-- rewrites a term, and that of 01, 'States and resuming', which keeps a label set and is for sequences with setpause too.
use Rattle.std.specs.Prelude.{ℕ, zero, suc, ◌+◌, ◌%◌, ◌^◌, Bool, ◌&&◌, cond, List, [], ◌∷◌, length, eqb, leb, ltb}
use Rattle.std.proofs.Math.Option.{Option, some, none}
use Rattle.spec_base.specs.Limits.{signal_bytes, farm_count, shared_ceiling, bay_count, length_row, over_row, bay_row, ceiling_row, position_row, ledger_row}
use Rattle.spec_language.specs.Statement.{Statement}
use Rattle.spec_language.specs.Ceiling.{ceiling}
use Rattle.spec_language.specs.Machines.{Seen, instant, refused, Machine, State, by_labels, adds_by_labels, Rewriting, by_rewriting, adds_by_rewriting}
use Rattle.spec_sequence.specs.Program.{program}
use Rattle.spec_sequence.specs.Check.{Checked, sound, bad, checked}
use Rattle.spec_tick.specs.StateRecord.{encode_state}
use Rattle.spec_tick.specs.AnswerRecord.{answer_length, answer_record, code_byte}
use Rattle.spec_tick.specs.Tick.{outcome}
use Rattle.spec_tick.specs.Paper.{Report, report_of}
use Rattle.spec_tick.specs.Demands.{report}
use Rattle.spec_tick.specs.Record.{recordLength, record_of, number_in, input_in, answer_in, state_in, panel_length, panel_of}
use Rattle.spec_tick.specs.Recording.{following}
use Rattle.spec_bay.specs.Names.{Position, find, Answered, answered, save_named, forget_named}
use Rattle.spec_bay.specs.Ledgers.{reading_length, reading_for, would_pass}
use Rattle.spec_bay.specs.Preview.{Previewed, previewed, preview_length, shown_by}
use Rattle.spec_bay.specs.Stretch.{Terms}
use Rattle.spec_box.specs.Box.{Call, admit, release, tick, save, restore, forget, service, panel, preview, ledger, new_year, buffers}

-- ---- the machine of a bay: its states are S, a position keeps T of it, and R is told of an instant
pub record BayMachine (S T R : Type 0) : Type 0 where
  pub fresh : (program : Statement) → S
  pub react : (program : Statement) → Machine S
  -- the litres that an instant adds to a farm's total: none if it is wrong
  pub adds : (program : Statement) (farm : ℕ) → S → (input : ℕ) → ℕ
  -- what a position keeps of a machine that waits, and the state that coming back sets
  pub kept : S → Option T
  pub back : T → S
  -- what is told of an instant: by what is seen of it, the state after it, its number and its inputs; and as its answer and record tell it
  pub tells : Seen → S → (number input : ℕ) → R
  pub reads : (answer trace : List ℕ) → R

-- the answer record of what is seen (02, item 6)
abbrev pub answer_seen : Seen → List ℕ
answer_seen (instant k x o n after) = answer_record (code_byte k) x.kind x.place o n
answer_seen refused = []

-- by rewriting: a position keeps the term that stands there when it is saved; 02 has 'rewriting started from the expansion of that set', which
-- gives the same (TicksFromPosition). Told is what demand 3 compares, once by the answer and once by the record, and between them the number
-- and the inputs of the record; the phase is in both that of the record's state, and labels are not compared
pub data InstantTold : Type 0 where
  told : (answer : Report) (number inputs : ℕ) (recorded : Report) → InstantTold

abbrev pub term_kept : Rewriting → Option Statement
term_kept (Rewriting.fresh t) = none
term_kept (Rewriting.waits t) = some t
term_kept Rewriting.over = none

-- a record has four bytes for the inputs; no signal is above 31
abbrev pub by_terms : BayMachine Rewriting Statement InstantTold
by_terms =
    record {
      fresh = Rewriting.fresh;
      react = λ p. by_rewriting;
      adds = λ p f w e. adds_by_rewriting f w e;
      kept = term_kept;
      back = Rewriting.waits;
      tells = λ x w n e. told (report_of x) n (e % 256 ^ signal_bytes) (report_of x);
      reads = λ answer trace.
          told (report (outcome 0 (state_in trace) answer)) (number_in trace) (input_in trace) (report (outcome 0 (state_in trace) (answer_in trace)));
    }

-- by labels: a position keeps the label set, and what is told of an instant are both buffers whole, the answer and the record
abbrev pub labels_kept : State → Option ℕ
labels_kept State.fresh = none
labels_kept (State.waits L) = some L
labels_kept State.over = none

abbrev pub by_label_sets : BayMachine State ℕ (List (List ℕ))
by_label_sets =
    record {
      fresh = λ p. State.fresh;
      react = by_labels;
      adds = λ p f st e. adds_by_labels f p st e;
      kept = labels_kept;
      back = State.waits;
      tells = λ x st n e. answer_seen x ∷ record_of n e (answer_seen x) (encode_state st) ∷ [];
      reads = λ answer trace. answer ∷ trace ∷ [];
    }

-- ---- what is held
-- a bay: what its admission fixed, the machine, the number of its last instant and its positions
pub record PaperBay (S T : Type 0) : Type 0 where
  pub statement : Statement
  pub read_back : ℕ
  pub service_only : ℕ
  pub machine : S
  pub last : ℕ
  pub positions : List (Position T)

-- under a bay number: its bay, if there is one, and the year's total of each farm, which outlives the bay
pub record PaperPlace (S T : Type 0) : Type 0 where
  pub bay : Option (PaperBay S T)
  pub totals : (farm : ℕ) → ℕ

abbrev pub PaperBox : (S T : Type 0) → Type 0
PaperBox S T = (bay : ℕ) → PaperPlace S T

abbrev pub empty_paper : {S T : Type 0} → PaperBox S T
empty_paper i = record { bay = none; totals = λ f. 0 }

-- the program of a bay: its statement under the read-back declarations (02, item 5)
abbrev pub program_of : {S T : Type 0} → PaperBay S T → Statement
program_of b = program b.read_back b.statement

-- its part of the shared ceiling (02, item 6), and what the first n bays have together
abbrev pub part_on : {S T : Type 0} → Option (PaperBay S T) → ℕ
part_on none = 0
part_on (some b) = ceiling (program_of b)

unfoldable pub present_on : {S T : Type 0} → (n : ℕ) → PaperBox S T → ℕ
present_on zero box = 0
present_on (suc n) box = present_on n box + part_on (box n).bay

-- ---- what a call reports
pub data Reported (R : Type 0) : Type 0 where
  -- an instant, and what is told of it
  ticked : R → Reported R
  -- any other: the number, and the lent buffers after the call
  replies : (number : ℕ) (lent : List (List ℕ)) → Reported R

abbrev pub PaperReply : (S T R : Type 0) → Type 0
PaperReply S T R = Reported R × PaperPlace S T

module _ {S T R : Type 0} where
  -- 'A refused call changes nothing in the box', nor in the buffers that it was lent
  abbrev pub down : (number : ℕ) (lent : List (List ℕ)) → PaperPlace S T → PaperReply S T R
  down n lent z = (replies n lent, z)

  -- answered 0: nothing is lent, and the bay is this one from now on; or bytes are shown, and nothing changes
  abbrev pub holds : PaperPlace S T → Option (PaperBay S T) → PaperReply S T R
  holds z b = (replies 0 [], record { bay = b; totals = z.totals })

  abbrev pub shows : (bytes : List ℕ) → PaperPlace S T → PaperReply S T R
  shows bytes z = (replies 0 (bytes ∷ []), z)

-- the bay with another machine and number, or with other positions
abbrev pub with_machine : {S T : Type 0} → PaperBay S T → S → (last : ℕ) → PaperBay S T
with_machine b w n =
    record { statement = b.statement; read_back = b.read_back; service_only = b.service_only; machine = w; last = n; positions = b.positions }

abbrev pub with_positions : {S T : Type 0} → PaperBay S T → List (Position T) → PaperBay S T
with_positions b ps =
    record { statement = b.statement; read_back = b.read_back; service_only = b.service_only; machine = b.machine; last = b.last; positions = ps }

-- ---- the calls, item by item
module _ {S T R : Type 0} (m : BayMachine S T R) where
  -- ITEM 8. 'A bay is admitted, fresh, if Item 6's ceilings of those present and its own sum to no more'; '14 for the sum, after the
  -- sequence's own check'
  abbrev pub fresh_bay : Terms → Statement → PaperBay S T
  fresh_bay t p =
      record {
        statement = p;
        read_back = t.read_back;
        service_only = t.service_only;
        machine = m.fresh (program t.read_back p);
        last = 0;
        positions = [];
      }

  abbrev pub admit_on : (present : ℕ) → PaperPlace S T → Terms → Checked → PaperReply S T R
  admit_on present z t (bad n) = down n [] z
  admit_on present z t (sound p) =
      cond (leb (present + ceiling (program t.read_back p)) shared_ceiling) (holds z (some (fresh_bay t p))) (down ceiling_row [] z)

  -- ITEMS 10 AND 12. 12 where the machine is over; '19, last of all and writing nothing'; else an instant, which moves the machine, is
  -- counted, and adds its litres to the totals
  abbrev pub adds_on : PaperBay S T → (e farm : ℕ) → ℕ
  adds_on b e f = m.adds (program_of b) f b.machine e

  abbrev pub tick_on : PaperPlace S T → PaperBay S T → (e : ℕ) (lent : List (List ℕ)) → Seen → S → PaperReply S T R
  tick_on z b e lent refused w = down over_row lent z
  tick_on z b e lent (instant k x o n after) w =
      cond (would_pass farm_count z.totals (adds_on b e)) (down ledger_row lent z) (
        ticked (m.tells (instant k x o n after) w (following b.last) e),
        record { bay = some (with_machine b w (following b.last)); totals = λ f. z.totals f + adds_on b e f },
      )

  -- ITEM 9. '15 to save a machine that isn't waiting .. then 16 for a seventeenth name'
  abbrev pub renamed_on : PaperPlace S T → PaperBay S T → Answered T → PaperReply S T R
  renamed_on z b (answered n ps) = (replies n [], record { bay = some (with_positions b ps); totals = z.totals })

  abbrev pub save_on : PaperPlace S T → PaperBay S T → (name : ℕ) → Option T → PaperReply S T R
  save_on z b name none = down position_row [] z
  save_on z b name (some t) = renamed_on z b (save_named name t b.positions)

  -- coming back sets the machine to what was saved, whatever it was; the number goes on, and the totals stay
  abbrev pub restore_on : PaperPlace S T → PaperBay S T → Option T → PaperReply S T R
  restore_on z b none = down position_row [] z
  restore_on z b (some t) = holds z (some (with_machine b (m.back t) b.last))

  -- ITEM 11. 12 where the machine is over, then 17; 'The machine stays'
  abbrev pub previewed_on : PaperPlace S T → Previewed → PaperReply S T R
  previewed_on z (previewed n bytes) = (replies n (bytes ∷ []), z)

  abbrev pub preview_on : PaperPlace S T → PaperBay S T → (e unknown : ℕ) (buffer : List ℕ) → Seen → PaperReply S T R
  preview_on z b e unknown buffer refused = down over_row (buffer ∷ []) z
  preview_on z b e unknown buffer (instant k x o n after) =
      previewed_on z (shown_by (λ i. answer_seen (m.react (program_of b) b.machine i).0) e unknown buffer)

  -- number 1 for a buffer of another length
  abbrev pub sized : Bool → (lent : List (List ℕ)) → PaperPlace S T → PaperReply S T R → PaperReply S T R
  sized right lent z reply = cond right reply (down length_row lent z)

  -- '13 .. for .. one already filled on admission, or an empty one otherwise'
  abbrev pub if_empty : Option (PaperBay S T) → PaperPlace S T → PaperReply S T R → PaperReply S T R
  if_empty none z reply = reply
  if_empty (some b) z reply = down bay_row [] z

  abbrev pub if_filled : Option (PaperBay S T) → (lent : List (List ℕ)) → PaperPlace S T → (PaperBay S T → PaperReply S T R) → PaperReply S T R
  if_filled none lent z reply = down bay_row lent z
  if_filled (some b) lent z reply = reply b

  -- EACH CALL under a bay number, where those present have so much of the shared ceiling; 'The ledger's calls take an empty bay too'
  abbrev pub place_call : (present : ℕ) → Call → PaperPlace S T → PaperReply S T R
  place_call present (admit t) z = if_empty z.bay z (admit_on present z t (checked t.sequence t.read_back))
  place_call present release z = if_filled z.bay [] z (λ b. holds z none)
  place_call present (tick e answer trace) z =
      if_filled z.bay (answer ∷ trace ∷ []) z (λ b.
      sized (eqb (length trace) recordLength && eqb (length answer) answer_length) (answer ∷ trace ∷ []) z
      (tick_on z b e (answer ∷ trace ∷ []) (m.react (program_of b) b.machine e).0 (m.react (program_of b) b.machine e).1))
  place_call present (save name) z = if_filled z.bay [] z (λ b. save_on z b name (m.kept b.machine))
  place_call present (restore name) z = if_filled z.bay [] z (λ b. restore_on z b (find name b.positions))
  place_call present (forget name) z = if_filled z.bay [] z (λ b. renamed_on z b (forget_named name b.positions))
  place_call present (service trace view) z =
      if_filled z.bay (view ∷ []) z (λ b.
      sized (eqb (length trace) recordLength && eqb (length view) recordLength) (view ∷ []) z (shows trace z))
  place_call present (panel trace view) z =
      if_filled z.bay (view ∷ []) z (λ b.
      sized (eqb (length trace) recordLength && eqb (length view) panel_length) (view ∷ []) z (shows (panel_of b.service_only trace) z))
  place_call present (preview e unknown buffer) z =
      if_filled z.bay (buffer ∷ []) z (λ b.
      sized (eqb (length buffer) preview_length) (buffer ∷ []) z
      (preview_on z b e unknown buffer (m.react (program_of b) b.machine e).0))
  place_call present (ledger buffer) z = sized (eqb (length buffer) reading_length) (buffer ∷ []) z (shows (reading_for z.totals) z)
  place_call present new_year z = (replies 0 [], record { bay = z.bay; totals = λ f. 0 })

  -- the box after a call under this bay number: the others stay
  abbrev pub with_place : PaperBox S T → (bay : ℕ) → PaperPlace S T → PaperBox S T
  with_place box bay z i = cond (eqb i bay) z (box i)

  -- A CALL TO THE BOX. '13, before all others, for a bay number above 7'
  abbrev pub paper_call : PaperBox S T → (bay : ℕ) → Call → Reported R × PaperBox S T
  paper_call box bay c =
      cond (ltb bay bay_count)
      ((place_call (present_on bay_count box) c (box bay)).0, with_place box bay (place_call (present_on bay_count box) c (box bay)).1)
      (replies bay_row (buffers c), box)
