-- What the calls of a list report, for any function in the place of `call_of`, and on paper; and that the two are the same.
use Rattle.std.specs.Prelude.{ℕ, ◌<◌, ◌≡◌, Bool, true, false, ◌&&◌, cond, eqb}
use Rattle.std.proofs.Math.Option.{Option, some, none}
use mathlib.Core.List.{List, [], ◌∷◌, Memᴰ}
use Rattle.spec_base.specs.Limits.{farm_count, bay_count}
use Rattle.spec_language.specs.Statement.{Statement}
use Rattle.spec_language.specs.States.{NoSetpause}
use Rattle.spec_language.specs.Machines.{State}
use Rattle.spec_sequence.specs.Check.{check_of}
use Rattle.spec_sequence.specs.Rows.{Spells}
use Rattle.spec_tick.specs.StateRecord.{encode_state}
use Rattle.spec_bay.specs.Names.{find}
use Rattle.spec_bay.specs.Table.{lookup}
use Rattle.spec_bay.specs.Ledgers.{total_in}
use Rattle.spec_bay.specs.Called.{Called, number, lent_after, first}
use Rattle.spec_bay.specs.Stretch.{length_in, sequence_in, read_back_in, ceiling_in, service_only_in, state_in, last_number_in, positions_in, ledger_in, Terms}
use Rattle.spec_box.specs.Box.{empty_box, stretch_of, Call, admit, on_tick}
use Rattle.spec_box.specs.Lists.{Calling, Request, after_call, box_after}
use Rattle.spec_box.specs.Instants.{second}
use Rattle.spec_box.specs.Shares.{AllSendable}
use Rattle.spec_box.specs.PaperBox.{BayMachine, by_terms, by_label_sets, PaperBay, PaperBox, empty_paper, Reported, ticked, replies, part_on, paper_call}

abbrev pub is_tick : Call → Bool
is_tick = on_tick false (λ e answer trace. true)

-- a tick answered 0 is an instant, of which answer and record tell
abbrev pub reported : {R : Type 0} → (reads : (answer trace : List ℕ) → R) → Call → Called → Reported R
reported reads c o =
    cond (is_tick c && eqb (number o) 0)
    (ticked (reads (first (lent_after o)) (second (lent_after o))))
    (replies (number o) (lent_after o))

-- ---- lists of calls: each finds the box as the last one left it
unfoldable pub reports : {R : Type 0} → (reads : (answer trace : List ℕ) → R) → Calling → List ℕ → List Request → List (Reported R)
reports reads call box [] = []
reports reads call box (x ∷ xs) =
    reported reads x.call (call box x.bay x.call) ∷ reports reads call (after_call call box x) xs

unfoldable pub paper_reports : {S T R : Type 0} → BayMachine S T R → PaperBox S T → List Request → List (Reported R)
paper_reports m box [] = []
paper_reports m box (x ∷ xs) = (paper_call m box x.bay x.call).0 ∷ paper_reports m (paper_call m box x.bay x.call).1 xs

-- the box on paper after them
unfoldable pub paper_after : {S T R : Type 0} → BayMachine S T R → PaperBox S T → List Request → PaperBox S T
paper_after m box [] = box
paper_after m box (x ∷ xs) = paper_after m (paper_call m box x.bay x.call).1 xs

-- ---- the claims
-- every sequence of the list that is given to an admission and passes the check spells such a statement
abbrev pub Admitting : (Statement → Type 0) → List Request → Type 0
Admitting For xs =
    (x : Request) → Memᴰ x xs → (t : Terms) → x.call ≡ admit t → check_of t.sequence t.read_back ≡ 0
    → (p : Statement) → Spells t.sequence p → For p

-- EVERY CALL REPORTS WHAT THE PAPER REPORTS: every call of every list from the empty box, turned down or not, to whichever bay; the paper
-- rewrites a term for each bay. The list's sequences that pass the check are without setpause; sets and saved names are of 32 bits. The
-- labels in a record are compared in ByLabelSets alone
abbrev pub OnPaper : Calling → Type 0
OnPaper call =
    (xs : List Request) → AllSendable xs → Admitting NoSetpause xs
    → reports by_terms.reads call empty_box xs ≡ paper_reports by_terms empty_paper xs

-- and, with setpause too, what the paper does that keeps a label set for each bay: the number and every byte of the lent buffers
abbrev pub ByLabelSets : Calling → Type 0
ByLabelSets call =
    (xs : List Request) → AllSendable xs → reports by_label_sets.reads call empty_box xs ≡ paper_reports by_label_sets empty_paper xs

-- ---- what is held: a slot of the box holds what stands under its bay number on that paper
pub record BayHeld (s : List ℕ) (b : PaperBay State ℕ) : Type 0 where
  pub sequence : Spells (sequence_in s) b.statement
  pub read_back : read_back_in s ≡ b.read_back
  pub service_only : service_only_in s ≡ b.service_only
  pub state : state_in s ≡ encode_state b.machine
  pub part : ceiling_in s ≡ part_on (some b)
  pub last : last_number_in s ≡ b.last
  pub positions : (name : ℕ) → lookup name (positions_in s) ≡ find name b.positions

abbrev pub HeldIf : List ℕ → Option (PaperBay State ℕ) → Type 0
HeldIf s none = length_in s ≡ 0
HeldIf s (some b) = BayHeld s b

-- after every list of calls from the empty box: the bay, if there is one, and each farm's total
abbrev pub HeldOnPaper : Calling → Type 0
HeldOnPaper call =
    (xs : List Request) → AllSendable xs → (bay : ℕ) → bay < bay_count
    → HeldIf (stretch_of bay (box_after call empty_box xs)) (paper_after by_label_sets empty_paper xs bay).bay
    × ((farm : ℕ) → farm < farm_count
    → total_in farm (ledger_in (stretch_of bay (box_after call empty_box xs))) ≡ (paper_after by_label_sets empty_paper xs bay).totals farm)
