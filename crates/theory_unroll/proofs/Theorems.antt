-- The theorems about loops written out, in the words of 02, item 13.
use Prim.Native.Nat.{ℕ}
use mathlib.Core.Path.{◌≡◌}
use mathlib.Core.Logic.{◌≢◌}
use mathlib.Core.Bool.{Bool, true, false}
use mathlib.Core.List.{List}
use Rattle.spec_language.specs.Statement.{Statement}
use Rattle.spec_language.specs.Places.{Place, At}
use Rattle.spec_language.specs.Reaction.{printed}
use Rattle.spec_language.specs.Reactions.{reactions}
use Rattle.spec_language.specs.Expansion.{expand}
use Rattle.spec_language.specs.Sizes.{signal_nesting}
use Rattle.spec_language.specs.States.{active, Valid, Distinct, Targeted, NoSetpause, WellFormed}
use Rattle.spec_language.specs.Machines.{State, by_labels}
use Rattle.spec_base.specs.Limits.{read_back_place}
use Rattle.spec_sequence.specs.Writer.{bytes_of}
use Rattle.spec_sequence.specs.Program.{read_back_signals, program}
use Rattle.spec_sequence.specs.Check.{sound, checked, check_of}
use Rattle.spec_sequence.specs.Rows.{Spells, ByRows}
use Rattle.spec_tick.specs.Tick.{tick_by, tick_of}
use Rattle.spec_unroll.specs.Unrolled.{unrolled, result_of}
use Rattle.spec_unroll.specs.Call.{unrolling, number, refused, unroll_of}
use Rattle.spec_unroll.specs.Rows.{UnrollRow, Fits}
use Rattle.spec_unroll.specs.Runs.{SameUntilWrong, SameLitresUntilWrong, tells_all, shows_wrong, until_wrong, InEach}
use Rattle.spec_unroll.specs.Entries.{Counting, chosen_run, any_run, both_runs, OneRun, everywhere, reacting, carried, AtLoop, Stands, Origin, begins_at, AtMostOnce}
use Rattle.spec_unroll.specs.Claims.{Written, Unroll, DecidesUnroll}
use Rattle.theory_unroll.proofs.Forms.{Forms, declared_forms}
use Rattle.theory_unroll.proofs.Marked as marked
use Rattle.theory_unroll.proofs.Labels as labels
use Rattle.theory_unroll.proofs.Runs as runs
use Rattle.theory_unroll.proofs.Spelled as spelled
use Rattle.theory_unroll.proofs.Ticks as ticks
use Rattle.theory_unroll.proofs.Printed as by-printed
use Rattle.theory_unroll.proofs.Rows as rows
use Rattle.theory_unroll.proofs.Results as results
use Rattle.theory_unroll.proofs.Decided as decided

-- ---- the call
module _ (sequence : List ℕ) (read_back : ℕ) (buffer : List ℕ) where
  -- each number is given exactly if its row holds and no row before it does
  pub unroll-by-rows : ByRows (number (unroll_of sequence read_back buffer)) (UnrollRow sequence read_back buffer)
  unroll-by-rows = rows.unroll-by-rows sequence read_back buffer

  -- after an error the length is 0 and every byte of the buffer keeps its value
  pub refusal_writes_nothing : number (unroll_of sequence read_back buffer) ≢ 0
      → unroll_of sequence read_back buffer ≡ refused (number (unroll_of sequence read_back buffer)) buffer
  refusal_writes_nothing = rows.refusal_writes_nothing sequence read_back buffer

  -- all that is said of the result of a call that gave 0
  pub result_written : (n : ℕ) (out : List ℕ) → unroll_of sequence read_back buffer ≡ unrolling 0 n out → Written sequence read_back buffer n out
  result_written = results.written sequence read_back buffer

-- DECIDED: a call with these numbers and results is unroll_of, for all arguments
pub decides : DecidesUnroll unroll_of
decides = record { by_rows = unroll-by-rows; refusal_writes_nothing = refusal_writes_nothing; result_written = result_written }

pub unroll_decided : (unroll : Unroll) → DecidesUnroll unroll
    → (sequence : List ℕ) (read_back : ℕ) (buffer : List ℕ) → unroll sequence read_back buffer ≡ unroll_of sequence read_back buffer
unroll_decided = decided.unroll_is

-- ---- the result is accepted
-- with the original's read-back set, and spells p worked through with its own offsets as places
pub accepted : (sequence : List ℕ) (read_back : ℕ) (p : Statement) → checked sequence read_back ≡ sound p → Fits p
    → checked (bytes_of (unrolled p)) read_back ≡ sound (result_of p)
accepted sequence read_back p e f = spelled.out_checked sequence read_back p e f.short f.shallow

-- rows 8, 9 and 10 hold of no result of an original with distinct labels and without setpause, and signals nest as they did
pub rules_kept : (p : Statement) → Distinct p → NoSetpause p → Distinct (result_of p) × Targeted (result_of p) × WellFormed (result_of p)
rules_kept p = labels.plain-kept p (result_of p) (spelled.out-forms p)

pub nesting_kept : (read_back : ℕ) (p : Statement) → signal_nesting (program read_back (result_of p)) ≡ signal_nesting (program read_back p)
nesting_kept read_back p = spelled.out-nesting p read_back

-- ---- 'up to the last instant before its run is wrong, both, started fresh on the same inputs and read-back set, emit the same and have
-- the same codes and labels'
-- through the tick, from cleared records, over any list of ticks; an original with setpause would do as well
pub same_until_wrong : (sequence : List ℕ) (read_back : ℕ) → check_of sequence read_back ≡ 0 → (p : Statement) → Spells sequence p → Fits p
    → SameUntilWrong tick_of sequence (bytes_of (unrolled p)) read_back
same_until_wrong = ticks.ticks-same

-- and the same litres for each farm (02, item 12)
pub same_litres_until_wrong : (sequence : List ℕ) (read_back : ℕ) → check_of sequence read_back ≡ 0 → (p : Statement) → Spells sequence p
    → Fits p → SameLitresUntilWrong sequence (bytes_of (unrolled p)) read_back
same_litres_until_wrong = ticks.litres-same

-- by the printed order of the signal rules this is not so (02, item 4 has another)
pub not_by_printed_order : (sequence : List ℕ) × (p : Statement) × (check_of sequence 0 ≡ 0) × Spells sequence p × NoSetpause p × Fits p
    × ¬ SameUntilWrong (tick_by printed) sequence (bytes_of (unrolled p)) 0
not_by_printed_order = by-printed.counterexample

module _ (read_back : ℕ) (p : Statement) where
  abbrev original : Statement
  original = program read_back p

  abbrev result : Statement
  result = program read_back (result_of p)

  forms : Forms false original result
  forms = declared_forms read_back_place (read_back_signals read_back) (spelled.out-forms p)

  -- the same of the machine by labels, litres included, for every statement
  pub same-told : (farm : ℕ) (inputs : List ℕ)
      → let before = until_wrong original State.fresh inputs in
      tells_all farm result State.fresh before ≡ tells_all farm original State.fresh before
  same-told farm = runs.runs_same farm forms State.fresh

  -- ---- 'can't enter a body twice in an instant'
  -- c: what counts of the two runs of a signal
  module _ (c : Counting) (i : OneRun c) where
    -- in an instant of the result that is not wrong, from any state, no command reacts twice, begins twice, or is resumed and begins; a
    -- loop and the 04 put into it go round, and of them only the beginnings count
    pub at-most-once : (s : State) (e : ℕ) → shows_wrong (by_labels result s e).0 ≡ false → AtMostOnce c result s e
    at-most-once = runs.tick_once c i forms

    -- so in each instant up to the last before the original's run is wrong
    pub once-until-wrong : (inputs : List ℕ)
        → InEach result (AtMostOnce c result) State.fresh (until_wrong original State.fresh inputs)
    once-until-wrong = runs.runs_once c i forms State.fresh

    -- a command that holds an active pause of a valid set does not begin in that instant, unless it is a loop or the body of one
    pub resumed_only : (L e : ℕ) → shows_wrong (by_labels result (State.waits L) e).0 ≡ false → Valid result L
        → (a : Place) (y : Statement) → At y a result → active y L ≡ true → ¬ AtLoop a result → begins_at c result (State.waits L) e a ≡ 0
    resumed_only L e h v = runs.resumed_only c i forms L e h v.together

-- of a signal's two runs the chosen one counts, or the greater of both
pub one_run : OneRun chosen_run × OneRun any_run
one_run = (marked.chosen-run, marked.any_run_lem)

-- what is counted: with every command marked and both runs, 02's number of reactions (item 6); and in an expansion each command has
-- the mark of the one that it comes from
pub all_counted : (p : Statement) (e : ℕ) → reacting both_runs p e everywhere ≡ reactions p e
all_counted = marked.all-reactions

pub marks_kept : (resumed : Bool) (p : Statement) (L : ℕ) (a : Place) (x : Statement) → Stands x a (expand p L)
    → Origin resumed p L x (λ m. carried resumed p L m a)
marks_kept = marked.comes_from
