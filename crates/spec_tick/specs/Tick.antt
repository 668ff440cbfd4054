-- One tick (01, 'Turned down' and 'States and resuming'): its reply by value, and the number and both buffers after the call, for all
-- arguments.
use Rattle.std.specs.Prelude.{ℕ, ◌&&◌, cond, List, length, eqb}
use Rattle.spec_base.specs.Limits.{length_row, malformed_row, over_row}
use Rattle.spec_language.specs.Statement.{Statement}
use Rattle.spec_language.specs.Reaction.{Order, inheritanceFirst}
use Rattle.spec_language.specs.Expansion.{expand}
use Rattle.spec_language.specs.Instants.{Instant, instant, start_by}
use Rattle.spec_language.specs.Machines.{State, state_after}
use Rattle.spec_sequence.specs.Program.{program}
use Rattle.spec_sequence.specs.Check.{Checked, sound, bad, checked}
use Rattle.spec_tick.specs.StateRecord.{state_length, Decoded, holds, malformed, encode_state, decode_state}
use Rattle.spec_tick.specs.AnswerRecord.{answer_length, encode_answer}

pub data Outcome : Type 0 where
  outcome : (number : ℕ) (state answer : List ℕ) → Outcome

-- an instant: number 0, the next state and the answer
abbrev pub written : Instant → Outcome
written (instant r x n) = outcome 0 (encode_state (state_after r)) (encode_answer (instant r x n))

-- ---- the reply: rows 2 to 12 and 18, and else the instant; nothing is written yet
pub data Reply : Type 0 where
  refused : (number : ℕ) → Reply
  reacts : Instant → Reply

-- a fresh machine reacts with the whole program p, a waiting one with its expansion
abbrev pub byState : Order → Statement → Decoded → ℕ → Reply
byState ord p malformed e = refused malformed_row
byState ord p (holds State.fresh) e = reacts (start_by ord p e)
byState ord p (holds (State.waits L)) e = reacts (start_by ord (expand p L) e)
byState ord p (holds State.over) e = refused over_row

-- the program is the sequence under its read-back declarations (02, item 5); the state is one of the sequence itself
abbrev pub by_check : Order → (read_back : ℕ) → Checked → (state : List ℕ) → ℕ → Reply
by_check ord read_back (bad number) state e = refused number
by_check ord read_back (sound p) state e = byState ord (program read_back p) (decode_state p state) e

-- by either order of the signal rules
abbrev pub reply_by : Order → (sequence state : List ℕ) (e read_back : ℕ) → Reply
reply_by ord sequence state e read_back = by_check ord read_back (checked sequence read_back) state e

-- by 02's order (item 4)
abbrev pub reply_of : (sequence state : List ℕ) (e read_back : ℕ) → Reply
reply_of = reply_by inheritanceFirst

-- a refusal leaves both buffers
abbrev pub replied : Reply → (state answer : List ℕ) → Outcome
replied (refused number) state answer = outcome number state answer
replied (reacts i) state answer = written i

-- ---- the tick: row 1, and else the reply
unfoldable pub tick_by : Order → (sequence state : List ℕ) (e read_back : ℕ) (answer : List ℕ) → Outcome
tick_by ord sequence state e read_back answer =
    cond (eqb (length state) state_length && eqb (length answer) answer_length)
    (replied (reply_by ord sequence state e read_back) state answer)
    (outcome length_row state answer)

abbrev pub tick_of : (sequence state : List ℕ) (e read_back : ℕ) (answer : List ℕ) → Outcome
tick_of = tick_by inheritanceFirst
