-- The machine that demand 3 compares the ticks with (01, 'The fitters' paper'). It is fed the statement of the sequence once, and
-- for each tick the input and the length of the answer buffer. It rewrites a term, in which it also finds the error that a wrong
-- instant names, and counts its reactions; it knows no labels, no expansion and no record.
use Rattle.std.specs.Prelude.{ℕ, cond, List, [], ◌∷◌, length, eqb}
use Rattle.spec_language.specs.Machines.{Phase, fresh, waits, over, Seen, instant, refused, Rewriting, by_rewriting}
use Rattle.spec_tick.specs.AnswerRecord.{answer_length, code_byte}

-- a tick of a list: its input and its answer buffer
pub record Call : Type 0 where
  pub input : ℕ
  pub buffer : List ℕ

-- what is compared: number, code, kind, place, emitted set and number of reactions of an instant, and the phase after each tick
pub data Report : Type 0 where
  turned_down : (number : ℕ) (phase : ℕ) → Report
  reacted : (code kind place emitted reactions : ℕ) (phase : ℕ) → Report

abbrev pub phase_number : Phase → ℕ
phase_number fresh = 0
phase_number waits = 1
phase_number over = 2

abbrev pub phase_of : Rewriting → ℕ
phase_of (Rewriting.fresh t) = 0
phase_of (Rewriting.waits t) = 1
phase_of Rewriting.over = 2

-- a machine that is over gives number 12
abbrev pub report_of : Seen → Report
report_of (instant k x o n after) = reacted (code_byte k) x.kind x.place o n (phase_number after)
report_of refused = turned_down 12 2

abbrev pub paper_tick : Rewriting → (input bufferLength : ℕ) → Report × Rewriting
paper_tick w e n =
    cond (eqb n answer_length) (report_of (by_rewriting w e).0, (by_rewriting w e).1) (turned_down 1 (phase_of w), w)

unfoldable pub paper : Rewriting → List Call → List Report
paper w [] = []
paper w (c ∷ cs) = (paper_tick w c.input (length c.buffer)).0 ∷ paper (paper_tick w c.input (length c.buffer)).1 cs
