-- What a read-back set is compared with: the check and the tick as they were before there was one (02, item 4), which an empty set
-- gives, and inputs that differ in read-back signals only (item 5).
use Rattle.std.specs.Prelude.{ℕ, ◌&&◌, cond, List, length, eqb, leb, ltb}
use Rattle.spec_language.specs.Reaction.{inheritanceFirst}
use Rattle.spec_language.specs.ReadBack.{AgreeOutside}
use Rattle.spec_base.specs.Limits.{max_bytes}
use Rattle.spec_sequence.specs.Reader as Reader
use Rattle.spec_sequence.specs.Reader.{Read, accepted, read_all}
use Rattle.spec_sequence.specs.Program.{read_back_signals}
use Rattle.spec_sequence.specs.Check.{Checked, sound, bad, label_rules}
use Rattle.spec_tick.specs.StateRecord.{state_length, decode_state}
use Rattle.spec_tick.specs.AnswerRecord.{answer_length}
use Rattle.spec_tick.specs.Tick.{Outcome, outcome, Reply, refused, byState, replied}

abbrev pub plain_after_read : ℕ → Read → Checked
plain_after_read n (Reader.refused number) = bad number
plain_after_read n (accepted p count) = cond (ltb count n) (bad 7) (label_rules p)

unfoldable pub plain_checked : List ℕ → Checked
plain_checked bs = cond (leb 1 (length bs) && leb (length bs) max_bytes) (plain_after_read (length bs) (read_all bs)) (bad 2)

-- the sequence itself reacts
abbrev pub plain_by_check : Checked → (state : List ℕ) → ℕ → Reply
plain_by_check (bad number) state e = refused number
plain_by_check (sound p) state e = byState inheritanceFirst p (decode_state p state) e

unfoldable pub plain_tick : (sequence state : List ℕ) (e : ℕ) (answer : List ℕ) → Outcome
plain_tick sequence state e answer =
    cond (eqb (length state) state_length && eqb (length answer) answer_length) (replied (plain_by_check (plain_checked sequence) state e) state answer)
    (outcome 1 state answer)

-- two inputs that agree on every signal that is not read back
abbrev pub SameOutside : (read_back e e' : ℕ) → Type 0
SameOutside read_back e e' = AgreeOutside (read_back_signals read_back) e e'
