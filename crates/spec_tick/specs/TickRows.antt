-- Rows 1 to 12 of 01's 'Turned down' for a tick, and 18 (02, item 12), each as a proposition about the bytes of its three buffers.
use Rattle.std.specs.Prelude.{ℕ, ◌<◌, ◌≡◌, ◌≢◌, ◌⊎◌, List, length}
use Rattle.spec_base.specs.Limits.{length_row, malformed_row, over_row}
use Rattle.spec_base.specs.Sets.{none}
use Rattle.spec_language.specs.Statement.{Statement}
use Rattle.spec_language.specs.States.{Valid}
use Rattle.spec_sequence.specs.Rows.{Spells, Row}
use Rattle.spec_tick.specs.StateRecord.{state_length, phase_in, labels_in}
use Rattle.spec_tick.specs.AnswerRecord.{answer_length}

-- row 11 for the statement p: phase above 2, labels with phase 0 or 2, or phase 1 with a set not valid
pub data Malformed (p : Statement) (phase labels : ℕ) : Type 0 where
  phase_above : 2 < phase → Malformed p phase labels
  labels_fresh : phase ≡ 0 → labels ≢ none → Malformed p phase labels
  labels_over : phase ≡ 2 → labels ≢ none → Malformed p phase labels
  not_valid : phase ≡ 1 → ¬ Valid p labels → Malformed p phase labels

pub data TickRow (sequence : List ℕ) (read_back : ℕ) (state answer : List ℕ) : (number : ℕ) → Type 0 where
  -- state buffer not 17 bytes (02, item 7), or answer buffer not 12 (02, item 6)
  row_1 : (length state ≢ state_length) ⊎ (length answer ≢ answer_length) → TickRow sequence read_back state answer length_row
  -- every row of the check, 18 too (02, item 12)
  row_2_to_10 : {number : ℕ} → Row sequence read_back number → TickRow sequence read_back state answer number
  row_11 : {p : Statement} → Spells sequence p → Malformed p (phase_in state) (labels_in state) → TickRow sequence read_back state answer malformed_row
  row_12 : phase_in state ≡ 2 → TickRow sequence read_back state answer over_row
