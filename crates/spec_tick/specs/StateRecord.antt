-- The state record as bytes (01, 'States and resuming'; 02, item 7): phase (0 fresh, 1 waiting, 2 over), then the label set.
use Rattle.std.specs.Prelude.{ℕ, ◌+◌, ◌^◌, ◌<◌, ◌&&◌, cond, List, ◌∷◌, get_or, take, drop, eqb}
use Rattle.spec_base.specs.Limits.{label_bytes}
use Rattle.spec_base.specs.Sets.{none}
use Rattle.spec_language.specs.Statement.{Statement}
use Rattle.spec_language.specs.States.{Valid}
use Rattle.spec_language.specs.LabelTests.{valid}
use Rattle.spec_language.specs.Machines.{State}
use Rattle.spec_base.specs.Bytes.{le_bytes, le_number}

-- where the label set begins, and the length
abbrev pub labels_at : ℕ
labels_at = 1

abbrev pub state_length : ℕ
state_length = labels_at + label_bytes

abbrev pub state_record : (phase labels : ℕ) → List ℕ
state_record phase labels = phase ∷ le_bytes label_bytes labels

abbrev pub phase_in : List ℕ → ℕ
phase_in state = get_or state 0 0

-- the label set that the bytes from `at` on hold, as far as they are there
abbrev pub labels_from : (at : ℕ) → List ℕ → ℕ
labels_from at bs = le_number (take label_bytes (drop at bs))

abbrev pub labels_in : List ℕ → ℕ
labels_in = labels_from labels_at

unfoldable pub encode_state : State → List ℕ
encode_state State.fresh = state_record 0 none
encode_state (State.waits L) = state_record 1 L
encode_state State.over = state_record 2 none

-- the state that a record holds for p, or none (row 11): phase above 2, labels with phase 0 or 2, or a set that is not valid
pub data Decoded : Type 0 where
  holds : State → Decoded
  malformed : Decoded

abbrev pub decode : Statement → (phase labels : ℕ) → Decoded
decode p phase labels =
    cond (eqb phase 1)
    (cond (valid p labels) (holds (State.waits labels)) malformed)
    (cond (eqb phase 0 && eqb labels none) (holds State.fresh)
    (cond (eqb phase 2 && eqb labels none) (holds State.over) malformed))

unfoldable pub decode_state : Statement → List ℕ → Decoded
decode_state p state = decode p (phase_in state) (labels_in state)

-- a valid state, with labels that fit the record
abbrev pub Recorded : Statement → State → Type 0
Recorded p State.fresh = Unit {0}
Recorded p (State.waits L) = Valid p L × (L < 256 ^ label_bytes)
Recorded p State.over = Unit {0}
