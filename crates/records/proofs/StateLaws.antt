-- What a state record holds: a state that was written is read again.
use Prim.Native.Nat.{ℕ, suc}
use mathlib.Core.Path.{◌≡◌, refl, ap}
use mathlib.Core.Bool.{cond}
use lib.ListN.{length}
use Rattle.spec_base.specs.Limits.{label_bytes}
use Rattle.spec_base.specs.Sets.{none}
use Rattle.spec_language.specs.Statement.{Statement}
use Rattle.spec_language.specs.LabelTests.{valid}
use Rattle.spec_language.specs.Machines.{State}
use Rattle.theory_language.proofs.LabelTests.{valid-is}
use Rattle.spec_base.specs.Bytes.{le_bytes, le_number}
use Rattle.numbers.proofs.Bytes.{length_le_bytes, le_round_trip}
use Rattle.spec_tick.specs.StateRecord.{state_length, state_record, encode_state, holds, malformed, decode_state, Recorded}

-- ---- lengths
pub state_sized : (phase labels : ℕ) → length (state_record phase labels) ≡ state_length
state_sized phase labels = ap suc (length_le_bytes label_bytes labels)

pub length_state : (s : State) → length (encode_state s) ≡ state_length
unfolding encode_state
length_state State.fresh = state_sized 0 none
length_state (State.waits L) = state_sized 1 L
length_state State.over = state_sized 2 none

-- STATE ROUND TRIP
pub decode_encode : (p : Statement) (s : State) → Recorded p s → decode_state p (encode_state s) ≡ holds s
unfolding decode_state encode_state le_bytes le_number none
decode_encode p State.fresh h = refl
decode_encode p (State.waits L) h = go (le_number (le_bytes label_bytes L)) (le_round_trip label_bytes L h.1)
  where
    go : (M : ℕ) → M ≡ L → cond (valid p M) (holds (State.waits M)) malformed ≡ holds (State.waits L)
    go M e = rw (e, (valid-is p L).1 h.0)
decode_encode p State.over h = refl
