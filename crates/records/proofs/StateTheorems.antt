-- The theorems of this crate: a state that was written is what is read, and the length of its record.
use mathlib.Core.Path.{◌≡◌}
use lib.ListN.{length}
use Rattle.spec_language.specs.Statement.{Statement}
use Rattle.spec_language.specs.Machines.{State}
use Rattle.spec_tick.specs.StateRecord.{state_length, encode_state, holds, decode_state, Recorded}
use Rattle.records.proofs.StateLaws as laws

-- a valid state whose labels fit
pub decode_encode : (p : Statement) (s : State) → Recorded p s → decode_state p (encode_state s) ≡ holds s
decode_encode = laws.decode_encode

pub length_state : (s : State) → length (encode_state s) ≡ state_length
length_state = laws.length_state
