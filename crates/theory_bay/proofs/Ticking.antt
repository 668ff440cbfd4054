-- The state record that a tick leaves has its length.
use Prim.Native.Nat.{ℕ}
use mathlib.Core.Path.{◌≡◌}
use mathlib.Core.Bool.{Bool, true, false, ◌&&◌, cond}
use mathlib.Core.List.{List}
use lib.ListN.{length}
use lib.Dec.{eqb}
use Rattle.spec_language.specs.Statement.{Statement}
use Rattle.spec_language.specs.Reaction.{inheritanceFirst}
use Rattle.spec_language.specs.Machines.{State}
use Rattle.spec_sequence.specs.Program.{program}
use Rattle.spec_sequence.specs.Check.{Checked, sound, bad, checked}
use Rattle.spec_tick.specs.StateRecord.{state_length, Decoded, holds, malformed, decode_state}
use Rattle.records.proofs.StateLaws.{length_state}
use Rattle.spec_tick.specs.AnswerRecord.{answer_length}
use Rattle.spec_tick.specs.Tick as Tick
use Rattle.spec_tick.specs.Tick.{outcome, byState, replied, tick_by, tick_of}
use Rattle.spec_tick.specs.Demands.{state_afterwards}

state_kept_lem : (p : Statement) (d : Decoded) (state : List ℕ) (e : ℕ) (answer : List ℕ) → length state ≡ state_length
    → length (state_afterwards (replied (byState inheritanceFirst p d e) state answer)) ≡ state_length
state_kept_lem p malformed state e answer h = h
state_kept_lem p (holds State.fresh) state e answer h = length_state _
state_kept_lem p (holds (State.waits L)) state e answer h = length_state _
state_kept_lem p (holds State.over) state e answer h = h

pub tick_sized : (sequence state : List ℕ) (e read_back : ℕ) (answer : List ℕ) → length state ≡ state_length
    → length (state_afterwards (tick_of sequence state e read_back answer)) ≡ state_length
unfolding tick_by
tick_sized sequence state e read_back answer h =
    go (eqb (length state) state_length && eqb (length answer) answer_length) (checked sequence read_back)
  where
    go : (b : Bool) (c : Checked)
        → length (state_afterwards (cond b (replied (Tick.by_check inheritanceFirst read_back c state e) state answer) (outcome 1 state answer))) ≡ state_length
    go false c = h
    go true (bad k) = h
    go true (sound p) = state_kept_lem (program read_back p) (decode_state p state) state e answer h
