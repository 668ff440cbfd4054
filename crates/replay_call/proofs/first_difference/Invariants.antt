use Prim.Native.Nat.{◌+◌, ◌/◌}
use mathlib.Core.Path.{◌≡◌}
use lib.ListN.{length}
use Rattle.spec_language.specs.Machines.{State}
use Rattle.checks.specs.Verdict.{Passed}
use Rattle.spec_tick.specs.StateRecord.{encode_state}
use Rattle.spec_tick.specs.Record.{recordLength}
use Rattle.spec_replay.specs.Replay.{place_of}
use Rattle.replay_call.specs.Following.{Holds, place_from}
use Rattle.replay_call.proofs.first_difference.Given as goal

-- what the chunks have left gives the place
abbrev pub invariant-loop-i : goal.invariant-loop-i
invariant-loop-i l =
    let chunks = l.i-iterator.iter in
    ((h : Passed l.sequence l.read_back l.second l.notes) × ((s : State) × Holds h.p s l.standing
    × (place_from l.sequence l.read_back (l.i-iterator.count + 1) l.number (encode_state s) (length chunks.rest.now / recordLength) chunks.rest.now
    ≡ place_of l.sequence l.read_back l.recording)))
    × (chunks.size ≡ recordLength)
