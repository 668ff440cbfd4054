use Rattle.std.proofs.Common.{◌-◌, ◌≡◌, ◌≤◌, ◌⊎◌, length}
use Rattle.vectors_notation.specs.Room.{room_length, holds, appended}
use Rattle.vectors_notation.proofs.append.Given as goal

abbrev pub invariant-loop-at : goal.invariant-loop-at
invariant-loop-at l =
    (appended l.line l.at (holds l.after) ≡ appended l.line l.from (holds l.fn.before))
    × ((l.after ≡ l.fn.before) ⊎ (l.after.count ≤ room_length))

abbrev pub decreases-loop-at : goal.decreases-loop-at
decreases-loop-at l = length l.line - l.at
