use Rattle.std.proofs.Common.{◌≡◌, ◌-◌, ◌≤◌, ◌⊎◌}
use Rattle.vectors_notation.specs.Room.{room_length, holds, again}
use Rattle.vectors_notation.proofs.repeat.Given as goal

abbrev pub invariant-loop : goal.invariant-loop
invariant-loop l =
    (again (l.times - l.counter) l.line l.end (holds l.after) ≡ again l.times l.line l.end (holds l.fn.before))
    × ((l.after ≡ l.fn.before) ⊎ (l.after.count ≤ room_length))
