use mathlib.Core.Path.{◌≡◌}
use Rattle.spec_base.specs.Limits.{max_positions}
use Rattle.box_positions.specs.Places.{place}
use Rattle.box_positions.proofs.place.Given as goal

abbrev pub invariant-loop-i : goal.invariant-loop-i
invariant-loop-i l = place max_positions l.key l.table ≡ place l.i l.key l.table
