use Prim.Native.Nat.{◌+◌}
use mathlib.Core.Path.{◌≡◌}
use lib.ListN.{length}
use Rattle.spec_programs.specs.Text.{numeral}
use Rattle.lines.proofs.Buffers.{Filling}
use Rattle.lines.proofs.put_numeral.Given as goal

abbrev pub invariant-loop-left : goal.invariant-loop-left
invariant-loop-left l = (length l.line ≡ length l.initial.line) × Filling l.initial.line l.end (numeral l.base l.width l.x) l.line l.from (numeral l.base l.left l.rest)

abbrev pub decreases-loop-left : goal.decreases-loop-left
decreases-loop-left l = l.left + l.rest
