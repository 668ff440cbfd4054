use Prim.Native.Nat.{◌*◌, ◌^◌, ◌≤◌}
use mathlib.Core.Path.{◌≡◌}
use Rattle.spec_box.specs.Box.{present}
use Rattle.boxes.proofs.present_in.Given as goal

abbrev pub invariant-loop-bay : goal.invariant-loop-bay
invariant-loop-bay l = record { is_present : l.sum ≡ present l.bay l.memory; below : l.sum ≤ l.bay * 2 ^ 32 }
