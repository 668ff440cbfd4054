-- The rest of the slice that is handed on.
use mathlib.Core.Path.{◌≡◌}
use mathlib.Core.List.{List}
use Prim.Native.Nat.{ℕ, ◌-◌}
use native.Mathlib.Omega.{arith}
use lib.ListN.{length, take, drop, length-drop}
use lib.Seq.{take_all}

pub rest-is : (n : ℕ) (s : List ℕ) → take (length s - n) (drop n s) ≡ drop n s
rest-is n s = take_all (length s - n) (drop n s) (omega (arith, length-drop n s))
