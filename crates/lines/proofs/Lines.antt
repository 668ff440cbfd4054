-- A text that was put at the end of a line's buffer is the line's.
use native.Mathlib.Omega.{arith}
use Prim.Native.Nat.{ℕ}
use mathlib.Core.Path.{◌≡◌, ap, ◌∙◌}
use mathlib.Core.List.{List, ◌++◌, append-nil}
use lib.ListN.{length, drop, drop_of_length-le}
use Rattle.lines.specs.Buffer.{Prepended}
use Rattle.lines.specs.declared.line.Line.{Line}
use Rattle.lines.specs.Shown.{line_length, Displays}

pub shown : {l text : List ℕ} (line : Line) → length l ≡ line_length → length line.bytes ≡ length l
    → Prepended l line_length text line.bytes line.from → Displays line text
shown {l} {text} line n k p =
    let t : drop line.from line.bytes ≡ text
    = p.shows ∙ ap (λ (r : List ℕ). text ++ r) (drop_of_length-le l {i = line_length} (omega (arith, n))) ∙ append-nil text in
    record { told = t; sized = k ∙ n }
