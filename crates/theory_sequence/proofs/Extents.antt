-- A statement that bytes spell has at most as many commands as bytes, and fewer loops around a command than levels; an accepted
-- program at most six signals around one.
use Prim.Native.Nat.{ℕ, ◌≤◌, ◌<◌}
use native.Mathlib.Omega.{arith}
use native.Mathlib.Decide.{dec_lt}
use mathlib.Core.Path.{◌≡◌, refl, sym, ◌∙◌, subst}
use mathlib.Core.List.{List, [], append-nil}
use lib.ListN.{length-append}
use Rattle.spec_language.specs.Statement.{pure, litres, Statement, nothing, pause, emit, exit, seq, par, loop, present, signal, try, setpause, suspend, held}
use Rattle.spec_language.specs.Sizes.{commands, loop_nesting, signal_nesting, depth_of}
use Rattle.spec_base.specs.Limits.{max_depth, max_signals}
use Rattle.spec_sequence.specs.Program.{program}
use Rattle.spec_sequence.specs.Check.{sound, checked}
use Rattle.spec_sequence.specs.Rows.{row_6}
use Rattle.spec_sequence.specs.Writer.{bytes_of, size, Ranged, Written}
use Rattle.theory_sequence.proofs.Rows.{Decides, decided}

pub extent : (p : Statement) → Ranged p → (commands p ≤ size p) × (loop_nesting p < depth_of p)
unfolding commands loop_nesting bytes_of depth_of
extent nothing h = (omega arith, omega arith)
extent (pause l) h = (omega arith, omega arith)
extent (emit s pure) h = (omega arith, omega arith)
extent (emit s (litres n)) h = (omega arith, omega arith)
extent (exit n) h = (omega arith, omega arith)
extent (seq p q) h =
    let x = extent p h.0 in
    let y = extent q h.1 in
    (omega (arith, length-append (bytes_of p) (bytes_of q)), omega arith)
extent (par p q) h =
    let x = extent p h.0 in
    let y = extent q h.1 in
    (omega (arith, length-append (bytes_of p) (bytes_of q)), omega arith)
extent (loop a p) h = let x = extent p h in (omega arith, omega arith)
extent (present s p q) h =
    let x = extent p h.1 in
    let y = extent q h.2 in
    (omega (arith, length-append (bytes_of p) (bytes_of q)), omega arith)
extent (signal sc a s p) h = let x = extent p h.2 in (omega arith, omega arith)
extent (try p) h = let x = extent p h in (omega arith, omega arith)
extent (setpause l) h = (omega arith, omega arith)
extent (suspend s p) h = let x = extent p h.1 in (omega arith, omega arith)
extent (held s K p) h = absurd h

-- row 6 with the read-back set
pub few_signals : (bs : List ℕ) (read_back : ℕ) (p : Statement) → checked bs read_back ≡ sound p → signal_nesting (program read_back p) ≤ max_signals
few_signals bs read_back p e =
    let d = subst (Decides bs read_back) e (decided bs read_back) in
    let w : Written max_depth max_signals 0 bs p (size p)
    = record { rest = []; bytes = d.1.0 ∙ sym (append-nil (bytes_of p)); count = refl; within = d.1.1; placed = d.1.2 } in
    elim (dec_lt max_signals (signal_nesting (program read_back p))) [
      | yes i ↦ absurd (d.0 6 (row_6 w i))
      | no i ↦ omega (arith, i)
    ]
