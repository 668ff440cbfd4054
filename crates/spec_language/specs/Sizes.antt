-- The sizes of a statement: its commands, its depth, and the loops and signals around a command (01, row 6; 02, item 6).
use Rattle.std.specs.Prelude.{ℕ, ◌+◌, max}
use Rattle.spec_language.specs.Statement.{Statement, nothing, pause, emit, exit, seq, par, loop, present, signal, try, setpause, suspend, held}

-- the number of commands
unfoldable pub commands : Statement → ℕ
commands nothing = 1
commands (pause l) = 1
commands (emit s v) = 1
commands (exit n) = 1
commands (seq p q) = 1 + commands p + commands q
commands (par p q) = 1 + commands p + commands q
commands (loop a p) = 1 + commands p
commands (present s p q) = 1 + commands p + commands q
commands (signal sc a s p) = 1 + commands p
commands (try p) = 1 + commands p
commands (setpause l) = 1
commands (suspend s p) = 1 + commands p
commands (held s K p) = 1 + commands p

-- the greatest depth of a command; the outermost has depth 1
unfoldable pub depth_of : Statement → ℕ
depth_of nothing = 1
depth_of (pause l) = 1
depth_of (emit s v) = 1
depth_of (exit n) = 1
depth_of (seq p q) = 1 + max (depth_of p) (depth_of q)
depth_of (par p q) = 1 + max (depth_of p) (depth_of q)
depth_of (loop a p) = 1 + depth_of p
depth_of (present s p q) = 1 + max (depth_of p) (depth_of q)
depth_of (signal sc a s p) = 1 + depth_of p
depth_of (try p) = 1 + depth_of p
depth_of (setpause l) = 1
depth_of (suspend s p) = 1 + depth_of p
depth_of (held s K p) = 1

-- the greatest number of loops around a command
unfoldable pub loop_nesting : Statement → ℕ
loop_nesting nothing = 0
loop_nesting (pause l) = 0
loop_nesting (emit s v) = 0
loop_nesting (exit n) = 0
loop_nesting (seq p q) = max (loop_nesting p) (loop_nesting q)
loop_nesting (par p q) = max (loop_nesting p) (loop_nesting q)
loop_nesting (loop a p) = 1 + loop_nesting p
loop_nesting (present s p q) = max (loop_nesting p) (loop_nesting q)
loop_nesting (signal sc a s p) = loop_nesting p
loop_nesting (try p) = loop_nesting p
loop_nesting (setpause l) = 0
loop_nesting (suspend s p) = loop_nesting p
loop_nesting (held s K p) = loop_nesting p

-- the greatest number of signal commands around a command
unfoldable pub signal_nesting : Statement → ℕ
signal_nesting nothing = 0
signal_nesting (pause l) = 0
signal_nesting (emit s v) = 0
signal_nesting (exit n) = 0
signal_nesting (seq p q) = max (signal_nesting p) (signal_nesting q)
signal_nesting (par p q) = max (signal_nesting p) (signal_nesting q)
signal_nesting (loop a p) = signal_nesting p
signal_nesting (present s p q) = max (signal_nesting p) (signal_nesting q)
signal_nesting (signal sc a s p) = 1 + signal_nesting p
signal_nesting (try p) = signal_nesting p
signal_nesting (setpause l) = 0
signal_nesting (suspend s p) = signal_nesting p
signal_nesting (held s K p) = signal_nesting p
