-- Loops written out (02, item 13; 002, section 5): 'each loop p becomes a loop over a copy of the original p followed by p worked
-- through; in the copy, pauses become setpauses and loops become their bodies'.
use Rattle.std.specs.Prelude.{ℕ, ◌+◌}
use Rattle.spec_language.specs.Statement.{Statement, nothing, pause, emit, exit, seq, par, loop, present, signal, try, setpause, suspend, held}
use Rattle.spec_sequence.specs.Writer.{size}

-- the copy
unfoldable pub copied : Statement → Statement
copied nothing = nothing
copied (pause l) = setpause l
copied (emit s v) = emit s v
copied (exit n) = exit n
copied (seq p q) = seq (copied p) (copied q)
copied (par p q) = par (copied p) (copied q)
copied (loop a p) = copied p
copied (present s p q) = present s (copied p) (copied q)
copied (signal sc a s p) = signal sc a s (copied p)
copied (try p) = try (copied p)
copied (setpause l) = setpause l
copied (suspend s p) = suspend s (copied p)
copied (held s K p) = held s K (copied p)

-- p worked through
unfoldable pub unrolled : Statement → Statement
unrolled nothing = nothing
unrolled (pause l) = pause l
unrolled (emit s v) = emit s v
unrolled (exit n) = exit n
unrolled (seq p q) = seq (unrolled p) (unrolled q)
unrolled (par p q) = par (unrolled p) (unrolled q)
unrolled (loop a p) = loop a (seq (copied p) (unrolled p))
unrolled (present s p q) = present s (unrolled p) (unrolled q)
unrolled (signal sc a s p) = signal sc a s (unrolled p)
unrolled (try p) = try (unrolled p)
unrolled (setpause l) = setpause l
unrolled (suspend s p) = suspend s (unrolled p)
unrolled (held s K p) = held s K (unrolled p)

-- the same statement with the offsets of its commands as places, its own command standing at offset a
unfoldable pub placed : ℕ → Statement → Statement
placed a nothing = nothing
placed a (pause l) = pause l
placed a (emit s v) = emit s v
placed a (exit n) = exit n
placed a (seq p q) = seq (placed (a + 1) p) (placed (a + (1 + size p)) q)
placed a (par p q) = par (placed (a + 1) p) (placed (a + (1 + size p)) q)
placed a (loop b p) = loop a (placed (a + 1) p)
placed a (present s p q) = present s (placed (a + 2) p) (placed (a + (2 + size p)) q)
placed a (signal sc b s p) = signal sc a s (placed (a + 2) p)
placed a (try p) = try (placed (a + 1) p)
placed a (setpause l) = setpause l
placed a (suspend s p) = suspend s (placed (a + 2) p)
placed a (held s K p) = held s K (placed a p)

-- the statement that the result spells
abbrev pub result_of : Statement → Statement
result_of p = placed 0 (unrolled p)
