-- The expansion of a waiting statement, and its instant, by the ranks of its active pauses: the code builds no expansion.
use Rattle.std.specs.Prelude.{ℕ, cond}
use Rattle.spec_base.specs.Sets.{empty, below, from}
use Rattle.spec_language.specs.Statement.{Statement, nothing, pause, emit, exit, seq, par, loop, present, signal, try, setpause, suspend, held}
use Rattle.theory_language.specs.Ranks.{middle, labels_by}
use Rattle.spec_language.specs.Instants.{Instant, start}
use Rattle.theory_language.specs.Traced.{Traced, start_traced}

-- the expansion of p, whose first pause has rank base, by the ranks m of its active pauses; m is not empty
-- A side without an active pause has ended; a sequence whose second part is active, and a present, are gone.
unfoldable pub expand_by : (base : ℕ) → Statement → (m : ℕ) → Statement
expand_by base nothing m = nothing
expand_by base (pause l) m = nothing
expand_by base (emit s v) m = nothing
expand_by base (exit n) m = nothing
expand_by base (seq p q) m =
    cond (empty (below (middle base p) m)) (expand_by (middle base p) q (from (middle base p) m))
    (seq (expand_by base p (below (middle base p) m)) q)
expand_by base (par p q) m =
    par
    (cond (empty (below (middle base p) m)) nothing (expand_by base p (below (middle base p) m)))
    (cond (empty (from (middle base p) m)) nothing (expand_by (middle base p) q (from (middle base p) m)))
expand_by base (loop a p) m = seq (expand_by base p m) (loop a p)
expand_by base (present s p q) m =
    cond (empty (below (middle base p) m)) (expand_by (middle base p) q (from (middle base p) m))
    (expand_by base p (below (middle base p) m))
expand_by base (signal sc a s p) m = signal sc a s (expand_by base p m)
expand_by base (try p) m = try (expand_by base p m)
expand_by base (setpause l) m = nothing
expand_by base (suspend s p) m = held s (labels_by base p m) (expand_by base p m)
expand_by base (held s K p) m = nothing

abbrev pub resume : (base : ℕ) → Statement → (m : ℕ) → (e : ℕ) → Instant
resume base p m e = start (expand_by base p m) e

abbrev pub resume_traced : (farm base : ℕ) → Statement → (m : ℕ) → (e : ℕ) → Traced
resume_traced f base p m e = start_traced f (expand_by base p m) e
