-- Worked reactions by computation: 01's starred bays as trees, the examples that the papers turn on, and 02's suspend.
use Rattle.std.specs.Prelude.{ℕ, ◌+◌, ◌≡◌, refl, List, [], ◌∷◌, map}
use Rattle.std.proofs.Math.Option.{Option, some}
use Rattle.spec_base.specs.Sets.{member, none, only, join, insert, remove}
use Rattle.spec_language.specs.Statement.{local, pure, Statement, nothing, pause, emit, exit, seq, par, loop, present, signal, try, setpause, suspend, held}
use Rattle.spec_language.specs.Reaction.{Code, ended, waiting, leaving, wrong, gives, code, emitted, labels, residual, react_by, react}
use Rattle.spec_language.specs.Errors.{Error, no_error, errors_by, errors, first_error, instantaneous, not_reactive, not_deterministic}
use Rattle.spec_language.specs.Reactions.{reactions_by}
use Rattle.spec_language.specs.Places.{first, second, PartOf, At, Alternative, Exclusive}
use Rattle.spec_language.specs.States.{active, Triggers}
use Rattle.spec_language.specs.Expansion.{expand}
use Rattle.spec_language.specs.LabelTests.{labels_of, active_labels}
use Rattle.spec_language.specs.Machines.{waits, over, Seen, instant, refused, run, State, by_labels, Rewriting, by_rewriting}

-- what the table says of an instant with empty input: code, emitted set, labels, errors
abbrev Told : Type 0
Told = Code × ℕ × ℕ × List Error

abbrev told : Statement → Told
told p = (code (react p 0), emitted (react p 0), labels (react p 0), errors p 0)

-- 06 08 00 04 07 00 02 01 00 04 01 00 02 00, and 002's figure 6: the next round does not see the last one's signal
abbrev reincarnated : Statement
reincarnated = loop 0 (signal local 1 0 (seq (present 0 (emit 1 pure) nothing) (seq (pause 0) (emit 0 pure))))

-- 08 00 04 02 00 07 00 00 06 00, at place a: the body emits its signal in both runs, and one run is wrong (02, item 4)
abbrev inherits_at : ℕ → Statement
inherits_at a = signal local a 0 (seq (emit 0 pure) (present 0 nothing (loop (a + 8) nothing)))

abbrev inherits : Statement
inherits = inherits_at 0

-- 08 01 08 00 04 02 00 04 02 01 07 01 00 06 00: what is emitted beside an error decides nothing
abbrev beside : Statement
beside = signal local 0 1 (signal local 2 0 (seq (emit 0 pure) (seq (emit 1 pure) (present 1 nothing (loop 13 nothing)))))

-- 04 01 01 04 0A 02 04 02 00 01 02
abbrev jump : Statement
jump = seq (pause 1) (seq (setpause 2) (seq (emit 0 pure) (pause 2)))

-- 002, section 4: not well-formed
abbrev split : Statement
split = seq (pause 1) (seq (par (setpause 2) (pause 3)) (pause 2))

-- pauses of ranks 0, 1 and 2
abbrev pub three : Statement
three = seq (pause 5) (par (loop 3 (pause 3)) (pause 4))

table : List (Statement × Told)
table =
    (nothing, (ended, 0, 0, []))
    ∷ (exit 1, (leaving 1, 0, 0, []))
    ∷ (try (exit 1), (ended, 0, 0, []))
    ∷ (par (exit 3) (exit 5), (leaving 5, 0, 0, []))
    ∷ (loop 0 nothing, (wrong, 0, 0, instantaneous 0 ∷ []))
    ∷ (loop 0 (pause 0), (waiting, 0, 1, []))
    ∷ (signal local 0 0 (emit 0 pure), (ended, 0, 0, []))
    ∷ (signal local 0 0 (present 0 nothing (emit 0 pure)), (wrong, 0, 0, not_reactive 0 ∷ []))
    ∷ (signal local 0 0 (present 0 (emit 0 pure) nothing), (wrong, 0, 0, not_deterministic 0 ∷ []))
    ∷ (try (par (pause 0) (exit 1)), (ended, 0, 0, []))
    ∷ (reincarnated, (waiting, 0, 1, []))
    ∷ (seq (emit 0 pure) (present 0 (emit 1 pure) nothing), (ended, 1, 0, []))
    ∷ (inherits, (wrong, 0, 0, instantaneous 8 ∷ []))
    ∷ (beside, (wrong, 0, 0, instantaneous 13 ∷ instantaneous 13 ∷ []))
    -- the body emits its signal in both runs, and the run with it is wrong
    ∷ (signal local 0 0 (seq (emit 0 pure) (seq (emit 1 pure) (present 0 (loop 10 nothing) nothing))), (wrong, 0, 0, instantaneous 10 ∷ []))
    ∷ (par (emit 1 pure) (loop 3 nothing), (wrong, 2, 0, instantaneous 3 ∷ []))
    -- the order of 02, item 3: an error in the run without the signal, in the run with it, in both
    ∷ (signal local 0 0 (present 0 nothing (loop 5 nothing)), (wrong, 0, 0, instantaneous 5 ∷ []))
    ∷ (signal local 0 0 (present 0 (loop 4 nothing) nothing), (wrong, 0, 0, instantaneous 4 ∷ []))
    ∷ (signal local 0 0 (present 0 (loop 4 nothing) (loop 6 nothing)), (wrong, 0, 0, instantaneous 6 ∷ instantaneous 4 ∷ []))
    -- both sides of a parallel react; after a wrong first part of a sequence the second does not
    ∷ (par (inherits_at 1) (loop 11 nothing), (wrong, 0, 0, instantaneous 9 ∷ instantaneous 11 ∷ []))
    ∷ (seq (inherits_at 1) (loop 11 nothing), (wrong, 0, 0, instantaneous 9 ∷ []))
    -- a loop and a signal do not err beside a wrong body
    ∷ (loop 0 (inherits_at 1), (wrong, 0, 0, instantaneous 9 ∷ []))
    ∷ (
      signal local 0 1 (seq (inherits_at 3) (present 1 nothing (emit 1 pure))),
      (wrong, 0, 0, instantaneous 11 ∷ instantaneous 11 ∷ []),
    )
    -- two errors of one command, in the two runs of another
    ∷ (
      signal local 0 1 (signal local 2 0 (present 1 (present 0 nothing (emit 0 pure)) (present 0 (emit 0 pure) nothing))),
      (wrong, 0, 0, not_deterministic 2 ∷ not_reactive 2 ∷ []),
    )
    ∷ []

table_told : map (λ (x : Statement × Told). told x.0) table ≡ map (λ (x : Statement × Told). x.1) table
unfolding table react_by errors_by member none only join insert remove
table_told = refl

-- of two errors the first is named: that of the run without the signal
abbrev erring : Statement
erring = signal local 0 0 (present 0 (loop 4 nothing) (loop 6 nothing))

first_named : (first_error erring 0 ≡ some (instantaneous 6)) × (first_error nothing 0 ≡ Option.none)
unfolding react_by errors_by member none only join insert remove
first_named = (refl, refl)

-- an instant that names no error, shows no signal and takes n reactions: it waits, or ends
abbrev waits_in : ℕ → Seen
waits_in n = instant waiting no_error 0 n waits

abbrev ends_in : ℕ → Seen
ends_in n = instant ended no_error 0 n over

runs : (run (by_labels reincarnated) State.fresh (0 ∷ 0 ∷ 0 ∷ []) ≡ waits_in 12 ∷ waits_in 20 ∷ waits_in 20 ∷ [])
    × (run by_rewriting (Rewriting.fresh reincarnated) (0 ∷ 0 ∷ []) ≡ waits_in 12 ∷ waits_in 20 ∷ [])
    × (run (by_labels jump) State.fresh (0 ∷ 0 ∷ 0 ∷ []) ≡ waits_in 2 ∷ waits_in 4 ∷ ends_in 1 ∷ [])
    × (run (by_labels nothing) State.fresh (0 ∷ 0 ∷ []) ≡ ends_in 1 ∷ refused ∷ [])
    × (run (by_labels (par (emit 1 pure) (loop 3 nothing))) State.fresh (0 ∷ []) ≡ instant wrong (instantaneous 3) 0 4 over ∷ [])
unfolding run active expand react_by errors_by reactions_by member none only join insert remove
runs = (refl, refl, refl, refl, refl)

-- labels 1 and 2 of `jump`, labels 2 and 3 of `split`; a side that ended, and one that is inactive, is nothing
states : (labels (react jump 0) ≡ 2)
    × (labels (react (expand jump 2) 0) ≡ 4)
    × (labels (react (expand split 2) 0) ≡ 12)
    × (residual (react (par (try nothing) (pause 1)) 0) ≡ par nothing nothing)
    × (expand (par (pause 0) (loop 3 (pause 1))) 1 ≡ par nothing nothing)
    × Exclusive (present 0 (pause 1) (pause 2)) (first ∷ []) (second ∷ [])
unfolding active expand react_by member none only join insert remove
states = (refl, refl, refl, refl, refl, Exclusive.apart Alternative.test)

-- 002, definition 3: two setpauses side by side do not trigger together, as their labels would have to
side_by_side : ¬ Triggers (par (setpause 1) (setpause 2)) 1 2
side_by_side t = go (t.setpauses (first ∷ []) (second ∷ []) (At.inside PartOf.par₁ At.here) (At.inside PartOf.par₂ At.here))
  where
    neither : ¬ Alternative (par (setpause 1) (setpause 2))
    neither = elim [ ]

    go : ¬ Exclusive (par (setpause 1) (setpause 2)) (first ∷ []) (second ∷ [])
    go (Exclusive.apart h) = neither h

-- A fresh suspend reacts as its part, in the same present set.
fresh_suspend : react (suspend 0 (present 1 (emit 2 pure) (pause 3))) 2 ≡ gives 4 ended 0 nothing
unfolding react_by member none only join insert remove
fresh_suspend = refl

-- ---- suspend (02, item 1)
-- code, emitted set and labels of an instant
abbrev Step : Type 0
Step = Code × ℕ × ℕ

abbrev step : Statement → ℕ → Step
step t e = (code (react t e), emitted (react t e), labels (react t e))

-- the instants of p by labels, from the term t; and those of a term by rewriting
trace : Statement → Statement → List ℕ → List Step
trace p t [] = []
trace p t (e ∷ es) = step t e ∷ trace p (expand p (labels (react t e))) es

rewriting : Statement → List ℕ → List Step
rewriting t [] = []
rewriting t (e ∷ es) = step t e ∷ rewriting (residual (react t e)) es

-- 05 0B 00 04 01 00 01 01 04 01 02 01 03
abbrev pub frozen : Statement
frozen = par (suspend 0 (seq (pause 0) (pause 1))) (seq (pause 2) (pause 3))

-- a local signal that the other side emits in the second instant
abbrev inner : Statement
inner = signal local 0 0 (par (suspend 0 (seq (pause 0) (emit 1 pure))) (seq (pause 1) (seq (emit 0 pure) (pause 2))))

-- a setpause from outside into the suspend
abbrev enters : Statement
enters = seq (setpause 0) (suspend 0 (seq (pause 0) (emit 1 pure)))

abbrev Traced : Type 0
Traced = Statement × List ℕ × List Step

-- Fresh a suspend reacts though its signal is present; resumed it is stopped while the signal is present.
suspended : List Traced
suspended =
    -- 0B 00 04 02 01 04 01 05 02 02
    (
      suspend 0 (seq (emit 1 pure) (seq (pause 5) (emit 2 pure))),
      1 ∷ 1 ∷ 1 ∷ 0 ∷ [],
      (waiting, 2, 32) ∷ (waiting, 0, 32) ∷ (waiting, 0, 32) ∷ (ended, 4, 0) ∷ [],
    )
    -- 06 0B 00 04 02 01 01 00: the next round is fresh, in the instant in which the last one was resumed
    ∷ (
      loop 0 (suspend 0 (seq (emit 1 pure) (pause 0))),
      1 ∷ 1 ∷ 0 ∷ 1 ∷ [],
      (waiting, 2, 1) ∷ (waiting, 0, 1) ∷ (waiting, 2, 1) ∷ (waiting, 0, 1) ∷ [],
    )
    -- in the second round too it starts fresh, its signal being present, and is stopped after that
    ∷ (
      loop 0 (seq (pause 1) (suspend 0 (seq (emit 1 pure) (pause 0)))),
      0 ∷ 0 ∷ 0 ∷ 1 ∷ 1 ∷ 0 ∷ [],
      (waiting, 0, 2) ∷ (waiting, 2, 1) ∷ (waiting, 0, 2) ∷ (waiting, 2, 1) ∷ (waiting, 0, 1) ∷ (waiting, 0, 2) ∷ [],
    )
    -- only what is inside is kept
    ∷ (frozen, 0 ∷ 1 ∷ 1 ∷ [], (waiting, 0, 5) ∷ (waiting, 0, 9) ∷ (waiting, 0, 1) ∷ [])
    -- 09 05 0B 00 01 00 04 01 01 03 01: an exit drops what is kept
    ∷ (
      try (par (suspend 0 (pause 0)) (seq (pause 1) (exit 1))),
      0 ∷ 1 ∷ [],
      (waiting, 0, 3) ∷ (ended, 0, 0) ∷ [],
    )
    -- 08 00 0B 00 04 01 00 02 00: the suspend emits what stops it
    ∷ (signal local 0 0 (suspend 0 (seq (pause 0) (emit 0 pure))), 0 ∷ 0 ∷ [], (waiting, 0, 1) ∷ (wrong, 0, 0) ∷ [])
    -- stopped in the run with the signal, which gives the answer
    ∷ (inner, 0 ∷ 0 ∷ 0 ∷ [], (waiting, 0, 3) ∷ (waiting, 0, 5) ∷ (ended, 2, 0) ∷ [])
    -- two signals: the outer stops both, the inner only its own part
    ∷ (
      suspend 0 (par (suspend 1 (pause 0)) (seq (pause 1) (seq (pause 2) (emit 3 pure)))),
      0 ∷ 1 ∷ 2 ∷ 3 ∷ 2 ∷ 0 ∷ [],
      (waiting, 0, 3) ∷ (waiting, 0, 3) ∷ (waiting, 0, 5) ∷ (waiting, 0, 5) ∷ (waiting, 8, 1) ∷ (ended, 0, 0) ∷ [],
    )
    -- one side of the parallel inside has ended
    ∷ (
      suspend 0 (par (seq (pause 0) (emit 1 pure)) (seq (pause 1) (seq (pause 2) (emit 2 pure)))),
      0 ∷ 0 ∷ 1 ∷ 0 ∷ [],
      (waiting, 0, 3) ∷ (waiting, 2, 4) ∷ (waiting, 0, 4) ∷ (ended, 4, 0) ∷ [],
    )
    ∷ []

-- by labels and by rewriting; what a setpause entered is stopped from the next instant on
traces : (map (λ (x : Traced). trace x.0 x.0 x.1) suspended
    ≡ map (λ (x : Traced). x.2) suspended)
    × (map (λ (x : Traced). rewriting x.0 x.1) suspended
    ≡ map (λ (x : Traced). x.2) suspended)
    × (trace enters enters (1 ∷ 1 ∷ 0 ∷ []) ≡ (waiting, 0, 1) ∷ (waiting, 0, 1) ∷ (ended, 2, 0) ∷ [])
unfolding suspended trace rewriting active active_labels labels_of expand react_by member none only join insert remove
traces = (refl, refl, refl)

-- Nothing inside a stopped suspend errs, and after any other code than 1 nothing remains of it. Of a set that is not valid
-- a stopped suspend keeps one that is not.
kept : (errors (expand (signal local 0 0 (suspend 0 (seq (pause 0) (emit 0 pure)))) 1) 0 ≡ not_reactive 0 ∷ [])
    × (errors (expand (suspend 0 (loop 2 (seq (pause 0) (loop 6 nothing)))) 1) 0 ≡ instantaneous 6 ∷ [])
    × (errors (expand (suspend 0 (loop 2 (seq (pause 0) (loop 6 nothing)))) 1) 1 ≡ [])
    × (residual (react (suspend 0 (try nothing)) 0) ≡ nothing)
    × (residual (react (held 0 1 (try (exit 2))) 0) ≡ nothing)
    × (labels (react (expand (suspend 0 (seq (pause 0) (pause 1))) 3) 1) ≡ 3)
unfolding errors_by active active_labels labels_of expand react_by member none only join insert remove
kept = (refl, refl, refl, refl, refl, refl)

-- A loop's next round, which resuming copies, errs at the places of the first: in its body, and itself. The run of both
-- machines names them.
abbrev pub errs_later : Statement
errs_later = loop 2 (present 0 (loop 5 nothing) (pause 0))

abbrev ends_later : Statement
ends_later = loop 2 (present 0 nothing (pause 0))

next_round : (errors (expand errs_later 1) 1 ≡ instantaneous 5 ∷ [])
    × (errors (expand ends_later 1) 1 ≡ instantaneous 2 ∷ [])
    × (run (by_labels errs_later) State.fresh (0 ∷ 1 ∷ []) ≡ waits_in 3 ∷ instant wrong (instantaneous 5) 0 6 over ∷ [])
    × (run by_rewriting (Rewriting.fresh errs_later) (0 ∷ 1 ∷ []) ≡ waits_in 3 ∷ instant wrong (instantaneous 5) 0 6 over ∷ [])
    × (run (by_labels ends_later) State.fresh (0 ∷ 1 ∷ []) ≡ waits_in 3 ∷ instant wrong (instantaneous 2) 0 5 over ∷ [])
    × (run by_rewriting (Rewriting.fresh ends_later) (0 ∷ 1 ∷ []) ≡ waits_in 3 ∷ instant wrong (instantaneous 2) 0 5 over ∷ [])
unfolding run errors_by reactions_by active expand react_by member none only join insert remove
next_round = (refl, refl, refl, refl, refl, refl)
