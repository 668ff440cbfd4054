-- The signals whose status the tree of an instant asks for (01, 'One reaction'; 02, item 1): a present and a held suspend ask, in
-- both runs of a signal, which hides its own. A status that nobody asks for changes nothing of the tree (theory_language/proofs/Asked).
use Rattle.std.specs.Prelude.{ℕ, ◌≡◌, refl, cond}
use Rattle.spec_base.specs.Sets.{member, none, only, join, insert, remove}
use Rattle.spec_language.specs.Statement.{local, reported, pure, Statement, nothing, pause, emit, exit, seq, par, loop, present, signal, try, setpause, suspend, held}
use Rattle.spec_language.specs.Reaction.{Reaction, code, Order, inheritanceFirst, react_by}
use Rattle.spec_language.specs.Rules.{ReactsBy}
use Rattle.spec_language.specs.Errors.{if_ended}

unfoldable pub asked_by : Order → Statement → ℕ → ℕ
asked_by ord nothing e = none
asked_by ord (pause l) e = none
asked_by ord (emit s v) e = none
asked_by ord (exit n) e = none
asked_by ord (seq p q) e = join (asked_by ord p e) (if_ended (code (react_by ord p e)) (asked_by ord q e) none)
asked_by ord (par p q) e = join (asked_by ord p e) (asked_by ord q e)
asked_by ord (loop a p) e = asked_by ord p e
asked_by ord (present s p q) e = insert s (cond (member s e) (asked_by ord p e) (asked_by ord q e))
asked_by ord (signal sc a s p) e = remove s (join (asked_by ord p (remove s e)) (asked_by ord p (insert s e)))
asked_by ord (try p) e = asked_by ord p e
asked_by ord (setpause l) e = none
asked_by ord (suspend s p) e = asked_by ord p e
asked_by ord (held s K p) e = insert s (cond (member s e) none (asked_by ord p e))

abbrev pub asked : Statement → ℕ → ℕ
asked = asked_by inheritanceFirst

-- ---- the same on derivations: the signals whose status the rules used test, but those that a declaration hides
unfoldable pub asks : {ord : Order} {p : Statement} {e : ℕ} {r : Reaction} → ReactsBy ord p e r → ℕ
asks ReactsBy.nothing = none
asks ReactsBy.pause = none
asks ReactsBy.exit = none
asks ReactsBy.emit = none
asks (ReactsBy.loop d n) = asks d
asks (ReactsBy.loop_error d z) = asks d
asks (ReactsBy.parallel d d₂) = join (asks d) (asks d₂)
asks (ReactsBy.present+ {s = s} i d) = insert s (asks d)
asks (ReactsBy.present− {s = s} i d) = insert s (asks d)
asks (ReactsBy.try_catch d) = asks d
asks (ReactsBy.try_through d n) = asks d
asks (ReactsBy.sequence_p d n) = asks d
asks (ReactsBy.sequence_q d d₂) = join (asks d) (asks d₂)
asks (ReactsBy.signal++ {s = s} d− i− d+ i+ n) = remove s (join (asks d−) (asks d+))
asks (ReactsBy.signal−− {s = s} d− i− d+ i+ n) = remove s (join (asks d−) (asks d+))
asks (ReactsBy.signal+− {s = s} d− i− d+ i+ n) = remove s (join (asks d−) (asks d+))
asks (ReactsBy.signal−+ {s = s} d− i− d+ i+ n) = remove s (join (asks d−) (asks d+))
asks (ReactsBy.signal∞ {s = s} d− d+ w) = remove s (join (asks d−) (asks d+))
asks ReactsBy.setpause = none
asks (ReactsBy.suspend d) = asks d
asks (ReactsBy.held+ {s = s} i) = insert s none
asks (ReactsBy.held− {s = s} i d) = insert s (asks d)

-- ---- by computation
-- a test of signal s, and nothing more
abbrev pub tests : ℕ → Statement
tests s = present s nothing nothing

-- A test is asked, and what the branch taken asks; what is emitted is not.
tested : (asked (present 3 (tests 0) (emit 1 pure)) 0 ≡ 8)
    × (asked (present 3 (tests 0) (emit 1 pure)) 8 ≡ 9)
    × (asked (par (tests 0) (loop 4 (try (tests 2)))) 0 ≡ 5)
unfolding asked_by react_by member none only join insert remove
tested = (refl, refl, refl)

-- A declaration hides its own signal, whichever scope it has; the others that either run asks for stay.
hidden : (asked (signal local 0 3 (tests 3)) 0 ≡ 0)
    × (asked (signal reported 0 3 (tests 3)) 0 ≡ 0)
    × (asked (signal local 0 3 (present 3 (tests 1) nothing)) 0 ≡ 2)
    × (asked (signal local 0 3 (present 3 nothing (tests 2))) 8 ≡ 4)
    × (asked (signal local 1 0 (par (tests 0) (tests 1))) 0 ≡ 2)
unfolding asked_by react_by member none only join insert remove
hidden = (refl, refl, refl, refl, refl)

-- An inner declaration hides an outer signal of the same number inside it, and only there.
shadowed : (asked (signal local 2 0 (tests 0)) 1 ≡ 0)
    × (asked (seq (tests 0) (signal local 6 0 (tests 0))) 1 ≡ 1)
    × (asked (seq (signal local 3 0 (tests 0)) (tests 0)) 1 ≡ 1)
unfolding asked_by react_by member none only join insert remove
shadowed = (refl, refl, refl)

-- A suspend asks where it is held, and inside only where its signal is absent; a fresh one does not.
held_or_fresh : (asked (held 2 1 (tests 0)) 4 ≡ 4)
    × (asked (held 2 1 (tests 0)) 0 ≡ 5)
    × (asked (suspend 2 (tests 0)) 4 ≡ 1)
unfolding asked_by react_by member none only join insert remove
held_or_fresh = (refl, refl, refl)

-- The second part of a sequence asks only where the first ended.
cut_short : (asked (seq (tests 1) (tests 0)) 0 ≡ 3)
    × (asked (seq (pause 0) (tests 0)) 0 ≡ 0)
    × (asked (seq (present 1 (exit 1) nothing) (tests 0)) 2 ≡ 2)
    × (asked (seq (loop 1 (tests 1)) (tests 0)) 0 ≡ 2)
unfolding asked_by react_by member none only join insert remove
cut_short = (refl, refl, refl, refl)
