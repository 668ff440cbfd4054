-- The number of reactions in the tree of an instant (02, item 6): each command that reacts counts 1, each time. The tree is that of
-- the term that reacts: commands that expansion made count, and so do both runs of a signal, in a wrong instant too.
use Rattle.std.specs.Prelude.{ℕ, ◌+◌, ◌≡◌, refl, cond}
use Rattle.spec_base.specs.Sets.{member, none, only, join, insert, remove}
use Rattle.spec_language.specs.Statement.{local, pure, Statement, nothing, pause, emit, exit, seq, par, loop, present, signal, try, setpause, suspend, held}
use Rattle.spec_language.specs.Reaction.{Reaction, code, Order, inheritanceFirst, react_by}
use Rattle.spec_language.specs.Rules.{ReactsBy}
use Rattle.spec_language.specs.Errors.{if_ended}
use Rattle.spec_language.specs.States.{active}
use Rattle.spec_language.specs.LabelTests.{labels_of, active_labels}
use Rattle.spec_language.specs.Expansion.{expand}

unfoldable pub reactions_by : Order → Statement → ℕ → ℕ
reactions_by ord nothing e = 1
reactions_by ord (pause l) e = 1
reactions_by ord (emit s v) e = 1
reactions_by ord (exit n) e = 1
reactions_by ord (seq p q) e = 1 + reactions_by ord p e + if_ended (code (react_by ord p e)) (reactions_by ord q e) 0
reactions_by ord (par p q) e = 1 + reactions_by ord p e + reactions_by ord q e
reactions_by ord (loop a p) e = 1 + reactions_by ord p e
reactions_by ord (present s p q) e = 1 + cond (member s e) (reactions_by ord p e) (reactions_by ord q e)
reactions_by ord (signal sc a s p) e = 1 + reactions_by ord p (remove s e) + reactions_by ord p (insert s e)
reactions_by ord (try p) e = 1 + reactions_by ord p e
reactions_by ord (setpause l) e = 1
reactions_by ord (suspend s p) e = 1 + reactions_by ord p e
reactions_by ord (held s K p) e = 1 + cond (member s e) 0 (reactions_by ord p e)

abbrev pub reactions : Statement → ℕ → ℕ
reactions = reactions_by inheritanceFirst

-- ---- the same on derivations: one for each use of a rule
unfoldable pub rules_used : {ord : Order} {p : Statement} {e : ℕ} {r : Reaction} → ReactsBy ord p e r → ℕ
rules_used ReactsBy.nothing = 1
rules_used ReactsBy.pause = 1
rules_used ReactsBy.exit = 1
rules_used ReactsBy.emit = 1
rules_used (ReactsBy.loop d n) = 1 + rules_used d
rules_used (ReactsBy.loop_error d z) = 1 + rules_used d
rules_used (ReactsBy.parallel d d₂) = 1 + rules_used d + rules_used d₂
rules_used (ReactsBy.present+ i d) = 1 + rules_used d
rules_used (ReactsBy.present− i d) = 1 + rules_used d
rules_used (ReactsBy.try_catch d) = 1 + rules_used d
rules_used (ReactsBy.try_through d n) = 1 + rules_used d
rules_used (ReactsBy.sequence_p d n) = 1 + rules_used d
rules_used (ReactsBy.sequence_q d d₂) = 1 + rules_used d + rules_used d₂
rules_used (ReactsBy.signal++ d− i− d+ i+ n) = 1 + rules_used d− + rules_used d+
rules_used (ReactsBy.signal−− d− i− d+ i+ n) = 1 + rules_used d− + rules_used d+
rules_used (ReactsBy.signal+− d− i− d+ i+ n) = 1 + rules_used d− + rules_used d+
rules_used (ReactsBy.signal−+ d− i− d+ i+ n) = 1 + rules_used d− + rules_used d+
rules_used (ReactsBy.signal∞ d− d+ w) = 1 + rules_used d− + rules_used d+
rules_used ReactsBy.setpause = 1
rules_used (ReactsBy.suspend d) = 1 + rules_used d
rules_used (ReactsBy.held+ i) = 1
rules_used (ReactsBy.held− i d) = 1 + rules_used d

-- ---- by computation
-- 06 01 00 and 06 0B 00 01 00, resumed: the made sequence, what had waited, and the loop begun again; stopped, the last takes 2
resumed_loops : (reactions (expand (loop 0 (pause 0)) 1) 0 ≡ 4)
    × (reactions (expand (loop 0 (suspend 0 (pause 0))) 1) 0 ≡ 6)
    × (reactions (expand (loop 0 (suspend 0 (pause 0))) 1) 1 ≡ 2)
unfolding reactions_by react_by active active_labels labels_of expand member none only join insert remove
resumed_loops = (refl, refl, refl)

-- A present counts where it tests, and not where its branch is resumed; nor does a sequence whose second part is resumed. Of a
-- parallel the side that ended counts 1.
resumed_parts : (reactions (present 0 (pause 0) nothing) 1 ≡ 2)
    × (reactions (expand (present 0 (pause 0) nothing) 1) 1 ≡ 1)
    × (reactions (expand (seq (pause 0) (pause 1)) 1) 0 ≡ 3)
    × (reactions (expand (seq (pause 0) (pause 1)) 2) 0 ≡ 1)
    × (reactions (expand (par (seq (pause 0) (emit 0 pure)) (seq (pause 1) (emit 1 pure))) 2) 0 ≡ 5)
unfolding reactions_by react_by active expand member none only join insert remove
resumed_parts = (refl, refl, refl, refl, refl)

-- Both runs of a signal count, and what reacts in a wrong instant; the second part of a sequence only where the first ended.
trees : (reactions (signal local 0 0 (present 0 (emit 1 pure) (seq nothing nothing))) 0 ≡ 7)
    × (reactions (par (loop 1 nothing) (seq (exit 1) (emit 0 pure))) 0 ≡ 5)
    × (reactions (suspend 0 (try (pause 0))) 1 ≡ 3)
unfolding reactions_by react_by member none only join insert remove
trees = (refl, refl, refl)
