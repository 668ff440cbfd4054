-- The ceiling on the number of reactions of an instant, and the dearest sequences without loops (02, item 6).
use Rattle.std.specs.Prelude.{ℕ, zero, suc, ◌+◌, ◌*◌, ◌^◌, ◌≡◌, refl, [], ◌∷◌}
use Rattle.spec_base.specs.Sets.{member, none, only, join, insert, remove}
use Rattle.spec_language.specs.Statement.{local, Statement, nothing, pause, emit, exit, seq, par, loop, present, signal, try, setpause, suspend, held}
use Rattle.spec_language.specs.Reaction.{react_by}
use Rattle.spec_language.specs.Reactions.{reactions_by, reactions}
use Rattle.spec_language.specs.ReadBack.{declared_by, declared}
use Rattle.spec_language.specs.Sizes.{commands, loop_nesting, signal_nesting}

-- 02: 'commands, times one more than the greatest number of loops around a command, times two to the power of the greatest number
-- of signals around one'
unfoldable pub ceiling : Statement → ℕ
ceiling p = commands p * (1 + loop_nesting p) * 2 ^ signal_nesting p

-- no command is a loop
unfoldable pub LoopFree : Statement → Type 0
LoopFree nothing = Unit {0}
LoopFree (pause l) = Unit {0}
LoopFree (emit s v) = Unit {0}
LoopFree (exit n) = Unit {0}
LoopFree (seq p q) = LoopFree p × LoopFree q
LoopFree (par p q) = LoopFree p × LoopFree q
LoopFree (loop a p) = ⊥
LoopFree (present s p q) = LoopFree p × LoopFree q
LoopFree (signal sc a s p) = LoopFree p
LoopFree (try p) = LoopFree p
LoopFree (setpause l) = Unit {0}
LoopFree (suspend s p) = LoopFree p
LoopFree (held s K p) = LoopFree p

-- One more than any loop-free statement of n commands with at most g signals around one takes: each signal doubles, as long as a
-- command is left. theory has it as a product (proofs/Dearest).
unfoldable pub dearest : (g n : ℕ) → ℕ
dearest zero n = 1 + n
dearest (suc g) zero = 1
dearest (suc g) (suc n) = 2 * dearest g n

-- ---- by computation
-- 2 ^ k times `try nothing`, all run in one instant; and the same with the first of them `nothing`
unfoldable pub tries : (k : ℕ) → Statement
tries zero = try nothing
tries (suc k) = seq (tries k) (tries k)

unfoldable pub tries_but_one : (k : ℕ) → Statement
tries_but_one zero = nothing
tries_but_one (suc k) = seq (tries_but_one k) (tries k)

-- 08 00 08 01 08 02 08 03 08 04 08 05, and 31 sequences over 00 and 31 times 09 00: 106 bytes
unfoldable pub hundred : Statement
hundred = signal local 0 0 (signal local 2 1 (signal local 4 2 (signal local 6 3 (signal local 8 4 (signal local 10 5 (tries_but_one 5))))))

pub hundred_takes : (commands hundred ≡ 100) × (signal_nesting hundred ≡ 6) × (ceiling hundred ≡ 6400) × ((e : ℕ) → reactions hundred e ≡ 6079)
    × (dearest 6 100 ≡ 6080)
unfolding reactions_by react_by commands signal_nesting loop_nesting ceiling dearest hundred tries tries_but_one member none only join insert remove
hundred_takes = (refl, refl, refl, λ e. refl, refl)

-- 06 01 00, whose resumed instant takes 4 (specs/Reactions); and read-back declarations count as commands and as signals
ceilings_reached : (ceiling (loop 0 (pause 0)) ≡ 4) × (ceiling (loop 0 (suspend 0 (pause 0))) ≡ 6)
    × (ceiling (declared 65535 (0 ∷ 1 ∷ []) (loop 0 (loop 1 (pause 0)))) ≡ 60)
unfolding ceiling commands loop_nesting signal_nesting declared_by
ceilings_reached = (refl, refl, refl)
