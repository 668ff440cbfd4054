-- The litres of a farm in an instant (02, item 12): 'summed exactly over the chosen run; a local signal's are dropped, a read-back
-- signal's kept'. A signal's number is its farm's. They go the way of the emitted set: what emits nothing delivers nothing.
use Rattle.std.specs.Prelude.{ℕ, ◌+◌, ◌≤◌, ◌≡◌, refl, cond, eqb}
use Rattle.spec_base.specs.Sets.{member, none, only, join, insert, remove}
use Rattle.spec_language.specs.Statement.{Scope, local, reported, Value, pure, litres, Statement, nothing, pause, emit, exit, seq, par, loop, present, signal, try, setpause, suspend, held}
use Rattle.spec_language.specs.Reaction.{Reaction, code, Case, both, neither, only−, only+, inherited, Order, inheritanceFirst, case_of, react_by}
use Rattle.spec_language.specs.Rules.{ReactsBy}
use Rattle.spec_language.specs.Errors.{if_ended}
use Rattle.spec_language.specs.States.{active}
use Rattle.spec_language.specs.LabelTests.{labels_of, active_labels}
use Rattle.spec_language.specs.Expansion.{expand}

-- 02: 'An emission by 02 carries no litres'
abbrev pub amount : Value → ℕ
amount pure = 0
amount (litres n) = n

-- what an emission of s with value v delivers to a farm
abbrev pub brought : (farm s : ℕ) → Value → ℕ
brought farm s v = cond (eqb s farm) (amount v) 0

-- of the litres of the runs without a signal and with it, those of the run that answers; a wrong answer delivers nothing
abbrev pub chosen : Case → (x− x+ : ℕ) → ℕ
chosen both x− x+ = x+
chosen neither x− x+ = x−
chosen only− x− x+ = 0
chosen only+ x− x+ = 0
chosen inherited x− x+ = 0

-- what passes a declaration of s: a local signal's litres are dropped, a reported one's kept
abbrev pub passing : Scope → (farm s : ℕ) → ℕ → ℕ
passing local farm s x = cond (eqb s farm) 0 x
passing reported farm s x = x

unfoldable pub delivered_by : Order → (farm : ℕ) → Statement → ℕ → ℕ
delivered_by ord f nothing e = 0
delivered_by ord f (pause l) e = 0
delivered_by ord f (emit s v) e = brought f s v
delivered_by ord f (exit n) e = 0
delivered_by ord f (seq p q) e = delivered_by ord f p e + if_ended (code (react_by ord p e)) (delivered_by ord f q e) 0
delivered_by ord f (par p q) e = delivered_by ord f p e + delivered_by ord f q e
delivered_by ord f (loop a p) e = if_ended (code (react_by ord p e)) 0 (delivered_by ord f p e)
delivered_by ord f (present s p q) e = cond (member s e) (delivered_by ord f p e) (delivered_by ord f q e)
delivered_by ord f (signal sc a s p) e =
    passing sc f s
    (chosen (case_of ord s (react_by ord p (remove s e)) (react_by ord p (insert s e)))
    (delivered_by ord f p (remove s e)) (delivered_by ord f p (insert s e)))
delivered_by ord f (try p) e = delivered_by ord f p e
delivered_by ord f (setpause l) e = 0
delivered_by ord f (suspend s p) e = delivered_by ord f p e
delivered_by ord f (held s K p) e = cond (member s e) 0 (delivered_by ord f p e)

abbrev pub delivered : (farm : ℕ) → Statement → ℕ → ℕ
delivered = delivered_by inheritanceFirst

-- no emission in p brings the farm more than c litres; none at all where c is 0
unfoldable pub AtMost : (farm c : ℕ) → Statement → Type 0
AtMost f c nothing = Unit {0}
AtMost f c (pause l) = Unit {0}
AtMost f c (emit s v) = brought f s v ≤ c
AtMost f c (exit n) = Unit {0}
AtMost f c (seq p q) = AtMost f c p × AtMost f c q
AtMost f c (par p q) = AtMost f c p × AtMost f c q
AtMost f c (loop a p) = AtMost f c p
AtMost f c (present s p q) = AtMost f c p × AtMost f c q
AtMost f c (signal sc a s p) = AtMost f c p
AtMost f c (try p) = AtMost f c p
AtMost f c (setpause l) = Unit {0}
AtMost f c (suspend s p) = AtMost f c p
AtMost f c (held s K p) = AtMost f c p

-- ---- the same on derivations: what its emissions bring, but for a run that a signal rule does not choose
unfoldable pub delivers : (farm : ℕ) {ord : Order} {p : Statement} {e : ℕ} {r : Reaction} → ReactsBy ord p e r → ℕ
delivers f ReactsBy.nothing = 0
delivers f ReactsBy.pause = 0
delivers f ReactsBy.exit = 0
delivers f (ReactsBy.emit {s = s} {v = v}) = brought f s v
delivers f (ReactsBy.loop d n) = delivers f d
delivers f (ReactsBy.loop_error d z) = 0
delivers f (ReactsBy.parallel d d₂) = delivers f d + delivers f d₂
delivers f (ReactsBy.present+ i d) = delivers f d
delivers f (ReactsBy.present− i d) = delivers f d
delivers f (ReactsBy.try_catch d) = delivers f d
delivers f (ReactsBy.try_through d n) = delivers f d
delivers f (ReactsBy.sequence_p d n) = delivers f d
delivers f (ReactsBy.sequence_q d d₂) = delivers f d + delivers f d₂
delivers f (ReactsBy.signal++ {sc = sc} {s = s} d− i− d+ i+ n) = passing sc f s (delivers f d+)
delivers f (ReactsBy.signal−− {sc = sc} {s = s} d− i− d+ i+ n) = passing sc f s (delivers f d−)
delivers f (ReactsBy.signal+− d− i− d+ i+ n) = 0
delivers f (ReactsBy.signal−+ d− i− d+ i+ n) = 0
delivers f (ReactsBy.signal∞ d− d+ w) = 0
delivers f ReactsBy.setpause = 0
delivers f (ReactsBy.suspend d) = delivers f d
delivers f (ReactsBy.held+ i) = 0
delivers f (ReactsBy.held− i d) = delivers f d

-- ---- by computation
-- Both parts of a sequence and both sides of a parallel count, each farm apart; 02's pure emission brings none. 5 + 7 for farm 2.
sums : (delivered 2 (seq (emit 2 (litres 5)) (par (emit 2 (litres 7)) (seq (emit 3 (litres 100)) (emit 2 pure)))) 0 ≡ 12)
    × (delivered 3 (seq (emit 2 (litres 5)) (par (emit 2 (litres 7)) (seq (emit 3 (litres 100)) (emit 2 pure)))) 0 ≡ 100)
    × (delivered 4 (seq (emit 2 (litres 5)) (par (emit 2 (litres 7)) (emit 3 (litres 100)))) 0 ≡ 0)
unfolding delivered_by react_by none only join
sums = (refl, refl, refl)

-- No number is cut: two emissions of 2 ^ 24 in one instant.
exact-sum : delivered 0 (seq (emit 0 (litres 16777216)) (emit 0 (litres 16777216))) 0 ≡ 33554432
unfolding delivered_by react_by none only join
exact-sum = refl

-- What follows a wait or an exit is not reached; what stands beside an exit is, and a try that catches it keeps it: 5, 5, and 5 + 3.
cut_short : (delivered 2 (seq (seq (emit 2 (litres 5)) (pause 0)) (emit 2 (litres 7))) 0 ≡ 5)
    × (delivered 2 (try (seq (emit 2 (litres 5)) (seq (exit 1) (emit 2 (litres 7))))) 0 ≡ 5)
    × (delivered 2 (try (par (seq (emit 2 (litres 5)) (pause 0)) (seq (emit 2 (litres 3)) (exit 1)))) 0 ≡ 8)
unfolding delivered_by react_by none only join
cut_short = (refl, refl, refl)

-- A test delivers its branch: 5 with the signal, 7 without.
branches : (delivered 2 (present 0 (emit 2 (litres 5)) (emit 2 (litres 7))) 1 ≡ 5)
    × (delivered 2 (present 0 (emit 2 (litres 5)) (emit 2 (litres 7))) 0 ≡ 7)
unfolding delivered_by member
branches = (refl, refl)

-- Only the chosen run counts. The first emits its signal, so the run with it answers: 5. The second does not: 7, and the 5 are dropped.
chosen-run : (delivered 2 (signal local 0 0 (seq (emit 0 pure) (present 0 (emit 2 (litres 5)) (emit 2 (litres 7))))) 0 ≡ 5)
    × (delivered 2 (signal local 0 0 (present 0 (emit 2 (litres 5)) (emit 2 (litres 7)))) 0 ≡ 7)
unfolding delivered_by react_by member none only join insert remove
chosen-run = (refl, refl)

-- A local signal's own litres are dropped, a reported one's kept, in either run; another farm's pass both.
scopes : (delivered 2 (signal local 0 2 (seq (emit 2 (litres 5)) (emit 3 (litres 9)))) 0 ≡ 0)
    × (delivered 3 (signal local 0 2 (seq (emit 2 (litres 5)) (emit 3 (litres 9)))) 0 ≡ 9)
    × (delivered 2 (signal reported 65535 2 (seq (emit 2 (litres 5)) (emit 3 (litres 9)))) 0 ≡ 5)
    × (delivered 3 (signal reported 65535 2 (seq (emit 2 (litres 5)) (emit 3 (litres 9)))) 0 ≡ 9)
unfolding delivered_by react_by member none only join insert remove
scopes = (refl, refl, refl, refl)

-- A local declaration inside a reported one of the same signal hides it: of 5 inside and 7 outside, 7; the other way round none.
hides : (delivered 2 (signal reported 65535 2 (seq (signal local 1 2 (emit 2 (litres 5))) (emit 2 (litres 7)))) 0 ≡ 7)
    × (delivered 2 (signal local 0 2 (signal reported 1 2 (emit 2 (litres 5)))) 0 ≡ 0)
unfolding delivered_by react_by member none only join insert remove
hides = (refl, refl)

-- A loop delivers what its body does, and again in a round that begins in the instant in which the last one ended: 5, then 7 + 5.
rounds : (delivered 2 (loop 0 (seq (emit 2 (litres 5)) (seq (pause 0) (emit 2 (litres 7))))) 0 ≡ 5)
    × (delivered 2 (expand (loop 0 (seq (emit 2 (litres 5)) (seq (pause 0) (emit 2 (litres 7))))) 1) 0 ≡ 12)
unfolding delivered_by react_by expand active member none only join
rounds = (refl, refl)

-- A suspend delivers fresh; held, only where its signal is absent: 5, none, 7.
suspends : (delivered 2 (suspend 0 (seq (emit 2 (litres 5)) (seq (pause 0) (emit 2 (litres 7))))) 1 ≡ 5)
    × (delivered 2 (expand (suspend 0 (seq (emit 2 (litres 5)) (seq (pause 0) (emit 2 (litres 7))))) 1) 1 ≡ 0)
    × (delivered 2 (expand (suspend 0 (seq (emit 2 (litres 5)) (seq (pause 0) (emit 2 (litres 7))))) 1) 0 ≡ 7)
unfolding delivered_by react_by expand active active_labels labels_of member none only join
suspends = (refl, refl, refl)

-- What a wrong reaction delivers follows what it emits, and is never told: a loop that fails and a signal that errs nothing, a wrong
-- side of a parallel leaves the other side's 5.
wrongs : (delivered 2 (loop 0 (emit 2 (litres 5))) 0 ≡ 0)
    × (delivered 2 (signal local 0 0 (seq (emit 2 (litres 5)) (present 0 nothing (emit 0 pure)))) 0 ≡ 0)
    × (delivered 2 (par (emit 2 (litres 5)) (loop 7 nothing)) 0 ≡ 5)
unfolding delivered_by react_by member none only join insert remove
wrongs = (refl, refl, refl)
