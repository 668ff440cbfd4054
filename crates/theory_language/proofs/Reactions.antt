-- The number of reactions of an instant: at least 1, that of the uses of rules in a derivation, and the same by both orders of the
-- signal rules where no two of the printed rules fit.
use Prim.Native.Nat.{ℕ, ◌+◌, ◌≤◌}
use mathlib.Core.Path.{◌≡◌, refl, ap}
use mathlib.Core.Logic.{◌≢◌}
use mathlib.Core.Bool.{Bool, true, false, ◌||◌, cond}
use native.Mathlib.Nat.{le_refl}
use native.Mathlib.Omega.{arith}
use Rattle.spec_base.specs.Sets.{member, insert, remove}
use Rattle.sets.proofs.Booleans.{or_first, or_second, never, clash}
use Rattle.spec_language.specs.Statement.{Statement, nothing, pause, emit, exit, seq, par, loop, present, signal, try, setpause, suspend, held}
use Rattle.spec_language.specs.Reaction.{Code, ended, waiting, leaving, wrong, is_wrong, Reaction, code, Order, printed, react_by, react}
use Rattle.spec_language.specs.Rules.{ReactsBy}
use Rattle.spec_language.specs.Errors.{if_ended}
use Rattle.spec_language.specs.Reactions.{reactions_by, reactions, rules_used}
use Rattle.spec_language.specs.SignalOrders.{overlaps, overlap}
use Rattle.spec_language.specs.Sizes.{commands}
use Rattle.theory_language.proofs.Rules.{sound}
use Rattle.theory_language.proofs.SignalOrders.{unchanged, overlap_wrong}

-- ---- what may not react
pub if_ended_lem : (k : Code) (y : ℕ) → if_ended k y 0 ≤ y
if_ended_lem ended y = le_refl y
if_ended_lem waiting y = omega arith
if_ended_lem (leaving n) y = omega arith
if_ended_lem wrong y = omega arith

pub either : (b : Bool) (x y : ℕ) → cond b x y ≤ x + y
either true x y = omega arith
either false x y = omega arith

pub some_reaction : (p : Statement) (e : ℕ) → 1 ≤ reactions p e
unfolding reactions_by
some_reaction nothing e = omega arith
some_reaction (pause l) e = omega arith
some_reaction (emit s v) e = omega arith
some_reaction (exit n) e = omega arith
some_reaction (seq p q) e = omega arith
some_reaction (par p q) e = omega arith
some_reaction (loop a p) e = omega arith
some_reaction (present s p q) e = omega arith
some_reaction (signal sc a s p) e = omega arith
some_reaction (try p) e = omega arith
some_reaction (setpause l) e = omega arith
some_reaction (suspend s p) e = omega arith
some_reaction (held s K p) e = omega arith

pub some_command : (p : Statement) → 1 ≤ commands p
unfolding commands
some_command nothing = omega arith
some_command (pause l) = omega arith
some_command (emit s v) = omega arith
some_command (exit n) = omega arith
some_command (seq p q) = omega arith
some_command (par p q) = omega arith
some_command (loop a p) = omega arith
some_command (present s p q) = omega arith
some_command (signal sc a s p) = omega arith
some_command (try p) = omega arith
some_command (setpause l) = omega arith
some_command (suspend s p) = omega arith
some_command (held s K p) = omega arith

-- ---- derivations
pub stays : (k : Code) (x y : ℕ) → k ≢ ended → if_ended k x y ≡ y
stays ended x y n = absurd (n refl)
stays waiting x y n = refl
stays (leaving m) x y n = refl
stays wrong x y n = refl

-- TREE: one reaction for each use of a rule
pub rules-used : {ord : Order} {p : Statement} {e : ℕ} {r : Reaction} (d : ReactsBy ord p e r) → rules_used d ≡ reactions_by ord p e
unfolding rules_used reactions_by
rules-used ReactsBy.nothing = refl
rules-used ReactsBy.pause = refl
rules-used ReactsBy.exit = refl
rules-used ReactsBy.emit = refl
rules-used (ReactsBy.loop d n) = rw (rules-used d)
rules-used (ReactsBy.loop_error d z) = rw (rules-used d)
rules-used (ReactsBy.parallel d d₂) = rw (rules-used d, rules-used d₂)
rules-used (ReactsBy.present+ i d) = rw (i, rules-used d)
rules-used (ReactsBy.present− i d) = rw (i, rules-used d)
rules-used (ReactsBy.try_catch d) = rw (rules-used d)
rules-used (ReactsBy.try_through d n) = rw (rules-used d)
rules-used {ord} {e = e} (ReactsBy.sequence_p {k = k} {p = p} {q = q} d n) =
    let i = rules-used d in
    let j : if_ended (code (react_by ord p e)) (reactions_by ord q e) 0 ≡ 0 = rw (← sound d) (stays k (reactions_by ord q e) 0 n) in
    omega arith
rules-used (ReactsBy.sequence_q d d₂) = rw (rules-used d, rules-used d₂, ← sound d)
rules-used (ReactsBy.signal++ d− i− d+ i+ n) = rw (rules-used d−, rules-used d+)
rules-used (ReactsBy.signal−− d− i− d+ i+ n) = rw (rules-used d−, rules-used d+)
rules-used (ReactsBy.signal+− d− i− d+ i+ n) = rw (rules-used d−, rules-used d+)
rules-used (ReactsBy.signal−+ d− i− d+ i+ n) = rw (rules-used d−, rules-used d+)
rules-used (ReactsBy.signal∞ d− d+ w) = rw (rules-used d−, rules-used d+)
rules-used ReactsBy.setpause = refl
rules-used (ReactsBy.suspend d) = rw (rules-used d)
rules-used (ReactsBy.held+ i) = rw i
rules-used (ReactsBy.held− i d) = rw (i, rules-used d)

-- ---- orders of the signal rules
same_on : (k : Code) (x : Bool) {n m : ℕ} → (x ≡ false → n ≡ m) → if_ended k x false ≡ false → if_ended k n 0 ≡ if_ended k m 0
same_on ended x f h = f h
same_on waiting x f h = refl
same_on (leaving n) x f h = refl
same_on wrong x f h = refl

same_either : (b x y : Bool) {n n' m m' : ℕ} → (x ≡ false → n ≡ n') → (y ≡ false → m ≡ m') → cond b x y ≡ false → cond b n m ≡ cond b n' m'
same_either true x y f g h = f h
same_either false x y f g h = g h

-- UNCHANGED: where no two of the printed rules fit at a signal, both orders take the same number
pub reactions_unchanged : (p : Statement) (e : ℕ) → overlap p e ≡ false → reactions_by printed p e ≡ reactions p e
unfolding overlap reactions_by
reactions_unchanged nothing e h = refl
reactions_unchanged (pause l) e h = refl
reactions_unchanged (emit s v) e h = refl
reactions_unchanged (exit n) e h = refl
reactions_unchanged (seq p q) e h =
    let k = code (react_by printed p e) in
    let x = or_first (overlap p e) (if_ended k (overlap q e) false) h in
    let i : if_ended k (reactions_by printed q e) 0 ≡ if_ended k (reactions q e) 0
    = same_on k (overlap q e) (reactions_unchanged q e) (or_second (overlap p e) (if_ended k (overlap q e) false) h) in
    rw (i, reactions_unchanged p e x, unchanged p e x)
reactions_unchanged (par p q) e h =
    rw (reactions_unchanged p e (or_first (overlap p e) (overlap q e) h), reactions_unchanged q e (or_second (overlap p e) (overlap q e) h))
reactions_unchanged (loop a p) e h = rw (reactions_unchanged p e h)
reactions_unchanged (present s p q) e h =
    ap (λ (n : ℕ). 1 + n) (same_either (member s e) (overlap p e) (overlap q e) (reactions_unchanged p e) (reactions_unchanged q e) h)
reactions_unchanged (signal sc a s p) e h =
    let o− = overlap p (remove s e) in
    let o+ = overlap p (insert s e) in
    let x = or_first (o− || o+) (overlaps s (react_by printed p (remove s e)) (react_by printed p (insert s e))) h in
    rw (reactions_unchanged p (remove s e) (or_first o− o+ x), reactions_unchanged p (insert s e) (or_second o− o+ x))
reactions_unchanged (try p) e h = rw (reactions_unchanged p e h)
reactions_unchanged (setpause l) e h = refl
reactions_unchanged (suspend s p) e h = rw (reactions_unchanged p e h)
reactions_unchanged (held s K p) e h =
    ap (λ (n : ℕ). 1 + n) (same_either (member s e) false (overlap p e) (λ x. refl) (reactions_unchanged p e) h)

-- KEPT: so do they where the instant is not wrong
pub reactions_kept : (p : Statement) (e : ℕ) → is_wrong (code (react p e)) ≡ false → reactions_by printed p e ≡ reactions p e
reactions_kept p e h =
    reactions_unchanged p e (never (overlap p e) (λ o. clash (is_wrong (code (react p e))) (ap is_wrong (overlap_wrong p e o)) h))
