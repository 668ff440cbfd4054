-- Every number that a reaction of a ranged statement or of its expansion gives fits its field: emitted sets, label sets and exits.
use Prim.Native.Nat.{ℕ, ◌-◌, ◌^◌, ◌<◌, ◌≤◌}
use native.Mathlib.Omega.{arith}
use mathlib.Core.List.{List, [], ◌∷◌}
use mathlib.Core.Bool.{Bool, true, false, cond}
use lib.Dec.{eqb}
use Rattle.spec_base.specs.Limits.{label_count, signal_count, max_exit}
use Rattle.spec_base.specs.Sets.{member, insert, remove}
use Rattle.sets.proofs.Widths.{none_lt, only_lt, join_lt, remove_lt, members_lt}
use Rattle.spec_language.specs.Statement.{Scope, local, reported, Statement, nothing, pause, emit, exit, seq, par, loop, present, signal, try, setpause, suspend, held}
use Rattle.spec_language.specs.Reaction.{ended, waiting, leaving, wrong, Reaction, gives, emitted, in_seq, in_par, in_loop, in_try, in_suspend, stopped, Case, both, neither, only−, only+, inherited, case_of, answer, react, Code, code, greater, inheritanceFirst, react_by, Order}
use Rattle.spec_language.specs.States.{active, Valid}
use Rattle.spec_language.specs.LabelTests.{active_labels}
use Rattle.spec_language.specs.Expansion.{expand}
use Rattle.spec_language.specs.ReadBack.{declared_by, declared}
use Rattle.spec_sequence.specs.Writer.{Ranged}
use Rattle.theory_sequence.proofs.Source.{ranged_at}

-- ---- each emit and each exit is in its range, inside held suspends too; so in a ranged statement and in its expansions
abbrev pub Bounded : Statement → Type 0
Bounded nothing = Unit {0}
Bounded (pause l) = Unit {0}
Bounded (emit s v) = s < signal_count
Bounded (exit n) = n ≤ max_exit
Bounded (seq p q) = Bounded p × Bounded q
Bounded (par p q) = Bounded p × Bounded q
Bounded (loop a p) = Bounded p
Bounded (present s p q) = Bounded p × Bounded q
Bounded (signal sc a s p) = Bounded p
Bounded (try p) = Bounded p
Bounded (setpause l) = Unit {0}
Bounded (suspend s p) = Bounded p
Bounded (held s K p) = Bounded p

pub ranged_bounded : (p : Statement) → Ranged p → Bounded p
ranged_bounded nothing h = tt
ranged_bounded (pause l) h = tt
ranged_bounded (emit s v) h = h.0
ranged_bounded (exit n) h = h.1
ranged_bounded (seq p q) h = (ranged_bounded p h.0, ranged_bounded q h.1)
ranged_bounded (par p q) h = (ranged_bounded p h.0, ranged_bounded q h.1)
ranged_bounded (loop a p) h = ranged_bounded p h
ranged_bounded (present s p q) h = (ranged_bounded p h.1, ranged_bounded q h.2)
ranged_bounded (signal sc a s p) h = ranged_bounded p h.2
ranged_bounded (try p) h = ranged_bounded p h
ranged_bounded (setpause l) h = tt
ranged_bounded (suspend s p) h = ranged_bounded p h.1
ranged_bounded (held s K p) h = absurd h

cond_bounded : (b : Bool) (p q : Statement) → Bounded p → Bounded q → Bounded (cond b p q)
cond_bounded true p q f g = f
cond_bounded false p q f g = g

pub bounded_expand : (p : Statement) (L : ℕ) → Bounded p → Bounded (expand p L)
unfolding expand
bounded_expand nothing L h = tt
bounded_expand (pause l) L h = tt
bounded_expand (emit s v) L h = tt
bounded_expand (exit n) L h = tt
bounded_expand (seq p q) L h =
    cond_bounded (active p L) (seq (expand p L) q) (expand q L) (bounded_expand p L h.0, h.1) (bounded_expand q L h.1)
bounded_expand (par p q) L h = (
  cond_bounded (active p L) (expand p L) nothing (bounded_expand p L h.0) tt,
  cond_bounded (active q L) (expand q L) nothing (bounded_expand q L h.1) tt,
)
bounded_expand (loop a p) L h = (bounded_expand p L h, h)
bounded_expand (present s p q) L h =
    cond_bounded (active p L) (expand p L) (expand q L) (bounded_expand p L h.0) (bounded_expand q L h.1)
bounded_expand (signal sc a s p) L h = bounded_expand p L h
bounded_expand (try p) L h = bounded_expand p L h
bounded_expand (setpause l) L h = tt
bounded_expand (suspend s p) L h =
    cond_bounded (active p L) (held s (active_labels p L) (expand p L)) nothing (bounded_expand p L h) tt
bounded_expand (held s K p) L h = tt

-- ---- emitted sets
abbrev Emits : Reaction → Type 0
Emits r = emitted r < 2 ^ signal_count

seq_emits : (q : Statement) (r r₂ : Reaction) → Emits r → Emits r₂ → Emits (in_seq q r r₂)
seq_emits q (gives o ended l t) r₂ f g = join_lt signal_count o (emitted r₂) f g
seq_emits q (gives o waiting l t) r₂ f g = f
seq_emits q (gives o (leaving n) l t) r₂ f g = f
seq_emits q (gives o wrong l t) r₂ f g = f

par_emits : (r r₂ : Reaction) → Emits r → Emits r₂ → Emits (in_par r r₂)
par_emits (gives o k l t) (gives o₂ k₂ l₂ u) f g = join_lt signal_count o o₂ f g

loop_emits : (a : ℕ) (p : Statement) (r : Reaction) → Emits r → Emits (in_loop a p r)
loop_emits a p (gives o ended l t) f = none_lt signal_count
loop_emits a p (gives o waiting l t) f = f
loop_emits a p (gives o (leaving n) l t) f = f
loop_emits a p (gives o wrong l t) f = f

try_emits : (r : Reaction) → Emits r → Emits (in_try r)
try_emits (gives o ended l t) f = f
try_emits (gives o waiting l t) f = f
try_emits (gives o (leaving n) l t) f = go (eqb n 1)
  where
    go : (b : Bool) → Emits (cond b (gives o ended l nothing) (gives o (leaving (n - 1)) l (try t)))
    go true = f
    go false = f
try_emits (gives o wrong l t) f = f

present_emits : (b : Bool) (r r₂ : Reaction) → Emits r → Emits r₂ → Emits (cond b r r₂)
present_emits true r r₂ f g = f
present_emits false r r₂ f g = g

signal_emits : (c : Case) (sc : Scope) (a s : ℕ) (r− r+ : Reaction) → Emits r− → Emits r+ → Emits (answer c sc a s r− r+)
signal_emits both local a s r− r+ f g = remove_lt signal_count s (emitted r+) g
signal_emits both reported a s r− r+ f g = g
signal_emits neither sc a s r− r+ f g = f
signal_emits only− sc a s r− r+ f g = none_lt signal_count
signal_emits only+ sc a s r− r+ f g = none_lt signal_count
signal_emits inherited sc a s r− r+ f g = none_lt signal_count

suspend_emits : (s : ℕ) (r : Reaction) → Emits r → Emits (in_suspend s r)
suspend_emits s (gives o k l t) f = f

pub emitted_below : (p : Statement) (e : ℕ) → Bounded p → Emits (react p e)
unfolding react_by
emitted_below nothing e h = none_lt signal_count
emitted_below (pause l) e h = none_lt signal_count
emitted_below (emit s v) e h = only_lt signal_count s h
emitted_below (exit n) e h = none_lt signal_count
emitted_below (seq p q) e h = seq_emits q (react p e) (react q e) (emitted_below p e h.0) (emitted_below q e h.1)
emitted_below (par p q) e h = par_emits (react p e) (react q e) (emitted_below p e h.0) (emitted_below q e h.1)
emitted_below (loop a p) e h = loop_emits a p (react p e) (emitted_below p e h)
emitted_below (present s p q) e h =
    present_emits (member s e) (react p e) (react q e) (emitted_below p e h.0) (emitted_below q e h.1)
emitted_below (signal sc a s p) e h =
    signal_emits (case_of inheritanceFirst s (react p (remove s e)) (react p (insert s e))) sc a s (react p (remove s e)) (react p (insert s e))
    (emitted_below p (remove s e) h) (emitted_below p (insert s e) h)
emitted_below (try p) e h = try_emits (react p e) (emitted_below p e h)
emitted_below (setpause l) e h = none_lt signal_count
emitted_below (suspend s p) e h = suspend_emits s (react p e) (emitted_below p e h)
emitted_below (held s K p) e h =
    present_emits (member s e) (stopped s K p) (in_suspend s (react p e)) (none_lt signal_count) (suspend_emits s (react p e) (emitted_below p e h))

-- ---- read-back declarations
pub bounded_declared : (a : ℕ) (ss : List ℕ) (p : Statement) → Bounded p → Bounded (declared a ss p)
unfolding declared_by
bounded_declared a [] p h = h
bounded_declared a (s ∷ ss) p h = bounded_declared a ss p h

-- ---- labels
pub valid-below : (p : Statement) → Ranged p → (L : ℕ) → Valid p L → L < 2 ^ label_count
valid-below p h L v = members_lt label_count L (λ l m. ranged_at (v.paused l m).1 h)

-- ---- exits: a code leaves at most as many try blocks as an exit may
abbrev pub Exits : Code → Type 0
Exits ended = Unit {0}
Exits waiting = Unit {0}
Exits (leaving n) = n ≤ max_exit
Exits wrong = Unit {0}

greater_exits : (j k : Code) → Exits j → Exits k → Exits (greater j k)
greater_exits ended k f g = g
greater_exits waiting ended f g = tt
greater_exits waiting waiting f g = tt
greater_exits waiting (leaving n) f g = g
greater_exits waiting wrong f g = tt
greater_exits (leaving m) ended f g = f
greater_exits (leaving m) waiting f g = f
greater_exits (leaving m) (leaving n) f g = omega arith
greater_exits (leaving m) wrong f g = tt
greater_exits wrong k f g = tt

seq_exits : (q : Statement) (r r₂ : Reaction) → Exits (code r) → Exits (code r₂) → Exits (code (in_seq q r r₂))
seq_exits q (gives o ended l t) r₂ f g = g
seq_exits q (gives o waiting l t) r₂ f g = f
seq_exits q (gives o (leaving n) l t) r₂ f g = f
seq_exits q (gives o wrong l t) r₂ f g = f

par_exits : (r r₂ : Reaction) → Exits (code r) → Exits (code r₂) → Exits (code (in_par r r₂))
par_exits (gives o k l t) (gives o₂ k₂ l₂ u) f g = greater_exits k k₂ f g

loop_exits : (a : ℕ) (p : Statement) (r : Reaction) → Exits (code r) → Exits (code (in_loop a p r))
loop_exits a p (gives o ended l t) f = tt
loop_exits a p (gives o waiting l t) f = f
loop_exits a p (gives o (leaving n) l t) f = f
loop_exits a p (gives o wrong l t) f = f

try_exits : (r : Reaction) → Exits (code r) → Exits (code (in_try r))
try_exits (gives o ended l t) f = f
try_exits (gives o waiting l t) f = f
try_exits (gives o (leaving n) l t) f = go (eqb n 1)
  where
    go : (b : Bool) → Exits (code (cond b (gives o ended l nothing) (gives o (leaving (n - 1)) l (try t))))
    go true = tt
    go false = omega arith
try_exits (gives o wrong l t) f = f

present_exits : (b : Bool) (r r₂ : Reaction) → Exits (code r) → Exits (code r₂) → Exits (code (cond b r r₂))
present_exits true r r₂ f g = f
present_exits false r r₂ f g = g

signal_exits : (c : Case) (sc : Scope) (a s : ℕ) (r− r+ : Reaction) → Exits (code r−) → Exits (code r+) → Exits (code (answer c sc a s r− r+))
signal_exits both sc a s r− r+ f g = g
signal_exits neither sc a s r− r+ f g = f
signal_exits only− sc a s r− r+ f g = tt
signal_exits only+ sc a s r− r+ f g = tt
signal_exits inherited sc a s r− r+ f g = tt

suspend_exits : (s : ℕ) (r : Reaction) → Exits (code r) → Exits (code (in_suspend s r))
suspend_exits s (gives o k l t) f = f

pub code_exits : (ord : Order) (p : Statement) (e : ℕ) → Bounded p → Exits (code (react_by ord p e))
unfolding react_by
code_exits ord nothing e h = tt
code_exits ord (pause l) e h = tt
code_exits ord (emit s v) e h = tt
code_exits ord (exit n) e h = h
code_exits ord (seq p q) e h = seq_exits q (react_by ord p e) (react_by ord q e) (code_exits ord p e h.0) (code_exits ord q e h.1)
code_exits ord (par p q) e h = par_exits (react_by ord p e) (react_by ord q e) (code_exits ord p e h.0) (code_exits ord q e h.1)
code_exits ord (loop a p) e h = loop_exits a p (react_by ord p e) (code_exits ord p e h)
code_exits ord (present s p q) e h = present_exits (member s e) (react_by ord p e) (react_by ord q e) (code_exits ord p e h.0) (code_exits ord q e h.1)
code_exits ord (signal sc a s p) e h =
    signal_exits (case_of ord s (react_by ord p (remove s e)) (react_by ord p (insert s e))) sc a s (react_by ord p (remove s e)) (react_by ord p (insert s e))
    (code_exits ord p (remove s e) h) (code_exits ord p (insert s e) h)
code_exits ord (try p) e h = try_exits (react_by ord p e) (code_exits ord p e h)
code_exits ord (setpause l) e h = tt
code_exits ord (suspend s p) e h = suspend_exits s (react_by ord p e) (code_exits ord p e h)
code_exits ord (held s K p) e h =
    present_exits (member s e) (stopped s K p) (in_suspend s (react_by ord p e)) tt (suspend_exits s (react_by ord p e) (code_exits ord p e h))
