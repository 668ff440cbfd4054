-- As long as the original is not wrong, it and its form react alike and deliver the same litres, fresh and resumed at any set of labels.
use Prim.Native.Nat.{ℕ, ◌+◌, ◌-◌}
use mathlib.Core.Path.{◌≡◌, refl}
use mathlib.Core.Bool.{Bool, true, false, cond}
use native.Mathlib.Omega.{arith}
use lib.Dec.{eqb}
use Rattle.spec_base.specs.Sets.{member, none, only, join, insert, remove}
use Rattle.sets.proofs.Algebra.{join-none_l}
use Rattle.spec_language.specs.Statement.{Scope, Statement, nothing, pause, emit, exit, seq, par, loop, present, signal, try, setpause, suspend, held}
use Rattle.spec_language.specs.Reaction.{Code, ended, waiting, leaving, wrong, is_wrong, greater, if_waiting, side, remains, Reaction, gives, code, in_seq, in_par, in_loop, in_try, in_suspend, outside, Case, both, neither, only−, only+, inherited, inheritanceFirst, first_fit, case_of, answer, in_signal, react_by, react}
use Rattle.spec_language.specs.Errors.{if_ended}
use Rattle.spec_language.specs.States.{active}
use Rattle.spec_language.specs.Expansion.{expand}
use Rattle.spec_language.specs.LabelTests.{labels_of, pauses, active_labels}
use Rattle.spec_language.specs.Litres.{brought, chosen, passing, delivered_by, delivered}
use Rattle.theory_unroll.proofs.Forms.{Forms}

-- ---- the invariant: two reactions and the litres of a farm in each are the same but for the residual, or the first is wrong
pub data Alike : Reaction → ℕ → Reaction → ℕ → Type 0 where
  same : (o : ℕ) (k : Code) (l : ℕ) (t t' : Statement) (x : ℕ) → Alike (gives o k l t) x (gives o k l t') x
  lost : (o l : ℕ) (t : Statement) (r' : Reaction) (x x' : ℕ) → Alike (gives o wrong l t) x r' x'

-- the same litres, otherwise put
litres_as : {r r' : Reaction} {x x' y' : ℕ} → y' ≡ x' → Alike r x r' x' → Alike r x r' y'
litres_as e a = rw e a

first_as : {r r' : Reaction} {x y x' : ℕ} → y ≡ x → Alike r x r' x' → Alike r y r' x'
first_as e a = rw e a

seq_alike : {r r' r₂ r₂' : Reaction} {x x' y y' : ℕ} (q q' : Statement) → Alike r x r' x' → Alike r₂ y r₂' y'
    → Alike (in_seq q r r₂) (x + if_ended (code r) y 0) (in_seq q' r' r₂') (x' + if_ended (code r') y' 0)
seq_alike q q' (Alike.same o ended l t t' x) (Alike.same o₂ k₂ l₂ t₂ t₂' y) = Alike.same (join o o₂) k₂ l₂ t₂ t₂' (x + y)
seq_alike q q' (Alike.same o ended l t t' x) (Alike.lost o₂ l₂ t₂ r₂' y y') =
    Alike.lost (join o o₂) l₂ t₂ (in_seq q' (gives o ended l t') r₂') (x + y) (x + y')
seq_alike q q' (Alike.same o waiting l t t' x) d = Alike.same o waiting l (seq t q) (seq t' q') (x + 0)
seq_alike q q' (Alike.same o (leaving n) l t t' x) d = Alike.same o (leaving n) l (seq t q) (seq t' q') (x + 0)
seq_alike q q' (Alike.same o wrong l t t' x) d = Alike.same o wrong l (seq t q) (seq t' q') (x + 0)
seq_alike {r₂' = r₂'} {y' = y'} q q' (Alike.lost o l t r' x x') d =
    Alike.lost o l (seq t q) (in_seq q' r' r₂') (x + 0) (x' + if_ended (code r') y' 0)

-- a wrong side
wrong_second : (k : Code) → greater k wrong ≡ wrong
wrong_second ended = refl
wrong_second waiting = refl
wrong_second (leaving n) = refl
wrong_second wrong = refl

lost_by : {o : ℕ} {k : Code} {l : ℕ} {t : Statement} (r' : Reaction) (x x' : ℕ) → k ≡ wrong → Alike (gives o k l t) x r' x'
lost_by {o = o} {l = l} {t = t} r' x x' h = rw h (Alike.lost o l t r' x x')

par_alike : {r r' r₂ r₂' : Reaction} {x x' y y' : ℕ} → Alike r x r' x' → Alike r₂ y r₂' y'
    → Alike (in_par r r₂) (x + y) (in_par r' r₂') (x' + y')
par_alike (Alike.same o k l t t' x) (Alike.same o₂ k₂ l₂ t₂ t₂' y) =
    Alike.same (join o o₂) (greater k k₂) (if_waiting (greater k k₂) (join l l₂))
    (par (side k t) (side k₂ t₂)) (par (side k t') (side k₂ t₂')) (x + y)
par_alike (Alike.same o k l t t' x) (Alike.lost o₂ l₂ t₂ r₂' y y') =
    lost_by (in_par (gives o k l t') r₂') (x + y) (x + y') (wrong_second k)
par_alike {r₂ = gives o₂ k₂ l₂ t₂} {r₂' = r₂'} {y = y} {y' = y'} (Alike.lost o l t r' x x') d =
    Alike.lost (join o o₂) none (par t (side k₂ t₂)) (in_par r' r₂') (x + y) (x' + y')

present_alike : {r r' r₂ r₂' : Reaction} {x x' y y' : ℕ} (b : Bool) → Alike r x r' x' → Alike r₂ y r₂' y'
    → Alike (cond b r r₂) (cond b x y) (cond b r' r₂') (cond b x' y')
present_alike true c d = c
present_alike false c d = d

-- a loop beside its body: the copy
body_alike : {r r' : Reaction} {x x' : ℕ} (a : ℕ) (p : Statement) → Alike r x r' x' → Alike (in_loop a p r) (if_ended (code r) 0 x) r' x'
body_alike a p (Alike.same o ended l t t' x) = Alike.lost none none nothing (gives o ended l t') 0 x
body_alike a p (Alike.same o waiting l t t' x) = Alike.same o waiting l (seq t (loop a p)) t' x
body_alike a p (Alike.same o (leaving n) l t t' x) = Alike.same o (leaving n) l (seq t (loop a p)) t' x
body_alike a p (Alike.same o wrong l t t' x) = Alike.same o wrong l (seq t (loop a p)) t' x
body_alike a p (Alike.lost o l t r' x x') = Alike.lost o l (seq t (loop a p)) r' x x'

-- the litres of a loop over a sequence of parts with the reactions r and r₂, and the litres x and y
abbrev rounds : Statement → (r r₂ : Reaction) (x y : ℕ) → ℕ
rounds q r r₂ x y = if_ended (code (in_seq q r r₂)) 0 (x + if_ended (code r) y 0)

-- a loop beside the loop over the copy and what comes after it, which is never reached
loop_alike : {r r' : Reaction} {x x' : ℕ} (a b : ℕ) (p q q' : Statement) (r₂' : Reaction) (y' : ℕ) → Alike r x r' x'
    → Alike (in_loop a p r) (if_ended (code r) 0 x) (in_loop b q (in_seq q' r' r₂')) (rounds q' r' r₂' x' y')
loop_alike a b p q q' r₂' y' (Alike.same o ended l t t' x) =
    Alike.lost none none nothing (in_loop b q (in_seq q' (gives o ended l t') r₂')) 0 (rounds q' (gives o ended l t') r₂' x y')
loop_alike a b p q q' r₂' y' (Alike.same o waiting l t t' x) =
    litres_as (omega arith) (Alike.same o waiting l (seq t (loop a p)) (seq (seq t' q') (loop b q)) x)
loop_alike a b p q q' r₂' y' (Alike.same o (leaving n) l t t' x) =
    litres_as (omega arith) (Alike.same o (leaving n) l (seq t (loop a p)) (seq (seq t' q') (loop b q)) x)
loop_alike a b p q q' r₂' y' (Alike.same o wrong l t t' x) =
    Alike.lost o l (seq t (loop a p)) (gives o wrong l (seq (seq t' q') (loop b q))) x (x + 0)
loop_alike a b p q q' r₂' y' (Alike.lost o l t r' x x') =
    Alike.lost o l (seq t (loop a p)) (in_loop b q (in_seq q' r' r₂')) x (rounds q' r' r₂' x' y')

try_alike : {r r' : Reaction} {x x' : ℕ} → Alike r x r' x' → Alike (in_try r) x (in_try r') x'
try_alike (Alike.same o ended l t t' x) = Alike.same o ended l (try t) (try t') x
try_alike (Alike.same o waiting l t t' x) = Alike.same o waiting l (try t) (try t') x
try_alike (Alike.same o (leaving n) l t t' x) = caught (eqb n 1)
  where
    caught : (b : Bool)
        → Alike (cond b (gives o ended l nothing) (gives o (leaving (n - 1)) l (try t))) x
        (cond b (gives o ended l nothing) (gives o (leaving (n - 1)) l (try t'))) x
    caught true = Alike.same o ended l nothing nothing x
    caught false = Alike.same o (leaving (n - 1)) l (try t) (try t') x
try_alike (Alike.same o wrong l t t' x) = Alike.same o wrong l (try t) (try t') x
try_alike (Alike.lost o l t r' x x') = Alike.lost o l (try t) (in_try r') x x'

suspend_alike : {r r' : Reaction} {x x' : ℕ} (s : ℕ) → Alike r x r' x' → Alike (in_suspend s r) x (in_suspend s r') x'
suspend_alike s (Alike.same o k l t t' x) = Alike.same o k l (remains s k l t) (remains s k l t') x
suspend_alike s (Alike.lost o l t r' x x') = Alike.lost o l nothing (in_suspend s r') x x'

-- a signal: a wrong run comes first
answer_alike : (c : Case) (sc : Scope) (f a b s o− : ℕ) (k− : Code) (l− : ℕ) (t− t−' : Statement) (x− o+ : ℕ) (k+ : Code) (l+ : ℕ)
    (t+ t+' : Statement) (x+ : ℕ)
    → Alike (answer c sc a s (gives o− k− l− t−) (gives o+ k+ l+ t+)) (passing sc f s (chosen c x− x+))
    (answer c sc b s (gives o− k− l− t−') (gives o+ k+ l+ t+')) (passing sc f s (chosen c x− x+))
answer_alike both sc f a b s o− k− l− t− t−' x− o+ k+ l+ t+ t+' x+ =
    Alike.same (outside sc s o+) k+ l+ (signal sc a s t+) (signal sc b s t+') (passing sc f s x+)
answer_alike neither sc f a b s o− k− l− t− t−' x− o+ k+ l+ t+ t+' x+ =
    Alike.same o− k− l− (signal sc a s t−) (signal sc b s t−') (passing sc f s x−)
answer_alike only− sc f a b s o− k− l− t− t−' x− o+ k+ l+ t+ t+' x+ = Alike.same none wrong none nothing nothing (passing sc f s 0)
answer_alike only+ sc f a b s o− k− l− t− t−' x− o+ k+ l+ t+ t+' x+ = Alike.same none wrong none nothing nothing (passing sc f s 0)
answer_alike inherited sc f a b s o− k− l− t− t−' x− o+ k+ l+ t+ t+' x+ = Alike.same none wrong none nothing nothing (passing sc f s 0)

inherit_alike : (sc : Scope) (a s : ℕ) (c : Case) (r− r+ r' : Reaction) (x x' : ℕ) → c ≡ inherited → Alike (answer c sc a s r− r+) x r' x'
inherit_alike sc a s c r− r+ r' x x' h = rw h (Alike.lost none none nothing r' x x')

inherits : (i− i+ w− : Bool) → first_fit inheritanceFirst i− i+ w− true ≡ inherited
inherits i− i+ true = refl
inherits i− i+ false = refl

-- the litres that a declaration of s lets pass, from those of the two runs
abbrev let_pass : (f : ℕ) → Scope → (s : ℕ) (r− r+ : Reaction) (x− x+ : ℕ) → ℕ
let_pass f sc s r− r+ x− x+ = passing sc f s (chosen (case_of inheritanceFirst s r− r+) x− x+)

signal_alike : {r− r−' r+ r+' : Reaction} {x− x−' x+ x+' : ℕ} (f : ℕ) (sc : Scope) (a b s : ℕ) → Alike r− x− r−' x−' → Alike r+ x+ r+' x+'
    → Alike (in_signal inheritanceFirst sc a s r− r+) (let_pass f sc s r− r+ x− x+)
    (in_signal inheritanceFirst sc b s r−' r+') (let_pass f sc s r−' r+' x−' x+')
signal_alike f sc a b s (Alike.same o k l t t' x) (Alike.same o₂ k₂ l₂ t₂ t₂' y) =
    answer_alike (case_of inheritanceFirst s (gives o k l t) (gives o₂ k₂ l₂ t₂)) sc f a b s o k l t t' x o₂ k₂ l₂ t₂ t₂' y
signal_alike f sc a b s (Alike.same o k l t t' x) (Alike.lost o₂ l₂ t₂ r+' y y') =
    let r− = gives o k l t in
    let r−' = gives o k l t' in
    let r+ = gives o₂ wrong l₂ t₂ in
    inherit_alike sc a s (case_of inheritanceFirst s r− r+) r− r+ (in_signal inheritanceFirst sc b s r−' r+')
    (let_pass f sc s r− r+ x y) (let_pass f sc s r−' r+' x y') (inherits (member s o) (member s o₂) (is_wrong k))
signal_alike {r+ = r+} {r+' = r+'} {x+ = x+} {x+' = x+'} f sc a b s (Alike.lost o l t r−' x x') d =
    let r− = gives o wrong l t in
    inherit_alike sc a s (case_of inheritanceFirst s r− r+) r− r+ (in_signal inheritanceFirst sc b s r−' r+')
    (let_pass f sc s r− r+ x x+) (let_pass f sc s r−' r+' x' x+') refl

-- ---- two statements, with the litres of the farm f
abbrev pub RunsAlike : (f : ℕ) → Statement → Statement → ℕ → Type 0
RunsAlike f t t' e = Alike (react t e) (delivered f t e) (react t' e) (delivered f t' e)

-- ---- fresh: copied, or worked through
pub fresh_alike : (f : ℕ) {c : Bool} {p q : Statement} → Forms c p q → (e : ℕ) → RunsAlike f p q e
unfolding react_by delivered_by
fresh_alike f Forms.nothing e = Alike.same none ended none nothing nothing 0
fresh_alike f (Forms.pause {l = l}) e = Alike.same none waiting (only l) nothing nothing 0
fresh_alike f (Forms.pause_copied {l = l}) e = Alike.same none waiting (only l) nothing nothing 0
fresh_alike f (Forms.emit {s = s} {v = v}) e = Alike.same (only s) ended none nothing nothing (brought f s v)
fresh_alike f (Forms.exit {n = n}) e = Alike.same none (leaving n) none nothing nothing 0
fresh_alike f (Forms.seq {q = q} {q' = q'} g h) e = seq_alike q q' (fresh_alike f g e) (fresh_alike f h e)
fresh_alike f (Forms.par g h) e = par_alike (fresh_alike f g e) (fresh_alike f h e)
fresh_alike f (Forms.loop {a = a} {b = b} {p = p} {copy = copy} {p' = p'} g h) e =
    loop_alike a b p (seq copy p') p' (react p' e) (delivered f p' e) (fresh_alike f g e)
fresh_alike f (Forms.loop_copied {a = a} {p = p} g) e = body_alike a p (fresh_alike f g e)
fresh_alike f (Forms.present {s = s} g h) e = present_alike (member s e) (fresh_alike f g e) (fresh_alike f h e)
fresh_alike f (Forms.signal {sc = sc} {a = a} {b = b} {s = s} g) e =
    signal_alike f sc a b s (fresh_alike f g (remove s e)) (fresh_alike f g (insert s e))
fresh_alike f (Forms.try g) e = try_alike (fresh_alike f g e)
fresh_alike f (Forms.setpause {l = l}) e = Alike.same none waiting (only l) nothing nothing 0
fresh_alike f (Forms.suspend {s = s} g) e = suspend_alike s (fresh_alike f g e)
fresh_alike f (Forms.held {s = s} {K = K} {p = p} {p' = p'} g) e =
    present_alike (member s e) (Alike.same none waiting K (held s K p) (held s K p') 0) (suspend_alike s (fresh_alike f g e))

-- ---- what is worked through, or another copy, beside a copy
-- a loop over a copy and what comes after it, beside a copy of its body
worked_alike : {r₁ r₂ r : Reaction} {x₁ x₂ x : ℕ} (b : ℕ) (q q' : Statement) → Alike r₁ x₁ r x → Alike r₂ x₂ r x
    → Alike (in_loop b q (in_seq q' r₁ r₂)) (rounds q' r₁ r₂ x₁ x₂) r x
worked_alike b q q' (Alike.same o ended l t t' x) (Alike.same _ _ _ t₂ _ _) = Alike.lost none none nothing (gives o ended l t') 0 x
worked_alike b q q' (Alike.same o ended l t t' x) (Alike.lost o₂ l₂ t₂ _ y _) =
    Alike.lost (join o o₂) l₂ (seq t₂ (loop b q)) (gives o ended l t') (x + y) x
worked_alike b q q' (Alike.same o waiting l t t' x) d =
    first_as (omega arith) (Alike.same o waiting l (seq (seq t q') (loop b q)) t' x)
worked_alike b q q' (Alike.same o (leaving n) l t t' x) d =
    first_as (omega arith) (Alike.same o (leaving n) l (seq (seq t q') (loop b q)) t' x)
worked_alike b q q' (Alike.same o wrong l t t' x) d = Alike.lost o l (seq (seq t q') (loop b q)) (gives o wrong l t') (x + 0) x
worked_alike b q q' (Alike.lost o l t r x₁ x) d = Alike.lost o l (seq (seq t q') (loop b q)) r (x₁ + 0) x

pub copy_follows : (f : ℕ) {c : Bool} {p q r : Statement} → Forms c p q → Forms true p r → (e : ℕ) → RunsAlike f q r e
unfolding react_by delivered_by
copy_follows f Forms.nothing Forms.nothing e = Alike.same none ended none nothing nothing 0
copy_follows f Forms.pause (Forms.pause_copied {l = l}) e = Alike.same none waiting (only l) nothing nothing 0
copy_follows f Forms.pause_copied (Forms.pause_copied {l = l}) e = Alike.same none waiting (only l) nothing nothing 0
copy_follows f Forms.emit (Forms.emit {s = s} {v = v}) e = Alike.same (only s) ended none nothing nothing (brought f s v)
copy_follows f Forms.exit (Forms.exit {n = n}) e = Alike.same none (leaving n) none nothing nothing 0
copy_follows f (Forms.seq {q' = q} g h) (Forms.seq {q' = q'} g' h') e = seq_alike q q' (copy_follows f g g' e) (copy_follows f h h' e)
copy_follows f (Forms.par g h) (Forms.par g' h') e = par_alike (copy_follows f g g' e) (copy_follows f h h' e)
copy_follows f (Forms.loop {b = b} {copy = copy} {p' = p'} g h) (Forms.loop_copied g') e =
    worked_alike b (seq copy p') p' (copy_follows f g g' e) (copy_follows f h g' e)
copy_follows f (Forms.loop_copied g) (Forms.loop_copied g') e = copy_follows f g g' e
copy_follows f (Forms.present {s = s} g h) (Forms.present g' h') e =
    present_alike (member s e) (copy_follows f g g' e) (copy_follows f h h' e)
copy_follows f (Forms.signal {sc = sc} {b = a} {s = s} g) (Forms.signal {b = b} g') e =
    signal_alike f sc a b s (copy_follows f g g' (remove s e)) (copy_follows f g g' (insert s e))
copy_follows f (Forms.try g) (Forms.try g') e = try_alike (copy_follows f g g' e)
copy_follows f Forms.setpause (Forms.setpause {l = l}) e = Alike.same none waiting (only l) nothing nothing 0
copy_follows f (Forms.suspend {s = s} g) (Forms.suspend g') e = suspend_alike s (copy_follows f g g' e)
copy_follows f (Forms.held {s = s} {K = K} {p' = q} g) (Forms.held {p' = r} g') e =
    present_alike (member s e) (Alike.same none waiting K (held s K q) (held s K r) 0) (suspend_alike s (copy_follows f g g' e))

-- ---- resumed: a copy has no pause, so it is never active
pub copy_inactive : {p q : Statement} → Forms true p q → (L : ℕ) → active q L ≡ false
unfolding active
copy_inactive Forms.nothing L = refl
copy_inactive Forms.pause_copied L = refl
copy_inactive Forms.emit L = refl
copy_inactive Forms.exit L = refl
copy_inactive (Forms.seq f g) L = rw (copy_inactive f L, copy_inactive g L)
copy_inactive (Forms.par f g) L = rw (copy_inactive f L, copy_inactive g L)
copy_inactive (Forms.loop_copied f) L = copy_inactive f L
copy_inactive (Forms.present f g) L = rw (copy_inactive f L, copy_inactive g L)
copy_inactive (Forms.signal f) L = copy_inactive f L
copy_inactive (Forms.try f) L = copy_inactive f L
copy_inactive Forms.setpause L = refl
copy_inactive (Forms.suspend f) L = copy_inactive f L
copy_inactive (Forms.held f) L = refl

pub active_same : {p q : Statement} → Forms false p q → (L : ℕ) → active q L ≡ active p L
unfolding active
active_same Forms.nothing L = refl
active_same Forms.pause L = refl
active_same Forms.emit L = refl
active_same Forms.exit L = refl
active_same (Forms.seq f g) L = rw (active_same f L, active_same g L)
active_same (Forms.par f g) L = rw (active_same f L, active_same g L)
active_same (Forms.loop f g) L = rw (copy_inactive f L) (active_same g L)
active_same (Forms.present f g) L = rw (active_same f L, active_same g L)
active_same (Forms.signal f) L = active_same f L
active_same (Forms.try f) L = active_same f L
active_same Forms.setpause L = refl
active_same (Forms.suspend f) L = active_same f L
active_same (Forms.held f) L = refl

pub copy_pauses : {p q : Statement} → Forms true p q → pauses q ≡ none
unfolding labels_of
copy_pauses Forms.nothing = refl
copy_pauses Forms.pause_copied = refl
copy_pauses Forms.emit = refl
copy_pauses Forms.exit = refl
copy_pauses (Forms.seq f g) = rw (copy_pauses f, copy_pauses g) (join-none_l none)
copy_pauses (Forms.par f g) = rw (copy_pauses f, copy_pauses g) (join-none_l none)
copy_pauses (Forms.loop_copied f) = copy_pauses f
copy_pauses (Forms.present f g) = rw (copy_pauses f, copy_pauses g) (join-none_l none)
copy_pauses (Forms.signal f) = copy_pauses f
copy_pauses (Forms.try f) = copy_pauses f
copy_pauses Forms.setpause = refl
copy_pauses (Forms.suspend f) = copy_pauses f
copy_pauses (Forms.held f) = refl

pub pauses_same : {p q : Statement} → Forms false p q → pauses q ≡ pauses p
unfolding labels_of
pauses_same Forms.nothing = refl
pauses_same Forms.pause = refl
pauses_same Forms.emit = refl
pauses_same Forms.exit = refl
pauses_same (Forms.seq f g) = rw (pauses_same f, pauses_same g)
pauses_same (Forms.par f g) = rw (pauses_same f, pauses_same g)
pauses_same (Forms.loop {p = p} f g) = rw (copy_pauses f, pauses_same g) (join-none_l (pauses p))
pauses_same (Forms.present f g) = rw (pauses_same f, pauses_same g)
pauses_same (Forms.signal f) = pauses_same f
pauses_same (Forms.try f) = pauses_same f
pauses_same Forms.setpause = refl
pauses_same (Forms.suspend f) = pauses_same f
pauses_same (Forms.held f) = refl

cond_alike : (f : ℕ) (b : Bool) (t u t' u' : Statement) (e : ℕ) → RunsAlike f t t' e → RunsAlike f u u' e
    → RunsAlike f (cond b t u) (cond b t' u') e
cond_alike f true t u t' u' e c d = c
cond_alike f false t u t' u' e c d = d

idle_alike : (f e : ℕ) → RunsAlike f nothing nothing e
unfolding react_by delivered_by
idle_alike f e = Alike.same none ended none nothing nothing 0

sequence_alike : (f : ℕ) (p q p' q' : Statement) (e : ℕ) → RunsAlike f p p' e → RunsAlike f q q' e → RunsAlike f (seq p q) (seq p' q') e
unfolding react_by delivered_by
sequence_alike f p q p' q' e c d = seq_alike q q' c d

held_alike : (f s K : ℕ) (p p' : Statement) (e : ℕ) → RunsAlike f p p' e → RunsAlike f (held s K p) (held s K p') e
unfolding react_by delivered_by
held_alike f s K p p' e c = present_alike (member s e) (Alike.same none waiting K (held s K p) (held s K p') 0) (suspend_alike s c)

pub resumed_alike : (f : ℕ) {p q : Statement} → Forms false p q → (L e : ℕ) → RunsAlike f (expand p L) (expand q L) e
unfolding react_by delivered_by expand active_labels
resumed_alike f Forms.nothing L e = Alike.same none ended none nothing nothing 0
resumed_alike f Forms.pause L e = Alike.same none ended none nothing nothing 0
resumed_alike f Forms.emit L e = Alike.same none ended none nothing nothing 0
resumed_alike f Forms.exit L e = Alike.same none ended none nothing nothing 0
resumed_alike f (Forms.seq {p = p} {q = q} {p' = p'} {q' = q'} g h) L e =
    rw (active_same g L) (cond_alike f (active p L)
    (seq (expand p L) q) (expand q L) (seq (expand p' L) q') (expand q' L) e
    (sequence_alike f (expand p L) q (expand p' L) q' e (resumed_alike f g L e) (fresh_alike f h e)) (resumed_alike f h L e))
resumed_alike f (Forms.par {p = p} {q = q} {p' = p'} {q' = q'} g h) L e =
    rw (active_same g L, active_same h L) (par_alike
    (cond_alike f (active p L) (expand p L) nothing (expand p' L) nothing e (resumed_alike f g L e) (idle_alike f e))
    (cond_alike f (active q L) (expand q L) nothing (expand q' L) nothing e (resumed_alike f h L e) (idle_alike f e)))
resumed_alike f (Forms.loop {a = a} {b = b} {p = p} {copy = copy} {p' = p'} g h) L e =
    rw (copy_inactive g L) (sequence_alike f (expand p L) (loop a p) (expand p' L) (loop b (seq copy p')) e
    (resumed_alike f h L e) (fresh_alike f (Forms.loop {a = a} {b = b} g h) e))
resumed_alike f (Forms.present {p = p} {q = q} {p' = p'} {q' = q'} g h) L e =
    rw (active_same g L) (cond_alike f (active p L) (expand p L) (expand q L) (expand p' L) (expand q' L) e
    (resumed_alike f g L e) (resumed_alike f h L e))
resumed_alike f (Forms.signal {sc = sc} {a = a} {b = b} {s = s} g) L e =
    signal_alike f sc a b s (resumed_alike f g L (remove s e)) (resumed_alike f g L (insert s e))
resumed_alike f (Forms.try g) L e = try_alike (resumed_alike f g L e)
resumed_alike f Forms.setpause L e = Alike.same none ended none nothing nothing 0
resumed_alike f (Forms.suspend {s = s} {p = p} {p' = p'} g) L e =
    rw (active_same g L, pauses_same g) (cond_alike f (active p L)
    (held s (active_labels p L) (expand p L)) nothing (held s (active_labels p L) (expand p' L)) nothing e
    (held_alike f s (active_labels p L) (expand p L) (expand p' L) e (resumed_alike f g L e)) (idle_alike f e))
resumed_alike f (Forms.held g) L e = Alike.same none ended none nothing nothing 0
