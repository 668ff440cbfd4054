-- The printed rules and the function give the same answers: 003's corollary 11, by either order of the signal rules.
use Prim.Native.Nat.{ℕ, ◌-◌}
use mathlib.Core.Path.{◌≡◌, refl, sym, ap, ap₂, ◌∙◌, subst}
use mathlib.Core.Logic.{◌↔◌, ◌≢◌}
use mathlib.Core.Bool.{Bool, true, false, ◌||◌, cond, false≢true}
use native.Mathlib.Omega.{arith}
use lib.Dec.{eqb}
use borrow.Author.Tests.{eqb-true, eqb-false, ne_eqb}
use Rattle.spec_base.specs.Sets.{member, insert, remove}
use Rattle.sets.proofs.Booleans.{clash, Tested, tested}
use Rattle.spec_language.specs.Statement.{Scope, Statement, nothing, pause, emit, exit, seq, par, loop, present, signal, try, setpause, suspend, held}
use Rattle.spec_language.specs.Reaction.{Code, ended, waiting, leaving, wrong, is_wrong, greater, down, Reaction, gives, failed, in_seq, in_par, in_loop, in_try, in_suspend, stopped, in_signal, Case, both, neither, only−, only+, inherited, Order, printed, inheritanceFirst, printed_fit, first_fit, case_of, answer, react_by, react}
use Rattle.spec_language.specs.Rules.{Permits, Inherits, ReactsBy, Reacts}

-- ---- codes are told apart
pub wrong_is : (k : Code) → is_wrong k ≡ true → k ≡ wrong
wrong_is ended h = absurd (false≢true h)
wrong_is waiting h = absurd (false≢true h)
wrong_is (leaving n) h = absurd (false≢true h)
wrong_is wrong h = refl

sane : (k : Code) → k ≢ wrong → is_wrong k ≡ false
sane ended n = refl
sane waiting n = refl
sane (leaving m) n = refl
sane wrong n = absurd (n refl)

waiting≢ended : waiting ≢ ended
waiting≢ended h = let z : ◌≡◌ {A = ℕ} 0 1 = cc in omega arith

leaving≢ended : (n : ℕ) → leaving n ≢ ended
leaving≢ended n h = let z : ◌≡◌ {A = ℕ} 0 1 = cc in omega arith

wrong≢ended : wrong ≢ ended
wrong≢ended h = let z : ◌≡◌ {A = ℕ} 0 1 = cc in omega arith

-- ---- each rule's conclusion is what the function makes of its premises
through_seq : (q : Statement) (o : ℕ) (k : Code) (l : ℕ) (t : Statement) (r : Reaction) → k ≢ ended
    → gives o k l (seq t q) ≡ in_seq q (gives o k l t) r
through_seq q o ended l t r n = absurd (n refl)
through_seq q o waiting l t r n = refl
through_seq q o (leaving m) l t r n = refl
through_seq q o wrong l t r n = refl

through_loop : (a : ℕ) (p : Statement) (o : ℕ) (k : Code) (l : ℕ) (t : Statement) → k ≢ ended
    → gives o k l (seq t (loop a p)) ≡ in_loop a p (gives o k l t)
through_loop a p o ended l t n = absurd (n refl)
through_loop a p o waiting l t n = refl
through_loop a p o (leaving m) l t n = refl
through_loop a p o wrong l t n = refl

loop_fails : (a : ℕ) (p : Statement) (o : ℕ) {k : Code} (l : ℕ) (t : Statement) → k ≡ ended → failed ≡ in_loop a p (gives o k l t)
loop_fails a p o l t h = rw h

through_try : (o : ℕ) (k : Code) (l : ℕ) (t : Statement) → k ≢ leaving 1 → gives o (down k) l (try t) ≡ in_try (gives o k l t)
through_try o ended l t n = refl
through_try o waiting l t n = refl
through_try o (leaving m) l t n = rw (ne_eqb m 1 (λ h. n (ap leaving h)))
through_try o wrong l t n = refl

-- ---- the premises of the signal rules as tests, and back
neither_wrong : (k− k+ : Code) → greater k− k+ ≢ wrong → (is_wrong k− ≡ false) × (is_wrong k+ ≡ false)
neither_wrong ended k+ n = (refl, sane k+ n)
neither_wrong waiting ended n = (refl, refl)
neither_wrong waiting waiting n = (refl, refl)
neither_wrong waiting (leaving m) n = (refl, refl)
neither_wrong waiting wrong n = absurd (n refl)
neither_wrong (leaving m) ended n = (refl, refl)
neither_wrong (leaving m) waiting n = (refl, refl)
neither_wrong (leaving m) (leaving m₂) n = (refl, refl)
neither_wrong (leaving m) wrong n = absurd (n refl)
neither_wrong wrong k+ n = absurd (n refl)

pub some_wrong : (k− k+ : Code) → greater k− k+ ≡ wrong → (is_wrong k− || is_wrong k+) ≡ true
some_wrong ended k+ h = rw h
some_wrong waiting ended h = absurd (let z : ◌≡◌ {A = ℕ} 0 1 = cc in omega arith)
some_wrong waiting waiting h = absurd (let z : ◌≡◌ {A = ℕ} 0 1 = cc in omega arith)
some_wrong waiting (leaving m) h = absurd (let z : ◌≡◌ {A = ℕ} 0 1 = cc in omega arith)
some_wrong waiting wrong h = refl
some_wrong (leaving m) ended h = absurd (let z : ◌≡◌ {A = ℕ} 0 1 = cc in omega arith)
some_wrong (leaving m) waiting h = absurd (let z : ◌≡◌ {A = ℕ} 0 1 = cc in omega arith)
some_wrong (leaving m) (leaving n) h = absurd (let z : ◌≡◌ {A = ℕ} 0 1 = cc in omega arith)
some_wrong (leaving m) wrong h = refl
some_wrong wrong k+ h = refl

pub either_wrong : (k− k+ : Code) → (is_wrong k− || is_wrong k+) ≡ true → greater k− k+ ≡ wrong
either_wrong ended k+ h = wrong_is k+ h
either_wrong waiting k+ h = rw (wrong_is k+ h)
either_wrong (leaving m) k+ h = rw (wrong_is k+ h)
either_wrong wrong k+ h = refl

right : (k : Code) → is_wrong k ≡ false → k ≢ wrong
right k h e = clash (is_wrong k) (rw e) h

-- a code that is not wrong, of two that are not
pub right_both : (j k : Code) → is_wrong j ≡ false → is_wrong k ≡ false → is_wrong (greater j k) ≡ false
right_both ended k g h = h
right_both waiting ended g h = refl
right_both waiting waiting g h = refl
right_both waiting (leaving n) g h = refl
right_both waiting wrong g h = h
right_both (leaving m) ended g h = refl
right_both (leaving m) waiting g h = refl
right_both (leaving m) (leaving n) g h = refl
right_both (leaving m) wrong g h = h
right_both wrong k g h = g

right_two : (k− k+ : Code) → is_wrong k− ≡ false → is_wrong k+ ≡ false → greater k− k+ ≢ wrong
right_two k− k+ h i = right (greater k− k+) (right_both k− k+ h i)

-- as printed, none of the four fits
otherwise : (in− in+ : Bool) (k− k+ : Code) → Inherits printed in− in+ k− k+ → printed_fit in− in+ (is_wrong k−) (is_wrong k+) ≡ inherited
otherwise true true k− k+ n = absurd (n tt)
otherwise true false k− k+ n = go (tested (is_wrong k+))
  where
    go : Tested (is_wrong k+) → printed_fit true false (is_wrong k−) (is_wrong k+) ≡ inherited
    go (Tested.yes x) = rw x
    go (Tested.no x) = absurd (n (right k+ x))
otherwise false true k− k+ n = go (tested (is_wrong k−))
  where
    go : Tested (is_wrong k−) → printed_fit false true (is_wrong k−) (is_wrong k+) ≡ inherited
    go (Tested.yes x) = rw x
    go (Tested.no x) = absurd (n (right k− x))
otherwise false false k− k+ n = go (tested (is_wrong k−)) (tested (is_wrong k+))
  where
    go : Tested (is_wrong k−) → Tested (is_wrong k+) → printed_fit false false (is_wrong k−) (is_wrong k+) ≡ inherited
    go (Tested.yes x) y = rw x
    go (Tested.no x) (Tested.yes y) = rw (x, y)
    go (Tested.no x) (Tested.no y) = absurd (n (right k− x, right k+ y))

-- the case of each signal rule, by its premises
module _ (s o− o+ : ℕ) (k− k+ : Code) where
  abbrev Selects : Order → Case → Type 0
  Selects ord c = first_fit ord (member s o−) (member s o+) (is_wrong k−) (is_wrong k+) ≡ c

  pub fits++ : (ord : Order) → member s o− ≡ true → member s o+ ≡ true → Permits ord true true k− k+ → Selects ord both
  fits++ printed h− h+ n = rw (h−, h+)
  fits++ inheritanceFirst h− h+ n = let w = neither_wrong k− k+ n in rw (h−, h+, w.0, w.1)

  pub fits−− : (ord : Order) → member s o− ≡ false → member s o+ ≡ false → Permits ord false false k− k+ → Selects ord neither
  fits−− printed h− h+ n = rw (h−, h+, sane k− n.0, sane k+ n.1)
  fits−− inheritanceFirst h− h+ n = let w = neither_wrong k− k+ n in rw (h−, h+, w.0, w.1)

  pub fits+− : (ord : Order) → member s o− ≡ true → member s o+ ≡ false → Permits ord true false k− k+ → Selects ord only−
  fits+− printed h− h+ n = rw (h−, h+, sane k+ n)
  fits+− inheritanceFirst h− h+ n = let w = neither_wrong k− k+ n in rw (h−, h+, w.0, w.1)

  pub fits−+ : (ord : Order) → member s o− ≡ false → member s o+ ≡ true → Permits ord false true k− k+ → Selects ord only+
  fits−+ printed h− h+ n = rw (h−, h+, sane k− n)
  fits−+ inheritanceFirst h− h+ n = let w = neither_wrong k− k+ n in rw (h−, h+, w.0, w.1)

  pub fits∞ : (ord : Order) → Inherits ord (member s o−) (member s o+) k− k+ → Selects ord inherited
  fits∞ printed w = otherwise (member s o−) (member s o+) k− k+ w
  fits∞ inheritanceFirst w = rw (some_wrong k− k+ w)

-- the answer of a case is that of the signal, whose runs are the reactions of the premises
signal_is : {r− r+ : Reaction} (ord : Order) (sc : Scope) (a s : ℕ) (x− x+ : Reaction) {c : Case} → case_of ord s x− x+ ≡ c
    → x− ≡ r− → x+ ≡ r+
    → answer c sc a s x− x+ ≡ in_signal ord sc a s r− r+
signal_is ord sc a s x− x+ h h− h+ = ap (λ (c : Case). answer c sc a s x− x+) (sym h) ∙ ap₂ (in_signal ord sc a s) h− h+

-- ---- what the rules derive, the function gives
pub sound : {ord : Order} {p : Statement} {e : ℕ} {r : Reaction} → ReactsBy ord p e r → r ≡ react_by ord p e
unfolding react_by
sound ReactsBy.nothing = refl
sound ReactsBy.pause = refl
sound ReactsBy.exit = refl
sound ReactsBy.emit = refl
sound (ReactsBy.loop {a = a} {o = o} {l = l} {k = k} {p = p} {p' = p'} d n) = through_loop a p o k l p' n ∙ ap (in_loop a p) (sound d)
sound (ReactsBy.loop_error {a = a} {o = o} {l = l} {p = p} {p' = p'} d z) = loop_fails a p o l p' z ∙ ap (in_loop a p) (sound d)
sound (ReactsBy.parallel d d₂) = ap₂ in_par (sound d) (sound d₂)
sound (ReactsBy.present+ i d) = rw (i) (sound d)
sound (ReactsBy.present− i d) = rw (i) (sound d)
sound (ReactsBy.try_catch d) = ap in_try (sound d)
sound (ReactsBy.try_through {o = o} {l = l} {k = k} {p' = p'} d n) = through_try o k l p' n ∙ ap in_try (sound d)
sound {ord} (ReactsBy.sequence_p {e = e} {o = o} {l = l} {k = k} {p' = p'} {q = q} d n) =
    through_seq q o k l p' (react_by ord q e) n ∙ ap (λ (r : Reaction). in_seq q r (react_by ord q e)) (sound d)
sound (ReactsBy.sequence_q {q = q} d d₂) = ap₂ (in_seq q) (sound d) (sound d₂)
sound {ord} (ReactsBy.signal++ {sc = sc} {a = a} {s = s} {o− = o−} {o+ = o+} {k− = k−} {k+ = k+} d− i− d+ i+ n) =
    signal_is ord sc a s _ _ (fits++ s o− o+ k− k+ ord i− i+ n) (sound d−) (sound d+)
sound {ord} (ReactsBy.signal−− {sc = sc} {a = a} {s = s} {o− = o−} {o+ = o+} {k− = k−} {k+ = k+} d− i− d+ i+ n) =
    signal_is ord sc a s _ _ (fits−− s o− o+ k− k+ ord i− i+ n) (sound d−) (sound d+)
sound {ord} (ReactsBy.signal+− {sc = sc} {a = a} {s = s} {o− = o−} {o+ = o+} {k− = k−} {k+ = k+} d− i− d+ i+ n) =
    signal_is ord sc a s _ _ (fits+− s o− o+ k− k+ ord i− i+ n) (sound d−) (sound d+)
sound {ord} (ReactsBy.signal−+ {sc = sc} {a = a} {s = s} {o− = o−} {o+ = o+} {k− = k−} {k+ = k+} d− i− d+ i+ n) =
    signal_is ord sc a s _ _ (fits−+ s o− o+ k− k+ ord i− i+ n) (sound d−) (sound d+)
sound {ord} (ReactsBy.signal∞ {sc = sc} {a = a} {s = s} {o− = o−} {o+ = o+} {k− = k−} {k+ = k+} d− d+ w) =
    signal_is ord sc a s _ _ (fits∞ s o− o+ k− k+ ord w) (sound d−) (sound d+)
sound ReactsBy.setpause = refl
sound (ReactsBy.suspend {s = s} d) = ap (in_suspend s) (sound d)
sound (ReactsBy.held+ i) = rw i
sound (ReactsBy.held− {s = s} i d) = rw i (ap (in_suspend s) (sound d))

-- ---- what the function gives, the rules derive
seq_derives : {ord : Order} {p q : Statement} {e : ℕ} (r r₂ : Reaction) → ReactsBy ord p e r → ReactsBy ord q e r₂
    → ReactsBy ord (seq p q) e (in_seq q r r₂)
seq_derives (gives o ended l t) (gives o₂ k l₂ u) d d₂ = ReactsBy.sequence_q d d₂
seq_derives (gives o waiting l t) r₂ d d₂ = ReactsBy.sequence_p d waiting≢ended
seq_derives (gives o (leaving n) l t) r₂ d d₂ = ReactsBy.sequence_p d (leaving≢ended n)
seq_derives (gives o wrong l t) r₂ d d₂ = ReactsBy.sequence_p d wrong≢ended

par_derives : {ord : Order} {p q : Statement} {e : ℕ} (r r₂ : Reaction) → ReactsBy ord p e r → ReactsBy ord q e r₂
    → ReactsBy ord (par p q) e (in_par r r₂)
par_derives (gives o k l t) (gives o₂ k₂ l₂ u) d d₂ = ReactsBy.parallel d d₂

loop_derives : {ord : Order} {p : Statement} {e : ℕ} (a : ℕ) (r : Reaction) → ReactsBy ord p e r → ReactsBy ord (loop a p) e (in_loop a p r)
loop_derives a (gives o ended l t) d = ReactsBy.loop_error d refl
loop_derives a (gives o waiting l t) d = ReactsBy.loop d waiting≢ended
loop_derives a (gives o (leaving n) l t) d = ReactsBy.loop d (leaving≢ended n)
loop_derives a (gives o wrong l t) d = ReactsBy.loop d wrong≢ended

present_derives : {ord : Order} {p q : Statement} {e : ℕ} (s : ℕ) (b : Bool) (r r₂ : Reaction) → member s e ≡ b
    → ReactsBy ord p e r → ReactsBy ord q e r₂
    → ReactsBy ord (present s p q) e (cond b r r₂)
present_derives s true r r₂ h d d₂ = ReactsBy.present+ h d
present_derives s false r r₂ h d d₂ = ReactsBy.present− h d₂

try_derives : {ord : Order} {p : Statement} {e : ℕ} (r : Reaction) → ReactsBy ord p e r → ReactsBy ord (try p) e (in_try r)
try_derives (gives o ended l t) d = ReactsBy.try_through d (λ h. let z : ◌≡◌ {A = ℕ} 0 1 = cc in omega arith)
try_derives (gives o waiting l t) d = ReactsBy.try_through d (λ h. let z : ◌≡◌ {A = ℕ} 0 1 = cc in omega arith)
try_derives {ord} {p} {e} (gives o (leaving n) l t) d = go (eqb n 1) refl
  where
    go : (b : Bool) → eqb n 1 ≡ b → ReactsBy ord (try p) e (cond b (gives o ended l nothing) (gives o (leaving (n - 1)) l (try t)))
    go true h = ReactsBy.try_catch (subst (λ (m : ℕ). ReactsBy ord p e (gives o (leaving m) l t)) (eqb-true n 1 h) d)
    go false h = ReactsBy.try_through d (λ i. eqb-false n 1 h (let j : n ≡ 1 = cc in j))
try_derives (gives o wrong l t) d = ReactsBy.try_through d (λ h. let z : ◌≡◌ {A = ℕ} 0 1 = cc in omega arith)

module _ {p : Statement} {e : ℕ} (sc : Scope) (a s o− o+ l− l+ : ℕ) (k− k+ : Code) (t− t+ : Statement) where
  case-derives : (ord : Order) → ReactsBy ord p (remove s e) (gives o− k− l− t−) → ReactsBy ord p (insert s e) (gives o+ k+ l+ t+)
      → (i− i+ w− w+ : Bool) → member s o− ≡ i− → member s o+ ≡ i+ → is_wrong k− ≡ w− → is_wrong k+ ≡ w+
      → ReactsBy ord (signal sc a s p) e (answer (first_fit ord i− i+ w− w+) sc a s (gives o− k− l− t−) (gives o+ k+ l+ t+))
  case-derives printed d− d+ true true w− w+ h− h+ v− v+ = ReactsBy.signal++ d− h− d+ h+ tt
  case-derives printed d− d+ false false true w+ h− h+ v− v+ = ReactsBy.signal∞ d− d+ (rw (h−, h+) (λ n. n.0 (wrong_is k− v−)))
  case-derives printed d− d+ false false false true h− h+ v− v+ = ReactsBy.signal∞ d− d+ (rw (h−, h+) (λ n. n.1 (wrong_is k+ v+)))
  case-derives printed d− d+ false false false false h− h+ v− v+ = ReactsBy.signal−− d− h− d+ h+ (right k− v−, right k+ v+)
  case-derives printed d− d+ true false w− true h− h+ v− v+ = ReactsBy.signal∞ d− d+ (rw (h−, h+) (λ n. n (wrong_is k+ v+)))
  case-derives printed d− d+ true false w− false h− h+ v− v+ = ReactsBy.signal+− d− h− d+ h+ (right k+ v+)
  case-derives printed d− d+ false true true w+ h− h+ v− v+ = ReactsBy.signal∞ d− d+ (rw (h−, h+) (λ n. n (wrong_is k− v−)))
  case-derives printed d− d+ false true false w+ h− h+ v− v+ = ReactsBy.signal−+ d− h− d+ h+ (right k− v−)
  case-derives inheritanceFirst d− d+ i− i+ true w+ h− h+ v− v+ = ReactsBy.signal∞ d− d+ (either_wrong k− k+ (rw v−))
  case-derives inheritanceFirst d− d+ i− i+ false true h− h+ v− v+ = ReactsBy.signal∞ d− d+ (either_wrong k− k+ (rw (v−, v+)))
  case-derives inheritanceFirst d− d+ true true false false h− h+ v− v+ = ReactsBy.signal++ d− h− d+ h+ (right_two k− k+ v− v+)
  case-derives inheritanceFirst d− d+ true false false false h− h+ v− v+ = ReactsBy.signal+− d− h− d+ h+ (right_two k− k+ v− v+)
  case-derives inheritanceFirst d− d+ false true false false h− h+ v− v+ = ReactsBy.signal−+ d− h− d+ h+ (right_two k− k+ v− v+)
  case-derives inheritanceFirst d− d+ false false false false h− h+ v− v+ = ReactsBy.signal−− d− h− d+ h+ (right_two k− k+ v− v+)

signal_derives : {p : Statement} {e : ℕ} (ord : Order) (sc : Scope) (a s : ℕ) (r− r+ : Reaction)
    → ReactsBy ord p (remove s e) r− → ReactsBy ord p (insert s e) r+ → ReactsBy ord (signal sc a s p) e (in_signal ord sc a s r− r+)
signal_derives ord sc a s (gives o− k− l− t−) (gives o+ k+ l+ t+) d− d+ =
    case-derives sc a s o− o+ l− l+ k− k+ t− t+ ord d− d+ (member s o−) (member s o+) (is_wrong k−) (is_wrong k+) refl refl refl refl

suspend_derives : {ord : Order} {p : Statement} {e : ℕ} (s : ℕ) (r : Reaction) → ReactsBy ord p e r
    → ReactsBy ord (suspend s p) e (in_suspend s r)
suspend_derives s (gives o k l t) d = ReactsBy.suspend d

held_derives : {ord : Order} {p : Statement} {e : ℕ} (s K : ℕ) (b : Bool) (r : Reaction) → member s e ≡ b → ReactsBy ord p e r
    → ReactsBy ord (held s K p) e (cond b (stopped s K p) (in_suspend s r))
held_derives s K true r h d = ReactsBy.held+ h
held_derives s K false (gives o k l t) h d = ReactsBy.held− h d

derive : (ord : Order) (p : Statement) (e : ℕ) → ReactsBy ord p e (react_by ord p e)
unfolding react_by
derive ord nothing e = ReactsBy.nothing
derive ord (pause l) e = ReactsBy.pause
derive ord (emit s v) e = ReactsBy.emit
derive ord (exit n) e = ReactsBy.exit
derive ord (seq p q) e = seq_derives (react_by ord p e) (react_by ord q e) (derive ord p e) (derive ord q e)
derive ord (par p q) e = par_derives (react_by ord p e) (react_by ord q e) (derive ord p e) (derive ord q e)
derive ord (loop a p) e = loop_derives a (react_by ord p e) (derive ord p e)
derive ord (present s p q) e = present_derives s (member s e) (react_by ord p e) (react_by ord q e) refl (derive ord p e) (derive ord q e)
derive ord (signal sc a s p) e =
    signal_derives ord sc a s (react_by ord p (remove s e)) (react_by ord p (insert s e))
    (derive ord p (remove s e)) (derive ord p (insert s e))
derive ord (try p) e = try_derives (react_by ord p e) (derive ord p e)
derive ord (setpause l) e = ReactsBy.setpause
derive ord (suspend s p) e = suspend_derives s (react_by ord p e) (derive ord p e)
derive ord (held s K p) e = held_derives s K (member s e) (react_by ord p e) refl (derive ord p e)

-- RULES: the relation holds of an answer exactly if the function gives it
pub reacts_by_is : (ord : Order) (p : Statement) (e : ℕ) (r : Reaction) → ReactsBy ord p e r ↔ (r ≡ react_by ord p e)
reacts_by_is ord p e r = (sound, λ h. subst (λ (x : Reaction). ReactsBy ord p e x) (sym h) (derive ord p e))

pub reacts_is : (p : Statement) (e : ℕ) (r : Reaction) → Reacts p e r ↔ (r ≡ react p e)
reacts_is = reacts_by_is inheritanceFirst
