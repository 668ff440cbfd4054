-- The two orders of the signal cases (02, item 4), tied by one induction: an instant that is not wrong by the new order is the
-- same by both and has no error; a wrong one has the same first error by both; without an overlap both are equal.
use Prim.Native.Nat.{ℕ, ◌-◌}
use mathlib.Core.Path.{◌≡◌, refl, sym, ap, ◌∙◌}
use mathlib.Core.Logic.{◌↔◌, ◌≢◌}
use mathlib.Core.Bool.{Bool, true, false, ◌&&◌, ◌||◌, cond}
use mathlib.Core.Option.{some}
use mathlib.Core.List.{List, [], ◌∷◌, ◌++◌, head?}
use lib.Dec.{eqb}
use native.Mathlib.Omega.{arith}
use Rattle.spec_base.specs.Sets.{member, none, only, join, insert, remove}
use Rattle.sets.proofs.Booleans.{or_l, or_r, or_first, or_second, clash}
use Rattle.spec_language.specs.Statement.{Scope, Statement, nothing, pause, emit, exit, seq, par, loop, present, signal, try, setpause, suspend, held}
use Rattle.spec_language.specs.Reaction.{Code, ended, waiting, leaving, wrong, is_wrong, greater, if_waiting, side, Reaction, gives, emitted, code, failed, in_seq, in_par, in_loop, in_try, remains, in_suspend, outside, Case, inherited, printed, inheritanceFirst, first_fit, case_of, answer, in_signal, react_by, react}
use Rattle.spec_language.specs.Errors.{Error, if_ended, loop_errors, signal_errors, errors_by, errors, first_error_by, first_error, instantaneous, not_reactive, not_deterministic}
use Rattle.spec_language.specs.SignalOrders.{overlaps, overlap}
use Rattle.theory_language.proofs.Rules.{right_both}

-- ---- the invariant: is there an overlap; the reactions by the printed and by the new order; the errors by both
pub data Tied : Bool → Reaction → Reaction → List Error → List Error → Type 0 where
  same : (o : ℕ) (k : Code) (l : ℕ) (t : Statement) → is_wrong k ≡ false
      → Tied false (gives o k l t) (gives o k l t) [] []
  broken : (v : Bool) (r : Reaction) (o l : ℕ) (t : Statement) (x : Error) (xs ys : List Error)
      → (v ≡ false → r ≡ gives o wrong l t) → Tied v r (gives o wrong l t) (x ∷ xs) (x ∷ ys)

equal : {v : Bool} {r r' : Reaction} {xs xs' : List Error} → Tied v r r' xs xs' → v ≡ false → r ≡ r'
equal (Tied.same o k l t h) i = refl
equal (Tied.broken v r o l t x xs ys f) i = f i

-- ---- what each command makes of the two orders
seq_tied : {v v₂ : Bool} {r r' r₂ r₂' : Reaction} {xs xs' ys ys' : List Error} (q : Statement)
    → Tied v r r' xs xs' → Tied v₂ r₂ r₂' ys ys'
    → Tied (v || if_ended (code r) v₂ false) (in_seq q r r₂) (in_seq q r' r₂')
    (xs ++ if_ended (code r) ys []) (xs' ++ if_ended (code r') ys' [])
seq_tied q (Tied.same o ended l t h) (Tied.same o₂ k₂ l₂ t₂ i) = Tied.same (join o o₂) k₂ l₂ t₂ i
seq_tied q (Tied.same o ended l t h) (Tied.broken w r₂ o₂ l₂ t₂ x zs zs' f) =
    Tied.broken w (in_seq q (gives o ended l t) r₂) (join o o₂) l₂ t₂ x zs zs'
    (λ i. ap (in_seq q (gives o ended l t)) (f i))
seq_tied q (Tied.same o waiting l t h) d = Tied.same o waiting l (seq t q) h
seq_tied q (Tied.same o (leaving n) l t h) d = Tied.same o (leaving n) l (seq t q) h
seq_tied q (Tied.same o wrong l t h) d = clash true refl h
seq_tied {v₂ = v₂} {r₂ = r₂} {ys = ys} q (Tied.broken w r o l t x zs zs' f) d =
    Tied.broken (w || if_ended (code r) v₂ false) (in_seq q r r₂) o l (seq t q) x (zs ++ if_ended (code r) ys []) (zs' ++ [])
    (λ i. ap (λ (z : Reaction). in_seq q z r₂) (f (or_first w (if_ended (code r) v₂ false) i)))

par_tied : {v v₂ : Bool} {r r' r₂ r₂' : Reaction} {xs xs' ys ys' : List Error}
    → Tied v r r' xs xs' → Tied v₂ r₂ r₂' ys ys'
    → Tied (v || v₂) (in_par r r₂) (in_par r' r₂') (xs ++ ys) (xs' ++ ys')
par_tied (Tied.same o k l t h) (Tied.same o₂ k₂ l₂ t₂ i) =
    Tied.same (join o o₂) (greater k k₂) (if_waiting (greater k k₂) (join l l₂)) (par (side k t) (side k₂ t₂)) (right_both k k₂ h i)
par_tied (Tied.same o ended l t h) (Tied.broken w r₂ o₂ l₂ t₂ x zs zs' f) =
    Tied.broken w (in_par (gives o ended l t) r₂) (join o o₂) none (par nothing t₂) x zs zs'
    (λ i. ap (in_par (gives o ended l t)) (f i))
par_tied (Tied.same o waiting l t h) (Tied.broken w r₂ o₂ l₂ t₂ x zs zs' f) =
    Tied.broken w (in_par (gives o waiting l t) r₂) (join o o₂) none (par t t₂) x zs zs'
    (λ i. ap (in_par (gives o waiting l t)) (f i))
par_tied (Tied.same o (leaving n) l t h) (Tied.broken w r₂ o₂ l₂ t₂ x zs zs' f) =
    Tied.broken w (in_par (gives o (leaving n) l t) r₂) (join o o₂) none (par t t₂) x zs zs'
    (λ i. ap (in_par (gives o (leaving n) l t)) (f i))
par_tied (Tied.same o wrong l t h) (Tied.broken w r₂ o₂ l₂ t₂ x zs zs' f) = clash true refl h
par_tied (Tied.broken w r o l t x zs zs' f) (Tied.same o₂ k₂ l₂ t₂ i) =
    Tied.broken (w || false) (in_par r (gives o₂ k₂ l₂ t₂)) (join o o₂) none (par t (side k₂ t₂)) x (zs ++ []) (zs' ++ [])
    (λ j. ap (λ (z : Reaction). in_par z (gives o₂ k₂ l₂ t₂)) (f (or_first w false j)))
par_tied (Tied.broken w r o l t x zs zs' f) (Tied.broken w₂ r₂ o₂ l₂ t₂ x₂ zs₂ zs₂' g) =
    Tied.broken (w || w₂) (in_par r r₂) (join o o₂) none (par t t₂) x (zs ++ (x₂ ∷ zs₂)) (zs' ++ (x₂ ∷ zs₂'))
    (λ j. ap (λ (z : Reaction). in_par z r₂) (f (or_first w w₂ j)) ∙ ap (in_par (gives o wrong l t)) (g (or_second w w₂ j)))

present_tied : {v v₂ : Bool} {r r' r₂ r₂' : Reaction} {xs xs' ys ys' : List Error} (b : Bool)
    → Tied v r r' xs xs' → Tied v₂ r₂ r₂' ys ys'
    → Tied (cond b v v₂) (cond b r r₂) (cond b r' r₂') (cond b xs ys) (cond b xs' ys')
present_tied true c d = c
present_tied false c d = d

cond_tied : (b : Bool) {r r₂ : Reaction} → Tied false r r [] [] → Tied false r₂ r₂ [] []
    → Tied false (cond b r r₂) (cond b r r₂) [] []
cond_tied true c d = c
cond_tied false c d = d

loop_tied : {v : Bool} {r r' : Reaction} {xs xs' : List Error} (a : ℕ) (p : Statement)
    → Tied v r r' xs xs'
    → Tied v (in_loop a p r) (in_loop a p r') (xs ++ loop_errors a (code r)) (xs' ++ loop_errors a (code r'))
loop_tied a p (Tied.same o ended l t h) = Tied.broken false failed none none nothing (instantaneous a) [] [] (λ i. refl)
loop_tied a p (Tied.same o waiting l t h) = Tied.same o waiting l (seq t (loop a p)) h
loop_tied a p (Tied.same o (leaving n) l t h) = Tied.same o (leaving n) l (seq t (loop a p)) h
loop_tied a p (Tied.same o wrong l t h) = clash true refl h
loop_tied a p (Tied.broken w r o l t x zs zs' f) =
    Tied.broken w (in_loop a p r) o l (seq t (loop a p)) x (zs ++ loop_errors a (code r)) (zs' ++ [])
    (λ i. ap (in_loop a p) (f i))

try_tied : {v : Bool} {r r' : Reaction} {xs xs' : List Error}
    → Tied v r r' xs xs' → Tied v (in_try r) (in_try r') xs xs'
try_tied (Tied.same o ended l t h) = Tied.same o ended l (try t) h
try_tied (Tied.same o waiting l t h) = Tied.same o waiting l (try t) h
try_tied (Tied.same o (leaving n) l t h) =
    cond_tied (eqb n 1) (Tied.same o ended l nothing refl) (Tied.same o (leaving (n - 1)) l (try t) refl)
try_tied (Tied.same o wrong l t h) = clash true refl h
try_tied (Tied.broken w r o l t x zs zs' f) = Tied.broken w (in_try r) o l (try t) x zs zs' (λ i. ap in_try (f i))

suspend_tied : {v : Bool} {r r' : Reaction} {xs xs' : List Error} (s : ℕ)
    → Tied v r r' xs xs' → Tied v (in_suspend s r) (in_suspend s r') xs xs'
suspend_tied s (Tied.same o k l t h) = Tied.same o k l (remains s k l t) h
suspend_tied s (Tied.broken w r o l t x zs zs' f) = Tied.broken w (in_suspend s r) o l nothing x zs zs' (λ i. ap (in_suspend s) (f i))

-- a wrong run without an overlap: the printed order fails too
module _ (sc : Scope) (a s : ℕ) (r− r+ : Reaction) where
  fails : (i− i+ w− w+ : Bool) → (w− || w+) ≡ true → (i− && i+ && (w− || w+)) ≡ false
      → answer (first_fit printed i− i+ w− w+) sc a s r− r+ ≡ failed
  fails true true w− w+ h n = clash (w− || w+) h n
  fails true false w− false h n = refl
  fails true false w− true h n = refl
  fails false true false w+ h n = refl
  fails false true true w+ h n = refl
  fails false false false false h n = clash true refl (sym h)
  fails false false false true h n = refl
  fails false false true w+ h n = refl

  fails_of : (is_wrong (code r−) || is_wrong (code r+)) ≡ true → overlaps s r− r+ ≡ false → in_signal printed sc a s r− r+ ≡ failed
  fails_of = fails (member s (emitted r−)) (member s (emitted r+)) (is_wrong (code r−)) (is_wrong (code r+))

-- two runs that are right by both orders
module _ (sc : Scope) (a s o− : ℕ) (k− : Code) (l− : ℕ) (t− : Statement) (o+ : ℕ) (k+ : Code) (l+ : ℕ) (t+ : Statement) where
  right-tied : (i− i+ w− w+ : Bool) → is_wrong k− ≡ w− → is_wrong k+ ≡ w+ → w− ≡ false → w+ ≡ false
      → Tied (i− && i+ && (w− || w+))
      (answer (first_fit printed i− i+ w− w+) sc a s (gives o− k− l− t−) (gives o+ k+ l+ t+))
      (answer (first_fit inheritanceFirst i− i+ w− w+) sc a s (gives o− k− l− t−) (gives o+ k+ l+ t+))
      (signal_errors a (first_fit printed i− i+ w− w+)) (signal_errors a (first_fit inheritanceFirst i− i+ w− w+))
  right-tied i− i+ true w+ g h m n = clash true refl m
  right-tied i− i+ false true g h m n = clash true refl n
  right-tied true true false false g h m n = Tied.same (outside sc s o+) k+ l+ (signal sc a s t+) h
  right-tied true false false false g h m n = Tied.broken false failed none none nothing (not_reactive a) [] [] (λ i. refl)
  right-tied false true false false g h m n = Tied.broken false failed none none nothing (not_deterministic a) [] [] (λ i. refl)
  right-tied false false false false g h m n = Tied.same o− k− l− (signal sc a s t−) g

-- a run that is wrong by the new order
inherit_tied : (sc : Scope) (a s : ℕ) (v : Bool) (r r− r+ : Reaction) (c : Case) (x : Error) (xs ys : List Error) → c ≡ inherited
    → (v ≡ false → r ≡ failed) → Tied v r (answer c sc a s r− r+) (x ∷ xs) (x ∷ (ys ++ signal_errors a c))
inherit_tied sc a s v r r− r+ c x xs ys h f = rw h (Tied.broken v r none none nothing x xs (ys ++ []) f)

inherits : (i− i+ w− w+ : Bool) → (w− || w+) ≡ true → first_fit inheritanceFirst i− i+ w− w+ ≡ inherited
inherits i− i+ w− w+ h = rw h

wrong_by : {r : Reaction} {o l : ℕ} {t : Statement} → r ≡ gives o wrong l t → is_wrong (code r) ≡ true
wrong_by h = ap (λ (z : Reaction). is_wrong (code z)) h

signal_tied : {v− v+ : Bool} {r− r−' r+ r+' : Reaction} {xs xs' ys ys' : List Error} (sc : Scope) (a s : ℕ)
    → Tied v− r− r−' xs xs' → Tied v+ r+ r+' ys ys'
    → Tied (v− || v+ || overlaps s r− r+) (in_signal printed sc a s r− r+) (in_signal inheritanceFirst sc a s r−' r+')
    (xs ++ ys ++ signal_errors a (case_of printed s r− r+)) (xs' ++ ys' ++ signal_errors a (case_of inheritanceFirst s r−' r+'))
signal_tied sc a s (Tied.same o k l t h) (Tied.same o₂ k₂ l₂ t₂ i) =
    right-tied sc a s o k l t o₂ k₂ l₂ t₂ (member s o) (member s o₂) (is_wrong k) (is_wrong k₂) refl refl h i
signal_tied sc a s (Tied.same o k l t h) (Tied.broken w r+ o₂ l₂ t₂ x zs zs' f) =
    let r− = gives o k l t in
    let r+' = gives o₂ wrong l₂ t₂ in
    inherit_tied sc a s (w || overlaps s r− r+) (in_signal printed sc a s r− r+) r− r+' (case_of inheritanceFirst s r− r+') x
    (zs ++ signal_errors a (case_of printed s r− r+)) zs' (inherits (member s o) (member s o₂) (is_wrong k) true (or_r (is_wrong k) true refl))
    (λ i. fails_of sc a s r− r+ (or_r (is_wrong k) (is_wrong (code r+)) (wrong_by (f (or_first w (overlaps s r− r+) i))))
    (or_second w (overlaps s r− r+) i))
signal_tied {v+ = v+} {r+ = r+} {r+' = r+'} {ys = ys} {ys' = ys'} sc a s (Tied.broken w r− o l t x zs zs' f) d =
    let r−' = gives o wrong l t in
    inherit_tied sc a s (w || v+ || overlaps s r− r+) (in_signal printed sc a s r− r+) r−' r+' (case_of inheritanceFirst s r−' r+') x
    (zs ++ ys ++ signal_errors a (case_of printed s r− r+)) (zs' ++ ys') refl
    (λ i. fails_of sc a s r− r+
    (or_l (is_wrong (code r−)) (is_wrong (code r+)) (wrong_by (f (or_first w v+ (or_first (w || v+) (overlaps s r− r+) i)))))
    (or_second (w || v+) (overlaps s r− r+) i))

pub tied : (p : Statement) (e : ℕ)
    → Tied (overlap p e) (react_by printed p e) (react p e) (errors_by printed p e) (errors p e)
unfolding react_by errors_by overlap
tied nothing e = Tied.same none ended none nothing refl
tied (pause l) e = Tied.same none waiting (only l) nothing refl
tied (emit s v) e = Tied.same (only s) ended none nothing refl
tied (exit n) e = Tied.same none (leaving n) none nothing refl
tied (seq p q) e = seq_tied q (tied p e) (tied q e)
tied (par p q) e = par_tied (tied p e) (tied q e)
tied (loop a p) e = loop_tied a p (tied p e)
tied (present s p q) e = present_tied (member s e) (tied p e) (tied q e)
tied (signal sc a s p) e = signal_tied sc a s (tied p (remove s e)) (tied p (insert s e))
tied (try p) e = try_tied (tied p e)
tied (setpause l) e = Tied.same none waiting (only l) nothing refl
tied (suspend s p) e = suspend_tied s (tied p e)
tied (held s K p) e = present_tied (member s e) (Tied.same none waiting K (held s K p) refl) (suspend_tied s (tied p e))

-- ---- what follows of any two tied reactions
not_nil : (x : Error) (xs : List Error) → (x ∷ xs) ≢ []
not_nil x xs h = let z : ◌≡◌ {A = ℕ} 0 1 = cc in omega arith

tied_kept : {v : Bool} {r r' : Reaction} {xs xs' : List Error} → Tied v r r' xs xs' → is_wrong (code r') ≡ false
    → (r ≡ r') × (xs ≡ []) × (xs' ≡ [])
tied_kept (Tied.same o k l t h) i = (refl, refl, refl)
tied_kept (Tied.broken v r o l t x xs ys f) i = clash true refl i

tied_error : {v : Bool} {r r' : Reaction} {xs xs' : List Error} → Tied v r r' xs xs' → (code r' ≡ wrong) ↔ (xs' ≢ [])
tied_error (Tied.same o k l t h) = (λ i. clash (is_wrong k) (ap is_wrong i) h, λ n. absurd (n refl))
tied_error (Tied.broken v r o l t x xs ys f) = (λ i. not_nil x ys, λ n. refl)

tied_named : {v : Bool} {r r' : Reaction} {xs xs' : List Error} → Tied v r r' xs xs' → code r' ≡ wrong
    → (x : Error) × (head? xs' ≡ some x)
tied_named (Tied.same o k l t h) i = clash (is_wrong k) (ap is_wrong i) h
tied_named (Tied.broken v r o l t x xs ys f) i = (x, refl)

tied_first : {v : Bool} {r r' : Reaction} {xs xs' : List Error} → Tied v r r' xs xs' → head? xs ≡ head? xs'
tied_first (Tied.same o k l t h) = refl
tied_first (Tied.broken v r o l t x xs ys f) = refl

tied_overlap : {v : Bool} {r r' : Reaction} {xs xs' : List Error} → Tied v r r' xs xs' → v ≡ true → code r' ≡ wrong
tied_overlap (Tied.same o k l t h) i = clash false i refl
tied_overlap (Tied.broken v r o l t x xs ys f) i = refl

tied_wrong : {v : Bool} {r r' : Reaction} {xs xs' : List Error} → Tied v r r' xs xs' → code r ≡ wrong → code r' ≡ wrong
tied_wrong (Tied.same o k l t h) i = i
tied_wrong (Tied.broken v r o l t x xs ys f) i = refl

-- ---- of a statement
-- KEPT
pub kept : (p : Statement) (e : ℕ) → is_wrong (code (react p e)) ≡ false
    → (react_by printed p e ≡ react p e) × (errors_by printed p e ≡ []) × (errors p e ≡ [])
kept p e = tied_kept (tied p e)

-- WRONG
pub wrong_iff_error : (p : Statement) (e : ℕ) → (code (react p e) ≡ wrong) ↔ (errors p e ≢ [])
wrong_iff_error p e = tied_error (tied p e)

pub wrong_named : (p : Statement) (e : ℕ) → code (react p e) ≡ wrong → (x : Error) × (first_error p e ≡ some x)
wrong_named p e = tied_named (tied p e)

-- the errors of a reaction, by whether it is wrong: there is a first one, or none at all
abbrev pub Blamed : Bool → List Error → Type 0
Blamed true xs = (x : Error) × (zs : List Error) × (xs ≡ x ∷ zs)
Blamed false xs = xs ≡ []

tied_blamed : {v : Bool} {r r' : Reaction} {xs xs' : List Error} → Tied v r r' xs xs' → Blamed (is_wrong (code r')) xs'
tied_blamed (Tied.same o k l t h) = rw h refl
tied_blamed (Tied.broken v r o l t x xs ys f) = (x, ys, refl)

pub blamed : (p : Statement) (e : ℕ) → Blamed (is_wrong (code (react p e))) (errors p e)
blamed p e = tied_blamed (tied p e)

-- FIRST
pub same_first : (p : Statement) (e : ℕ) → first_error_by printed p e ≡ first_error p e
same_first p e = tied_first (tied p e)

-- OVERLAP
pub unchanged : (p : Statement) (e : ℕ) → overlap p e ≡ false → react_by printed p e ≡ react p e
unchanged p e = equal (tied p e)

pub overlap_wrong : (p : Statement) (e : ℕ) → overlap p e ≡ true → code (react p e) ≡ wrong
overlap_wrong p e = tied_overlap (tied p e)

pub wrong_stays : (p : Statement) (e : ℕ) → code (react_by printed p e) ≡ wrong → code (react p e) ≡ wrong
wrong_stays p e = tied_wrong (tied p e)
