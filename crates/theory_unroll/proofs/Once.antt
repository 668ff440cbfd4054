-- In an instant of what is worked through that is not wrong, no command reacts twice, and none that is resumed begins again.
use Prim.Native.Nat.{ℕ, ◌+◌, ◌≤◌, max}
use mathlib.Core.Path.{◌≡◌, refl, ap, ◌∙◌, fun_ext}
use mathlib.Core.Bool.{Bool, true, false, ◌&&◌, cond}
use mathlib.Core.List.{[], ◌∷◌}
use native.Mathlib.Omega.{arith}
use Rattle.spec_base.specs.Sets.{member, insert, remove}
use Rattle.sets.proofs.Booleans.{clash}
use Rattle.spec_language.specs.Statement.{Scope, Statement, nothing, pause, emit, exit, seq, par, loop, present, signal, try, setpause, suspend, held}
use Rattle.spec_language.specs.Places.{first, second, Place}
use Rattle.spec_language.specs.Reaction.{Code, ended, waiting, leaving, wrong, is_wrong, greater, Reaction, gives, emitted, code, in_seq, in_par, in_loop, in_try, in_suspend, stopped, inheritanceFirst, first_fit, answer, in_signal, react_by, react}
use Rattle.spec_language.specs.Errors.{if_ended}
use Rattle.spec_language.specs.States.{active}
use Rattle.spec_language.specs.Expansion.{expand, if_active}
use Rattle.spec_language.specs.LabelTests.{active_labels}
use Rattle.spec_unroll.specs.Entries.{Marks, nowhere, marks, own, in_first, in_second, at, Counting, OneRun, one, reacting, carried, resuming}
use Rattle.theory_unroll.proofs.Forms.{Forms}
use Rattle.theory_unroll.proofs.Alike.{Alike, RunsAlike, copy_follows, copy_inactive}

-- ---- a count of marked commands that takes each command at most once
pub record Once (f : Marks → ℕ) : Type 0 where
  pub unmarked : f nowhere ≡ 0
  pub marked : (a : Place) → f (at a) ≤ 1

once-below : {f g : Marks → ℕ} → ((m : Marks) → g m ≤ f m) → Once f → Once g
once-below h o = record { unmarked = omega (arith, h nowhere, o.unmarked); marked = λ a. omega (arith, h (at a), o.marked a) }

once-zero : Once (λ m. 0)
once-zero = record { unmarked = refl; marked = λ a. omega arith }

own_marked : (a : Place) → one (own (at a)) ≤ 1
unfolding at
own_marked [] = omega arith
own_marked (first ∷ a) = omega arith
own_marked (second ∷ a) = omega arith

once-own : Once (λ m. one (own m))
once-own = record { unmarked = refl; marked = own_marked }

two_marked : {f g : Marks → ℕ} → Once f → Once g → (a : Place) → one (own (at a)) + f (in_first (at a)) + g (in_second (at a)) ≤ 1
unfolding at
two_marked o o₂ [] = rw (o.unmarked, o₂.unmarked) (omega arith)
two_marked o o₂ (first ∷ a) = rw o₂.unmarked (omega (arith, o.marked a))
two_marked o o₂ (second ∷ a) = rw o.unmarked (omega (arith, o₂.marked a))

-- of a command with two parts: itself, the first, the second
once_two : {f g : Marks → ℕ} → Once f → Once g → Once (λ m. one (own m) + f (in_first m) + g (in_second m))
once_two o o₂ = record { unmarked = rw (o.unmarked, o₂.unmarked); marked = two_marked o o₂ }

once_one : {f : Marks → ℕ} → Once f → Once (λ m. one (own m) + f (in_first m))
once_one o = once-below (λ m. omega arith) (once_two o once-zero)

first_marked : {f : Marks → ℕ} → Once f → (a : Place) → f (in_first (at a)) ≤ 1
unfolding at
first_marked o [] = rw o.unmarked (omega arith)
first_marked o (first ∷ a) = o.marked a
first_marked o (second ∷ a) = rw o.unmarked (omega arith)

once-first : {f : Marks → ℕ} → Once f → Once (λ m. f (in_first m))
once-first o = record { unmarked = o.unmarked; marked = first_marked o }

second_marked : {f : Marks → ℕ} → Once f → (a : Place) → f (in_second (at a)) ≤ 1
unfolding at
second_marked o [] = rw o.unmarked (omega arith)
second_marked o (first ∷ a) = rw o.unmarked (omega arith)
second_marked o (second ∷ a) = o.marked a

once-second : {f : Marks → ℕ} → Once f → Once (λ m. f (in_second m))
once-second o = record { unmarked = o.unmarked; marked = second_marked o }

once_if : {f : Marks → ℕ} (k : Code) → Once f → Once (λ m. if_ended k (f m) 0)
once_if ended o = o
once_if waiting o = once-zero
once_if (leaving n) o = once-zero
once_if wrong o = once-zero

once-cond : {f g : Marks → ℕ} (b : Bool) → Once f → Once g → Once (λ m. cond b (f m) (g m))
once-cond true o o₂ = o
once-cond false o o₂ = o₂

-- of two runs one at most
once-run : {f g : Marks → ℕ} (h : ℕ → ℕ → ℕ) → ((x y : ℕ) → h x y ≤ max x y) → Once f → Once g → Once (λ m. h (f m) (g m))
once-run {f = f} {g = g} h i o o₂ = record {
  unmarked = omega (arith, i (f nowhere) (g nowhere), o.unmarked, o₂.unmarked);
  marked = λ a. omega (arith, i (f (at a)) (g (at a)), o.marked a, o₂.marked a);
}

-- of a test: itself, and the branch taken
once_branch : {f g : Marks → ℕ} (b : Bool) → Once f → Once g → Once (λ m. one (own m) + cond b (f (in_first m)) (g (in_second m)))
once_branch true o o₂ = once_one o
once_branch false o o₂ = once-below (λ m. omega arith) (once_two once-zero o₂)

-- ---- fresh: of every statement, in every run
pub fresh_once : (c : Counting) → OneRun c → (p : Statement) (e : ℕ) → Once (reacting c p e)
unfolding reacting
fresh_once c i nothing e = once-own
fresh_once c i (pause l) e = once-own
fresh_once c i (emit s v) e = once-own
fresh_once c i (exit n) e = once-own
fresh_once c i (seq p q) e = once_two (fresh_once c i p e) (once_if (code (react p e)) (fresh_once c i q e))
fresh_once c i (par p q) e = once_two (fresh_once c i p e) (fresh_once c i q e)
fresh_once c i (loop a p) e = once_one (fresh_once c i p e)
fresh_once c i (present s p q) e = once_branch (member s e) (fresh_once c i p e) (fresh_once c i q e)
fresh_once c i (signal sc a s p) e = once_one (once-run (c s p e) (i s p e) (fresh_once c i p (remove s e)) (fresh_once c i p (insert s e)))
fresh_once c i (try p) e = once_one (fresh_once c i p e)
fresh_once c i (setpause l) e = once-own
fresh_once c i (suspend s p) e = once_one (fresh_once c i p e)
fresh_once c i (held s K p) e = once_one (once-cond (member s e) once-zero (fresh_once c i p e))

-- ---- a command that is not wrong has no part that reacted and is wrong
abbrev Right : Reaction → Type 0
Right r = is_wrong (code r) ≡ false

right_seq : (q : Statement) (r r₂ : Reaction) → Right (in_seq q r r₂) → Right r
right_seq q (gives o ended l t) r₂ h = refl
right_seq q (gives o waiting l t) r₂ h = h
right_seq q (gives o (leaving n) l t) r₂ h = h
right_seq q (gives o wrong l t) r₂ h = h

right_codes : (j k : Code) → is_wrong (greater j k) ≡ false → (is_wrong j ≡ false) × (is_wrong k ≡ false)
right_codes ended k h = (refl, h)
right_codes waiting ended h = (refl, refl)
right_codes waiting waiting h = (refl, refl)
right_codes waiting (leaving n) h = (refl, refl)
right_codes waiting wrong h = (refl, h)
right_codes (leaving m) ended h = (refl, refl)
right_codes (leaving m) waiting h = (refl, refl)
right_codes (leaving m) (leaving n) h = (refl, refl)
right_codes (leaving m) wrong h = (refl, h)
right_codes wrong k h = clash true refl h

right_par : (r r₂ : Reaction) → Right (in_par r r₂) → Right r × Right r₂
right_par (gives o k l t) (gives o₂ k₂ l₂ t₂) h = right_codes k k₂ h

right_try : (r : Reaction) → Right (in_try r) → Right r
right_try (gives o ended l t) h = refl
right_try (gives o waiting l t) h = refl
right_try (gives o (leaving n) l t) h = refl
right_try (gives o wrong l t) h = h

right_suspend : (s : ℕ) (r : Reaction) → Right (in_suspend s r) → Right r
right_suspend s (gives o k l t) h = h

right_signal : (sc : Scope) (a s : ℕ) (i− i+ : Bool) (r− r+ : Reaction) (w− w+ : Bool)
    → Right (answer (first_fit inheritanceFirst i− i+ w− w+) sc a s r− r+) → (w− ≡ false) × (w+ ≡ false)
right_signal sc a s i− i+ r− r+ true w+ h = clash true refl h
right_signal sc a s i− i+ r− r+ false true h = clash true refl h
right_signal sc a s i− i+ r− r+ false false h = (refl, refl)

right_runs : (sc : Scope) (a s : ℕ) (r− r+ : Reaction) → Right (in_signal inheritanceFirst sc a s r− r+) → Right r− × Right r+
right_runs sc a s r− r+ h = right_signal sc a s (member s (emitted r−)) (member s (emitted r+)) r− r+ (is_wrong (code r−)) (is_wrong (code r+)) h

-- ---- resumed alone
-- the parts of a body, without it
none_left : (a : Place) → marks false nowhere nowhere a ≡ nowhere a
none_left [] = refl
none_left (first ∷ a) = refl
none_left (second ∷ a) = refl

parts_unmarked : {f : Marks → ℕ} → Once f → f (marks false nowhere nowhere) ≡ 0
parts_unmarked {f = f} o = ap f (fun_ext none_left) ∙ o.unmarked

parts_marked : {f : Marks → ℕ} → Once f → (a : Place) → f (marks false (in_first (at a)) (in_second (at a))) ≤ 1
unfolding at
parts_marked o [] = rw (parts_unmarked o) (omega arith)
parts_marked o (first ∷ a) = o.marked (first ∷ a)
parts_marked o (second ∷ a) = o.marked (second ∷ a)

parts_met : {f : Marks → ℕ} → Once f → Once (λ m. f (marks false (in_first m) (in_second m)))
parts_met o = record { unmarked = parts_unmarked o; marked = parts_marked o }

met_once : (p : Statement) (L : ℕ) → Once (resuming p L)
unfolding resuming
met_once nothing L = once-zero
met_once (pause l) L = once-own
met_once (emit s v) L = once-zero
met_once (exit n) L = once-zero
met_once (seq p q) L = once_branch (active p L) (met_once p L) (met_once q L)
met_once (par p q) L = once_two (once-cond (active p L) (met_once p L) once-zero) (once-cond (active q L) (met_once q L) once-zero)
met_once (loop a p) L = once-first (parts_met (met_once p L))
met_once (present s p q) L = once_branch (active p L) (met_once p L) (met_once q L)
met_once (signal sc a s p) L = once_one (met_once p L)
met_once (try p) L = once_one (met_once p L)
met_once (setpause l) L = once-zero
met_once (suspend s p) L = once_one (met_once p L)
met_once (held s K p) L = once-zero

-- ---- resumed: r, do the marks of what is resumed count in the expansion, and not beside it?
own-either : (r x : Bool) (y : ℕ) → one (r && x) + cond r 0 (one x + y) ≤ one x + cond r 0 y
own-either true x y = omega arith
own-either false x y = omega arith

two_either : (r x : Bool) (y z : ℕ) → one (r && x) + cond r 0 (one x + y + z) ≤ one x + cond r 0 y + cond r 0 z
two_either true x y z = omega arith
two_either false x y z = omega arith

once-left : (r : Bool) → Once (λ m. one (r && own m) + cond r 0 (one (own m)))
once-left true = once-below (λ m. omega arith) once-own
once-left false = once-below (λ m. omega arith) once-own

once_idle : (r : Bool) → Once (λ m. 0 + cond r 0 0)
once_idle true = once-zero
once_idle false = once-zero

-- a part t with the marks h in it, and f counting what is resumed
abbrev Entered : Bool → Counting → Statement → (e : ℕ) → (Marks → Marks) → (Marks → ℕ) → Type 0
Entered r c t e h f = Right (react t e) → Once (λ m. reacting c t e (h m) + cond r 0 (f m))

seq_entered : (r : Bool) (c : Counting) → OneRun c → (e : ℕ) (b : Bool) (t u v : Statement) (h j : Marks → Marks) (f g : Marks → ℕ)
    → Entered r c t e h f → Entered r c v e j g
    → Entered r c (cond b (seq t u) v) e (λ m. cond b (marks (r && own m) (h (in_first m)) (in_second m)) (j (in_second m)))
    (λ m. one (own m) + cond b (f (in_first m)) (g (in_second m)))
unfolding reacting react_by
seq_entered r c i e true t u v h j f g x y w =
    once-below (λ m. omega (arith, own-either r (own m) (f (in_first m))))
    (once_two (x (right_seq u (react t e) (react u e) w)) (once_if (code (react t e)) (fresh_once c i u e)))
seq_entered r c i e false t u v h j f g x y w =
    once-below (λ m. omega (arith, own-either r (own m) (g (in_second m)))) (once_two once-zero (y w))

branch_entered : (r : Bool) (c : Counting) (e : ℕ) (b : Bool) (t u : Statement) (h j : Marks → Marks) (f g : Marks → ℕ)
    → Entered r c t e h f → Entered r c u e j g
    → Entered r c (cond b t u) e (λ m. cond b (h (in_first m)) (j (in_second m))) (λ m. one (own m) + cond b (f (in_first m)) (g (in_second m)))
branch_entered r c e true t u h j f g x y w = once-below (λ m. omega (arith, own-either r (own m) (f (in_first m)))) (once_one (x w))
branch_entered r c e false t u h j f g x y w =
    once-below (λ m. omega (arith, own-either r (own m) (g (in_second m)))) (once_two once-zero (y w))

side_entered : (r : Bool) (c : Counting) (e : ℕ) (b : Bool) (t : Statement) (h : Marks → Marks) (f : Marks → ℕ) → Entered r c t e h f
    → Entered r c (if_active b t) e (λ m. cond b (h m) nowhere) (λ m. cond b (f m) 0)
unfolding reacting
side_entered r c e true t h f x w = x w
side_entered r c e false t h f x w = once_idle r

-- a held suspend: stopped, nothing inside begins
held_entered : (r : Bool) (f g : Marks → ℕ) (b : Bool) (s K : ℕ) (t : Statement) (q : Reaction) → (Right q → Once (λ m. f m + cond r 0 (g m)))
    → Once g → Right (cond b (stopped s K t) (in_suspend s q))
    → Once (λ m. one (r && own m) + cond b 0 (f (in_first m)) + cond r 0 (one (own m) + g (in_first m)))
held_entered r f g true s K t q x o w =
    once-below (λ m. omega (arith, own-either r (own m) (g (in_first m)))) (once_one (once-cond r once-zero o))
held_entered r f g false s K t q x o w =
    once-below (λ m. omega (arith, own-either r (own m) (g (in_first m)))) (once_one (x (right_suspend s q w)))

suspended_entered : (r : Bool) (c : Counting) (e : ℕ) (b : Bool) (s K : ℕ) (t : Statement) (h : Marks → Marks) (f : Marks → ℕ) → Once f
    → Entered r c t e h f
    → Entered r c (if_active b (held s K t)) e (λ m. cond b (marks (r && own m) (h (in_first m)) nowhere) nowhere)
    (λ m. one (own m) + f (in_first m))
unfolding reacting react_by
suspended_entered r c e true s K t h f o x w = held_entered r (λ m. reacting c t e (h m)) f (member s e) s K t (react t e) x o w
suspended_entered r c e false s K t h f o x w =
    once-below (λ m. omega (arith, own-either r (own m) (f (in_first m)))) (once_one (once-cond r once-zero o))

-- of two runs one at most, beside what is resumed in both
run_entered : (f g k : Marks → ℕ) (h : ℕ → ℕ → ℕ) → ((x y : ℕ) → h x y ≤ max x y) → Once (λ m. f m + k m) → Once (λ m. g m + k m)
    → Once (λ m. h (f m) (g m) + k m)
run_entered f g k h i o o₂ = record {
  unmarked = omega (arith, i (f nowhere) (g nowhere), o.unmarked, o₂.unmarked);
  marked = λ a. omega (arith, i (f (at a)) (g (at a)), o.marked a, o₂.marked a);
}

-- k and j are not both `ended`
abbrev Apart : Code → Code → Type 0
Apart k j = if_ended k (if_ended j ⊥ (Unit {0})) (Unit {0})

-- a loop over a copy and the body worked through: f counts the body resumed, of code k; g the copy begun again, of code j; z the body
-- begun again
loop_once : {f g : Marks → ℕ} (k j : Code) (z : Marks → ℕ) → Once f → Once g → Apart k j
    → Once (λ m. 0 + f (in_second (in_first m))
    + if_ended k (one (own m) + (one (own (in_first m)) + g (in_first (in_first m)) + if_ended j (z (in_second (in_first m))) 0)) 0)
loop_once ended ended z o o₂ n = absurd n
loop_once ended waiting z o o₂ n = once-below (λ m. omega arith) (once_one (once_two o₂ o))
loop_once ended (leaving i) z o o₂ n = once-below (λ m. omega arith) (once_one (once_two o₂ o))
loop_once ended wrong z o o₂ n = once-below (λ m. omega arith) (once_one (once_two o₂ o))
loop_once waiting j z o o₂ n = once-below (λ m. omega arith) (once-first (once-second o))
loop_once (leaving i) j z o o₂ n = once-below (λ m. omega arith) (once-first (once-second o))
loop_once wrong j z o o₂ n = once-below (λ m. omega arith) (once-first (once-second o))

-- where the copy ends, the loop errs: the body, begun again, ends too
errs : {o l : ℕ} {t : Statement} {r : Reaction} {x y : ℕ} (a : ℕ) (q p : Statement) → Alike r x (gives o ended l t) y
    → Right (in_loop a q (in_seq p (gives o ended l t) r)) → ⊥
errs a q p (Alike.same _ _ _ t₂ _ _) w = clash true refl w
errs a q p (Alike.lost o₂ l₂ t₂ _ _ _) w = clash true refl w

not-again : {x y : ℕ} (a : ℕ) (q p : Statement) (r copy body : Reaction) → Alike body x copy y → Right (in_seq (loop a q) r (in_loop a q (in_seq p copy body)))
    → Apart (code r) (code copy)
not-again a q p (gives o ended l t) (gives o₁ ended l₁ t₁) body d w = errs a q p d w
not-again a q p (gives o ended l t) (gives o₁ waiting l₁ t₁) body d w = tt
not-again a q p (gives o ended l t) (gives o₁ (leaving n) l₁ t₁) body d w = tt
not-again a q p (gives o ended l t) (gives o₁ wrong l₁ t₁) body d w = tt
not-again a q p (gives o waiting l t) copy body d w = tt
not-again a q p (gives o (leaving n) l t) copy body d w = tt
not-again a q p (gives o wrong l t) copy body d w = tt

-- b: is the copy active? t is the body resumed, and g counts what is resumed in it
round_entered : (r : Bool) (c : Counting) → OneRun c → (e a : ℕ) (b : Bool) (copy p x t : Statement) (j h : Marks → Marks) (k g : Marks → ℕ)
    → b ≡ false → RunsAlike 0 p copy e → Entered r c t e h g
    → Entered r c (seq (cond b (seq x p) t) (loop a (seq copy p))) e
    (λ m. marks false (cond b (marks (r && own (in_first m)) (j (in_first (in_first m))) (in_second (in_first m))) (h (in_second (in_first m)))) m)
    (λ m. 0 + cond b (k (in_first (in_first m))) (g (in_second (in_first m))))
unfolding reacting react_by
round_entered r c i e a true copy p x t j h k g n d o w = clash true refl n
round_entered r c i e a false copy p x t j h k g n d o w =
    let again = in_loop a (seq copy p) (in_seq p (react copy e) (react p e)) in
    once-below (λ m. omega (arith, own-either r false (g (in_second (in_first m)))))
    (loop_once (code (react t e)) (code (react copy e)) (reacting c p e) (o (right_seq (loop a (seq copy p)) (react t e) again w))
    (fresh_once c i copy e) (not-again a (seq copy p) p (react t e) (react copy e) (react p e) d w))

pub resumed_once : {p q : Statement} (r : Bool) (c : Counting) → OneRun c → Forms false p q → (L e : ℕ)
    → Entered r c (expand q L) e (carried r q L) (resuming q L)
unfolding reacting carried resuming expand react_by active_labels
resumed_once r c i Forms.nothing L e w = once_idle r
resumed_once r c i Forms.pause L e w = once-left r
resumed_once r c i Forms.emit L e w = once_idle r
resumed_once r c i Forms.exit L e w = once_idle r
resumed_once r c i (Forms.seq {p' = p} {q' = q} f g) L e w =
    seq_entered r c i e (active p L) (expand p L) q (expand q L) (carried r p L) (carried r q L) (resuming p L) (resuming q L)
    (resumed_once r c i f L e) (resumed_once r c i g L e) w
resumed_once r c i (Forms.par {p' = p} {q' = q} f g) L e w =
    let (x, y) = right_par (react (if_active (active p L) (expand p L)) e) (react (if_active (active q L) (expand q L)) e) w in
    once-below (λ m. omega (arith, two_either r (own m) (cond (active p L) (resuming p L (in_first m)) 0) (cond (active q L) (resuming q L (in_second m)) 0)))
    (once_two (side_entered r c e (active p L) (expand p L) (carried r p L) (resuming p L) (resumed_once r c i f L e) x)
    (side_entered r c e (active q L) (expand q L) (carried r q L) (resuming q L) (resumed_once r c i g L e) y))
resumed_once r c i (Forms.loop {b = b} {copy = copy} {p' = p} f g) L e w =
    round_entered r c i e b (active copy L) copy p (expand copy L) (expand p L) (carried r copy L) (carried r p L) (resuming copy L) (resuming p L)
    (copy_inactive f L) (copy_follows 0 g f e) (resumed_once r c i g L e) w
resumed_once r c i (Forms.present {p' = p} {q' = q} f g) L e w =
    branch_entered r c e (active p L) (expand p L) (expand q L) (carried r p L) (carried r q L) (resuming p L) (resuming q L)
    (resumed_once r c i f L e) (resumed_once r c i g L e) w
resumed_once r c i (Forms.signal {sc = sc} {b = b} {s = s} {p' = p} f) L e w =
    let (x, y) = right_runs sc b s (react (expand p L) (remove s e)) (react (expand p L) (insert s e)) w in
    once-below (λ m. omega (arith, own-either r (own m) (resuming p L (in_first m))))
    (once_one (run_entered (λ m. reacting c (expand p L) (remove s e) (carried r p L m)) (λ m. reacting c (expand p L) (insert s e) (carried r p L m))
    (λ m. cond r 0 (resuming p L m)) (c s (expand p L) e) (i s (expand p L) e)
    (resumed_once r c i f L (remove s e) x) (resumed_once r c i f L (insert s e) y)))
resumed_once r c i (Forms.try {p' = p} f) L e w =
    once-below (λ m. omega (arith, own-either r (own m) (resuming p L (in_first m))))
    (once_one (resumed_once r c i f L e (right_try (react (expand p L) e) w)))
resumed_once r c i Forms.setpause L e w = once_idle r
resumed_once r c i (Forms.suspend {s = s} {p' = p} f) L e w =
    suspended_entered r c e (active p L) s (active_labels p L) (expand p L) (carried r p L) (resuming p L) (met_once p L) (resumed_once r c i f L e) w
resumed_once r c i (Forms.held f) L e w = once_idle r
