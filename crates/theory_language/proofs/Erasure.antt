-- The labels of held suspends never matter: statements that differ only in them react with one code, one emitted set and
-- one list of errors and the same litres, and what remains of them differs only in them.
use Prim.Native.Nat.{ℕ, ◌-◌}
use mathlib.Core.Path.{◌≡◌, refl, sym, ap, ap₂, ◌∙◌, subst}
use mathlib.Core.Bool.{Bool, true, false, cond}
use mathlib.Core.Option.{Option}
use mathlib.Core.List.{List, head?}
use lib.Dec.{eqb}
use Rattle.spec_base.specs.Sets.{member, none, insert, remove}
use Rattle.spec_language.specs.Statement.{Scope, Statement, nothing, pause, emit, exit, seq, par, loop, present, signal, try, setpause, suspend, held}
use Rattle.spec_language.specs.Reaction.{Code, ended, waiting, leaving, wrong, is_wrong, Reaction, gives, code, emitted, residual, side, in_seq, in_par, in_loop, in_try, in_signal, in_suspend, stopped, Case, both, neither, only−, only+, inherited, inheritanceFirst, case_of, answer, react_by, react}
use Rattle.spec_language.specs.Reactions.{reactions_by, reactions}
use Rattle.spec_language.specs.Litres.{delivered_by, delivered}
use Rattle.spec_language.specs.Errors.{Error, errors_by, errors, first_error}
use Rattle.spec_language.specs.Machines.{erase, seen, run, Rewriting, term_after, by_rewriting, adds, adds_by_rewriting, added}
use Rattle.theory_language.proofs.Agreement.{simulation}
use Rattle.theory_language.proofs.Litres.{same_added}

erase-erase : (p : Statement) → erase (erase p) ≡ erase p
unfolding erase
erase-erase nothing = refl
erase-erase (pause l) = refl
erase-erase (emit s v) = refl
erase-erase (exit n) = refl
erase-erase (seq p q) = rw (erase-erase p, erase-erase q)
erase-erase (par p q) = rw (erase-erase p, erase-erase q)
erase-erase (loop a p) = rw (erase-erase p)
erase-erase (present s p q) = rw (erase-erase p, erase-erase q)
erase-erase (signal sc a s p) = rw (erase-erase p)
erase-erase (try p) = rw (erase-erase p)
erase-erase (setpause l) = refl
erase-erase (suspend s p) = rw (erase-erase p)
erase-erase (held s K p) = rw (erase-erase p)

-- ---- reactions that differ in labels only
data Alike : Reaction → Reaction → Type 0 where
  alike : {o l l₂ : ℕ} {k : Code} {t u : Statement} → erase t ≡ erase u → Alike (gives o k l t) (gives o k l₂ u)

seq_alike : (q : Statement) {r r' s s' : Reaction} → Alike r r' → Alike s s' → Alike (in_seq (erase q) r s) (in_seq q r' s')
unfolding erase
seq_alike q (alike {k = ended} h) (alike i) = alike i
seq_alike q (alike {k = waiting} h) i = alike (ap₂ seq h (erase-erase q))
seq_alike q (alike {k = leaving n} h) i = alike (ap₂ seq h (erase-erase q))
seq_alike q (alike {k = wrong} h) i = alike (ap₂ seq h (erase-erase q))

side_alike : (k : Code) (t u : Statement) → erase t ≡ erase u → erase (side k t) ≡ erase (side k u)
side_alike ended t u h = refl
side_alike waiting t u h = h
side_alike (leaving n) t u h = h
side_alike wrong t u h = h

par_alike : {r r' s s' : Reaction} → Alike r r' → Alike s s' → Alike (in_par r s) (in_par r' s')
unfolding erase
par_alike (alike {k = k} {t = t} {u = u} h) (alike {k = k₂} {t = t₂} {u = u₂} i) =
    alike (ap₂ par (side_alike k t u h) (side_alike k₂ t₂ u₂ i))

loop_alike : (a : ℕ) (p : Statement) {r r' : Reaction} → Alike r r' → Alike (in_loop a (erase p) r) (in_loop a p r')
unfolding erase
loop_alike a p (alike {k = ended} h) = alike refl
loop_alike a p (alike {k = waiting} h) = alike (ap₂ seq h (ap (loop a) (erase-erase p)))
loop_alike a p (alike {k = leaving n} h) = alike (ap₂ seq h (ap (loop a) (erase-erase p)))
loop_alike a p (alike {k = wrong} h) = alike (ap₂ seq h (ap (loop a) (erase-erase p)))

try_alike : {r r' : Reaction} → Alike r r' → Alike (in_try r) (in_try r')
unfolding erase
try_alike (alike {k = ended} h) = alike (ap try h)
try_alike (alike {k = waiting} h) = alike (ap try h)
try_alike (alike {o = o} {l = l} {l₂ = l₂} {k = leaving n} {t = t} {u = u} h) = go (eqb n 1) (ap try h)
  where
    go : (b : Bool) → try (erase t) ≡ try (erase u)
        → Alike (cond b (gives o ended l nothing) (gives o (leaving (n - 1)) l (try t)))
        (cond b (gives o ended l₂ nothing) (gives o (leaving (n - 1)) l₂ (try u)))
    go true i = alike refl
    go false i = unfold erase in alike i
try_alike (alike {k = wrong} h) = alike (ap try h)

cond_alike : (b : Bool) {r r' s s' : Reaction} → Alike r r' → Alike s s' → Alike (cond b r s) (cond b r' s')
cond_alike true h i = h
cond_alike false h i = i

answer_alike : (c : Case) (sc : Scope) (a s : ℕ) {r− r'− r+ r'+ : Reaction} → Alike r− r'− → Alike r+ r'+
    → Alike (answer c sc a s r− r+) (answer c sc a s r'− r'+)
unfolding erase
answer_alike both sc a s h (alike i) = alike (ap (signal sc a s) i)
answer_alike neither sc a s (alike h) i = alike (ap (signal sc a s) h)
answer_alike only− sc a s h i = alike refl
answer_alike only+ sc a s h i = alike refl
answer_alike inherited sc a s h i = alike refl

case_alike : (s : ℕ) {r− r'− r+ r'+ : Reaction} → Alike r− r'− → Alike r+ r'+ → case_of inheritanceFirst s r− r+ ≡ case_of inheritanceFirst s r'− r'+
case_alike s (alike h) (alike i) = refl

signal_alike : (sc : Scope) (a s : ℕ) {r− r'− r+ r'+ : Reaction} → Alike r− r'− → Alike r+ r'+ → Alike (in_signal inheritanceFirst sc a s r− r+) (in_signal inheritanceFirst sc a s r'− r'+)
signal_alike sc a s {r−} {r'−} {r+} {r'+} h i = rw (case_alike s h i) (answer_alike (case_of inheritanceFirst s r'− r'+) sc a s h i)

suspend_alike : (s : ℕ) {r r' : Reaction} → Alike r r' → Alike (in_suspend s r) (in_suspend s r')
unfolding erase
suspend_alike s (alike {k = ended} h) = alike refl
suspend_alike s (alike {k = waiting} h) = alike (ap (held s none) h)
suspend_alike s (alike {k = leaving n} h) = alike refl
suspend_alike s (alike {k = wrong} h) = alike refl

stopped_alike : (s K : ℕ) (p : Statement) → Alike (stopped s none (erase p)) (stopped s K p)
unfolding erase
stopped_alike s K p = alike (ap (held s none) (erase-erase p))

erase_alike : (p : Statement) (e : ℕ) → Alike (react (erase p) e) (react p e)
unfolding erase react_by
erase_alike nothing e = alike refl
erase_alike (pause l) e = alike refl
erase_alike (emit s v) e = alike refl
erase_alike (exit n) e = alike refl
erase_alike (seq p q) e = seq_alike q (erase_alike p e) (erase_alike q e)
erase_alike (par p q) e = par_alike (erase_alike p e) (erase_alike q e)
erase_alike (loop a p) e = loop_alike a p (erase_alike p e)
erase_alike (present s p q) e = cond_alike (member s e) (erase_alike p e) (erase_alike q e)
erase_alike (signal sc a s p) e = signal_alike sc a s (erase_alike p (remove s e)) (erase_alike p (insert s e))
erase_alike (try p) e = try_alike (erase_alike p e)
erase_alike (setpause l) e = alike refl
erase_alike (suspend s p) e = suspend_alike s (erase_alike p e)
erase_alike (held s K p) e = cond_alike (member s e) (stopped_alike s K p) (suspend_alike s (erase_alike p e))

-- ---- errors
code_alike : {r r' : Reaction} → Alike r r' → code r ≡ code r'
code_alike (alike h) = refl

erase-errors : (p : Statement) (e : ℕ) → errors (erase p) e ≡ errors p e
unfolding erase errors_by
erase-errors nothing e = refl
erase-errors (pause l) e = refl
erase-errors (emit s v) e = refl
erase-errors (exit n) e = refl
erase-errors (seq p q) e = rw (erase-errors p e, erase-errors q e, code_alike (erase_alike p e))
erase-errors (par p q) e = rw (erase-errors p e, erase-errors q e)
erase-errors (loop a p) e = rw (erase-errors p e, code_alike (erase_alike p e))
erase-errors (present s p q) e = rw (erase-errors p e, erase-errors q e)
erase-errors (signal sc a s p) e =
    rw (
      erase-errors p (remove s e),
      erase-errors p (insert s e),
      case_alike s (erase_alike p (remove s e)) (erase_alike p (insert s e)),
    )
erase-errors (try p) e = erase-errors p e
erase-errors (setpause l) e = refl
erase-errors (suspend s p) e = erase-errors p e
erase-errors (held s K p) e = rw (erase-errors p e)

erase-reactions : (p : Statement) (e : ℕ) → reactions (erase p) e ≡ reactions p e
unfolding erase reactions_by
erase-reactions nothing e = refl
erase-reactions (pause l) e = refl
erase-reactions (emit s v) e = refl
erase-reactions (exit n) e = refl
erase-reactions (seq p q) e = rw (erase-reactions p e, erase-reactions q e, code_alike (erase_alike p e))
erase-reactions (par p q) e = rw (erase-reactions p e, erase-reactions q e)
erase-reactions (loop a p) e = rw (erase-reactions p e)
erase-reactions (present s p q) e = rw (erase-reactions p e, erase-reactions q e)
erase-reactions (signal sc a s p) e = rw (erase-reactions p (remove s e), erase-reactions p (insert s e))
erase-reactions (try p) e = rw (erase-reactions p e)
erase-reactions (setpause l) e = refl
erase-reactions (suspend s p) e = rw (erase-reactions p e)
erase-reactions (held s K p) e = rw (erase-reactions p e)

erase-delivered : (f : ℕ) (p : Statement) (e : ℕ) → delivered f (erase p) e ≡ delivered f p e
unfolding erase delivered_by
erase-delivered f nothing e = refl
erase-delivered f (pause l) e = refl
erase-delivered f (emit s v) e = refl
erase-delivered f (exit n) e = refl
erase-delivered f (seq p q) e = rw (erase-delivered f p e, erase-delivered f q e, code_alike (erase_alike p e))
erase-delivered f (par p q) e = rw (erase-delivered f p e, erase-delivered f q e)
erase-delivered f (loop a p) e = rw (erase-delivered f p e, code_alike (erase_alike p e))
erase-delivered f (present s p q) e = rw (erase-delivered f p e, erase-delivered f q e)
erase-delivered f (signal sc a s p) e =
    rw (
      erase-delivered f p (remove s e),
      erase-delivered f p (insert s e),
      case_alike s (erase_alike p (remove s e)) (erase_alike p (insert s e)),
    )
erase-delivered f (try p) e = erase-delivered f p e
erase-delivered f (setpause l) e = refl
erase-delivered f (suspend s p) e = erase-delivered f p e
erase-delivered f (held s K p) e = rw (erase-delivered f p e)

-- ---- statements that differ only in the labels of held suspends
flip_alike : {r r' : Reaction} → Alike r r' → Alike r' r
flip_alike (alike h) = alike (sym h)

then_alike : {r s t : Reaction} → Alike r s → Alike s t → Alike r t
then_alike (alike h) (alike i) = alike (h ∙ i)

react_alike : (t u : Statement) (e : ℕ) → erase t ≡ erase u → Alike (react t e) (react u e)
react_alike t u e h =
    then_alike (flip_alike (erase_alike t e))
    (subst (λ (x : Statement). Alike (react x e) (react u e)) (sym h) (erase_alike u e))

parts_alike : {r r' : Reaction} → Alike r r'
    → (code r ≡ code r') × (emitted r ≡ emitted r') × (erase (residual r) ≡ erase (residual r'))
parts_alike (alike h) = (refl, refl, h)

-- REACTION
pub erased_reaction : (t u : Statement) (e : ℕ) → erase t ≡ erase u
    → (code (react t e) ≡ code (react u e)) × (emitted (react t e) ≡ emitted (react u e))
    × (erase (residual (react t e)) ≡ erase (residual (react u e)))
erased_reaction t u e h = parts_alike (react_alike t u e h)

-- ERRORS
pub erased_errors : (t u : Statement) (e : ℕ) → erase t ≡ erase u → errors t e ≡ errors u e
erased_errors t u e h = sym (erase-errors t e) ∙ ap (λ (x : Statement). errors x e) h ∙ erase-errors u e

-- NUMBER OF REACTIONS
pub erased_reactions : (t u : Statement) (e : ℕ) → erase t ≡ erase u → reactions t e ≡ reactions u e
erased_reactions t u e h = sym (erase-reactions t e) ∙ ap (λ (x : Statement). reactions x e) h ∙ erase-reactions u e

-- LITRES
pub erased_delivered : (f : ℕ) (t u : Statement) (e : ℕ) → erase t ≡ erase u → delivered f t e ≡ delivered f u e
erased_delivered f t u e h = sym (erase-delivered f t e) ∙ ap (λ (x : Statement). delivered f x e) h ∙ erase-delivered f u e

-- ---- rewriting
abbrev SameTerm : Rewriting → Rewriting → Type 0
SameTerm (Rewriting.fresh t) (Rewriting.fresh u) = erase t ≡ erase u
SameTerm (Rewriting.fresh t) (Rewriting.waits u) = ⊥
SameTerm (Rewriting.fresh t) Rewriting.over = ⊥
SameTerm (Rewriting.waits t) (Rewriting.fresh u) = ⊥
SameTerm (Rewriting.waits t) (Rewriting.waits u) = erase t ≡ erase u
SameTerm (Rewriting.waits t) Rewriting.over = ⊥
SameTerm Rewriting.over (Rewriting.fresh u) = ⊥
SameTerm Rewriting.over (Rewriting.waits u) = ⊥
SameTerm Rewriting.over Rewriting.over = Unit {0}

after_alike : {r r' : Reaction} {x y : Option Error} {n m : ℕ} → Alike r r' → x ≡ y → n ≡ m
    → (seen r x n ≡ seen r' y m) × SameTerm (term_after r) (term_after r')
after_alike (alike {k = ended} h) i j = (rw j, tt)
after_alike (alike {k = waiting} h) i j = (rw j, h)
after_alike (alike {k = leaving n} h) i j = (rw j, tt)
after_alike (alike {k = wrong} h) i j = (rw (i, j), tt)

first_alike : (t u : Statement) (e : ℕ) → erase t ≡ erase u → first_error t e ≡ first_error u e
first_alike t u e h = ap head? (erased_errors t u e h)

step : (v w : Rewriting) → SameTerm v w → (e : ℕ)
    → ((by_rewriting v e).0 ≡ (by_rewriting w e).0) × SameTerm (by_rewriting v e).1 (by_rewriting w e).1
step (Rewriting.fresh t) (Rewriting.fresh u) h e = after_alike (react_alike t u e h) (first_alike t u e h) (erased_reactions t u e h)
step (Rewriting.fresh t) (Rewriting.waits u) h e = absurd h
step (Rewriting.fresh t) Rewriting.over h e = absurd h
step (Rewriting.waits t) (Rewriting.fresh u) h e = absurd h
step (Rewriting.waits t) (Rewriting.waits u) h e = after_alike (react_alike t u e h) (first_alike t u e h) (erased_reactions t u e h)
step (Rewriting.waits t) Rewriting.over h e = absurd h
step Rewriting.over (Rewriting.fresh u) h e = absurd h
step Rewriting.over (Rewriting.waits u) h e = absurd h
step Rewriting.over Rewriting.over h e = (refl, tt)

-- RUN
pub erased_run : (t u : Statement) → erase t ≡ erase u → (es : List ℕ)
    → run by_rewriting (Rewriting.waits t) es ≡ run by_rewriting (Rewriting.waits u) es
erased_run t u h = simulation by_rewriting by_rewriting SameTerm step (Rewriting.waits t) (Rewriting.waits u) h

adds_alike : (f : ℕ) (t u : Statement) (e : ℕ) → erase t ≡ erase u → adds f t e ≡ adds f u e
adds_alike f t u e h =
    ap₂ (λ (k : Code) (x : ℕ). cond (is_wrong k) 0 x) (erased_reaction t u e h).0 (erased_delivered f t u e h)

step_added : (f : ℕ) (v w : Rewriting) → SameTerm v w → (e : ℕ) → adds_by_rewriting f v e ≡ adds_by_rewriting f w e
step_added f (Rewriting.fresh t) (Rewriting.fresh u) h e = adds_alike f t u e h
step_added f (Rewriting.fresh t) (Rewriting.waits u) h e = absurd h
step_added f (Rewriting.fresh t) Rewriting.over h e = absurd h
step_added f (Rewriting.waits t) (Rewriting.fresh u) h e = absurd h
step_added f (Rewriting.waits t) (Rewriting.waits u) h e = adds_alike f t u e h
step_added f (Rewriting.waits t) Rewriting.over h e = absurd h
step_added f Rewriting.over (Rewriting.fresh u) h e = absurd h
step_added f Rewriting.over (Rewriting.waits u) h e = absurd h
step_added f Rewriting.over Rewriting.over h e = refl

pub erased_added : (f : ℕ) (t u : Statement) → erase t ≡ erase u → (es : List ℕ)
    → added by_rewriting (adds_by_rewriting f) (Rewriting.waits t) es ≡ added by_rewriting (adds_by_rewriting f) (Rewriting.waits u) es
erased_added f t u h =
    same_added by_rewriting by_rewriting SameTerm (adds_by_rewriting f) (adds_by_rewriting f) (λ v w r e. (step v w r e).1) (step_added f)
    (Rewriting.waits t) (Rewriting.waits u) h
