-- 02, item 5, 'as if each were declared around it .. except that an emitted one is still reported': declarations with scope
-- `reported` and the same with scope `local` have one tree, and differ in what is emitted outside them.
use Prim.Native.Nat.{ℕ}
use mathlib.Core.Path.{◌≡◌, refl, sym, ap, ap₂, ◌∙◌, subst, subst₂}
use mathlib.Core.Logic.{◌⊎◌, ⊎_elim}
use mathlib.Core.Bool.{Bool, true, false}
use mathlib.Core.List.{List, [], ◌∷◌, ◌++◌, map, Memᴰ}
use mathlib.Core.Option.{Option}
use Rattle.spec_base.specs.Sets.{member, none, insert, remove, without}
use Rattle.sets.proofs.Booleans.{never}
use Rattle.sets.proofs.Algebra.{remove_absent}
use Rattle.sets.proofs.Lists.{listed, without-listed, without_other, without-none}
use Rattle.spec_language.specs.Statement.{Scope, local, reported, Statement, nothing, signal}
use Rattle.spec_language.specs.Reaction.{Code, ended, waiting, leaving, wrong, is_wrong, Reaction, gives, emitted, code, labels, failed, in_signal, inheritanceFirst, first_fit, case_of, answer, react_by, react}
use Rattle.spec_language.specs.Errors.{Error, signal_errors, errors_by, errors, first_error, blame}
use Rattle.spec_language.specs.Reactions.{reactions_by, reactions}
use Rattle.theory_language.specs.Asked.{asked_by, asked}
use Rattle.spec_language.specs.Expansion.{expand}
use Rattle.spec_language.specs.ReadBack.{declared_by, declared}
use Rattle.spec_language.specs.Machines.{Phase, Seen, seen, seen_without, run, reached, State, state_after, by_labels}
use Rattle.theory_language.proofs.Asked.{unasked, agree_runs}
use Rattle.theory_language.proofs.ReadBack.{expand_declared_by, declared_unasked}

-- ---- the reaction under declarations that are reported, and under the same that are local
pub data Hides (ss : List ℕ) : Reaction → Reaction → Type 0 where
  hides : (o : ℕ) (k : Code) (l : ℕ) (t u : Statement) → Hides ss (gives o k l t) (gives (without ss o) k l u)

pub hides_is : {ss : List ℕ} {r h : Reaction} → Hides ss r h
    → (code h ≡ code r) × (labels h ≡ labels r) × (emitted h ≡ without ss (emitted r))
hides_is (Hides.hides o k l t u) = (refl, refl, refl)

undeclared : (r : Reaction) → Hides [] r r
unfolding without
undeclared (gives o k l t) = Hides.hides o k l t t

both_fail : (ss : List ℕ) → Hides ss failed failed
both_fail ss =
    subst (λ (x : ℕ). Hides ss failed (gives x wrong none nothing)) (without-none ss) (Hides.hides none wrong none nothing nothing)

-- ---- one declaration more
module _ (a s : ℕ) (ss : List ℕ) where
  abbrev Alike : (r− r+ h− h+ : Reaction) → Type 0
  Alike r− r+ h− h+ =
      Hides (s ∷ ss) (in_signal inheritanceFirst reported a s r− r+) (in_signal inheritanceFirst local a s h− h+)
      × (signal_errors a (case_of inheritanceFirst s h− h+) ≡ signal_errors a (case_of inheritanceFirst s r− r+))

  -- not emitted, so that nothing is to be hidden
  silent : (o : ℕ) (k : Code) (l : ℕ) (t u : Statement) → member s (without ss o) ≡ false
      → Hides (s ∷ ss) (gives o k l t) (gives (without ss o) k l u)
  unfolding without
  silent o k l t u h =
      subst (λ (x : ℕ). Hides (s ∷ ss) (gives o k l t) (gives x k l u)) (remove_absent s (without ss o) h) (Hides.hides o k l t u)

  -- a signal that is not declared inside: both see it emitted in the same runs
  outer : {r− r+ h− h+ : Reaction} → (¬ Memᴰ s ss) → Hides ss r− h− → Hides ss r+ h+ → Alike r− r+ h− h+
  unfolding without
  outer n (Hides.hides o− k− l− t− u−) (Hides.hides o+ k+ l+ t+ u+) =
      rw (without_other s ss o− n, without_other s ss o+ n) (go (member s o−) (member s o+) (is_wrong k−) (is_wrong k+) refl, refl)
    where
      go : (i− i+ w− w+ : Bool) → member s o− ≡ i−
          → Hides (s ∷ ss) (answer (first_fit inheritanceFirst i− i+ w− w+) reported a s (gives o− k− l− t−) (gives o+ k+ l+ t+))
          (answer (first_fit inheritanceFirst i− i+ w− w+) local a s (gives (without ss o−) k− l− u−) (gives (without ss o+) k+ l+ u+))
      go i− i+ true w+ h = both_fail (s ∷ ss)
      go i− i+ false true h = both_fail (s ∷ ss)
      go true true false false h = Hides.hides o+ k+ l+ (signal reported a s t+) (signal local a s u+)
      go true false false false h = both_fail (s ∷ ss)
      go false true false false h = both_fail (s ∷ ss)
      go false false false false h =
          silent o− k− l− (signal reported a s t−) (signal local a s u−) (without_other s ss o− n ∙ h)

  -- one that is: its two runs are one, and the local one is emitted in neither
  again : {r h : Reaction} → Memᴰ s ss → Hides ss r h → Alike r r h h
  again m (Hides.hides o k l t u) = rw (without-listed s ss o m) (go (member s o) (is_wrong k))
    where
      kept : Hides (s ∷ ss) (gives o k l (signal reported a s t)) (gives (without ss o) k l (signal local a s u))
      kept = silent o k l (signal reported a s t) (signal local a s u) (without-listed s ss o m)

      go : (i w : Bool)
          → Hides (s ∷ ss) (answer (first_fit inheritanceFirst i i w w) reported a s (gives o k l t) (gives o k l t))
          (answer (first_fit inheritanceFirst false false w w) local a s (gives (without ss o) k l u) (gives (without ss o) k l u))
          × (signal_errors a (first_fit inheritanceFirst false false w w) ≡ signal_errors a (first_fit inheritanceFirst i i w w))
      go i true = (both_fail (s ∷ ss), refl)
      go true false = (kept, refl)
      go false false = (kept, refl)

  same_runs : (sc : Scope) (p : Statement) (e : ℕ) → Memᴰ s ss
      → react (declared_by sc a ss p) (remove s e) ≡ react (declared_by sc a ss p) (insert s e)
  same_runs sc p e m =
      let q = declared_by sc a ss p in
      let n = never (member s (asked q (remove s e))) (λ h. declared_unasked sc a ss p (remove s e) s h m) in
      sym (unasked inheritanceFirst 0 q (remove s e) (insert s e) (agree_runs s (asked q (remove s e)) e n)).0

  declares : (p : Statement) (e : ℕ)
      → Hides ss (react (declared a ss p) (remove s e)) (react (declared_by local a ss p) (remove s e))
      → Hides ss (react (declared a ss p) (insert s e)) (react (declared_by local a ss p) (insert s e))
      → Alike (react (declared a ss p) (remove s e)) (react (declared a ss p) (insert s e))
      (react (declared_by local a ss p) (remove s e)) (react (declared_by local a ss p) (insert s e))
  declares p e f g = ⊎_elim twice (λ n. outer n f g) (listed s ss)
    where
      twice : Memᴰ s ss
          → Alike (react (declared a ss p) (remove s e)) (react (declared a ss p) (insert s e))
          (react (declared_by local a ss p) (remove s e)) (react (declared_by local a ss p) (insert s e))
      twice m =
          subst₂ (λ (x y : Reaction). Alike (react (declared a ss p) (remove s e)) x (react (declared_by local a ss p) (remove s e)) y)
          (same_runs reported p e m) (same_runs local p e m) (again m f)

-- SCOPES
pub reported_local : (a : ℕ) (ss : List ℕ) (p : Statement) (e : ℕ)
    → Hides ss (react (declared a ss p) e) (react (declared_by local a ss p) e)
    × (errors (declared_by local a ss p) e ≡ errors (declared a ss p) e)
    × (reactions (declared_by local a ss p) e ≡ reactions (declared a ss p) e)
    × (asked (declared_by local a ss p) e ≡ asked (declared a ss p) e)
unfolding declared_by react_by errors_by reactions_by asked_by
reported_local a [] p e = (undeclared (react p e), refl, refl, refl)
reported_local a (s ∷ ss) p e =
    let f = reported_local a ss p (remove s e) in
    let g = reported_local a ss p (insert s e) in
    let x = declares a s ss p e f.0 g.0 in
    (x.0, ap₂ ◌++◌ (ap₂ ◌++◌ f.1 g.1) x.1, rw (f.2, g.2), rw (f.3, g.3))

-- ---- over a list of inputs, by labels: the same states, and the same is seen but for the sets
seen_hides : {ss : List ℕ} {r h : Reaction} (x : Option Error) (n : ℕ) → Hides ss r h
    → (seen h x n ≡ seen_without ss (seen r x n)) × (state_after h ≡ state_after r)
seen_hides x n (Hides.hides o ended l t u) = (refl, refl)
seen_hides x n (Hides.hides o waiting l t u) = (refl, refl)
seen_hides x n (Hides.hides o (leaving m) l t u) = (refl, refl)
seen_hides {ss} x n (Hides.hides o wrong l t u) =
    (ap (λ (w : ℕ). Seen.instant wrong (blame wrong x) w n Phase.over) (sym (without-none ss)), refl)

module _ (a : ℕ) (ss : List ℕ) (p : Statement) where
  term-hides : (q : Statement) (e : ℕ)
      → (seen (react (declared_by local a ss q) e) (first_error (declared_by local a ss q) e) (reactions (declared_by local a ss q) e)
      ≡ seen_without ss (seen (react (declared a ss q) e) (first_error (declared a ss q) e) (reactions (declared a ss q) e)))
      × (state_after (react (declared_by local a ss q) e) ≡ state_after (react (declared a ss q) e))
  term-hides q e =
      let x = reported_local a ss q e in
      rw (x.1, x.2) (seen_hides (first_error (declared a ss q) e) (reactions (declared a ss q) e) x.0)

  step-hides : (s : State) (e : ℕ)
      → ((by_labels (declared_by local a ss p) s e).0 ≡ seen_without ss (by_labels (declared a ss p) s e).0)
      × ((by_labels (declared_by local a ss p) s e).1 ≡ (by_labels (declared a ss p) s e).1)
  step-hides State.fresh e = term-hides p e
  step-hides (State.waits L) e =
      rw (expand_declared_by local a ss p L, expand_declared_by reported a ss p L) (term-hides (expand p L) e)
  step-hides State.over e = (refl, refl)

  pub run-hides : (s : State) (es : List ℕ)
      → (run (by_labels (declared_by local a ss p)) s es ≡ map (seen_without ss) (run (by_labels (declared a ss p)) s es))
      × (reached (by_labels (declared_by local a ss p)) s es ≡ reached (by_labels (declared a ss p)) s es)
  unfolding run reached
  run-hides s [] = (refl, refl)
  run-hides s (e ∷ es) =
      let x = step-hides s e in
      let f = run-hides (by_labels (declared a ss p) s e).1 es in
      rw x.1 (ap₂ {B = List Seen} {C = List Seen} ◌∷◌ x.0 f.0, f.1)
