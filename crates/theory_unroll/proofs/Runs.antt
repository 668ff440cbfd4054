-- Runs by labels of an original and of its result, up to the last instant before the original's is wrong.
use Prim.Native.Nat.{ℕ, ◌≤◌}
use native.Mathlib.Omega.{arith}
use mathlib.Core.Path.{◌≡◌, refl, sym, ap, ◌∙◌}
use mathlib.Core.Logic.{◌⊎◌, inl, inr}
use mathlib.Core.Bool.{Bool, true, false, cond}
use mathlib.Core.Option.{Option}
use mathlib.Core.List.{List, [], ◌∷◌}
use Rattle.sets.proofs.Booleans.{clash, Tested, tested}
use Rattle.spec_language.specs.Statement.{Statement}
use Rattle.spec_language.specs.Reaction.{Code, ended, waiting, leaving, wrong, Reaction, react, is_wrong, code, gives}
use Rattle.spec_language.specs.Errors.{Error, first_error}
use Rattle.spec_language.specs.Reactions.{reactions}
use Rattle.spec_language.specs.Places.{Place, At}
use Rattle.spec_language.specs.States.{active}
use Rattle.spec_language.specs.Expansion.{expand}
use Rattle.spec_language.specs.Machines.{Seen, instant, seen, State, state_after, by_labels, adds_by_labels}
use Rattle.theory_language.proofs.Places.{Together}
use Rattle.spec_unroll.specs.Runs.{Told, told, turned_down, tells, tells_all, shows_wrong, until_wrong, InEach}
use Rattle.spec_unroll.specs.Entries.{at, Counting, OneRun, resuming, AtLoop, begins_at, AtMostOnce}
use Rattle.theory_unroll.proofs.Forms.{Forms}
use Rattle.theory_unroll.proofs.Alike.{Alike, fresh_alike, resumed_alike}
use Rattle.theory_unroll.proofs.Once.{fresh_once, resumed_once}
use Rattle.theory_unroll.proofs.Resumed.{met_active}

-- litres of an instant with a code
abbrev added : Code → ℕ → ℕ
added k y = cond (is_wrong k) 0 y

abbrev tells_at : (f : ℕ) → Statement → State → ℕ → Told
tells_at f p s e = tells (by_labels p s e).0 (adds_by_labels f p s e) (by_labels p s e).1

-- ---- one reaction
alike_told : {r r' : Reaction} {y y' : ℕ} (x x' : Option Error) (n n' : ℕ) → Alike r y r' y' → shows_wrong (seen r x n) ≡ false
    → (tells (seen r' x' n') (added (code r') y') (state_after r') ≡ tells (seen r x n) (added (code r) y) (state_after r))
    × (state_after r' ≡ state_after r)
alike_told x x' n n' (Alike.same o ended l t t' y) h = (refl, refl)
alike_told x x' n n' (Alike.same o waiting l t t' y) h = (refl, refl)
alike_told x x' n n' (Alike.same o (leaving m) l t t' y) h = (refl, refl)
alike_told x x' n n' (Alike.same o wrong l t t' y) h = clash true refl h
alike_told x x' n n' (Alike.lost o l t r' y y') h = clash true refl h

-- ---- one tick
-- what is told of it is the same, and so is the state after it
abbrev SameTold : (f : ℕ) (p q : Statement) → State → ℕ → Type 0
SameTold f p q s e = (tells_at f q s e ≡ tells_at f p s e) × ((by_labels q s e).1 ≡ (by_labels p s e).1)

pub tick_same : (f : ℕ) {p q : Statement} → Forms false p q → (s : State) (e : ℕ) → shows_wrong (by_labels p s e).0 ≡ false → SameTold f p q s e
tick_same f {p = p} {q = q} g State.fresh e h =
    alike_told (first_error p e) (first_error q e) (reactions p e) (reactions q e) (fresh_alike f g e) h
tick_same f {p = p} {q = q} g (State.waits L) e h =
    alike_told (first_error (expand p L) e) (first_error (expand q L) e) (reactions (expand p L) e) (reactions (expand q L) e)
    (resumed_alike f g L e) h
tick_same f g State.over e h = (refl, refl)

-- ---- a run
pub runs_same : (f : ℕ) {p q : Statement} → Forms false p q → (s : State) (inputs : List ℕ)
    → tells_all f q s (until_wrong p s inputs) ≡ tells_all f p s (until_wrong p s inputs)
unfolding tells_all until_wrong
runs_same f g s [] = refl
runs_same f {p = p} {q = q} g s (e ∷ es) = go (tested (shows_wrong (by_labels p s e).0)) (runs_same f g (by_labels p s e).1 es)
  where
    later : List ℕ
    later = until_wrong p (by_labels p s e).1 es

    go : Tested (shows_wrong (by_labels p s e).0) → tells_all f q (by_labels p s e).1 later ≡ tells_all f p (by_labels p s e).1 later
        → let before = cond (shows_wrong (by_labels p s e).0) [] (e ∷ later) in
        tells_all f q s before ≡ tells_all f p s before
    go (Tested.yes h) i = rw h
    go (Tested.no h) i =
        let d = tick_same f g s e h in
        rw (h, d.0, d.1) (ap (λ (xs : List Told). tells_at f p s e ∷ xs) i)

-- ---- no command reacts twice
shows_right : (r : Reaction) (x : Option Error) (n : ℕ) → shows_wrong (seen r x n) ≡ false → is_wrong (code r) ≡ false
shows_right (gives o k l t) x n h = h

pub tick_once : {p q : Statement} (c : Counting) → OneRun c → Forms false p q → (s : State) (e : ℕ) → shows_wrong (by_labels q s e).0 ≡ false
    → AtMostOnce c q s e
tick_once {q = q} c i f State.fresh e h =
    record { reacts = (fresh_once c i q e).marked; enters = λ a. omega (arith, (fresh_once c i q e).marked a) }
tick_once {q = q} c i f (State.waits L) e h =
    let w = shows_right (react (expand q L) e) (first_error (expand q L) e) (reactions (expand q L) e) h in
    record { reacts = λ a. omega (arith, (resumed_once true c i f L e w).marked a); enters = (resumed_once false c i f L e w).marked }
tick_once c i f State.over e h = record { reacts = λ a. omega arith; enters = λ a. omega arith }

-- what holds an active pause does not begin, but a loop or its body
pub resumed_only : {p q : Statement} (c : Counting) → OneRun c → Forms false p q → (L e : ℕ)
    → shows_wrong (by_labels q (State.waits L) e).0 ≡ false → Together q L → (a : Place) (y : Statement) → At y a q → active y L ≡ true
    → ¬ AtLoop a q → begins_at c q (State.waits L) e a ≡ 0
resumed_only {q = q} c i f L e h t a y x g n = go (met_active L t x g)
  where
    go : (1 ≤ resuming q L (at a)) ⊎ AtLoop a q → begins_at c q (State.waits L) e a ≡ 0
    go (inl k) = omega (arith, k, (tick_once c i f (State.waits L) e h).enters a)
    go (inr r) = absurd (n r)

-- where the original is not wrong, its form is not
told_wrong : Told → Bool
told_wrong (told k o y s) = is_wrong k
told_wrong turned_down = false

tells_wrong : (x : Seen) (y : ℕ) (s : State) → shows_wrong x ≡ told_wrong (tells x y s)
unfolding told_wrong
tells_wrong (instant k x o n f) y s = refl
tells_wrong Seen.refused y s = refl

right_too : (p q : Statement) (s : State) (e : ℕ) → SameTold 0 p q s e → shows_wrong (by_labels p s e).0 ≡ false
    → shows_wrong (by_labels q s e).0 ≡ false
right_too p q s e d h =
    tells_wrong (by_labels q s e).0 (adds_by_labels 0 q s e) (by_labels q s e).1 ∙ ap told_wrong d.0
    ∙ sym (tells_wrong (by_labels p s e).0 (adds_by_labels 0 p s e) (by_labels p s e).1) ∙ h

pub runs_once : {p q : Statement} (c : Counting) → OneRun c → Forms false p q → (s : State) (inputs : List ℕ)
    → InEach q (AtMostOnce c q) s (until_wrong p s inputs)
unfolding InEach until_wrong
runs_once c i f s [] = tt
runs_once {p = p} {q = q} c i f s (e ∷ es) = go (tested (shows_wrong (by_labels p s e).0)) (runs_once c i f (by_labels p s e).1 es)
  where
    later : List ℕ
    later = until_wrong p (by_labels p s e).1 es

    go : Tested (shows_wrong (by_labels p s e).0) → InEach q (AtMostOnce c q) (by_labels p s e).1 later
        → InEach q (AtMostOnce c q) s (cond (shows_wrong (by_labels p s e).0) [] (e ∷ later))
    go (Tested.yes h) j = rw h tt
    go (Tested.no h) j =
        let d = tick_same 0 f s e h in
        rw (h, d.1) (tick_once c i f s e (right_too p q s e d h), j)
