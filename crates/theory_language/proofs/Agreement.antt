-- The machine by labels and the machine by rewriting show the same over any list of inputs; and the machine by labels
-- never leaves the valid sets.
use Prim.Native.Nat.{ℕ}
use mathlib.Core.Path.{◌≡◌, refl, ap₂}
use mathlib.Core.List.{List, [], ◌∷◌}
use Rattle.spec_base.specs.Sets.{none}
use Rattle.spec_language.specs.Statement.{Statement}
use Rattle.spec_language.specs.Reaction.{ended, waiting, leaving, wrong, Reaction, gives, react}
use Rattle.spec_language.specs.States.{Distinct, Targeted, NoSetpause, Source, WellFormed}
use Rattle.spec_language.specs.Expansion.{expand}
use Rattle.spec_language.specs.Machines.{Seen, Machine, run, reached, State, state_after, by_labels, ValidState, Rewriting, term_after, by_rewriting}
use Rattle.theory_language.proofs.Invariant.{Fits}
use Rattle.theory_language.proofs.Residual.{Remains, residual_fresh, residual_resumed}
use Rattle.theory_language.proofs.Stability.{SoundLabels, labels_fresh, labels_resumed, together_none, sound-valid}
use Rattle.theory_language.proofs.Places.{Together}

-- ---- machines that show the same at each step and stay related show the same for ever
pub simulation : {S T : Type 0} (m : Machine S) (n : Machine T) (R : S → T → Type 0)
    → ((s : S) (t : T) → R s t → (e : ℕ) → ((m s e).0 ≡ (n t e).0) × R (m s e).1 (n t e).1)
    → (s : S) (t : T) → R s t → (es : List ℕ) → run m s es ≡ run n t es
unfolding run
simulation m n R f s t r [] = refl
simulation m n R f s t r (e ∷ es) =
    ap₂ {B = List Seen} {C = List Seen} ◌∷◌ (f s t r e).0 (simulation m n R f (m s e).1 (n t e).1 (f s t r e).1 es)

pub preserved : {S : Type 0} (m : Machine S) (P : S → Type 0) → ((s : S) → P s → (e : ℕ) → P (m s e).1)
    → (s : S) → P s → (es : List ℕ) → P (reached m s es)
unfolding reached
preserved m P f s h [] = h
preserved m P f s h (e ∷ es) = preserved m P f (m s e).1 (f s h e) es

-- ---- rewriting holds the term of the state
abbrev pub TermOf : Statement → State → Rewriting → Type 0
TermOf p State.fresh (Rewriting.fresh t) = t ≡ p
TermOf p State.fresh (Rewriting.waits t) = ⊥
TermOf p State.fresh Rewriting.over = ⊥
TermOf p (State.waits L) (Rewriting.fresh t) = ⊥
TermOf p (State.waits L) (Rewriting.waits t) = t ≡ expand p L
TermOf p (State.waits L) Rewriting.over = ⊥
TermOf p State.over (Rewriting.fresh t) = ⊥
TermOf p State.over (Rewriting.waits t) = ⊥
TermOf p State.over Rewriting.over = Unit {0}

module _ (p : Statement) (source : Source p) (distinct : Distinct p) (plain : NoSetpause p) where
  term-after : (r : Reaction) → Fits Remains p r → TermOf p (state_after r) (term_after r)
  term-after (gives o ended L t) h = tt
  term-after (gives o waiting L t) h = (h source distinct plain).equal
  term-after (gives o (leaving n) L t) h = tt
  term-after (gives o wrong L t) h = tt

  pub step : (s : State) (w : Rewriting) → TermOf p s w → (e : ℕ)
      → ((by_labels p s e).0 ≡ (by_rewriting w e).0) × TermOf p (by_labels p s e).1 (by_rewriting w e).1
  step State.fresh (Rewriting.fresh t) h e = rw h (refl, term-after (react p e) (residual_fresh p e))
  step State.fresh (Rewriting.waits t) h e = absurd h
  step State.fresh Rewriting.over h e = absurd h
  step (State.waits L) (Rewriting.fresh t) h e = absurd h
  step (State.waits L) (Rewriting.waits t) h e = rw h (refl, term-after (react (expand p L) e) (residual_resumed p L e))
  step (State.waits L) Rewriting.over h e = absurd h
  step State.over (Rewriting.fresh t) h e = absurd h
  step State.over (Rewriting.waits t) h e = absurd h
  step State.over Rewriting.over h e = (refl, tt)

  pub agree : (s : State) (w : Rewriting) → TermOf p s w → (es : List ℕ) → run (by_labels p) s es ≡ run by_rewriting w es
  agree = simulation (by_labels p) by_rewriting (TermOf p) step

-- ---- a machine by labels is fresh, over, or waits at a valid set
module _ (p : Statement) (source : Source p) (distinct : Distinct p) (targeted : Targeted p) (formed : WellFormed p) where
  state-after : (S : ℕ) → Together p S → (r : Reaction) → Fits (SoundLabels S) p r → ValidState p (state_after r)
  state-after S w (gives o ended L t) h = tt
  state-after S w (gives o waiting L t) h = sound-valid p distinct formed targeted S w L (h source)
  state-after S w (gives o (leaving n) L t) h = tt
  state-after S w (gives o wrong L t) h = tt

  pub valid-step : (s : State) → ValidState p s → (e : ℕ) → ValidState p (by_labels p s e).1
  valid-step State.fresh h e = state-after none (together_none p) (react p e) (labels_fresh none p e)
  valid-step (State.waits L) h e = state-after L h.together (react (expand p L) e) (labels_resumed p L e)
  valid-step State.over h e = tt

  pub valid-reached : (s : State) → ValidState p s → (es : List ℕ) → ValidState p (reached (by_labels p) s es)
  valid-reached = preserved (by_labels p) (ValidState p) valid-step
