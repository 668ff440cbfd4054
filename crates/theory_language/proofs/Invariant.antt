-- One induction for everything that is true of the labels and the residual of a reaction: a relation between a statement
-- and both that each command keeps holds after code 1 of every reaction, fresh or resumed, and other codes have no labels.
-- In a stopped suspend nothing reacts, so the relation is asked for there (`Stopped`).
use Prim.Native.Nat.{ℕ, ◌-◌}
use mathlib.Core.Path.{◌≡◌, refl}
use mathlib.Core.Bool.{Bool, true, false, cond}
use lib.Dec.{eqb}
use Rattle.spec_base.specs.Sets.{member, none, only, join, insert, remove}
use Rattle.sets.proofs.Booleans.{Tested, tested}
use Rattle.sets.proofs.Algebra.{join-none_l, join-none_r}
use Rattle.spec_language.specs.Statement.{Scope, Statement, nothing, pause, emit, exit, seq, par, loop, present, signal, try, setpause, suspend, held}
use Rattle.spec_language.specs.Reaction.{Code, ended, waiting, leaving, wrong, Reaction, gives, in_seq, in_par, in_loop, in_try, in_suspend, stopped, outside, Case, both, neither, only−, only+, inherited, inheritanceFirst, case_of, answer, react_by, react}
use Rattle.spec_language.specs.States.{active}
use Rattle.spec_language.specs.Expansion.{expand, if_active}
use Rattle.spec_language.specs.LabelTests.{active_labels}

abbrev pub Relation : Type 1
Relation = Statement → ℕ → Statement → Type 0

-- `K p L t`: after code 1, p may have the labels L and the residual t
pub record Kept (K : Relation) : Type 0 where
  pub at_pause : (l : ℕ) → K (pause l) (only l) nothing
  pub at_setpause : (l : ℕ) → K (setpause l) (only l) nothing
  pub seq_first : (p q : Statement) (L : ℕ) (t : Statement) → K p L t → K (seq p q) L (seq t q)
  pub seq_second : (p q : Statement) (L : ℕ) (t : Statement) → K q L t → K (seq p q) L t
  pub par_both : (p q : Statement) (L M : ℕ) (t u : Statement) → K p L t → K q M u → K (par p q) (join L M) (par t u)
  pub par_first : (p q : Statement) (L : ℕ) (t : Statement) → K p L t → K (par p q) L (par t nothing)
  pub par_second : (p q : Statement) (L : ℕ) (t : Statement) → K q L t → K (par p q) L (par nothing t)
  pub loop_body : (a : ℕ) (p : Statement) (L : ℕ) (t : Statement) → K p L t → K (loop a p) L (seq t (loop a p))
  pub present_first : (s : ℕ) (p q : Statement) (L : ℕ) (t : Statement) → K p L t → K (present s p q) L t
  pub present_second : (s : ℕ) (p q : Statement) (L : ℕ) (t : Statement) → K q L t → K (present s p q) L t
  pub signal_body : (sc : Scope) (a s : ℕ) (p : Statement) (L : ℕ) (t : Statement) → K p L t → K (signal sc a s p) L (signal sc a s t)
  pub try_body : (p : Statement) (L : ℕ) (t : Statement) → K p L t → K (try p) L (try t)
  pub suspend_body : (s : ℕ) (p : Statement) (L : ℕ) (t : Statement) → K p L t → K (suspend s p) L (held s L t)
  -- no source is a held suspend
  pub at_held : (s M : ℕ) (q : Statement) (L : ℕ) (t : Statement) → K (held s M q) L t

-- every suspend that is stopped where it waits with L
abbrev pub Stopped : Relation → ℕ → Type 0
Stopped K L = (s : ℕ) (p : Statement) → active p L ≡ true → K (suspend s p) (active_labels p L) (held s (active_labels p L) (expand p L))

abbrev pub Fits : Relation → Statement → Reaction → Type 0
Fits K p (gives o ended L t) = L ≡ none
Fits K p (gives o waiting L t) = K p L t
Fits K p (gives o (leaving n) L t) = L ≡ none
Fits K p (gives o wrong L t) = L ≡ none

module _ (K : Relation) (kept : Kept K) where
  -- what a part has, the whole has
  lift : (p w : Statement) → ((L : ℕ) (t : Statement) → K p L t → K w L t) → (r : Reaction) → Fits K p r → Fits K w r
  lift p w f (gives o ended L t) h = h
  lift p w f (gives o waiting L t) h = f L t h
  lift p w f (gives o (leaving n) L t) h = h
  lift p w f (gives o wrong L t) h = h

  -- for p; q, and for a loop that is entered again after its body
  seq-fits : (p q w x : Statement) → ((L : ℕ) (t : Statement) → K p L t → K w L (seq t x))
      → ((L : ℕ) (t : Statement) → K q L t → K w L t) → (r s : Reaction) → Fits K p r → Fits K q s → Fits K w (in_seq x r s)
  seq-fits p q w x f g (gives o ended L t) (gives o₂ k M u) h i = lift q w g (gives o₂ k M u) i
  seq-fits p q w x f g (gives o waiting L t) s h i = f L t h
  seq-fits p q w x f g (gives o (leaving n) L t) s h i = h
  seq-fits p q w x f g (gives o wrong L t) s h i = h

  par-fits : (p q : Statement) (r s : Reaction) → Fits K p r → Fits K q s → Fits K (par p q) (in_par r s)
  par-fits p q (gives o ended L t) (gives o₂ ended M u) h i = refl
  par-fits p q (gives o ended L t) (gives o₂ waiting M u) h i = rw (h, join-none_l) (kept.par_second p q M u i)
  par-fits p q (gives o ended L t) (gives o₂ (leaving n) M u) h i = refl
  par-fits p q (gives o ended L t) (gives o₂ wrong M u) h i = refl
  par-fits p q (gives o waiting L t) (gives o₂ ended M u) h i = rw (i, join-none_r) (kept.par_first p q L t h)
  par-fits p q (gives o waiting L t) (gives o₂ waiting M u) h i = kept.par_both p q L M t u h i
  par-fits p q (gives o waiting L t) (gives o₂ (leaving n) M u) h i = refl
  par-fits p q (gives o waiting L t) (gives o₂ wrong M u) h i = refl
  par-fits p q (gives o (leaving m) L t) (gives o₂ ended M u) h i = refl
  par-fits p q (gives o (leaving m) L t) (gives o₂ waiting M u) h i = refl
  par-fits p q (gives o (leaving m) L t) (gives o₂ (leaving n) M u) h i = refl
  par-fits p q (gives o (leaving m) L t) (gives o₂ wrong M u) h i = refl
  par-fits p q (gives o wrong L t) (gives o₂ k M u) h i = refl

  loop-fits : (a : ℕ) (p : Statement) (r : Reaction) → Fits K p r → Fits K (loop a p) (in_loop a p r)
  loop-fits a p (gives o ended L t) h = refl
  loop-fits a p (gives o waiting L t) h = kept.loop_body a p L t h
  loop-fits a p (gives o (leaving n) L t) h = h
  loop-fits a p (gives o wrong L t) h = h

  try-fits : (p : Statement) (r : Reaction) → Fits K p r → Fits K (try p) (in_try r)
  try-fits p (gives o ended L t) h = h
  try-fits p (gives o waiting L t) h = kept.try_body p L t h
  try-fits p (gives o (leaving n) L t) h = go (eqb n 1)
    where
      go : (b : Bool) → Fits K (try p) (cond b (gives o ended L nothing) (gives o (leaving (n - 1)) L (try t)))
      go true = h
      go false = h
  try-fits p (gives o wrong L t) h = h

  under-signal : (sc : Scope) (a s o₂ : ℕ) (p : Statement) (o : ℕ) (k : Code) (L : ℕ) (t : Statement) → Fits K p (gives o k L t)
      → Fits K (signal sc a s p) (gives o₂ k L (signal sc a s t))
  under-signal sc a s o₂ p o ended L t h = h
  under-signal sc a s o₂ p o waiting L t h = kept.signal_body sc a s p L t h
  under-signal sc a s o₂ p o (leaving n) L t h = h
  under-signal sc a s o₂ p o wrong L t h = h

  signal-fits : (c : Case) (sc : Scope) (a s : ℕ) (p : Statement) (r− r+ : Reaction) → Fits K p r− → Fits K p r+
      → Fits K (signal sc a s p) (answer c sc a s r− r+)
  signal-fits both sc a s p r− (gives o k L t) h i = under-signal sc a s (outside sc s o) p o k L t i
  signal-fits neither sc a s p (gives o k L t) r+ h i = under-signal sc a s o p o k L t h
  signal-fits only− sc a s p r− r+ h i = refl
  signal-fits only+ sc a s p r− r+ h i = refl
  signal-fits inherited sc a s p r− r+ h i = refl

  present-fits : (s : ℕ) (p q : Statement) (b : Bool) (r₁ r₂ : Reaction) → Fits K p r₁ → Fits K q r₂
      → Fits K (present s p q) (cond b r₁ r₂)
  present-fits s p q true r₁ r₂ h i = lift p (present s p q) (kept.present_first s p q) r₁ h
  present-fits s p q false r₁ r₂ h i = lift q (present s p q) (kept.present_second s p q) r₂ i

  suspend-fits : (s : ℕ) (p w : Statement) → ((L : ℕ) (t : Statement) → K p L t → K w L (held s L t))
      → (r : Reaction) → Fits K p r → Fits K w (in_suspend s r)
  suspend-fits s p w f (gives o ended L t) h = h
  suspend-fits s p w f (gives o waiting L t) h = f L t h
  suspend-fits s p w f (gives o (leaving n) L t) h = h
  suspend-fits s p w f (gives o wrong L t) h = h

  held_fits : (s M : ℕ) (p q w : Statement) → ((L : ℕ) (t : Statement) → K p L t → K w L (held s L t)) → K w M (held s M q)
      → (b : Bool) (r : Reaction) → Fits K p r → Fits K w (cond b (stopped s M q) (in_suspend s r))
  held_fits s M p q w f g true r h = g
  held_fits s M p q w f g false r h = suspend-fits s p w f r h

  -- ---- both ways to react
  pub fresh-fits : (p : Statement) (e : ℕ) → Fits K p (react p e)
  unfolding react_by
  fresh-fits nothing e = refl
  fresh-fits (pause l) e = kept.at_pause l
  fresh-fits (emit s v) e = refl
  fresh-fits (exit n) e = refl
  fresh-fits (seq p q) e =
      seq-fits p q (seq p q) q (kept.seq_first p q) (kept.seq_second p q) (react p e) (react q e) (fresh-fits p e) (fresh-fits q e)
  fresh-fits (par p q) e = par-fits p q (react p e) (react q e) (fresh-fits p e) (fresh-fits q e)
  fresh-fits (loop a p) e = loop-fits a p (react p e) (fresh-fits p e)
  fresh-fits (present s p q) e = present-fits s p q (member s e) (react p e) (react q e) (fresh-fits p e) (fresh-fits q e)
  fresh-fits (signal sc a s p) e =
      signal-fits (case_of inheritanceFirst s (react p (remove s e)) (react p (insert s e))) sc a s p (react p (remove s e)) (react p (insert s e))
      (fresh-fits p (remove s e)) (fresh-fits p (insert s e))
  fresh-fits (try p) e = try-fits p (react p e) (fresh-fits p e)
  fresh-fits (setpause l) e = kept.at_setpause l
  fresh-fits (suspend s p) e = suspend-fits s p (suspend s p) (kept.suspend_body s p) (react p e) (fresh-fits p e)
  fresh-fits (held s M q) e =
      held_fits s M q q (held s M q) (λ L t h. kept.at_held s M q L (held s L t)) (kept.at_held s M q M (held s M q))
      (member s e) (react q e) (fresh-fits q e)

  -- a side of a resumed parallel
  side-fits : (p t : Statement) (b : Bool) (e : ℕ) → Fits K p (react t e) → Fits K p (react (if_active b t) e)
  unfolding react_by
  side-fits p t true e h = h
  side-fits p t false e h = refl

  pub resumed-fits : (p : Statement) (L e : ℕ) → Stopped K L → Fits K p (react (expand p L) e)
  unfolding react_by expand
  resumed-fits nothing L e z = refl
  resumed-fits (pause l) L e z = refl
  resumed-fits (emit s v) L e z = refl
  resumed-fits (exit n) L e z = refl
  resumed-fits (seq p q) L e z = go (active p L) (resumed-fits p L e z) (resumed-fits q L e z)
    where
      go : (b : Bool) → Fits K p (react (expand p L) e) → Fits K q (react (expand q L) e)
          → Fits K (seq p q) (react (cond b (seq (expand p L) q) (expand q L)) e)
      go true h i =
          seq-fits p q (seq p q) q (kept.seq_first p q) (kept.seq_second p q) (react (expand p L) e) (react q e) h (fresh-fits q e)
      go false h i = lift q (seq p q) (kept.seq_second p q) (react (expand q L) e) i
  resumed-fits (par p q) L e z =
      par-fits p q (react (if_active (active p L) (expand p L)) e) (react (if_active (active q L) (expand q L)) e)
      (side-fits p (expand p L) (active p L) e (resumed-fits p L e z)) (side-fits q (expand q L) (active q L) e (resumed-fits q L e z))
  resumed-fits (loop a p) L e z =
      seq-fits p (loop a p) (loop a p) (loop a p) (kept.loop_body a p) (λ M t h. h) (react (expand p L) e) (react (loop a p) e)
      (resumed-fits p L e z) (fresh-fits (loop a p) e)
  resumed-fits (present s p q) L e z = go (active p L) (resumed-fits p L e z) (resumed-fits q L e z)
    where
      go : (b : Bool) → Fits K p (react (expand p L) e) → Fits K q (react (expand q L) e)
          → Fits K (present s p q) (react (cond b (expand p L) (expand q L)) e)
      go true h i = lift p (present s p q) (kept.present_first s p q) (react (expand p L) e) h
      go false h i = lift q (present s p q) (kept.present_second s p q) (react (expand q L) e) i
  resumed-fits (signal sc a s p) L e z =
      signal-fits (case_of inheritanceFirst s (react (expand p L) (remove s e)) (react (expand p L) (insert s e))) sc a s p
      (react (expand p L) (remove s e)) (react (expand p L) (insert s e))
      (resumed-fits p L (remove s e) z) (resumed-fits p L (insert s e) z)
  resumed-fits (try p) L e z = try-fits p (react (expand p L) e) (resumed-fits p L e z)
  resumed-fits (setpause l) L e z = refl
  resumed-fits (suspend s p) L e z = go (tested (active p L)) (resumed-fits p L e z)
    where
      go : Tested (active p L) → Fits K p (react (expand p L) e)
          → Fits K (suspend s p) (react (if_active (active p L) (held s (active_labels p L) (expand p L))) e)
      go (Tested.yes x) h = rw x
          (held_fits s (active_labels p L) p (expand p L) (suspend s p) (kept.suspend_body s p) (z s p x)
          (member s e) (react (expand p L) e) h)
      go (Tested.no x) h = rw x refl
  resumed-fits (held s M q) L e z = refl
