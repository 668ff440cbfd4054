-- The expansion is 002's figure 5 with suspend's clause: for a valid set exactly one clause fits at each command, and
-- `expand` gives its result.
use Prim.Native.Nat.{ℕ}
use mathlib.Core.Path.{◌≡◌, refl, sym, subst}
use mathlib.Core.Logic.{◌↔◌}
use mathlib.Core.Bool.{Bool, true, false, ◌||◌, cond, false≢true}
use mathlib.Core.List.{◌∷◌}
use Rattle.spec_base.specs.Sets.{member}
use Rattle.sets.proofs.Booleans.{or_l, or_r, never, clash, Tested, tested}
use Rattle.spec_language.specs.Statement.{Statement, nothing, pause, emit, exit, seq, par, loop, present, signal, try, setpause, suspend, held}
use Rattle.spec_language.specs.Places.{first, second, PartOf, seq₁, seq₂, par₁, par₂, loop₁, present₁, present₂, signal₁, try₁, suspend₁, Place, At, Alternative, Exclusive}
use Rattle.spec_language.specs.States.{active, Valid}
use Rattle.spec_language.specs.Expansion.{expand, if_active, Expands, clause}
use Rattle.theory_language.proofs.Activity.{active-is}
use Rattle.theory_language.proofs.Places.{Together, together_part}

-- ---- what the figure derives
expands_active : {L : ℕ} {p t : Statement} → Expands L p t → active p L ≡ true
unfolding active
expands_active (Expands.pause h) = h
expands_active {L} (Expands.seq₁ {p = p} {q = q} d h) = or_l (active p L) (active q L) (expands_active d)
expands_active {L} (Expands.seq₂ {p = p} {q = q} h d) = or_r (active p L) (active q L) (expands_active d)
expands_active {L} (Expands.present₁ {p = p} {q = q} d h) = or_l (active p L) (active q L) (expands_active d)
expands_active {L} (Expands.present₂ {p = p} {q = q} h d) = or_r (active p L) (active q L) (expands_active d)
expands_active (Expands.try d) = expands_active d
expands_active {L} (Expands.par {p = p} {q = q} d d₂) = or_l (active p L) (active q L) (expands_active d)
expands_active {L} (Expands.par₁ {p = p} {q = q} d h) = or_l (active p L) (active q L) (expands_active d)
expands_active {L} (Expands.par₂ {p = p} {q = q} h d) = or_r (active p L) (active q L) (expands_active d)
expands_active (Expands.loop d) = expands_active d
expands_active (Expands.signal d) = expands_active d
expands_active (Expands.suspend d) = expands_active d

expands_to : {L : ℕ} {p t : Statement} → Expands L p t → t ≡ expand p L
unfolding expand
expands_to (Expands.pause h) = refl
expands_to (Expands.seq₁ d h) = rw (expands_active d, expands_to d)
expands_to (Expands.seq₂ h d) = rw h (expands_to d)
expands_to (Expands.present₁ d h) = rw (expands_active d) (expands_to d)
expands_to (Expands.present₂ h d) = rw h (expands_to d)
expands_to (Expands.try d) = rw (expands_to d)
expands_to (Expands.par d d₂) = rw (expands_active d, expands_active d₂, expands_to d, expands_to d₂)
expands_to (Expands.par₁ d h) = rw (expands_active d, h, expands_to d)
expands_to (Expands.par₂ h d) = rw (h, expands_active d, expands_to d)
expands_to (Expands.loop d) = rw (expands_to d)
expands_to (Expands.signal d) = rw (expands_to d)
expands_to (Expands.suspend d) = rw (expands_active d, expands_to d)

-- ---- at most one clause
clause_unique : {L : ℕ} {p t u : Statement} (d : Expands L p t) (d₂ : Expands L p u) → clause d ≡ clause d₂
unfolding clause
clause_unique (Expands.pause h) (Expands.pause i) = refl
clause_unique (Expands.seq₁ d h) (Expands.seq₁ d₂ i) = refl
clause_unique (Expands.seq₁ d h) (Expands.seq₂ i d₂) = clash _ (expands_active d) i
clause_unique (Expands.seq₂ h d) (Expands.seq₁ d₂ i) = clash _ (expands_active d₂) h
clause_unique (Expands.seq₂ h d) (Expands.seq₂ i d₂) = refl
clause_unique (Expands.present₁ d h) (Expands.present₁ d₂ i) = refl
clause_unique (Expands.present₁ d h) (Expands.present₂ i d₂) = clash _ (expands_active d) i
clause_unique (Expands.present₂ h d) (Expands.present₁ d₂ i) = clash _ (expands_active d₂) h
clause_unique (Expands.present₂ h d) (Expands.present₂ i d₂) = refl
clause_unique (Expands.try d) (Expands.try d₂) = refl
clause_unique (Expands.par d e) (Expands.par d₂ e₂) = refl
clause_unique (Expands.par d e) (Expands.par₁ d₂ i) = clash _ (expands_active e) i
clause_unique (Expands.par d e) (Expands.par₂ i d₂) = clash _ (expands_active d) i
clause_unique (Expands.par₁ d h) (Expands.par d₂ e₂) = clash _ (expands_active e₂) h
clause_unique (Expands.par₁ d h) (Expands.par₁ d₂ i) = refl
clause_unique (Expands.par₁ d h) (Expands.par₂ i d₂) = clash _ (expands_active d) i
clause_unique (Expands.par₂ h d) (Expands.par d₂ e₂) = clash _ (expands_active d₂) h
clause_unique (Expands.par₂ h d) (Expands.par₁ d₂ i) = clash _ (expands_active d₂) h
clause_unique (Expands.par₂ h d) (Expands.par₂ i d₂) = refl
clause_unique (Expands.loop d) (Expands.loop d₂) = refl
clause_unique (Expands.signal d) (Expands.signal d₂) = refl
clause_unique (Expands.suspend d) (Expands.suspend d₂) = refl

-- ---- at least one, where the active pauses are pairwise compatible
module _ (L : ℕ) where
  -- not both parts of a sequence or a present are active
  lone : {w p q : Statement} → Alternative w → PartOf first p w → PartOf second q w → Together w L
      → active p L ≡ true → active q L ≡ false
  lone {w} {p} {q} z i j h x = never (active q L) (λ y. go ((active-is p L).0 x) ((active-is q L).0 y))
    where
      go : (l : ℕ) × (member l L ≡ true) × ((a : Place) × At (pause l) a p)
          → (l : ℕ) × (member l L ≡ true) × ((a : Place) × At (pause l) a q) → ⊥
      go u v =
          h u.0 v.0 u.1 v.1 (first ∷ u.2.0) (second ∷ v.2.0) (At.inside i u.2.1) (At.inside j v.2.1)
          (Exclusive.apart z)

  other : (b c : Bool) → (b || c) ≡ true → b ≡ false → c ≡ true
  other true c h i = clash true refl i
  other false c h i = h

  expands : (p : Statement) → active p L ≡ true → Together p L → Expands L p (expand p L)
  unfolding active expand
  expands nothing h t = absurd (false≢true h)
  expands (pause l) h t = Expands.pause h
  expands (emit s v) h t = absurd (false≢true h)
  expands (exit n) h t = absurd (false≢true h)
  expands (seq p q) h t = go (tested (active p L)) (λ x. expands p x (together_part L seq₁ t)) (λ x. expands q x (together_part L seq₂ t))
    where
      go : Tested (active p L) → (active p L ≡ true → Expands L p (expand p L)) → (active q L ≡ true → Expands L q (expand q L))
          → Expands L (seq p q) (cond (active p L) (seq (expand p L) q) (expand q L))
      go (Tested.yes x) f g = rw x (Expands.seq₁ (f x) (lone Alternative.sequence seq₁ seq₂ t x))
      go (Tested.no x) f g = rw x (Expands.seq₂ x (g (other (active p L) (active q L) h x)))
  expands (par p q) h t =
      go (tested (active p L)) (tested (active q L)) (λ x. expands p x (together_part L par₁ t)) (λ x. expands q x (together_part L par₂ t))
    where
      go : Tested (active p L) → Tested (active q L) → (active p L ≡ true → Expands L p (expand p L))
          → (active q L ≡ true → Expands L q (expand q L))
          → Expands L (par p q) (par (if_active (active p L) (expand p L)) (if_active (active q L) (expand q L)))
      go (Tested.yes x) (Tested.yes y) f g = rw (x, y) (Expands.par (f x) (g y))
      go (Tested.yes x) (Tested.no y) f g = rw (x, y) (Expands.par₁ (f x) y)
      go (Tested.no x) (Tested.yes y) f g = rw (x, y) (Expands.par₂ x (g y))
      go (Tested.no x) (Tested.no y) f g = clash (active q L) (other (active p L) (active q L) h x) y
  expands (loop a p) h t = Expands.loop (expands p h (together_part L loop₁ t))
  expands (present s p q) h t =
      go (tested (active p L)) (λ x. expands p x (together_part L present₁ t)) (λ x. expands q x (together_part L present₂ t))
    where
      go : Tested (active p L) → (active p L ≡ true → Expands L p (expand p L)) → (active q L ≡ true → Expands L q (expand q L))
          → Expands L (present s p q) (cond (active p L) (expand p L) (expand q L))
      go (Tested.yes x) f g = rw x (Expands.present₁ (f x) (lone Alternative.test present₁ present₂ t x))
      go (Tested.no x) f g = rw x (Expands.present₂ x (g (other (active p L) (active q L) h x)))
  expands (signal sc a s p) h t = Expands.signal (expands p h (together_part L signal₁ t))
  expands (try p) h t = Expands.try (expands p h (together_part L try₁ t))
  expands (setpause l) h t = absurd (false≢true h)
  expands (suspend s p) h t = rw h (Expands.suspend (expands p h (together_part L suspend₁ t)))
  expands (held s K p) h t = absurd (false≢true h)

-- a valid set is active
pub valid-active : (p : Statement) (L : ℕ) → Valid p L → active p L ≡ true
valid-active p L v = (active-is p L).1 (v.some.0, v.some.1, v.paused v.some.0 v.some.1)

-- FIGURE 5: the figure gives t exactly if `expand` does, and no two derivations use different clauses at a command
pub figure_5 : (p : Statement) (L : ℕ) → Valid p L → (t : Statement) → Expands L p t ↔ (t ≡ expand p L)
figure_5 p L v t =
    (expands_to, λ h. subst (λ (x : Statement). Expands L p x) (sym h) (expands L p (valid-active p L v) v.together))

pub figure_5_clause : {L : ℕ} {p t u : Statement} (d : Expands L p t) (d₂ : Expands L p u) → clause d ≡ clause d₂
figure_5_clause = clause_unique
