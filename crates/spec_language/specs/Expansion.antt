-- The expansion of a waiting statement (01, 'States and resuming'; 002, figure 5; 02, item 1).
use Rattle.std.specs.Prelude.{ℕ, ◌≡◌, Bool, true, false, cond}
use Rattle.spec_base.specs.Sets.{member}
use Rattle.spec_language.specs.Statement.{Scope, Statement}
use Rattle.spec_language.specs.States.{active}
use Rattle.spec_language.specs.LabelTests.{active_labels}

-- 01: an inactive side of a parallel becomes nothing, and an inactive suspend with it
abbrev pub if_active : Bool → Statement → Statement
if_active b t = cond b t Statement.nothing

-- The expansion as a function: of a sequence and of a present the first active part counts. For a valid set it is
-- figure 5 (theory_language/proofs/Figure5); of an inactive statement nobody asks for it.
unfoldable pub expand : Statement → ℕ → Statement
expand Statement.nothing L = Statement.nothing
expand (Statement.pause l) L = Statement.nothing
expand (Statement.emit s v) L = Statement.nothing
expand (Statement.exit n) L = Statement.nothing
expand (Statement.seq p q) L = cond (active p L) (Statement.seq (expand p L) q) (expand q L)
expand (Statement.par p q) L = Statement.par (if_active (active p L) (expand p L)) (if_active (active q L) (expand q L))
expand (Statement.loop a p) L = Statement.seq (expand p L) (Statement.loop a p)
expand (Statement.present s p q) L = cond (active p L) (expand p L) (expand q L)
expand (Statement.signal sc a s p) L = Statement.signal sc a s (expand p L)
expand (Statement.try p) L = Statement.try (expand p L)
expand (Statement.setpause l) L = Statement.nothing
expand (Statement.suspend s p) L = if_active (active p L) (Statement.held s (active_labels p L) (expand p L))
expand (Statement.held s K p) L = Statement.nothing

-- Figure 5 as printed, clause by clause. A part printed without its hat holds no active pause.
pub data Expands (L : ℕ) : Statement → Statement → Type 0 where
  pause : {l : ℕ} → member l L ≡ true → Expands L (Statement.pause l) Statement.nothing
  seq₁ : {p p' q : Statement} → Expands L p p' → active q L ≡ false
      → Expands L (Statement.seq p q) (Statement.seq p' q)
  seq₂ : {p q q' : Statement} → active p L ≡ false → Expands L q q'
      → Expands L (Statement.seq p q) q'
  present₁ : {s : ℕ} {p p' q : Statement} → Expands L p p' → active q L ≡ false
      → Expands L (Statement.present s p q) p'
  present₂ : {s : ℕ} {p q q' : Statement} → active p L ≡ false → Expands L q q'
      → Expands L (Statement.present s p q) q'
  try : {p p' : Statement} → Expands L p p'
      → Expands L (Statement.try p) (Statement.try p')
  par : {p p' q q' : Statement} → Expands L p p' → Expands L q q'
      → Expands L (Statement.par p q) (Statement.par p' q')
  par₁ : {p p' q : Statement} → Expands L p p' → active q L ≡ false
      → Expands L (Statement.par p q) (Statement.par p' Statement.nothing)
  par₂ : {p q q' : Statement} → active p L ≡ false → Expands L q q'
      → Expands L (Statement.par p q) (Statement.par Statement.nothing q')
  loop : {a : ℕ} {p p' : Statement} → Expands L p p'
      → Expands L (Statement.loop a p) (Statement.seq p' (Statement.loop a p))
  signal : {sc : Scope} {a s : ℕ} {p p' : Statement} → Expands L p p'
      → Expands L (Statement.signal sc a s p) (Statement.signal sc a s p')
  -- not in the figure: 02, item 1, by Berry's rule of 1999
  suspend : {s : ℕ} {p p' : Statement} → Expands L p p'
      → Expands L (Statement.suspend s p) (Statement.held s (active_labels p L) p')

-- the names of these clauses, and the one that a derivation uses at its outermost command
pub data Clause : Type 0 where
  pause seq₁ seq₂ present₁ present₂ try par par₁ par₂ loop signal suspend : Clause

unfoldable pub clause : {L : ℕ} {p p' : Statement} → Expands L p p' → Clause
clause (Expands.pause i) = Clause.pause
clause (Expands.seq₁ d i) = Clause.seq₁
clause (Expands.seq₂ i d) = Clause.seq₂
clause (Expands.present₁ d i) = Clause.present₁
clause (Expands.present₂ i d) = Clause.present₂
clause (Expands.try d) = Clause.try
clause (Expands.par d d₂) = Clause.par
clause (Expands.par₁ d i) = Clause.par₁
clause (Expands.par₂ i d) = Clause.par₂
clause (Expands.loop d) = Clause.loop
clause (Expands.signal d) = Clause.signal
clause (Expands.suspend d) = Clause.suspend
