-- Label sets as states of a statement (01, 'States and resuming'; 002, sections 3.4 and 4.1), and 01's rules on labels.
use Rattle.std.specs.Prelude.{ℕ, ◌≡◌, ◌⊎◌, Bool, true, false, ◌||◌}
use Rattle.spec_base.specs.Sets.{member}
use Rattle.spec_language.specs.Statement.{Statement, nothing, pause, emit, exit, seq, par, loop, present, signal, try, setpause, suspend, held}
use Rattle.spec_language.specs.Places.{Place, At, Exclusive, Compatible}

-- the command x stands somewhere in p
abbrev pub Holds : Statement → Statement → Type 0
Holds p x = (a : Place) × At x a p

-- does p hold a pause whose label is in L? No bytes spell a held suspend, and no place is inside it
unfoldable pub active : Statement → ℕ → Bool
active nothing L = false
active (pause l) L = member l L
active (emit s v) L = false
active (exit n) L = false
active (seq p q) L = active p L || active q L
active (par p q) L = active p L || active q L
active (loop a p) L = active p L
active (present s p q) L = active p L || active q L
active (signal sc a s p) L = active p L
active (try p) L = active p L
active (setpause l) L = false
active (suspend s p) L = active p L
active (held s K p) L = false

-- active in 01's words: a pause whose label is in the set
abbrev pub Awake : Statement → ℕ → Type 0
Awake p L = (l : ℕ) × (member l L ≡ true) × Holds p (pause l)

-- a pause or a setpause with label l at the place a
abbrev pub Stop : Statement → ℕ → Place → Type 0
Stop p l a = At (pause l) a p ⊎ At (setpause l) a p

abbrev pub Stops : Statement → ℕ → Type 0
Stops p l = (a : Place) × Stop p l a

-- 01: not empty, each label has a pause, and those pauses are pairwise compatible
pub record Valid (p : Statement) (L : ℕ) : Type 0 where
  pub some : (l : ℕ) × (member l L ≡ true)
  pub paused : (l : ℕ) → member l L ≡ true → Holds p (pause l)
  pub together : (k l : ℕ) → member k L ≡ true → member l L ≡ true
      → (a b : Place) → At (pause k) a p → At (pause l) b p → Compatible p a b

-- row 8 does not hold: no two pauses with one label
abbrev pub Distinct : Statement → Type 0
Distinct p = (l : ℕ) (a b : Place) → At (pause l) a p → At (pause l) b p → a ≡ b

-- row 9 does not hold: the label of each setpause has a pause
abbrev pub Targeted : Statement → Type 0
Targeted p = (l : ℕ) → Holds p (setpause l) → Holds p (pause l)

abbrev pub NoSetpause : Statement → Type 0
NoSetpause p = (l : ℕ) → ¬ Holds p (setpause l)

-- no held suspend stands in p, as in every statement that bytes spell
abbrev pub Source : Statement → Type 0
Source p = (s K : ℕ) (q : Statement) → ¬ Holds p (held s K q)

-- every x of p is exclusive with every y of p
abbrev pub AllExclusive : Statement → Statement → Statement → Type 0
AllExclusive p x y = (a b : Place) → At x a p → At y b p → Exclusive p a b

-- 002, definition 3; row 10 does not hold
pub record Triggers (p : Statement) (k l : ℕ) : Type 0 where
  pub setpauses : AllExclusive p (setpause k) (setpause l)
  pub setpause_pause : AllExclusive p (setpause k) (pause l)
  pub pause_setpause : AllExclusive p (pause k) (setpause l)

abbrev pub WellFormed : Statement → Type 0
WellFormed p = (k l : ℕ) (a b : Place) → At (pause k) a p → At (pause l) b p → Exclusive p a b → Triggers p k l
