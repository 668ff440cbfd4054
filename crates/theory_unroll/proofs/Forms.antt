-- The two forms of a statement, copied and worked through, wherever their commands stand.
use Prim.Native.Nat.{ℕ, ◌+◌}
use mathlib.Core.Bool.{Bool, true, false}
use mathlib.Core.List.{List, [], ◌∷◌}
use Rattle.spec_language.specs.Statement.{Scope, Value, Statement}
use Rattle.spec_language.specs.ReadBack.{declared_by, declared}
use Rattle.spec_sequence.specs.Writer.{size}
use Rattle.spec_unroll.specs.Unrolled.{copied, unrolled, placed}

-- `Forms true p q`: q is p copied; `Forms false p q`: q is p worked through; places play no part
pub data Forms : Bool → Statement → Statement → Type 0 where
  nothing : {c : Bool} → Forms c Statement.nothing Statement.nothing
  pause : {l : ℕ} → Forms false (Statement.pause l) (Statement.pause l)
  pause_copied : {l : ℕ} → Forms true (Statement.pause l) (Statement.setpause l)
  emit : {c : Bool} {s : ℕ} {v : Value} → Forms c (Statement.emit s v) (Statement.emit s v)
  exit : {c : Bool} {n : ℕ} → Forms c (Statement.exit n) (Statement.exit n)
  seq : {c : Bool} {p q p' q' : Statement} → Forms c p p' → Forms c q q' → Forms c (Statement.seq p q) (Statement.seq p' q')
  par : {c : Bool} {p q p' q' : Statement} → Forms c p p' → Forms c q q' → Forms c (Statement.par p q) (Statement.par p' q')
  loop : {a b : ℕ} {p copy p' : Statement} → Forms true p copy → Forms false p p'
      → Forms false (Statement.loop a p) (Statement.loop b (Statement.seq copy p'))
  loop_copied : {a : ℕ} {p copy : Statement} → Forms true p copy → Forms true (Statement.loop a p) copy
  present : {c : Bool} {s : ℕ} {p q p' q' : Statement} → Forms c p p' → Forms c q q'
      → Forms c (Statement.present s p q) (Statement.present s p' q')
  signal : {c : Bool} {sc : Scope} {a b s : ℕ} {p p' : Statement} → Forms c p p'
      → Forms c (Statement.signal sc a s p) (Statement.signal sc b s p')
  try : {c : Bool} {p p' : Statement} → Forms c p p' → Forms c (Statement.try p) (Statement.try p')
  setpause : {c : Bool} {l : ℕ} → Forms c (Statement.setpause l) (Statement.setpause l)
  suspend : {c : Bool} {s : ℕ} {p p' : Statement} → Forms c p p' → Forms c (Statement.suspend s p) (Statement.suspend s p')
  held : {c : Bool} {s K : ℕ} {p p' : Statement} → Forms c p p' → Forms c (Statement.held s K p) (Statement.held s K p')

pub copied_forms : (p : Statement) (a : ℕ) → Forms true p (placed a (copied p))
unfolding copied placed
copied_forms Statement.nothing a = Forms.nothing
copied_forms (Statement.pause l) a = Forms.pause_copied
copied_forms (Statement.emit s v) a = Forms.emit
copied_forms (Statement.exit n) a = Forms.exit
copied_forms (Statement.seq p q) a = Forms.seq (copied_forms p (a + 1)) (copied_forms q (a + (1 + size (copied p))))
copied_forms (Statement.par p q) a = Forms.par (copied_forms p (a + 1)) (copied_forms q (a + (1 + size (copied p))))
copied_forms (Statement.loop b p) a = Forms.loop_copied (copied_forms p a)
copied_forms (Statement.present s p q) a = Forms.present (copied_forms p (a + 2)) (copied_forms q (a + (2 + size (copied p))))
copied_forms (Statement.signal sc b s p) a = Forms.signal (copied_forms p (a + 2))
copied_forms (Statement.try p) a = Forms.try (copied_forms p (a + 1))
copied_forms (Statement.setpause l) a = Forms.setpause
copied_forms (Statement.suspend s p) a = Forms.suspend (copied_forms p (a + 2))
copied_forms (Statement.held s K p) a = Forms.held (copied_forms p a)

pub unrolled_forms : (p : Statement) (a : ℕ) → Forms false p (placed a (unrolled p))
unfolding unrolled placed
unrolled_forms Statement.nothing a = Forms.nothing
unrolled_forms (Statement.pause l) a = Forms.pause
unrolled_forms (Statement.emit s v) a = Forms.emit
unrolled_forms (Statement.exit n) a = Forms.exit
unrolled_forms (Statement.seq p q) a = Forms.seq (unrolled_forms p (a + 1)) (unrolled_forms q (a + (1 + size (unrolled p))))
unrolled_forms (Statement.par p q) a = Forms.par (unrolled_forms p (a + 1)) (unrolled_forms q (a + (1 + size (unrolled p))))
unrolled_forms (Statement.loop b p) a =
    Forms.loop (copied_forms p (a + 1 + 1)) (unrolled_forms p (a + 1 + (1 + size (copied p))))
unrolled_forms (Statement.present s p q) a = Forms.present (unrolled_forms p (a + 2)) (unrolled_forms q (a + (2 + size (unrolled p))))
unrolled_forms (Statement.signal sc b s p) a = Forms.signal (unrolled_forms p (a + 2))
unrolled_forms (Statement.try p) a = Forms.try (unrolled_forms p (a + 1))
unrolled_forms (Statement.setpause l) a = Forms.setpause
unrolled_forms (Statement.suspend s p) a = Forms.suspend (unrolled_forms p (a + 2))
unrolled_forms (Statement.held s K p) a = Forms.held (unrolled_forms p a)

-- the read-back declarations stay around
pub declared_forms : {c : Bool} {p q : Statement} (a : ℕ) (ss : List ℕ) → Forms c p q → Forms c (declared a ss p) (declared a ss q)
unfolding declared_by
declared_forms a [] f = f
declared_forms a (s ∷ ss) f = Forms.signal (declared_forms a ss f)
