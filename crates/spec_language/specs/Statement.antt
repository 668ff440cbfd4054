-- Statements of kernel Pure Esterel (003, figure 1) with the labels and the setpause of 002 (sections 3.3 and 4), and
-- the suspend of 02, item 1, the scope of 02, item 5, and the value of 02, item 12.
-- Signals, labels and exits are numbers. A loop and a signal carry their place, by which an error names them (01).
use Rattle.std.specs.Prelude.{ℕ}

-- 02, item 5: a declared signal that is emitted stays inside its declaration, or is reported all the same
pub data Scope : Type 0 where
  local reported : Scope

-- 02, item 12: what an emission carries, in whole litres
pub data Value : Type 0 where
  pure : Value
  litres : (amount : ℕ) → Value

pub data Statement : Type 0 where
  nothing : Statement
  pause : (label : ℕ) → Statement
  emit : (signal : ℕ) (value : Value) → Statement
  exit : (count : ℕ) → Statement
  seq par : (p q : Statement) → Statement
  loop : (place : ℕ) (p : Statement) → Statement
  present : (signal : ℕ) (p q : Statement) → Statement
  signal : (scope : Scope) (place signal : ℕ) (p : Statement) → Statement
  try : (p : Statement) → Statement
  setpause : (label : ℕ) → Statement
  suspend : (signal : ℕ) (p : Statement) → Statement
  -- what remains of a suspend that waits with these labels; no bytes spell it
  held : (signal labels : ℕ) (p : Statement) → Statement
