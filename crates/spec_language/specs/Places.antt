-- Places of commands in a statement, and which of them are exclusive (01, 'States and resuming'; 002, section 2).
use Rattle.std.specs.Prelude.{List, [], ◌∷◌, ℕ}
use Rattle.spec_language.specs.Statement.{Scope, Statement, seq, par, loop, present, signal, try, suspend}

-- a command with a single part has it as its first
pub data Part : Type 0 where
  first second : Part

-- `PartOf d c p`: the part d of the command p is c
pub data PartOf : Part → Statement → Statement → Type 0 where
  seq₁ : {p q : Statement} → PartOf first p (seq p q)
  seq₂ : {p q : Statement} → PartOf second q (seq p q)
  par₁ : {p q : Statement} → PartOf first p (par p q)
  par₂ : {p q : Statement} → PartOf second q (par p q)
  loop₁ : {a : ℕ} {p : Statement} → PartOf first p (loop a p)
  present₁ : {s : ℕ} {p q : Statement} → PartOf first p (present s p q)
  present₂ : {s : ℕ} {p q : Statement} → PartOf second q (present s p q)
  signal₁ : {sc : Scope} {a s : ℕ} {p : Statement} → PartOf first p (signal sc a s p)
  try₁ : {p : Statement} → PartOf first p (try p)
  suspend₁ : {s : ℕ} {p : Statement} → PartOf first p (suspend s p)

-- a place: the parts to enter, from the outermost command inwards
abbrev pub Place : Type 0
Place = List Part

-- `At x a p`: the command x stands at the place a of p
pub data At (x : Statement) : Place → Statement → Type 0 where
  here : At x [] x
  inside : {d : Part} {a : Place} {c p : Statement} → PartOf d c p → At x a c → At x (d ∷ a) p

-- a sequence or a present
pub data Alternative : Statement → Type 0 where
  sequence : {p q : Statement} → Alternative (seq p q)
  test : {s : ℕ} {p q : Statement} → Alternative (present s p q)

-- 01: the smallest command holding both is a sequence or a present, and they lie in different parts of it
pub data Exclusive : Statement → Place → Place → Type 0 where
  -- p itself is the smallest command that holds both
  apart : {p : Statement} {a b : Place} → Alternative p → Exclusive p (first ∷ a) (second ∷ b)
  apart' : {p : Statement} {a b : Place} → Alternative p → Exclusive p (second ∷ a) (first ∷ b)
  -- both lie in one part of p, and so does the smallest command that holds both
  inside : {d : Part} {c p : Statement} {a b : Place} → PartOf d c p → Exclusive c a b → Exclusive p (d ∷ a) (d ∷ b)

abbrev pub Compatible : Statement → Place → Place → Type 0
Compatible p a b = ¬ Exclusive p a b
