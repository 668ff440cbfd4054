-- How an accepted statement is encoded in the bytes, with what reading noted of second parts: what the later traversals go by.
-- Offsets are those of the whole sequence.
use Rattle.std.specs.Prelude.{ℕ, zero, suc, ◌+◌, ◌-◌, ◌≤◌, ◌<◌, ◌≡◌, true, List, get_or, length, take, drop, set}
use Rattle.std.proofs.Math.Option.{Option, none, some}
use Rattle.spec_language.specs.Statement.{Statement, nothing, pause, emit, exit, seq, par, loop, present, signal, try, setpause, suspend, held}
use Rattle.theory_language.specs.Ranks.{middle}
use Rattle.spec_base.specs.Limits.{max_bytes}
use Rattle.spec_sequence.specs.Commands.{Command, command_of, operands_of, partCount, in_range, litres_fit, head_length, build}
use Rattle.spec_sequence.specs.Writer.{size}

-- the bytes from n on, as a part of a slice
abbrev pub rest : ℕ → List ℕ → List ℕ
rest n bs = take (length bs - n) (drop n bs)

-- ---- the table of second parts: where the second part of a command begins, at the command's offset, and how many pauses stand
-- before it, at the byte before it, which is the last one of a command without parts
abbrev pub secondAt : List ℕ → ℕ → ℕ
secondAt t a = get_or t a 0

abbrev pub before_at : List ℕ → ℕ → ℕ
before_at t a = get_or t (secondAt t a - 1) 0

-- t has this of the command at offset a
abbrev pub HasSecond : (t : List ℕ) (a second before : ℕ) → Type 0
HasSecond t a second before = (get_or t a 0 ≡ second) × (get_or t (second - 1) 0 ≡ before)

-- t with that
abbrev pub put_second : (t : List ℕ) (a second before : ℕ) → List ℕ
put_second t a second before = set (set t a second) (second - 1) before

-- t has the entries of each command of two parts in p, which stands at offset a with `base` pauses before it
abbrev pub Marked : (t : List ℕ) (base a : ℕ) → Statement → Type 0
Marked t base a nothing = Unit {0}
Marked t base a (pause l) = Unit {0}
Marked t base a (emit s v) = Unit {0}
Marked t base a (exit n) = Unit {0}
Marked t base a (seq p q) =
    HasSecond t a (a + (1 + size p)) (middle base p) × Marked t base (a + 1) p × Marked t (middle base p) (a + (1 + size p)) q
Marked t base a (par p q) =
    HasSecond t a (a + (1 + size p)) (middle base p) × Marked t base (a + 1) p × Marked t (middle base p) (a + (1 + size p)) q
Marked t base a (loop b p) = Marked t base (a + 1) p
Marked t base a (present s p q) =
    HasSecond t a (a + (2 + size p)) (middle base p) × Marked t base (a + 2) p × Marked t (middle base p) (a + (2 + size p)) q
Marked t base a (signal sc b s p) = Marked t base (a + 2) p
Marked t base a (try p) = Marked t base (a + 1) p
Marked t base a (setpause l) = Unit {0}
Marked t base a (suspend s p) = Marked t base (a + 2) p
Marked t base a (held s K p) = Unit {0}

-- ---- a statement in the bytes
-- L says of a number of pauses before, an offset, bytes and a statement that it is encoded there.
-- The two parts of the command of w bytes at the front of bs, at offset a.
pub record Two (L : (base a : ℕ) → List ℕ → Statement → Type 0) (t : List ℕ) (base a w : ℕ) (bs : List ℕ) (p q : Statement) : Type 0 where
  pub first : L base (a + w) (rest w bs) p
  pub second : L (middle base p) (secondAt t a) (rest (secondAt t a - a) bs) q
  pub place : secondAt t a ≡ a + (w + size p)
  pub before : before_at t a ≡ middle base p
  pub behind : a < secondAt t a
  pub room : secondAt t a ≤ max_bytes
  pub within : secondAt t a - a ≤ length bs

-- the statement p by the parts of the command c at offset a
abbrev pub Parts : (L : (base a : ℕ) → List ℕ → Statement → Type 0) → (t : List ℕ) (base a : ℕ) → List ℕ → Statement → Command → ℕ → Type 0
Parts L t base a bs p c zero = p ≡ build c a (operands_of c bs) nothing nothing
Parts L t base a bs p c (suc zero) =
    (q : Statement) × ((p ≡ build c a (operands_of c bs) q nothing) × L base (a + head_length c) (rest (head_length c) bs) q)
Parts L t base a bs p c (suc (suc n)) =
    (q r : Statement) × ((p ≡ build c a (operands_of c bs) q r) × Two L t base a (head_length c) bs q r)

pub record Begins (L : (base a : ℕ) → List ℕ → Statement → Type 0) (t : List ℕ) (base a : ℕ) (bs : List ℕ) (p : Statement) (c : Command) : Type 0 where
  pub there : head_length c ≤ length bs
  pub ranged : in_range c (operands_of c bs) ≡ true
  pub fit : litres_fit c (operands_of c bs) ≡ true
  pub parts : Parts L t base a bs p c (partCount c)

abbrev pub Form : (L : (base a : ℕ) → List ℕ → Statement → Type 0) → (t : List ℕ) (base a : ℕ) → List ℕ → Statement → Option Command → Type 0
Form L t base a bs p none = ⊥
Form L t base a bs p (some c) = Begins L t base a bs p c

pub record AtFront (L : (base a : ℕ) → List ℕ → Statement → Type 0) (t : List ℕ) (base a : ℕ) (bs : List ℕ) (p : Statement) : Type 0 where
  pub fits : a + length bs ≤ max_bytes
  pub bytes : 0 < length bs
  pub form : Form L t base a bs p (command_of (get_or bs 0 0))

-- p, of at most d levels, is encoded at offset a at the front of bs with `base` pauses before it, and t has its second parts
unfoldable pub Lies : (t : List ℕ) (d base a : ℕ) → List ℕ → Statement → Type 0
Lies t zero base a bs p = ⊥
Lies t (suc d) base a bs p = AtFront (Lies t d) t base a bs p

-- ---- what a traversal requires of its bytes: some statement is encoded at their front
pub record Ready (t : List ℕ) (d a : ℕ) (bs : List ℕ) : Type 0 where
  pub base : ℕ
  pub p : Statement
  pub lies : Lies t d base a bs p
  pub levels : 0 < d
  pub fits : a + length bs ≤ max_bytes
  pub bytes : 0 < length bs
  pub long : length t ≡ max_bytes

-- the same of the two parts of the command of w bytes at their front
pub record Pair (t : List ℕ) (d a w : ℕ) (bs : List ℕ) : Type 0 where
  pub base : ℕ
  pub p : Statement
  pub q : Statement
  pub two : Two (Lies t d) t base a w bs p q
  pub there : w ≤ length bs
  pub long : length t ≡ max_bytes
