-- The table of second parts: what is marked depends only on a statement's own entries, and a command is marked by its parts.
use Prim.Native.Nat.{ℕ, ◌+◌, ◌-◌, ◌≤◌, ◌<◌}
use mathlib.Core.Path.{◌≡◌, refl, sym, ap, ◌∙◌}
use mathlib.Core.Logic.{◌↔◌}
use mathlib.Core.List.{List}
use native.Mathlib.Omega.{arith}
use lib.ListN.{get_or, length, set, length-append, length-set}
use lib.Seq.{get_or-set_same, get_or-set_other}
use Rattle.spec_language.specs.Statement.{pure, litres, Statement, nothing, pause, emit, exit, seq, par, loop, present, signal, try, setpause, suspend, held}
use Rattle.theory_language.specs.Ranks.{middle}
use Rattle.spec_sequence.specs.Commands.{Command, partCount, head_length, build}
use Rattle.spec_sequence.specs.Writer.{bytes_of, size, Ranged}
use Rattle.layout.specs.Layout.{HasSecond, put_second, Marked}
use Rattle.layout.specs.Walk.{Entered}
use Rattle.theory_sequence.proofs.Table.{leaves, ones, twos}

-- a statement that bytes spell has some
some_bytes : (p : Statement) → Ranged p → 0 < size p
unfolding bytes_of
some_bytes nothing r = omega arith
some_bytes (pause l) r = omega arith
some_bytes (emit s pure) r = omega arith
some_bytes (emit s (litres n)) r = omega arith
some_bytes (exit n) r = omega arith
some_bytes (seq p q) r = omega arith
some_bytes (par p q) r = omega arith
some_bytes (loop a p) r = omega arith
some_bytes (present s p q) r = omega arith
some_bytes (signal sc a s p) r = omega arith
some_bytes (try p) r = omega arith
some_bytes (setpause l) r = omega arith
some_bytes (suspend s p) r = omega arith
some_bytes (held s K p) r = absurd r

-- u agrees with t on the entries from a to e
abbrev pub Agrees : (t u : List ℕ) → (a e : ℕ) → Type 0
Agrees t u a e = (i : ℕ) → a ≤ i → i < e → get_or u i 0 ≡ get_or t i 0

-- what is marked depends only on the entries of the statement's own bytes, but for the last one
pub local : (t u : List ℕ) (base a : ℕ) (p : Statement) → Ranged p → Agrees t u a (a + size p - 1) → Marked t base a p → Marked u base a p
unfolding bytes_of
local t u base a nothing r h m = tt
local t u base a (pause l) r h m = tt
local t u base a (emit s v) r h m = tt
local t u base a (exit n) r h m = tt
local t u base a (seq p q) r h m =
    let l = length-append (bytes_of p) (bytes_of q) in
    let x = some_bytes p r.0 in
    let y = some_bytes q r.1 in (
      (h a (omega arith) (omega (arith, l, x, y)) ∙ m.0.0, h (a + (1 + size p) - 1) (omega arith) (omega (arith, l, x, y)) ∙ m.0.1),
      local t u base (a + 1) p r.0 (λ i b e. h i (omega arith) (omega (arith, l))) m.1,
      local t u (middle base p) (a + (1 + size p)) q r.1 (λ i b e. h i (omega arith) (omega (arith, l))) m.2,
    )
local t u base a (par p q) r h m =
    let l = length-append (bytes_of p) (bytes_of q) in
    let x = some_bytes p r.0 in
    let y = some_bytes q r.1 in (
      (h a (omega arith) (omega (arith, l, x, y)) ∙ m.0.0, h (a + (1 + size p) - 1) (omega arith) (omega (arith, l, x, y)) ∙ m.0.1),
      local t u base (a + 1) p r.0 (λ i b e. h i (omega arith) (omega (arith, l))) m.1,
      local t u (middle base p) (a + (1 + size p)) q r.1 (λ i b e. h i (omega arith) (omega (arith, l))) m.2,
    )
local t u base a (loop b p) r h m = local t u base (a + 1) p r (λ i b e. h i (omega arith) (omega arith)) m
local t u base a (present s p q) r h m =
    let l = length-append (bytes_of p) (bytes_of q) in
    let x = some_bytes p r.1 in
    let y = some_bytes q r.2 in (
      (h a (omega arith) (omega (arith, l, x, y)) ∙ m.0.0, h (a + (2 + size p) - 1) (omega arith) (omega (arith, l, x, y)) ∙ m.0.1),
      local t u base (a + 2) p r.1 (λ i b e. h i (omega arith) (omega (arith, l))) m.1,
      local t u (middle base p) (a + (2 + size p)) q r.2 (λ i b e. h i (omega arith) (omega (arith, l))) m.2,
    )
local t u base a (signal sc b s p) r h m = local t u base (a + 2) p r.2 (λ i b e. h i (omega arith) (omega arith)) m
local t u base a (try p) r h m = local t u base (a + 1) p r (λ i b e. h i (omega arith) (omega arith)) m
local t u base a (setpause l) r h m = tt
local t u base a (suspend s p) r h m = local t u base (a + 2) p r.1 (λ i b e. h i (omega arith) (omega arith)) m
local t u base a (held s K p) r h m = tt

-- ---- the command c at offset a, by its parts
module _ (t : List ℕ) (base a : ℕ) (xs : List ℕ) where
  marked-leaf : (c : Command) → partCount c ≡ 0 → Marked t base a (build c a xs nothing nothing)
  marked-leaf = leaves (λ (c : Command). Marked t base a (build c a xs nothing nothing)) tt tt tt tt tt tt

  pub marked-one : (c : Command) → partCount c ≡ 1 → (p : Statement) → Marked t base (a + head_length c) p ↔ Marked t base a (build c a xs p nothing)
  marked-one =
      ones (λ (c : Command). (p : Statement) → Marked t base (a + head_length c) p ↔ Marked t base a (build c a xs p nothing))
      (λ p. (λ m. m, λ m. m)) (λ p. (λ m. m, λ m. m)) (λ p. (λ m. m, λ m. m)) (λ p. (λ m. m, λ m. m))

  -- the entry of the command, and those of its parts
  abbrev pub Marks : Command → (p q : Statement) → Type 0
  Marks c p q =
      HasSecond t a (a + (head_length c + size p)) (middle base p) × Marked t base (a + head_length c) p × Marked t (middle base p) (a + (head_length c + size p)) q

  pub marked-two : (c : Command) → partCount c ≡ 2 → (p q : Statement) → Marks c p q ↔ Marked t base a (build c a xs p q)
  marked-two =
      twos (λ (c : Command). (p q : Statement) → Marks c p q ↔ Marked t base a (build c a xs p q))
      (λ p q. (λ m. m, λ m. m)) (λ p q. (λ m. m, λ m. m)) (λ p q. (λ m. m, λ m. m))

-- ---- the same with what is kept
pub entered_leaf : (t : List ℕ) (base a : ℕ) (xs : List ℕ) (c : Command) → partCount c ≡ 0 → Entered t t base a (head_length c) (build c a xs nothing nothing)
entered_leaf t base a xs c e = record { long = refl; marked = marked-leaf t base a xs c e; below = λ i h. refl; above = λ i h. refl }

pub entered_one : (t u : List ℕ) (base a : ℕ) (xs : List ℕ) (c : Command) (p : Statement) (n : ℕ) → partCount c ≡ 1 → Entered t u base (a + head_length c) n p
    → Entered t u base a (head_length c + n) (build c a xs p nothing)
entered_one t u base a xs c p n e h =
    record {
      long = h.long;
      marked = (marked-one u base a xs c e p).0 h.marked;
      below = λ i l. h.below i (omega arith);
      above = λ i l. h.above i (omega arith);
    }

-- the first part is read, the entries of the offset b behind it are written, and the second part is read there
pub entered_two : (t u v : List ℕ) (base a : ℕ) (xs : List ℕ) (b : ℕ) (c : Command) (p q : Statement) (m n : ℕ) → partCount c ≡ 2 → Ranged p → m ≡ size p
    → b ≡ a + (head_length c + m) → b ≤ length u → Entered t u base (a + head_length c) m p
    → Entered (put_second u a b (middle base p)) v (middle base p) b n q → Entered t v base a (head_length c + m + n) (build c a xs p q)
entered_two t u v base a xs b c p q m n e r z y l f g =
    let o = middle base p in
    let w = some_bytes p r in
    let k : length (set u a b) ≡ length u = length-set u a b in
    let kept : (i : ℕ) → i < b → (i ≡ a → ⊥) → (i ≡ b - 1 → ⊥) → get_or v i 0 ≡ get_or u i 0
    = λ i h apart other. g.below i h ∙ get_or-set_other (set u a b) (b - 1) i o 0 other ∙ get_or-set_other u a i b 0 apart in
    let own : get_or v a 0 ≡ b
    = g.below a (omega arith) ∙ get_or-set_other (set u a b) (b - 1) a o 0 (omega (arith, w)) ∙ get_or-set_same u a b 0 (omega arith) in
    let counted : get_or v (b - 1) 0 ≡ o = g.below (b - 1) (omega arith) ∙ get_or-set_same (set u a b) (b - 1) o 0 (omega arith) in
    let place : b ≡ a + (head_length c + size p) = omega arith in
    record {
      long = g.long ∙ length-set (set u a b) (b - 1) o ∙ k ∙ f.long;
      marked =
          (marked-two v base a xs c e p q).0 (
            (own ∙ place, ap (λ (i : ℕ). get_or v (i - 1) 0) (sym place) ∙ counted),
            local u v base (a + head_length c) p r (λ i k h. kept i (omega arith) (omega arith) (omega arith)) f.marked,
            rw place at g.marked,
          );
      below = λ i h. kept i (omega arith) (omega arith) (omega arith) ∙ f.below i (omega arith);
      above = λ i h. g.above i (omega arith) ∙ get_or-set_other (set u a b) (b - 1) i o 0 (omega arith) ∙ get_or-set_other u a i b 0 (omega arith) ∙ f.above i (omega arith);
    }
