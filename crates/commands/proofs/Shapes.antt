-- A traversal at the command at the front of its bytes, by the shape that the code finds of the first byte: where the parts lie, and
-- how a statement that lies there is taken apart.
use Prim.Native.Nat.{ℕ, ◌+◌, ◌-◌, ◌≤◌}
use mathlib.Core.Path.{◌≡◌, refl, ap, ◌∙◌, subst}
use mathlib.Core.Option.{some}
use mathlib.Core.List.{List}
use native.Mathlib.Omega.{arith}
use lib.ListN.{length, get_or}
use Rattle.spec_language.specs.Statement.{Statement, nothing}
use Rattle.spec_sequence.specs.Commands.{Command, command_of, operands_of, partCount, head_length, build}
use Rattle.theory_sequence.proofs.Table.{byte_of, byte_is, command_of_byte, command_at, at_most-five, ones, twos}
use Rattle.layout.specs.Layout.{rest, Two, Parts, Lies, Ready, Pair}
use Rattle.layout.proofs.Laid.{ready, taken-apart, begins, command}
use Rattle.commands.specs.declared.Shape.{Shape}
use Rattle.commands.specs.declared.Shape.TheVariants.{Leaf}
use Rattle.commands.specs.Shapes.{parts_in, bytes_in, HasShape}

-- ---- the shape of a byte
pub of_byte : (d : Command) {b : ℕ} → b ≡ byte_of d → (c : Command) → command_of b ≡ some c → (partCount c ≡ partCount d) × (head_length c ≡ head_length d)
of_byte d {b} z c e = rw (command_at b c d e z) (refl, refl)

-- by the bytes that it is not: a pause, an emission, an exit or a setpause, if a command
abbrev Others : ℕ → Type 0
Others b =
    ((((((((Unit {0} × (b ≡ 0 → ⊥)) × (b ≡ 4 → ⊥)) × (b ≡ 5 → ⊥)) × (b ≡ 6 → ⊥)) × (b ≡ 7 → ⊥)) × (b ≡ 8 → ⊥)) × (b ≡ 9 → ⊥)) × (b ≡ 11 → ⊥)) × (b ≡ 12 → ⊥)

pub of_others : {b : ℕ} → Others b → HasShape b (Leaf 2)
of_others {b} z c e = go c (byte_is b c e)
  where
    go : (c : Command) → b ≡ byte_of c → (partCount c ≡ 0) × (head_length c ≡ 2)
    go Command.nothing h = absurd (z.0.0.0.0.0.0.0.0.1 h)
    go Command.pause h = (refl, refl)
    go Command.emit h = (refl, refl)
    go Command.exit h = (refl, refl)
    go Command.seq h = absurd (z.0.0.0.0.0.0.0.1 h)
    go Command.par h = absurd (z.0.0.0.0.0.0.1 h)
    go Command.loop h = absurd (z.0.0.0.0.0.1 h)
    go Command.present h = absurd (z.0.0.0.0.1 h)
    go Command.signal h = absurd (z.0.0.0.1 h)
    go Command.try h = absurd (z.0.0.1 h)
    go Command.setpause h = (refl, refl)
    go Command.suspend h = absurd (z.0.1 h)
    go Command.deliver h = absurd (z.1 h)

-- ---- the command c of n parts and w bytes at the front of bs
pub record Shaped (bs : List ℕ) (n w : ℕ) : Type 0 where
  pub c : Command
  pub byte : get_or bs 0 0 ≡ byte_of c
  pub parts : partCount c ≡ n
  pub width : head_length c ≡ w

-- in the arm of a match on the shape h, which is g there
pub found : {t : List ℕ} {d a : ℕ} {bs : List ℕ} (r : Ready t d a bs) {h g : Shape} → HasShape (get_or bs 0 0) h → h ≡ g → Shaped bs (parts_in g) (bytes_in g)
found r k e =
    let c = command r in
    let y = k c.0 (ap command_of c.1 ∙ command_of_byte c.0) in
    record { c = c.0; byte = c.1; parts = y.0 ∙ ap parts_in e; width = y.1 ∙ ap bytes_in e }

pub leaf_small : {bs : List ℕ} {w : ℕ} → Shaped bs 0 w → w ≤ 6
leaf_small y = omega (arith, y.width, at_most-five y.c)

pub one_small : {bs : List ℕ} {w : ℕ} → Shaped bs 1 w → w ≤ 2
one_small y = let h : head_length y.c ≤ 2 = ones (λ (c : Command). head_length c ≤ 2) (omega arith) (omega arith) (omega arith) (omega arith) y.c y.parts in omega (arith, y.width)

pub two_small : {bs : List ℕ} {w : ℕ} → Shaped bs 2 w → w ≤ 2
two_small y = let h : head_length y.c ≤ 2 = twos (λ (c : Command). head_length c ≤ 2) (omega arith) (omega arith) (omega arith) y.c y.parts in omega (arith, y.width)

-- ---- where its parts lie, and a statement that lies there, by its parts
module _ {t : List ℕ} {d a : ℕ} {bs : List ℕ} (r : Ready t d a bs) {w : ℕ} where
  by_parts : {n : ℕ} (y : Shaped bs n w) (base : ℕ) (p : Statement) → Lies t d base a bs p → Parts (Lies t (d - 1)) t base a bs p y.c n
  by_parts y base p l =
      subst (λ (k : ℕ). Parts (Lies t (d - 1)) t base a bs p y.c k) y.parts (taken-apart r base p l y.c y.byte).parts

  pub there : {n : ℕ} → Shaped bs n w → w ≤ length bs
  there y = subst (λ (v : ℕ). v ≤ length bs) y.width (begins r y.c y.byte).there

  pub leaf_apart : (y : Shaped bs 0 w) (base : ℕ) (p : Statement) → Lies t d base a bs p → p ≡ build y.c a (operands_of y.c bs) nothing nothing
  leaf_apart y = by_parts y

  pub one_apart : (y : Shaped bs 1 w) (base : ℕ) (p : Statement) → Lies t d base a bs p
      → (q : Statement) × ((p ≡ build y.c a (operands_of y.c bs) q nothing) × Lies t (d - 1) base (a + w) (rest w bs) q)
  one_apart y base p l =
      let z = by_parts y base p l in
      (z.0, (z.1.0, subst (λ (v : ℕ). Lies t (d - 1) base (a + v) (rest v bs) z.0) y.width z.1.1))

  pub two-apart : (y : Shaped bs 2 w) (base : ℕ) (p : Statement) → Lies t d base a bs p
      → (q q' : Statement) × ((p ≡ build y.c a (operands_of y.c bs) q q') × Two (Lies t (d - 1)) t base a w bs q q')
  two-apart y base p l =
      let z = by_parts y base p l in
      (z.0, z.1, (z.2.0, subst (λ (v : ℕ). Two (Lies t (d - 1)) t base a v bs z.0 z.1) y.width z.2.1))

  pub one-ready : Shaped bs 1 w → (w ≤ length bs) × Ready t (d - 1) (a + w) (rest w bs)
  one-ready y = let z = one_apart y r.base r.p r.lies in (there y, ready r.base z.0 r.long z.1.1)

  pub two_ready : Shaped bs 2 w → Pair t (d - 1) a w bs
  two_ready y =
      let z = two-apart y r.base r.p r.lies in
      record { base = r.base; p = z.0; q = z.1; two = z.2.1; there = there y; long = r.long }
