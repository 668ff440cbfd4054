-- How great the numbers of a statement are that lies in the bytes.
use Prim.Native.Nat.{ℕ, zero, suc, ◌+◌, ◌≤◌, ◌<◌, max}
use mathlib.Core.Path.{◌≡◌, refl}
use mathlib.Core.Option.{Option, none, some}
use mathlib.Core.List.{List}
use native.Mathlib.Omega.{arith}
use lib.ListN.{length, get_or, length-drop, length-append}
use Rattle.spec_language.specs.Statement.{Statement, nothing, pause, emit, exit, seq, par, loop, present, signal, try, setpause, suspend, held}
use Rattle.spec_language.specs.Sizes.{commands, loop_nesting, signal_nesting}
use Rattle.spec_sequence.specs.Commands.{Command, command_of, operands_of, partCount, head_length, build}
use Rattle.spec_base.specs.Bytes.{le_bytes}
use Rattle.spec_sequence.specs.Writer.{bytes_of, size}
use Rattle.theory_sequence.proofs.Table.{leaves, ones, twos, at_most_two}
use Rattle.layout.specs.Layout.{rest, Parts, Form, Lies}
use Rattle.layout.proofs.Parts.{rest-is}

-- in n bytes, with at most d levels
pub record Sized (d n : ℕ) (p : Statement) : Type 0 where
  pub bytes : size p ≤ n
  pub count : commands p ≤ size p
  pub loops : loop_nesting p < d

-- ---- the shapes of commands
abbrev pub Leaf : (w : ℕ) → Statement → Type 0
Leaf w p = (size p ≡ w) × (commands p ≡ 1) × (loop_nesting p ≡ 0)

abbrev pub One : (w : ℕ) (p q : Statement) → Type 0
One w p q = (size p ≡ w + size q) × (commands p ≡ 1 + commands q) × (loop_nesting p ≤ 1 + loop_nesting q)

abbrev pub Two : (w : ℕ) (p q r : Statement) → Type 0
Two w p q r =
    (size p ≡ w + (size q + size r)) × (commands p ≡ 1 + commands q + commands r) × (loop_nesting p ≡ max (loop_nesting q) (loop_nesting r))

module _ (a : ℕ) (xs : List ℕ) where
  pub leaf-shape : (c : Command) → partCount c ≡ 0 → Leaf (head_length c) (build c a xs nothing nothing)
  unfolding bytes_of le_bytes commands loop_nesting
  leaf-shape =
      leaves (λ (c : Command). Leaf (head_length c) (build c a xs nothing nothing))
      (refl, refl, refl) (refl, refl, refl) (refl, refl, refl) (refl, refl, refl) (refl, refl, refl) (refl, refl, refl)

  pub one-shape : (c : Command) → partCount c ≡ 1 → (q : Statement) → One (head_length c) (build c a xs q nothing) q
  unfolding bytes_of commands loop_nesting
  one-shape =
      ones (λ (c : Command). (q : Statement) → One (head_length c) (build c a xs q nothing) q)
      (λ q. omega arith) (λ q. omega arith) (λ q. omega arith) (λ q. omega arith)

  pub two-shape : (c : Command) → partCount c ≡ 2 → (q r : Statement) → Two (head_length c) (build c a xs q r) q r
  unfolding bytes_of commands loop_nesting
  two-shape =
      twos (λ (c : Command). (q r : Statement) → Two (head_length c) (build c a xs q r) q r)
      (λ q r. omega (arith, length-append (bytes_of q) (bytes_of r)))
      (λ q r. omega (arith, length-append (bytes_of q) (bytes_of r)))
      (λ q r. omega (arith, length-append (bytes_of q) (bytes_of r)))

-- ---- at one command, by what is known of its parts
rest-length : (n : ℕ) (bs : List ℕ) → n ≤ length bs → length (rest n bs) + n ≡ length bs
rest-length n bs h = rw (rest-is n bs) (omega (arith, length-drop n bs))

module _ (t : List ℕ) (d : ℕ) (ih : (base a : ℕ) (bs : List ℕ) (p : Statement) → Lies t d base a bs p → Sized d (length bs) p)
    (base a : ℕ) (bs : List ℕ) (p : Statement) (c : Command) (there : head_length c ≤ length bs) where
  by_parts : (n : ℕ) → partCount c ≡ n → Parts (Lies t d) t base a bs p c n → Sized (suc d) (length bs) p
  by_parts zero z h =
      let s = leaf-shape a (operands_of c bs) c z in
      rw h (record { bytes = omega arith; count = omega arith; loops = omega arith })
  by_parts (suc zero) z h =
      let s = one-shape a (operands_of c bs) c z h.0 in
      let i = ih base (a + head_length c) (rest (head_length c) bs) h.0 h.1.1 in
      let e = rest-length (head_length c) bs there in
      rw h.1.0 (record { bytes = omega arith; count = omega arith; loops = omega arith })
  by_parts (suc (suc n)) z h =
      let y = h.2.1 in
      let s = two-shape a (operands_of c bs) c (omega (arith, z, at_most_two c)) h.0 h.1 in
      let i = ih base _ _ h.0 y.first in
      let j = ih _ _ _ h.1 y.second in
      let e = rest-length _ bs y.within in
      rw h.2.0 (record { bytes = omega (arith, y.place); count = omega arith; loops = omega arith })

module _ (t : List ℕ) (d : ℕ) (ih : (base a : ℕ) (bs : List ℕ) (p : Statement) → Lies t d base a bs p → Sized d (length bs) p)
    (base a : ℕ) (bs : List ℕ) (p : Statement) where
  by_form : (o : Option Command) → Form (Lies t d) t base a bs p o → Sized (suc d) (length bs) p
  by_form none f = absurd f
  by_form (some c) f = by_parts t d ih base a bs p c f.there (partCount c) refl f.parts

pub sized : (t : List ℕ) (d base a : ℕ) (bs : List ℕ) (p : Statement) → Lies t d base a bs p → Sized d (length bs) p
unfolding Lies
sized t zero base a bs p l = absurd l
sized t (suc d) base a bs p l = by_form t d (sized t d) base a bs p (command_of (get_or bs 0 0)) l.form

-- ---- a loop and a signal are commands, and another command stands inside
pub nested : (p : Statement) → (loop_nesting p < commands p) × (signal_nesting p < commands p)
unfolding commands loop_nesting signal_nesting
nested nothing = omega arith
nested (pause l) = omega arith
nested (emit s v) = omega arith
nested (exit n) = omega arith
nested (seq p q) = omega (arith, nested p, nested q)
nested (par p q) = omega (arith, nested p, nested q)
nested (loop a p) = omega (arith, nested p)
nested (present s p q) = omega (arith, nested p, nested q)
nested (signal sc a s p) = omega (arith, nested p)
nested (try p) = omega (arith, nested p)
nested (setpause l) = omega arith
nested (suspend s p) = omega (arith, nested p)
nested (held s K p) = omega (arith, nested p)
