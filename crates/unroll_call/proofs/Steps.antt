-- The numbers of a command of each shape, from what the code finds of its parts.
use Prim.Native.Nat.{ℕ, ◌+◌, ◌-◌, ◌≤◌, max}
use mathlib.Core.Path.{◌≡◌, refl, sym, ◌∙◌}
use mathlib.Core.List.{List}
use native.Mathlib.Omega.{arith}
use lib.ListN.{get_or, length-append}
use Rattle.spec_language.specs.Statement.{Statement, nothing, pause, emit, exit, seq, par, loop, present, signal, try, setpause, suspend, held}
use Rattle.spec_base.specs.Bytes.{le_bytes}
use Rattle.spec_sequence.specs.Commands.{Command, operands_of, partCount, head_length, build}
use Rattle.spec_sequence.specs.Writer.{bytes_of, size}
use Rattle.spec_language.specs.Sizes.{depth_of}
use Rattle.theory_sequence.proofs.Table.{byte_of, leaves, ones, twos}
use Rattle.layout.specs.Layout.{rest, Two, Lies, Ready}
use Rattle.commands.proofs.Shapes.{Shaped, leaf_apart, one_apart, two-apart}
use Rattle.spec_unroll.specs.Unrolled.{copied, unrolled}
use Rattle.unroll_call.specs.declared.sizes.Sizes.{Sizes}
use Rattle.unroll_call.specs.Measured.{capped_bytes, capped_depth, SizesOf, Has, HasTwo, Measured, Few}

-- what a traversal finds was capped
pub few : {t : List ℕ} {d a : ℕ} {bs : List ℕ} {n : Sizes} → Ready t d a bs → Measured t d a bs n → Few n
few r h =
    let k = h r.base r.p r.lies in
    record { copies = omega arith; wholes = omega arith; depths = omega arith }

-- the copy is no deeper
pub copy_depth : (p : Statement) → depth_of (copied p) ≤ depth_of (unrolled p)
unfolding depth_of copied unrolled
copy_depth nothing = omega arith
copy_depth (pause l) = omega arith
copy_depth (emit s v) = omega arith
copy_depth (exit n) = omega arith
copy_depth (seq p q) = omega (arith, copy_depth p, copy_depth q)
copy_depth (par p q) = omega (arith, copy_depth p, copy_depth q)
copy_depth (loop a p) = omega (arith, copy_depth p)
copy_depth (present s p q) = omega (arith, copy_depth p, copy_depth q)
copy_depth (signal sc a s p) = omega (arith, copy_depth p)
copy_depth (try p) = omega (arith, copy_depth p)
copy_depth (setpause l) = omega arith
copy_depth (suspend s p) = omega (arith, copy_depth p)
copy_depth (held s K p) = omega arith

-- ---- the numbers of the commands of each shape
two_bytes : (w x y m n r : ℕ) → m ≡ capped_bytes x → n ≡ capped_bytes y → r ≡ capped_bytes (w + m + n) → r ≡ capped_bytes (w + x + y)
two_bytes w x y m n r h k e = omega arith

two_deep : (x y m n r : ℕ) → m ≡ capped_depth x → n ≡ capped_depth y → r ≡ capped_depth (1 + max m n) → r ≡ capped_depth (1 + max x y)
two_deep x y m n r h k e = omega arith

pub parts_step : (w : ℕ) (p q : Statement) {m n r : Sizes} → Has p m → Has q n
    → SizesOf (w + m.copy + n.copy) (w + m.whole + n.whole) (1 + max m.depth n.depth) r → HasTwo w p q r
parts_step w p q {m} {n} {r} h k s =
    record {
      copies = two_bytes w _ _ m.copy n.copy r.copy h.copies k.copies s.copies;
      wholes = two_bytes w _ _ m.whole n.whole r.whole h.wholes k.wholes s.wholes;
      depths = two_deep _ _ m.depth n.depth r.depth h.depths k.depths s.depths;
    }

-- the bytes of the copy, and the bytes and the depth of what is worked through
abbrev Numbers : Statement → (copy whole depth : ℕ) → Type 0
Numbers p copy whole depth = (size (copied p) ≡ copy) × (size (unrolled p) ≡ whole) × (depth_of (unrolled p) ≡ depth)

module _ (a : ℕ) (xs : List ℕ) where
  leaf-numbers : (c : Command) → partCount c ≡ 0 → Numbers (build c a xs nothing nothing) (head_length c) (head_length c) 1
  unfolding bytes_of le_bytes depth_of copied unrolled
  leaf-numbers =
      leaves (λ (c : Command). Numbers (build c a xs nothing nothing) (head_length c) (head_length c) 1)
      (refl, refl, refl) (refl, refl, refl) (refl, refl, refl) (refl, refl, refl) (refl, refl, refl) (refl, refl, refl)

  module _ (q : Statement) where
    abbrev Around : Command → Type 0
    Around c =
        Numbers (build c a xs q nothing) (head_length c + size (copied q)) (head_length c + size (unrolled q)) (1 + depth_of (unrolled q))

    one-numbers : (c : Command) → partCount c ≡ 1 → (byte_of c ≡ 6 → ⊥) → Around c
    unfolding bytes_of depth_of copied unrolled
    one-numbers = ones (λ (c : Command). (byte_of c ≡ 6 → ⊥) → Around c) (λ n. absurd (n refl)) (λ n. omega arith) (λ n. omega arith) (λ n. omega arith)

    -- written out, a loop and a sequence stand around the copy and the part
    abbrev AroundLoop : Command → Type 0
    AroundLoop c = Numbers (build c a xs q nothing) (size (copied q)) (2 + size (copied q) + size (unrolled q)) (2 + depth_of (unrolled q))

    loop-numbers : (c : Command) → partCount c ≡ 1 → byte_of c ≡ 6 → AroundLoop c
    unfolding bytes_of depth_of copied unrolled
    loop-numbers =
        let e = length-append (bytes_of (copied q)) (bytes_of (unrolled q)) in
        let f = copy_depth q in
        ones (λ (c : Command). byte_of c ≡ 6 → AroundLoop c) (λ b. omega arith)
        (λ b. absurd (omega arith)) (λ b. absurd (omega arith)) (λ b. absurd (omega arith))

  module _ (q q' : Statement) where
    abbrev AroundTwo : Command → Type 0
    AroundTwo c =
        Numbers (build c a xs q q') (head_length c + size (copied q) + size (copied q')) (head_length c + size (unrolled q) + size (unrolled q'))
        (1 + max (depth_of (unrolled q)) (depth_of (unrolled q')))

    two-numbers : (c : Command) → partCount c ≡ 2 → AroundTwo c
    unfolding bytes_of depth_of copied unrolled
    two-numbers =
        let e = length-append (bytes_of (copied q)) (bytes_of (copied q')) in
        let f = length-append (bytes_of (unrolled q)) (bytes_of (unrolled q')) in
        twos AroundTwo (omega arith) (omega arith) (omega arith)

-- ---- the numbers of the statement p that lies at the front of the bytes
module _ {t : List ℕ} {d a : ℕ} {bs : List ℕ} (r : Ready t d a bs) {w : ℕ} (base : ℕ) (p : Statement) (l : Lies t d base a bs p) {n : Sizes} where
  pub leaf_step : Shaped bs 0 w → SizesOf w w 1 n → Has p n
  leaf_step y h =
      let e = leaf-numbers a (operands_of y.c bs) y.c y.parts in
      rw (leaf_apart r y base p l) (record { copies = omega (arith, y.width); wholes = omega (arith, y.width); depths = omega arith })

  module _ (y : Shaped bs 1 w) {m : Sizes} (f : (q : Statement) → Lies t (d - 1) base (a + w) (rest w bs) q → Has q m) where
    pub one-step : (get_or bs 0 0 ≡ 6 → ⊥) → SizesOf (w + m.copy) (w + m.whole) (1 + m.depth) n → Has p n
    one-step o h =
        let z = one_apart r y base p l in
        let k = f z.0 z.1.1 in
        let e = one-numbers a (operands_of y.c bs) z.0 y.c y.parts (λ b. o (y.byte ∙ b)) in
        rw z.1.0 (record { copies = omega (arith, y.width); wholes = omega (arith, y.width); depths = omega arith })

    pub loop-step : get_or bs 0 0 ≡ 6 → SizesOf m.copy (2 + m.copy + m.whole) (2 + m.depth) n → Has p n
    loop-step b h =
        let z = one_apart r y base p l in
        let k = f z.0 z.1.1 in
        let e = loop-numbers a (operands_of y.c bs) z.0 y.c y.parts (sym y.byte ∙ b) in
        rw z.1.0 (record { copies = omega arith; wholes = omega arith; depths = omega arith })

  pub two-step : Shaped bs 2 w → ((q q' : Statement) → Two (Lies t (d - 1)) t base a w bs q q' → HasTwo w q q' n) → Has p n
  two-step y f =
      let z = two-apart r y base p l in
      let k = f z.0 z.1 z.2.1 in
      let e = two-numbers a (operands_of y.c bs) z.0 z.1 y.c y.parts in
      rw z.2.0 (record { copies = omega (arith, y.width); wholes = omega (arith, y.width); depths = omega arith })
