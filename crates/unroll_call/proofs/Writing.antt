-- The bytes of each form of a command, from those of its parts.
use Prim.Native.Nat.{ℕ, ◌+◌, ◌-◌, ◌≤◌, ◌<◌}
use mathlib.Core.Path.{◌≡◌, refl, sym, ap, ◌∙◌, subst}
use mathlib.Core.Bool.{true}
use mathlib.Core.Logic.{◌⊎◌, inl, inr}
use mathlib.Core.List.{List, [], ◌∷◌, ◌++◌}
use native.Mathlib.Omega.{arith}
use native.Mathlib.Decide.{ℕ_discrete}
use lib.ListN.{length, get_or}
use Rattle.spec_language.specs.Statement.{Statement, nothing, loop}
use Rattle.spec_sequence.specs.Commands.{Command, operands_of, partCount, litres_fit, head_length, build, bytes_at}
use Rattle.spec_sequence.specs.Amounts.{amount_in, amount_bytes}
use Rattle.spec_sequence.specs.Writer.{bytes_of}
use Rattle.theory_sequence.proofs.Amounts.{amount-read}
use Rattle.theory_sequence.proofs.Table.{byte_of}
use Rattle.layout.specs.Layout.{rest, secondAt, Parts, Two, Lies, Ready, Pair}
use Rattle.theory_language.specs.Ranks.{middle}
use Rattle.layout.proofs.Laid.{ready, taken-apart, begins, command, first-ready, second-ready}
use Rattle.spec_unroll.specs.Unrolled.{copied, unrolled}
use Rattle.unroll_call.specs.Putting.{Put, Room}
use Rattle.unroll_call.proofs.Putting.{put_then, room_first, room_then}
use Rattle.unroll_call.specs.Copying.{CopyReady, CopyPut}
use Rattle.unroll_call.proofs.Copying.{lies_copied}
use Rattle.unroll_call.specs.Writing.{unrolled_bytes, loop_bytes, Writable, Writes, WritableTwo, WritesTwo, WritableLoop, WritesLoop}

pub four_or_five : (x : ℕ) → 4 ≤ x → x < 6 → (x ≡ 4) ⊎ (x ≡ 5)
four_or_five x l m = elim (ℕ_discrete x 4) [ yes e ↦ inl e | no n ↦ inr (omega (arith, l, m, n)) ]

-- ---- the bytes of each command
module _ (a : ℕ) (bs : List ℕ) where
  -- the own bytes of the command, then those of its parts
  abbrev pub OwnLeaf : Command → Type 0
  OwnLeaf k =
      get_or bs 0 0 ≡ byte_of k → litres_fit k (operands_of k bs) ≡ true
      → unrolled_bytes (build k a (operands_of k bs) nothing nothing) ≡ bytes_at 0 (head_length k) bs

  abbrev pub OwnOne : Command → Type 0
  OwnOne k = get_or bs 0 0 ≡ byte_of k → (p : Statement) → unrolled_bytes (build k a (operands_of k bs) p nothing) ≡ bytes_at 0 (head_length k) bs ++ unrolled_bytes p

  abbrev pub OwnTwo : Command → Type 0
  OwnTwo k =
      get_or bs 0 0 ≡ byte_of k → (p q : Statement)
      → unrolled_bytes (build k a (operands_of k bs) p q) ≡ bytes_at 0 (head_length k) bs ++ (unrolled_bytes p ++ unrolled_bytes q)

pub own_nothing : (a : ℕ) (bs : List ℕ) → OwnLeaf a bs Command.nothing
unfolding bytes_of unrolled
own_nothing a bs e g = rw e

own_emit : (a : ℕ) (bs : List ℕ) → OwnLeaf a bs Command.emit
unfolding bytes_of unrolled
own_emit a bs e g = rw e

own_exit : (a : ℕ) (bs : List ℕ) → OwnLeaf a bs Command.exit
unfolding bytes_of unrolled
own_exit a bs e g = rw e

own_setpause : (a : ℕ) (bs : List ℕ) → OwnLeaf a bs Command.setpause
unfolding bytes_of unrolled
own_setpause a bs e g = rw e

-- 0C: the litres that were read are written with the same bytes
same_litres : (bs : List ℕ) → litres_fit Command.deliver (operands_of Command.deliver bs) ≡ true
    → amount_bytes (amount_in (bytes_at 2 4 bs)) ≡ bytes_at 2 4 bs
same_litres bs g = (amount-read (bytes_at 2 4 bs) refl g).1

pub own_deliver : (a : ℕ) (bs : List ℕ) → OwnLeaf a bs Command.deliver
unfolding bytes_of unrolled
own_deliver a bs e g = rw (same_litres bs g, e)

pub own_signal : (a : ℕ) (bs : List ℕ) → OwnOne a bs Command.signal
unfolding bytes_of unrolled
own_signal a bs e p = rw e

pub own_try : (a : ℕ) (bs : List ℕ) → OwnOne a bs Command.try
unfolding bytes_of unrolled
own_try a bs e p = rw e

pub own_suspend : (a : ℕ) (bs : List ℕ) → OwnOne a bs Command.suspend
unfolding bytes_of unrolled
own_suspend a bs e p = rw e

pub own_seq : (a : ℕ) (bs : List ℕ) → OwnTwo a bs Command.seq
unfolding bytes_of unrolled
own_seq a bs e p q = rw e

pub own_par : (a : ℕ) (bs : List ℕ) → OwnTwo a bs Command.par
unfolding bytes_of unrolled
own_par a bs e p q = rw e

pub own_present : (a : ℕ) (bs : List ℕ) → OwnTwo a bs Command.present
unfolding bytes_of unrolled
own_present a bs e p q = rw e

own_pause : (a : ℕ) (bs : List ℕ) → OwnLeaf a bs Command.pause
unfolding bytes_of unrolled
own_pause a bs e g = rw e

loop_is : (a : ℕ) (p : Statement) → unrolled_bytes (loop a p) ≡ loop_bytes p
unfolding bytes_of unrolled
loop_is a p = refl

-- ---- what is put of a statement is put of the one that it is
put_as : {i r : ℕ} {xs ys b b' : List ℕ} → ys ≡ xs → Put i xs b b' r → Put i ys b b' r
put_as {i} {r} {xs} {ys} {b} {b'} e h = subst (λ (l : List ℕ). Put i l b b' r) (sym e) h

room_as : {i : ℕ} {xs ys b : List ℕ} → xs ≡ ys → Room i (length xs) b → Room i (length ys) b
room_as {i} {xs} {ys} {b} e h = subst (λ (l : List ℕ). Room i (length l) b) e h

-- ---- the commands
module _ {t : List ℕ} {d a : ℕ} {bs : List ℕ} {i : ℕ} {b : List ℕ} (w : Writable t d a bs i b) where
  abbrev r : Ready t d a bs
  r = w.ready

  -- ---- without parts
  leaf-is : (k : Command) → partCount k ≡ 0 → get_or bs 0 0 ≡ byte_of k → (base : ℕ) (p : Statement) → Lies t d base a bs p
      → p ≡ build k a (operands_of k bs) nothing nothing
  leaf-is k z e base p l = subst (λ (n : ℕ). Parts (Lies t (d - 1)) t base a bs p k n) z (taken-apart r base p l k e).parts

  module _ (k : Command) (z : partCount k ≡ 0) (e : get_or bs 0 0 ≡ byte_of k) (own : (a : ℕ) (bs : List ℕ) → OwnLeaf a bs k) where
    leaf-bytes : (base : ℕ) (p : Statement) → Lies t d base a bs p → unrolled_bytes p ≡ bytes_at 0 (head_length k) bs
    leaf-bytes base p l = ap unrolled_bytes (leaf-is k z e base p l) ∙ own a bs e (taken-apart r base p l k e).fit

    pub leaf_room : (head_length k ≤ length bs) × Room i (length (bytes_at 0 (head_length k) bs)) b
    leaf_room = ((begins r k e).there, room_as (leaf-bytes w.base w.p w.lies) w.room)

    pub leaf-writes : {b' : List ℕ} {j : ℕ} → Put i (bytes_at 0 (head_length k) bs) b b' j → Writes t d a bs i b b' j
    leaf-writes h base p l = put_as (leaf-bytes base p l) h

  -- ---- one part
  module _ (k : Command) (z : partCount k ≡ 1) (e : get_or bs 0 0 ≡ byte_of k) where
    one_of : (base : ℕ) (p : Statement) → Lies t d base a bs p
        → (q : Statement) × ((p ≡ build k a (operands_of k bs) q nothing) × Lies t (d - 1) base (a + head_length k) (rest (head_length k) bs) q)
    one_of base p l = subst (λ (n : ℕ). Parts (Lies t (d - 1)) t base a bs p k n) z (taken-apart r base p l k e).parts

    one-ready : (base : ℕ) (q : Statement) → Lies t (d - 1) base (a + head_length k) (rest (head_length k) bs) q → Ready t (d - 1) (a + head_length k) (rest (head_length k) bs)
    one-ready base q l = ready base q r.long l

    module _ (own : (a : ℕ) (bs : List ℕ) → OwnOne a bs k) where
      abbrev inner : Statement
      inner = (one_of w.base w.p w.lies).0

      one-room : Room i (length (bytes_at 0 (head_length k) bs ++ unrolled_bytes inner)) b
      one-room = room_as (ap unrolled_bytes (one_of w.base w.p w.lies).1.0 ∙ own a bs e inner) w.room

      pub one-head : (head_length k ≤ length bs) × Room i (length (bytes_at 0 (head_length k) bs)) b
      one-head = ((begins r k e).there, room_first (bytes_at 0 (head_length k) bs) (unrolled_bytes inner) one-room)

      pub one-writable : {b' : List ℕ} {j : ℕ} → Put i (bytes_at 0 (head_length k) bs) b b' j
          → (head_length k ≤ length bs) × Writable t (d - 1) (a + head_length k) (rest (head_length k) bs) j b'
      one-writable h =
          let y = one_of w.base w.p w.lies in (
            (begins r k e).there,
            record {
              ready = one-ready w.base y.0 y.1.1;
              base = w.base;
              p = y.0;
              lies = y.1.1;
              room = room_then (bytes_at 0 (head_length k) bs) (unrolled_bytes inner) one-room h;
            },
          )

      pub one_writes : {b₁ b₂ : List ℕ} {j m : ℕ} → Put i (bytes_at 0 (head_length k) bs) b b₁ j
          → Writes t (d - 1) (a + head_length k) (rest (head_length k) bs) j b₁ b₂ m → Writes t d a bs i b b₂ m
      one_writes h f base p l =
          let y = one_of base p l in
          put_as (ap unrolled_bytes y.1.0 ∙ own a bs e y.0) (put_then h (f base y.0 y.1.1))

  -- ---- a loop
  module _ (e : get_or bs 0 0 ≡ 6) where
    pub loop-writable : (1 ≤ length bs) × WritableLoop t (d - 1) (a + 1) (rest 1 bs) i b
    loop-writable =
        let y = one_of Command.loop refl e w.base w.p w.lies in (
          (begins r Command.loop e).there,
          record {
            ready = one-ready Command.loop refl e w.base y.0 y.1.1;
            base = w.base;
            p = y.0;
            lies = y.1.1;
            room = room_as (ap unrolled_bytes y.1.0 ∙ loop_is a y.0) w.room;
          },
        )

    pub loop-writes : {b' : List ℕ} {m : ℕ} → WritesLoop t (d - 1) (a + 1) (rest 1 bs) i b b' m → Writes t d a bs i b b' m
    loop-writes f base p l =
        let y = one_of Command.loop refl e base p l in
        put_as (ap unrolled_bytes y.1.0 ∙ loop_is a y.0) (f base y.0 y.1.1)

  -- ---- two parts
  module _ (k : Command) (z : partCount k ≡ 2) (e : get_or bs 0 0 ≡ byte_of k) where
    two-of : (base : ℕ) (p : Statement) → Lies t d base a bs p
        → (q s : Statement) × ((p ≡ build k a (operands_of k bs) q s) × Two (Lies t (d - 1)) t base a (head_length k) bs q s)
    two-of base p l = subst (λ (n : ℕ). Parts (Lies t (d - 1)) t base a bs p k n) z (taken-apart r base p l k e).parts

    module _ (own : (a : ℕ) (bs : List ℕ) → OwnTwo a bs k) where
      abbrev left : Statement
      left = (two-of w.base w.p w.lies).0

      abbrev right : Statement
      right = (two-of w.base w.p w.lies).1

      two-room : Room i (length (bytes_at 0 (head_length k) bs ++ (unrolled_bytes left ++ unrolled_bytes right))) b
      two-room = room_as (ap unrolled_bytes (two-of w.base w.p w.lies).2.0 ∙ own a bs e left right) w.room

      pub two-head : (head_length k ≤ length bs) × Room i (length (bytes_at 0 (head_length k) bs)) b
      two-head = ((begins r k e).there, room_first (bytes_at 0 (head_length k) bs) (unrolled_bytes left ++ unrolled_bytes right) two-room)

      pub two-writable : {b' : List ℕ} {j : ℕ} → Put i (bytes_at 0 (head_length k) bs) b b' j → WritableTwo t (d - 1) a (head_length k) bs j b'
      two-writable h =
          let y = two-of w.base w.p w.lies in
          record {
            pair = record { base = w.base; p = y.0; q = y.1; two = y.2.1; there = (begins r k e).there; long = r.long };
            room = room_then (bytes_at 0 (head_length k) bs) (unrolled_bytes left ++ unrolled_bytes right) two-room h;
          }

      pub two-writes : {b₁ b₂ : List ℕ} {j m : ℕ} → Put i (bytes_at 0 (head_length k) bs) b b₁ j
          → WritesTwo t (d - 1) a (head_length k) bs j b₁ b₂ m → Writes t d a bs i b b₂ m
      two-writes h f base p l =
          let y = two-of base p l in
          put_as (ap unrolled_bytes y.2.0 ∙ own a bs e y.0 y.1) (put_then h (f base y.0 y.1 y.2.1))

  -- ---- signal or suspend
  module _ (e : (get_or bs 0 0 ≡ 8) ⊎ (get_or bs 0 0 ≡ 11)) where
    pub wide-head : (2 ≤ length bs) × Room i (length (bytes_at 0 2 bs)) b
    wide-head = elim e [ inl y ↦ one-head Command.signal refl y own_signal | inr y ↦ one-head Command.suspend refl y own_suspend ]

    pub wide-writable : {b' : List ℕ} {j : ℕ} → Put i (bytes_at 0 2 bs) b b' j → (2 ≤ length bs) × Writable t (d - 1) (a + 2) (rest 2 bs) j b'
    wide-writable h = elim e [ inl y ↦ one-writable Command.signal refl y own_signal h | inr y ↦ one-writable Command.suspend refl y own_suspend h ]

    pub wide-writes : {b₁ b₂ : List ℕ} {j m : ℕ} → Put i (bytes_at 0 2 bs) b b₁ j → Writes t (d - 1) (a + 2) (rest 2 bs) j b₁ b₂ m → Writes t d a bs i b b₂ m
    wide-writes h f = elim e [ inl y ↦ one_writes Command.signal refl y own_signal h f | inr y ↦ one_writes Command.suspend refl y own_suspend h f ]

  -- ---- seq or par
  module _ (e : (get_or bs 0 0 ≡ 4) ⊎ (get_or bs 0 0 ≡ 5)) where
    pub both-head : (1 ≤ length bs) × Room i (length (bytes_at 0 1 bs)) b
    both-head = elim e [ inl y ↦ two-head Command.seq refl y own_seq | inr y ↦ two-head Command.par refl y own_par ]

    pub both-writable : {b' : List ℕ} {j : ℕ} → Put i (bytes_at 0 1 bs) b b' j → WritableTwo t (d - 1) a 1 bs j b'
    both-writable h = elim e [ inl y ↦ two-writable Command.seq refl y own_seq h | inr y ↦ two-writable Command.par refl y own_par h ]

    pub both-writes : {b₁ b₂ : List ℕ} {j m : ℕ} → Put i (bytes_at 0 1 bs) b b₁ j → WritesTwo t (d - 1) a 1 bs j b₁ b₂ m → Writes t d a bs i b b₂ m
    both-writes h f = elim e [ inl y ↦ two-writes Command.seq refl y own_seq h f | inr y ↦ two-writes Command.par refl y own_par h f ]

  -- ---- what is left: pause, emit, exit and setpause
  abbrev pub Others : ℕ → Type 0
  Others x =
      ((((((((Unit {0} × (x ≡ 0 → ⊥)) × (x ≡ 4 → ⊥)) × (x ≡ 5 → ⊥)) × (x ≡ 6 → ⊥)) × (x ≡ 7 → ⊥)) × (x ≡ 8 → ⊥)) × (x ≡ 9 → ⊥))
      × (x ≡ 11 → ⊥)) × (x ≡ 12 → ⊥)

  pub record Other : Type 0 where
    pub there : 2 ≤ length bs
    pub room : Room i 2 b
    pub writes : {b' : List ℕ} {j : ℕ} → Put i (bytes_at 0 2 bs) b b' j → Writes t d a bs i b b' j

  pub other : Others (get_or bs 0 0) → Other
  other z = go (command r).0 (command r).1
    where
      of : (k : Command) → head_length k ≡ 2 → partCount k ≡ 0 → get_or bs 0 0 ≡ byte_of k → ((a : ℕ) (bs : List ℕ) → OwnLeaf a bs k) → Other
      of k v y e own =
          let m = leaf_room k y e own in
          record {
            there = omega (arith, m.0);
            room = subst (λ (n : ℕ). Room i (length (bytes_at 0 n bs)) b) v m.1;
            writes = λ {b'} {j} h. leaf-writes k y e own (subst (λ (n : ℕ). Put i (bytes_at 0 n bs) b b' j) (sym v) h);
          }

      go : (k : Command) → get_or bs 0 0 ≡ byte_of k → Other
      go Command.nothing e = absurd (z.0.0.0.0.0.0.0.0.1 e)
      go Command.pause e = of Command.pause refl refl e own_pause
      go Command.emit e = of Command.emit refl refl e own_emit
      go Command.exit e = of Command.exit refl refl e own_exit
      go Command.seq e = absurd (z.0.0.0.0.0.0.0.1 e)
      go Command.par e = absurd (z.0.0.0.0.0.0.1 e)
      go Command.loop e = absurd (z.0.0.0.0.0.1 e)
      go Command.present e = absurd (z.0.0.0.0.1 e)
      go Command.signal e = absurd (z.0.0.0.1 e)
      go Command.try e = absurd (z.0.0.1 e)
      go Command.setpause e = of Command.setpause refl refl e own_setpause
      go Command.suspend e = absurd (z.0.1 e)
      go Command.deliver e = absurd (z.1 e)

-- ---- the two parts, one behind the other
module _ {t : List ℕ} {d a v : ℕ} {bs : List ℕ} {i : ℕ} {b : List ℕ} (w : WritableTwo t d a v bs i b) where
  abbrev two : Pair t d a v bs
  two = w.pair

  pub first-writable : (v ≤ length bs) × Writable t d (a + v) (rest v bs) i b
  first-writable = (
    two.there,
    record {
      ready = first-ready two;
      base = two.base;
      p = two.p;
      lies = two.two.first;
      room = room_first (unrolled_bytes two.p) (unrolled_bytes two.q) w.room;
    },
  )

  pub second-writable : {b' : List ℕ} {j : ℕ} → Writes t d (a + v) (rest v bs) i b b' j
      → (secondAt t a - a ≤ length bs) × Writable t d (secondAt t a) (rest (secondAt t a - a) bs) j b'
  second-writable f = (
    two.two.within,
    record {
      ready = second-ready two;
      base = middle two.base two.p;
      p = two.q;
      lies = two.two.second;
      room = room_then (unrolled_bytes two.p) (unrolled_bytes two.q) w.room (f two.base two.p two.two.first);
    },
  )

-- ---- a loop
module _ {t : List ℕ} {d a : ℕ} {bs : List ℕ} {i : ℕ} {b : List ℕ} (w : WritableLoop t d a bs i b) where
  abbrev copy : List ℕ
  copy = bytes_of (copied w.p)

  abbrev whole : List ℕ
  whole = unrolled_bytes w.p

  pub loop-room : Room i 2 b
  loop-room = room_first (6 ∷ 4 ∷ []) (copy ++ whole) w.room

  -- the copy, command by command
  pub copy-ready : {b' : List ℕ} {j : ℕ} → Put i (6 ∷ 4 ∷ []) b b' j → CopyReady bs j b'
  copy-ready h =
      record {
        cs = copy;
        copies = lies_copied t d w.base a bs w.p w.lies;
        room = room_first copy whole (room_then (6 ∷ 4 ∷ []) (copy ++ whole) w.room h);
        short = omega (arith, w.ready.fits);
      }

  pub whole-writable : {b₁ b₂ : List ℕ} {j m : ℕ} → Put i (6 ∷ 4 ∷ []) b b₁ j → CopyPut bs j b₁ b₂ m → Writable t d a bs m b₂
  whole-writable h f =
      record {
        ready = w.ready;
        base = w.base;
        p = w.p;
        lies = w.lies;
        room = room_then copy whole (room_then (6 ∷ 4 ∷ []) (copy ++ whole) w.room h) (f copy (lies_copied t d w.base a bs w.p w.lies));
      }

  pub whole-writes : {b₁ b₂ b₃ : List ℕ} {j m r : ℕ} → Put i (6 ∷ 4 ∷ []) b b₁ j → CopyPut bs j b₁ b₂ m → Writes t d a bs m b₂ b₃ r
      → WritesLoop t d a bs i b b₃ r
  whole-writes h f g base p l = put_then h (put_then (f (bytes_of (copied p)) (lies_copied t d base a bs p l)) (g base p l))
