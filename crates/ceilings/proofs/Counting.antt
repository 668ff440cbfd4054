-- The loop that counts: what is left to count gives the numbers of the whole.
use Prim.Native.Nat.{ℕ, zero, suc, ◌+◌, ◌-◌, ◌≤◌, ◌<◌, max}
use mathlib.Core.Path.{◌≡◌, refl, sym, ap, ◌∙◌, subst, subst₂}
use mathlib.Core.Logic.{◌≢◌}
use mathlib.Core.Option.{some}
use mathlib.Core.List.{List}
use native.Mathlib.Omega.{arith}
use lib.ListN.{length, get_or, drop, length-drop}
use lib.Seq.{get_or-drop, drop-drop}
use Rattle.spec_base.specs.Limits.{max_bytes, max_depth}
use Rattle.spec_language.specs.Statement.{Statement}
use Rattle.spec_language.specs.Sizes.{commands, loop_nesting}
use Rattle.spec_sequence.specs.Commands.{Command, command_of, partCount, head_length}
use Rattle.spec_sequence.specs.Writer.{size}
use Rattle.theory_sequence.proofs.Table.{byte_of, byte_is, command_at, at_most_two}
use Rattle.layout.specs.Layout.{rest, Lies}
use Rattle.layout.proofs.Parts.{rest-is}
use Rattle.ceilings.specs.declared.Tally.{Tally}
use Rattle.ceilings.specs.declared.Extent.{Extent}
use Rattle.ceilings.specs.declared.Head.{Head}
use Rattle.ceilings.specs.Extents.{Has, HeadOf, HeadAt, Countable, TallyOf, Tallied, HasWith}
use Rattle.ceilings.proofs.Sizes.{sized}
use Rattle.ceilings.proofs.Passing.{repeats, same, Pass, lies_passed}

-- ---- the invariant
pub record Left (s : List ℕ) (depth at left count loops : ℕ) : Type 0 where
  pub whole : Countable depth s
  pub z : ℕ
  pub n : ℕ
  pub m : ℕ
  pub pass : Pass depth left (drop at s) z n m
  pub ended : at + z ≡ size whole.p
  pub counted : count + n ≡ commands whole.p
  pub deep : max loops m ≡ loop_nesting whole.p
  pub fits : size whole.p ≤ length s
  pub few : commands whole.p ≤ max_bytes
  pub low : loop_nesting whole.p < max_depth

pub starts : {s : List ℕ} {depth : ℕ} → Countable depth s → Left s depth 0 1 0 0
starts {s} {depth} w =
    let y = sized w.t w.d w.base w.a s w.p w.lies in
    record {
      whole = w;
      z = size w.p;
      n = commands w.p;
      m = loop_nesting w.p;
      pass = lies_passed depth w.t w.d w.base w.a s w.p w.levels w.lies;
      ended = omega arith;
      counted = omega arith;
      deep = omega arith;
      fits = y.bytes;
      few = omega (arith, y.bytes, y.count, w.short);
      low = omega (arith, y.loops, w.levels, w.low);
    }

-- each statement has a byte
enough : {depth k : ℕ} {bs : List ℕ} {z n m : ℕ} → Pass depth k bs z n m → k ≤ z
enough Pass.done = omega arith
enough (Pass.next c e r t x) = omega (arith, enough x)
enough (Pass.into e h t d base a q i l x) = omega (arith, enough x)

-- and each statement is a command
some_more : {depth k : ℕ} {bs : List ℕ} {z n m : ℕ} → Pass depth k bs z n m → 0 < k → 0 < n
some_more Pass.done h = absurd (omega arith)
some_more (Pass.next c e r t x) h = omega arith
some_more (Pass.into e t o d base a q i l x) h = omega arith

-- ---- the next command, a loop or none
record Front (bs : List ℕ) : Type 0 where
  pub c : Command
  pub byte : command_of (get_or bs 0 0) ≡ some c
  pub there : head_length c ≤ length bs

front : {depth k : ℕ} {bs : List ℕ} {z n m : ℕ} → 0 < k → Pass depth k bs z n m → Front bs
front h Pass.done = absurd (omega arith)
front h (Pass.next c e r t x) = record { c = c; byte = e; there = t }
front h (Pass.into e t o d base a q i l x) = record { c = Command.loop; byte = e; there = t }

-- one that is no loop
record Flat (depth k : ℕ) (bs : List ℕ) (z n m : ℕ) : Type 0 where
  pub c : Command
  pub byte : command_of (get_or bs 0 0) ≡ some c
  pub i : ℕ
  pub j : ℕ
  pub pass : Pass depth (partCount c + (k - 1)) (drop (head_length c) bs) i j m
  pub ended : z ≡ head_length c + i
  pub counted : n ≡ suc j

flat : {depth k : ℕ} {bs : List ℕ} {z n m : ℕ} → 0 < k → get_or bs 0 0 ≢ 6 → Pass depth k bs z n m → Flat depth k bs z n m
flat h f Pass.done = absurd (omega arith)
flat {depth} h f (Pass.next {k = k} {bs} {z} {n} {m} c e r t x) =
    let g : partCount c + k ≡ partCount c + (suc k - 1) = omega arith in
    record { c = c; byte = e; i = z; j = n; pass = subst (λ (o : ℕ). Pass depth o (drop (head_length c) bs) z n m) g x; ended = refl; counted = refl }
flat {bs = bs} h f (Pass.into e t o d base a q i l x) = absurd (f (byte_is (get_or bs 0 0) Command.loop e))

-- a loop
record Loop (depth k : ℕ) (bs : List ℕ) (z n m : ℕ) : Type 0 where
  pub t : List ℕ
  pub d : ℕ
  pub base : ℕ
  pub a : ℕ
  pub q : Statement
  pub less : d < depth
  pub lies : Lies t d base a (rest 1 bs) q
  pub i : ℕ
  pub j : ℕ
  pub l : ℕ
  pub pass : Pass depth (k - 1) (drop (1 + size q) bs) i j l
  pub ended : z ≡ 1 + size q + i
  pub counted : n ≡ 1 + commands q + j
  pub deep : m ≡ max (1 + loop_nesting q) l

looped : {depth k : ℕ} {bs : List ℕ} {z n m : ℕ} → 0 < k → get_or bs 0 0 ≡ 6 → Pass depth k bs z n m → Loop depth k bs z n m
looped h f Pass.done = absurd (omega arith)
looped {bs = bs} h f (Pass.next c e r t x) =
    absurd (let g : repeats c ≡ 1 = ap repeats (command_at (get_or bs 0 0) c Command.loop e f) in omega (arith, r, g))
looped {depth} h f (Pass.into {k = k} {bs} {z} {n} {m} e t o d base a q i l x) =
    let g : k ≡ suc k - 1 = omega arith in
    record {
      t = o;
      d = d;
      base = base;
      a = a;
      q = q;
      less = i;
      lies = l;
      i = z;
      j = n;
      l = m;
      pass = subst (λ (u : ℕ). Pass depth u (drop (1 + size q) bs) z n m) g x;
      ended = refl;
      counted = refl;
      deep = refl;
    }

module _ {s : List ℕ} {depth at left count loops : ℕ} (w : Left s depth at left count loops) (l : 0 < left) where
  abbrev y : Front (drop at s)
  y = front l w.pass

  first : get_or (drop at s) 0 0 ≡ get_or s at 0
  first = get_or-drop at s 0 0 ∙ ap (λ (k : ℕ). get_or s k 0) (let e : at + 0 ≡ at = omega arith in e)

  command : command_of (get_or s at 0) ≡ some y.c
  command = ap command_of (sym first) ∙ y.byte

  pub here : at < length s
  here = omega (arith, y.there, length-drop at s)

  pub one_more : count < max_bytes
  one_more = omega (arith, w.counted, w.few, some_more w.pass l)

  pub few-left : left ≤ max_bytes
  few-left = omega (arith, enough w.pass, w.ended, w.fits, w.whole.short)

  -- with what the code found of the command
  module _ {h : Head} (f : HeadAt (get_or s at 0) h) where
    own : HeadOf y.c h
    own = f y.c command

    pub inside : at + h.bytes ≤ length s
    inside = omega (arith, y.there, length-drop at s, own.0)

    pub on : 0 < h.bytes
    on = omega (arith, own.0)

    -- ---- one that is no loop
    module _ (b : get_or s at 0 ≢ 6) where
      abbrev x : Flat depth left (drop at s) w.z w.n w.m
      x = flat l (λ e. b (sym first ∙ e)) w.pass

      its : HeadOf x.c h
      its = f x.c (ap command_of (sym first) ∙ x.byte)

      flat-done : (k : ℕ) → partCount x.c + (left - 1) ≡ k → Left s depth (at + h.bytes) k (count + 1) loops
      flat-done k e =
          let q : drop (head_length x.c) (drop at s) ≡ drop (at + h.bytes) s =
          drop-drop (head_length x.c) at s ∙ ap (λ (i : ℕ). drop (at + i) s) (sym its.0) in
          record {
            whole = w.whole;
            z = x.i;
            n = x.j;
            m = w.m;
            pass = subst₂ (λ (i : ℕ) (o : List ℕ). Pass depth i o x.i x.j w.m) e q x.pass;
            ended = omega (arith, w.ended, x.ended, its.0);
            counted = omega (arith, w.counted, x.counted);
            deep = w.deep;
            fits = w.fits;
            few = w.few;
            low = w.low;
          }

    no_loop : h.parts ≢ 1 → get_or s at 0 ≢ 6
    no_loop z e = z (own.1 ∙ ap partCount (command_at (get_or s at 0) y.c Command.loop command e))

    pub leaf-done : h.parts ≡ 0 → Left s depth (at + h.bytes) (left - 1) (count + 1) loops
    leaf-done z = let b = no_loop (λ e. absurd (omega (arith, z, e))) in flat-done b (left - 1) (omega (arith, (its b).1, z))

    pub two-done : h.parts ≡ 2 → Left s depth (at + h.bytes) (left + 1) (count + 1) loops
    two-done z = let b = no_loop (λ e. absurd (omega (arith, z, e))) in flat-done b (left + 1) (omega (arith, (its b).1, z, l))

    pub one-done : h.parts ≢ 0 → h.parts ≢ 2 → get_or s at 0 ≢ 6 → Left s depth (at + h.bytes) left (count + 1) loops
    one-done z z' b = flat-done b left (omega (arith, (its b).1, z, z', l, at_most_two (x b).c))

    -- ---- a loop
    module _ (b : get_or s at 0 ≡ 6) where
      abbrev v : Loop depth left (drop at s) w.z w.n w.m
      v = looped l (first ∙ b) w.pass

      one : h.bytes ≡ 1
      one = own.0 ∙ ap head_length (command_at (get_or s at 0) y.c Command.loop command b)

      pub levels : 0 < depth
      levels = omega (arith, v.less)

      same_bytes : rest 1 (drop at s) ≡ rest (at + h.bytes) s
      same_bytes = rest-is 1 (drop at s) ∙ drop-drop 1 at s ∙ ap (λ (i : ℕ). drop (at + i) s) (sym one) ∙ sym (rest-is (at + h.bytes) s)

      lies-there : Lies v.t v.d v.base v.a (rest (at + h.bytes) s) v.q
      lies-there = subst (λ (o : List ℕ). Lies v.t v.d v.base v.a o v.q) same_bytes v.lies

      pub part : Countable (depth - 1) (rest (at + h.bytes) s)
      part =
          record {
            t = v.t;
            d = v.d;
            base = v.base;
            a = v.a;
            p = v.q;
            lies = lies-there;
            levels = omega (arith, v.less);
            low = omega (arith, w.whole.low);
            short = rw (rest-is (at + h.bytes) s) (omega (arith, length-drop (at + h.bytes) s, w.whole.short));
          }

      -- with what the code found of its part
      module _ {r : Tally} (g : Tallied (rest (at + h.bytes) s) r) where
        k : TallyOf v.q r
        k = g v.t v.d v.base v.a v.q lies-there

        pub part-inside : at + h.bytes + r.bytes ≤ length s
        part-inside = omega (arith, w.ended, v.ended, one, k.bytes, w.fits)

        pub part-few : count + 1 + r.commands ≤ max_bytes
        part-few = omega (arith, w.counted, v.counted, k.count, w.few)

        pub part_low : r.loops < max_depth
        part_low = omega (arith, w.deep, v.deep, k.loops, w.low)

        pub loop-done : {o : ℕ} → o ≡ max loops (1 + r.loops) → Left s depth (at + h.bytes + r.bytes) (left - 1) (count + 1 + r.commands) o
        loop-done e =
            let q : drop (1 + size v.q) (drop at s) ≡ drop (at + h.bytes + r.bytes) s =
            drop-drop (1 + size v.q) at s ∙ ap (λ (i : ℕ). drop i s) (let u : at + (1 + size v.q) ≡ at + h.bytes + r.bytes = omega (arith, one, k.bytes) in u) in
            record {
              whole = w.whole;
              z = v.i;
              n = v.j;
              m = v.l;
              pass = subst (λ (o : List ℕ). Pass depth (left - 1) o v.i v.j v.l) q v.pass;
              ended = omega (arith, w.ended, v.ended, one, k.bytes);
              counted = omega (arith, w.counted, v.counted, k.count);
              deep = omega (arith, w.deep, v.deep, k.loops, e);
              fits = w.fits;
              few = w.few;
              low = w.low;
            }

-- ---- no statement is left
none_left : {depth left : ℕ} {bs : List ℕ} {z n m : ℕ} → left ≤ 0 → Pass depth left bs z n m → (z ≡ 0) × (n ≡ 0) × (m ≡ 0)
none_left l Pass.done = (refl, refl, refl)
none_left l (Pass.next c e r t x) = absurd (omega arith)
none_left l (Pass.into e t o d base a q i h x) = absurd (omega arith)

pub ends : {s : List ℕ} {depth at left count loops : ℕ} → Left s depth at left count loops → left ≤ 0
    → {r : Tally} → r.bytes ≡ at → r.commands ≡ count → r.loops ≡ loops → Tallied s r
ends {s} w l e f g t d base a p lies =
    let v = none_left l w.pass in
    let o = w.whole in
    let q = same o.t o.d o.base o.a s o.p o.lies t d base a p lies in
    record {
      bytes = omega (arith, e, w.ended, v.0, q.bytes);
      count = omega (arith, f, w.counted, v.1, q.count);
      loops = omega (arith, g, w.deep, v.2, q.loops);
    }

-- the extent, by the count and the signals
pub extent : (s : List ℕ) {x : ℕ} {n : Tally} {r : Extent} → Tallied s n → r.commands ≡ n.commands → r.loops ≡ n.loops → r.signals ≡ x → HasWith s x r
extent s c e f g t d base a p lies z =
    let k = c t d base a p lies in
    record { count = e ∙ k.count; loops = f ∙ k.loops; signals = g ∙ z }
