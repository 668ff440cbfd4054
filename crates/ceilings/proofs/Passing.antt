-- A statement that lies in the bytes, command by command, where a loop is passed as a whole.
use Prim.Native.Nat.{ℕ, zero, suc, ◌+◌, ◌-◌, ◌≤◌, ◌<◌, max}
use mathlib.Core.Path.{◌≡◌, refl, sym, ap, ap₂, ◌∙◌, subst, subst₂}
use mathlib.Core.Logic.{◌⊎◌, inl, inr}
use mathlib.Core.Option.{Option, none, some}
use mathlib.Core.List.{List}
use native.Mathlib.Omega.{arith}
use lib.ListN.{length, get_or, drop}
use lib.Seq.{drop-drop}
use Rattle.spec_language.specs.Statement.{Statement, nothing}
use Rattle.theory_language.specs.Ranks.{middle}
use Rattle.spec_language.specs.Sizes.{commands, loop_nesting}
use Rattle.spec_sequence.specs.Commands.{Command, command_of, operands_of, partCount, head_length, build}
use Rattle.spec_sequence.specs.Writer.{size}
use Rattle.theory_sequence.proofs.Table.{leaves, ones, twos, at_most_two}
use Rattle.layout.specs.Layout.{rest, secondAt, Two, Parts, Begins, Form, Lies}
use Rattle.layout.proofs.Parts.{rest-is}
use Rattle.ceilings.proofs.Sizes.{leaf-shape, one-shape, two-shape}

-- ---- the loops that a command puts around its part
abbrev pub repeats : Command → ℕ
repeats Command.nothing = 0
repeats Command.pause = 0
repeats Command.emit = 0
repeats Command.exit = 0
repeats Command.seq = 0
repeats Command.par = 0
repeats Command.loop = 1
repeats Command.present = 0
repeats Command.signal = 0
repeats Command.try = 0
repeats Command.setpause = 0
repeats Command.suspend = 0
repeats Command.deliver = 0

leaf_repeats : (c : Command) → partCount c ≡ 0 → repeats c ≡ 0
leaf_repeats = leaves (λ (c : Command). repeats c ≡ 0) refl refl refl refl refl refl

two_repeats : (c : Command) → partCount c ≡ 2 → repeats c ≡ 0
two_repeats = twos (λ (c : Command). repeats c ≡ 0) refl refl refl

-- a loop, or none
one_kind : (c : Command) → partCount c ≡ 1 → (c ≡ Command.loop) ⊎ (repeats c ≡ 0)
one_kind = ones (λ (c : Command). (c ≡ Command.loop) ⊎ (repeats c ≡ 0)) (inl refl) (inr refl) (inr refl) (inr refl)

one_loops : (a : ℕ) (xs : List ℕ) (c : Command) → partCount c ≡ 1 → (q : Statement) → loop_nesting (build c a xs q nothing) ≡ repeats c + loop_nesting q
unfolding loop_nesting
one_loops a xs =
    ones (λ (c : Command). (q : Statement) → loop_nesting (build c a xs q nothing) ≡ repeats c + loop_nesting q) (λ q. omega arith) (λ q. omega arith) (λ q. omega arith) (λ q. omega arith)

-- ---- one statement alone: whatever lies at the front of the bytes has the same numbers
pub record Same (p q : Statement) : Type 0 where
  pub bytes : size p ≡ size q
  pub count : commands p ≡ commands q
  pub loops : loop_nesting p ≡ loop_nesting q

abbrev Alone : (t : List ℕ) (d : ℕ) → Type 0
Alone t d = (base a : ℕ) (bs : List ℕ) (p : Statement) → Lies t d base a bs p
    → (t' : List ℕ) (d' base' a' : ℕ) (q : Statement) → Lies t' d' base' a' bs q → Same p q

module _ (t : List ℕ) (d : ℕ) (ih : Alone t d) (base a : ℕ) (bs : List ℕ) (p : Statement) (t' : List ℕ) (d' base' a' : ℕ) (q : Statement) where
  same_parts : (c : Command) (k : ℕ) → partCount c ≡ k → Parts (Lies t d) t base a bs p c k → Parts (Lies t' d') t' base' a' bs q c k → Same p q
  same_parts c zero z h g =
      let u = leaf-shape a (operands_of c bs) c z in
      let v = leaf-shape a' (operands_of c bs) c z in
      rw (h, g) (record { bytes = u.0 ∙ sym v.0; count = u.1 ∙ sym v.1; loops = u.2 ∙ sym v.2 })
  same_parts c (suc zero) z h g =
      let u = one-shape a (operands_of c bs) c z h.0 in
      let v = one-shape a' (operands_of c bs) c z g.0 in
      let m = one_loops a (operands_of c bs) c z h.0 in
      let n = one_loops a' (operands_of c bs) c z g.0 in
      let i = ih _ _ _ h.0 h.1.1 t' d' _ _ g.0 g.1.1 in
      rw (h.1.0, g.1.0) (record { bytes = omega (arith, u.0, v.0, i.bytes); count = omega (arith, u.1, v.1, i.count); loops = omega (arith, m, n, i.loops) })
  same_parts c (suc (suc k)) z h g =
      let z' : partCount c ≡ 2 = omega (arith, z, at_most_two c) in
      let u = two-shape a (operands_of c bs) c z' h.0 h.1 in
      let v = two-shape a' (operands_of c bs) c z' g.0 g.1 in
      let x = h.2.1 in
      let y = g.2.1 in
      let i = ih _ _ _ h.0 x.first t' d' _ _ g.0 y.first in
      let e : secondAt t' a' - a' ≡ secondAt t a - a = omega (arith, x.place, y.place, i.bytes) in
      let j = ih _ _ _ h.1 x.second t' d' _ _ g.1
      (subst (λ (o : ℕ). Lies t' d' (middle base' g.0) (secondAt t' a') (rest o bs) g.1) e y.second) in
      rw (h.2.0, g.2.0) (record { bytes = omega (arith, u.0, v.0, i.bytes, j.bytes); count = omega (arith, u.1, v.1, i.count, j.count); loops = omega (arith, u.2, v.2, i.loops, j.loops) })

  same-form : (o : Option Command) → Form (Lies t d) t base a bs p o → Form (Lies t' d') t' base' a' bs q o → Same p q
  same-form none f g = absurd f
  same-form (some c) f g = same_parts c (partCount c) refl f.parts g.parts

pub same : (t : List ℕ) (d : ℕ) → Alone t d
unfolding Lies
same t zero base a bs p l t' d' base' a' q g = absurd l
same t (suc d) base a bs p l t' zero base' a' q g = absurd g
same t (suc d) base a bs p l t' (suc d') base' a' q g = same-form t d (same t d) base a bs p t' d' base' a' q (command_of (get_or bs 0 0)) l.form g.form

-- ---- k statements at the front of bs, one behind the other, in z bytes: they have n commands, and m is the most loops around one
pub data Pass : (depth k : ℕ) (bs : List ℕ) (z n m : ℕ) → Type 0 where
  done : {depth : ℕ} {bs : List ℕ} → Pass depth 0 bs 0 0 0
  next : {depth k : ℕ} {bs : List ℕ} {z n m : ℕ} (c : Command) → command_of (get_or bs 0 0) ≡ some c → repeats c ≡ 0 → head_length c ≤ length bs
      → Pass depth (partCount c + k) (drop (head_length c) bs) z n m → Pass depth (suc k) bs (head_length c + z) (suc n) m
  into : {depth k : ℕ} {bs : List ℕ} {z n m : ℕ} → command_of (get_or bs 0 0) ≡ some Command.loop → 1 ≤ length bs
      → (t : List ℕ) (d base a : ℕ) (q : Statement) → d < depth → Lies t d base a (rest 1 bs) q
      → Pass depth k (drop (1 + size q) bs) z n m → Pass depth (suc k) bs (1 + size q + z) (1 + commands q + n) (max (1 + loop_nesting q) m)

abbrev PassesOn : (depth d : ℕ) (bs : List ℕ) → Statement → Type 0
PassesOn depth d bs p =
    (k z n m : ℕ) → d ≤ depth → Pass depth k (drop (size p) bs) z n m → Pass depth (suc k) bs (size p + z) (commands p + n) (max (loop_nesting p) m)

-- what is behind the first j bytes and then the first i
behind : (depth j i : ℕ) {k o z n m : ℕ} (bs : List ℕ) → o ≡ j + i → Pass depth k (drop o bs) z n m → Pass depth k (drop i (rest j bs)) z n m
behind depth j i {k} {o} {z} {n} {m} bs e c =
    let q : drop o bs ≡ drop i (rest j bs) = ap (λ (o : ℕ). drop o bs) e ∙ sym (drop-drop i j bs) ∙ ap (drop i) (sym (rest-is j bs)) in
    subst (λ (b : List ℕ). Pass depth k b z n m) q c

module _ (depth : ℕ) (t : List ℕ) (d : ℕ) (ih : (base a : ℕ) (bs : List ℕ) (p : Statement) → Lies t d base a bs p → PassesOn depth d bs p)
    (base a : ℕ) (bs : List ℕ) (p : Statement) (c : Command) (e : command_of (get_or bs 0 0) ≡ some c) (there : head_length c ≤ length bs) where
  -- the command that is no loop, then its parts
  led : (k i z n m z' n' m' : ℕ) → repeats c ≡ 0 → i ≡ partCount c + k → Pass depth i (drop (head_length c) bs) z n m
      → head_length c + z ≡ z' → suc n ≡ n' → m ≡ m' → Pass depth (suc k) bs z' n' m'
  led k i z n m z' n' m' r f x g h j =
      subst (λ (o : ℕ). Pass depth (suc k) bs z' n' o) j
      (subst₂ (λ (u v : ℕ). Pass depth (suc k) bs u v m) g h (Pass.next c e r there (subst (λ (o : ℕ). Pass depth o (drop (head_length c) bs) z n m) f x)))

  -- of one part
  module _ (q : Statement) (w : partCount c ≡ 1) (is : p ≡ build c a (operands_of c bs) q nothing) (l : Lies t d base (a + head_length c) (rest (head_length c) bs) q) where
    long : size p ≡ head_length c + size q
    long = ap size is ∙ (one-shape a (operands_of c bs) c w q).0

    many : commands p ≡ 1 + commands q
    many = ap commands is ∙ (one-shape a (operands_of c bs) c w q).1

    deep : loop_nesting p ≡ repeats c + loop_nesting q
    deep = ap loop_nesting is ∙ one_loops a (operands_of c bs) c w q

    by_kind : (c ≡ Command.loop) ⊎ (repeats c ≡ 0) → PassesOn depth (suc d) bs p
    by_kind (inl r) k z n m y x =
        let o : size p ≡ 1 + size q = long ∙ ap (λ (g : Command). head_length g + size q) r in
        let g : loop_nesting p ≡ 1 + loop_nesting q = deep ∙ ap (λ (g : Command). repeats g + loop_nesting q) r in
        let u : 1 + size q + z ≡ size p + z = omega (arith, o) in
        let v : 1 + commands q + n ≡ commands p + n = omega (arith, many) in
        let f : max (1 + loop_nesting q) m ≡ max (loop_nesting p) m = omega (arith, g) in
        subst (λ (i : ℕ). Pass depth (suc k) bs (size p + z) (commands p + n) i) f
        (subst₂ (λ (i j : ℕ). Pass depth (suc k) bs i j (max (1 + loop_nesting q) m)) u v
        (Pass.into (e ∙ ap some r) (omega (arith, there)) t d base (a + head_length c) q (omega arith)
        (subst (λ (i : ℕ). Lies t d base (a + head_length c) (rest i bs) q) (ap head_length r) l)
        (subst (λ (i : ℕ). Pass depth k (drop i bs) z n m) o x)))
    by_kind (inr r) k z n m y x =
        let i = ih base _ _ q l k z n m (omega arith) (behind depth (head_length c) (size q) bs long x) in
        let f : max (loop_nesting q) m ≡ max (loop_nesting p) m = omega (arith, deep, r) in
        led k (suc k) (size q + z) (commands q + n) (max (loop_nesting q) m) _ _ _ r (omega (arith, w))
        (subst (λ (b : List ℕ). Pass depth (suc k) b (size q + z) (commands q + n) (max (loop_nesting q) m)) (rest-is (head_length c) bs) i)
        (omega (arith, long)) (omega (arith, many)) f

  by_parts : (i : ℕ) → partCount c ≡ i → Parts (Lies t d) t base a bs p c i → PassesOn depth (suc d) bs p
  by_parts zero w h k z n m y x =
      let s = leaf-shape a (operands_of c bs) c w in
      let u : size p ≡ head_length c = ap size h ∙ s.0 in
      let v : commands p ≡ 1 = ap commands h ∙ s.1 in
      let g : loop_nesting p ≡ 0 = ap loop_nesting h ∙ s.2 in
      let f : m ≡ max (loop_nesting p) m = omega (arith, g) in
      led k k z n m _ _ _ (leaf_repeats c w) (omega (arith, w)) (subst (λ (o : ℕ). Pass depth k (drop o bs) z n m) u x) (omega (arith, u)) (omega (arith, v)) f
  by_parts (suc zero) w h k z n m y x = by_kind h.0 w h.1.0 h.1.1 (one_kind c w) k z n m y x
  by_parts (suc (suc i)) w h k z n m y x =
      let q = h.0 in
      let r = h.1 in
      let two = h.2.1 in
      let w' : partCount c ≡ 2 = omega (arith, w, at_most_two c) in
      let s = two-shape a (operands_of c bs) c w' q r in
      let u : size p ≡ head_length c + (size q + size r) = ap size h.2.0 ∙ s.0 in
      let v : commands p ≡ 1 + commands q + commands r = ap commands h.2.0 ∙ s.1 in
      let g : loop_nesting p ≡ max (loop_nesting q) (loop_nesting r) = ap loop_nesting h.2.0 ∙ s.2 in
      let a₁ : size p ≡ secondAt t a - a + size r = omega (arith, u, two.place) in
      let a₂ : secondAt t a - a ≡ head_length c + size q = omega (arith, two.place) in
      let j = ih _ _ _ r two.second k z n m (omega arith) (behind depth (secondAt t a - a) (size r) bs a₁ x) in
      let m₁ = max (loop_nesting r) m in
      let j' = subst (λ (b : List ℕ). Pass depth (suc k) b (size r + z) (commands r + n) m₁) (rest-is (secondAt t a - a) bs) j in
      let o = ih base _ _ q two.first (suc k) (size r + z) (commands r + n) m₁ (omega arith) (behind depth (head_length c) (size q) bs a₂ j') in
      let m₂ = max (loop_nesting q) m₁ in
      let f : max (loop_nesting q) (max (loop_nesting r) m) ≡ max (loop_nesting p) m = omega (arith, g) in
      led k (suc (suc k)) (size q + (size r + z)) (commands q + (commands r + n)) m₂ _ _ _ (two_repeats c w') (omega (arith, w'))
      (subst (λ (b : List ℕ). Pass depth (suc (suc k)) b (size q + (size r + z)) (commands q + (commands r + n)) m₂) (rest-is (head_length c) bs) o)
      (omega (arith, u)) (omega (arith, v)) f

module _ (depth : ℕ) (t : List ℕ) (d : ℕ) (ih : (base a : ℕ) (bs : List ℕ) (p : Statement) → Lies t d base a bs p → PassesOn depth d bs p)
    (base a : ℕ) (bs : List ℕ) (p : Statement) where
  by_form : (o : Option Command) → command_of (get_or bs 0 0) ≡ o → Form (Lies t d) t base a bs p o → PassesOn depth (suc d) bs p
  by_form none e f = absurd f
  by_form (some c) e f = by_parts depth t d ih base a bs p c e f.there (partCount c) refl f.parts

passed_then : (depth : ℕ) (t : List ℕ) (d base a : ℕ) (bs : List ℕ) (p : Statement) → Lies t d base a bs p → PassesOn depth d bs p
unfolding Lies
passed_then depth t zero base a bs p l = absurd l
passed_then depth t (suc d) base a bs p l = by_form depth t d (passed_then depth t d) base a bs p (command_of (get_or bs 0 0)) refl l.form

pub lies_passed : (depth : ℕ) (t : List ℕ) (d base a : ℕ) (bs : List ℕ) (p : Statement) → d ≤ depth → Lies t d base a bs p
    → Pass depth 1 bs (size p) (commands p) (loop_nesting p)
lies_passed depth t d base a bs p h l =
    let e : size p + 0 ≡ size p = omega arith in
    let f : commands p + 0 ≡ commands p = omega arith in
    let g : max (loop_nesting p) 0 ≡ loop_nesting p = omega arith in
    subst (λ (o : ℕ). Pass depth 1 bs (size p) (commands p) o) g
    (subst₂ (λ (i j : ℕ). Pass depth 1 bs i j (max (loop_nesting p) 0)) e f (passed_then depth t d base a bs p l 0 0 0 0 h Pass.done))
