-- Command by command the bytes of a copy are those of the copied statement.
use Prim.Native.Nat.{ℕ, zero, suc, ◌+◌, ◌-◌, ◌≤◌, ◌<◌}
use mathlib.Core.Path.{◌≡◌, refl, sym, ap, ap₂, ◌∙◌, subst, subst₂}
use mathlib.Core.Bool.{true}
use mathlib.Core.Option.{Option, none, some}
use mathlib.Core.List.{List, [], ◌∷◌, ◌++◌, append_assoc, append-nil}
use native.Mathlib.Omega.{arith}
use lib.ListN.{length, get_or, drop, length-drop, length-append}
use lib.Seq.{get_or-drop, drop-drop}
use Rattle.std.specs.Prelude as std
use Rattle.std.specs.Option.{unwrap_or}
use Rattle.spec_base.specs.Limits.{max_bytes}
use Rattle.spec_base.specs.Bytes.{le_bytes}
use Rattle.spec_language.specs.Statement.{Statement, nothing}
use Rattle.spec_sequence.specs.Commands.{Command, command_of, operandCount, partCount, operands_of, litres_fit, head_length, bytes_at, build}
use Rattle.spec_sequence.specs.Writer.{bytes_of, size}
use Rattle.theory_sequence.proofs.Amounts.{amount-read}
use Rattle.theory_sequence.proofs.Table.{byte_of, byte_is, leaves, ones, twos, at_most_two, many}
use Rattle.layout.specs.Layout.{rest, secondAt, Parts, Form, Lies}
use Rattle.layout.proofs.Parts.{rest-is}
use Rattle.commands.specs.Counts.{counted, count_of}
use Rattle.spec_unroll.specs.Unrolled.{copied}
use Rattle.unroll_call.specs.Putting.{Put, Room, copied_head, Copyable}
use Rattle.unroll_call.proofs.Putting.{put_then, room_first, room_then}
use Rattle.unroll_call.specs.Copying.{Copies, CopyReady, CopyPut}

-- ---- the copy of each command, by those of its parts
module _ (a : ℕ) (bs : List ℕ) where
  abbrev head : Command → List ℕ
  head c = copied_head (get_or bs 0 0) (operands_of c bs)

  abbrev LeafCopy : Command → Type 0
  LeafCopy c =
      get_or bs 0 0 ≡ byte_of c → litres_fit c (operands_of c bs) ≡ true
      → bytes_of (copied (build c a (operands_of c bs) nothing nothing)) ≡ head c

  abbrev OneCopy : Command → Type 0
  OneCopy c = get_or bs 0 0 ≡ byte_of c → (p : Statement) → bytes_of (copied (build c a (operands_of c bs) p nothing)) ≡ head c ++ bytes_of (copied p)

  abbrev TwoCopy : Command → Type 0
  TwoCopy c =
      get_or bs 0 0 ≡ byte_of c → (p q : Statement)
      → bytes_of (copied (build c a (operands_of c bs) p q)) ≡ head c ++ (bytes_of (copied p) ++ bytes_of (copied q))

  leaf-copy : (c : Command) → partCount c ≡ 0 → LeafCopy c
  unfolding bytes_of copied
  leaf-copy =
      leaves LeafCopy (λ e g. rw e) (λ e g. rw e) (λ e g. rw e) (λ e g. rw e) (λ e g. rw e) (λ e g. rw ((amount-read (bytes_at 2 4 bs) refl g).1, e))

  one-copy : (c : Command) → partCount c ≡ 1 → OneCopy c
  unfolding bytes_of copied
  one-copy = ones OneCopy (λ e p. rw e) (λ e p. rw e) (λ e p. rw e) (λ e p. rw e)

  two-copy : (c : Command) → partCount c ≡ 2 → TwoCopy c
  unfolding bytes_of copied
  two-copy = twos TwoCopy (λ e p q. rw e) (λ e p q. rw e) (λ e p q. rw e)

module _ (a : ℕ) (xs : List ℕ) where
  leaf-size : (c : Command) → partCount c ≡ 0 → size (build c a xs nothing nothing) ≡ head_length c
  unfolding bytes_of le_bytes
  leaf-size = leaves (λ (c : Command). size (build c a xs nothing nothing) ≡ head_length c) refl refl refl refl refl refl

  one_size : (c : Command) → partCount c ≡ 1 → (p : Statement) → size (build c a xs p nothing) ≡ head_length c + size p
  unfolding bytes_of
  one_size =
      ones (λ (c : Command). (p : Statement) → size (build c a xs p nothing) ≡ head_length c + size p)
      (λ p. omega arith) (λ p. omega arith) (λ p. omega arith) (λ p. omega arith)

  two_size : (c : Command) → partCount c ≡ 2 → (p q : Statement) → size (build c a xs p q) ≡ head_length c + size p + size q
  unfolding bytes_of
  two_size =
      twos (λ (c : Command). (p q : Statement) → size (build c a xs p q) ≡ head_length c + size p + size q)
      (λ p q. omega (arith, length-append (bytes_of p) (bytes_of q)))
      (λ p q. omega (arith, length-append (bytes_of p) (bytes_of q)))
      (λ p q. omega (arith, length-append (bytes_of p) (bytes_of q)))

-- ---- a statement encoded in the bytes, and n more behind it
abbrev Copied : (bs : List ℕ) → Statement → Type 0
Copied bs p = (n : ℕ) (cs : List ℕ) → Copies n (drop (size p) bs) cs → Copies (suc n) bs (bytes_of (copied p) ++ cs)

-- what is behind the first j bytes and then the first k
behind : (j k : ℕ) {n m : ℕ} (bs : List ℕ) {cs : List ℕ} → m ≡ j + k → Copies n (drop m bs) cs → Copies n (drop k (rest j bs)) cs
behind j k {n} {m} bs {cs} e c =
    let q : drop m bs ≡ drop k (rest j bs) = ap (λ (o : ℕ). drop o bs) e ∙ sym (drop-drop k j bs) ∙ ap (drop k) (sym (rest-is j bs)) in
    subst (λ (l : List ℕ). Copies n l cs) q c

module _ (t : List ℕ) (d : ℕ) (ih : (base a : ℕ) (bs : List ℕ) (p : Statement) → Lies t d base a bs p → Copied bs p)
    (base a : ℕ) (bs : List ℕ) (p : Statement) (c : Command) (e : command_of (get_or bs 0 0) ≡ some c) (there : head_length c ≤ length bs)
    (fit : litres_fit c (operands_of c bs) ≡ true) where
  abbrev own : List ℕ
  own = copied_head (get_or bs 0 0) (operands_of c bs)

  -- the command, then its parts
  led : (n m : ℕ) (xs cs : List ℕ) → m ≡ partCount c + n → bytes_of (copied p) ≡ own ++ xs → Copies m (drop (head_length c) bs) (xs ++ cs)
      → Copies (suc n) bs (bytes_of (copied p) ++ cs)
  led n m xs cs z q h =
      subst (λ (l : List ℕ). Copies (suc n) bs l) (sym (append_assoc own xs cs) ∙ ap (λ (l : List ℕ). l ++ cs) (sym q))
      (Copies.next c e there (subst (λ (o : ℕ). Copies o (drop (head_length c) bs) (xs ++ cs)) z h))

  by_parts : (k : ℕ) → partCount c ≡ k → Parts (Lies t d) t base a bs p c k → Copied bs p
  by_parts zero z h n cs y =
      let s = ap size h ∙ leaf-size a (operands_of c bs) c z in
      let q : bytes_of (copied p) ≡ own ++ [] = ap (λ (o : Statement). bytes_of (copied o)) h ∙ leaf-copy a bs c z (byte_is _ c e) fit ∙ sym (append-nil own) in
      led n n [] cs (omega (arith, z)) q (subst (λ (o : ℕ). Copies n (drop o bs) cs) s y)
  by_parts (suc zero) z h n cs y =
      let s = ap size h.1.0 ∙ one_size a (operands_of c bs) c z h.0 in
      let q = ap (λ (o : Statement). bytes_of (copied o)) h.1.0 ∙ one-copy a bs c z (byte_is _ c e) h.0 in
      let i = ih base _ _ h.0 h.1.1 n cs (behind (head_length c) (size h.0) bs s y) in
      led n (suc n) (bytes_of (copied h.0)) cs (omega (arith, z)) q
      (subst (λ (l : List ℕ). Copies (suc n) l (bytes_of (copied h.0) ++ cs)) (rest-is (head_length c) bs) i)
  by_parts (suc (suc k)) z h n cs y =
      let u = h.0 in
      let v = h.1 in
      let two = h.2.1 in
      let w : partCount c ≡ 2 = omega (arith, z, at_most_two c) in
      let s = ap size h.2.0 ∙ two_size a (operands_of c bs) c w u v in
      let q = ap (λ (o : Statement). bytes_of (copied o)) h.2.0 ∙ two-copy a bs c w (byte_is _ c e) u v in
      let o : size p ≡ secondAt t a - a + size v = omega (arith, s, two.place) in
      let j = ih _ _ _ v two.second n cs (behind (secondAt t a - a) (size v) bs o y) in
      let x : secondAt t a - a ≡ head_length c + size u = omega (arith, two.place) in
      let i = ih base _ _ u two.first (suc n) (bytes_of (copied v) ++ cs)
      (behind (head_length c) (size u) bs x (subst (λ (l : List ℕ). Copies (suc n) l (bytes_of (copied v) ++ cs)) (rest-is (secondAt t a - a) bs) j)) in
      led n (suc (suc n)) (bytes_of (copied u) ++ bytes_of (copied v)) cs (omega (arith, w)) q
      (subst₂ (λ (l m : List ℕ). Copies (suc (suc n)) l m) (rest-is (head_length c) bs) (sym (append_assoc (bytes_of (copied u)) (bytes_of (copied v)) cs)) i)

module _ (t : List ℕ) (d : ℕ) (ih : (base a : ℕ) (bs : List ℕ) (p : Statement) → Lies t d base a bs p → Copied bs p)
    (base a : ℕ) (bs : List ℕ) (p : Statement) where
  by_form : (o : Option Command) → command_of (get_or bs 0 0) ≡ o → Form (Lies t d) t base a bs p o → Copied bs p
  by_form none e f = absurd f
  by_form (some c) e f = by_parts t d ih base a bs p c e f.there f.fit (partCount c) refl f.parts

copied_then : (t : List ℕ) (d base a : ℕ) (bs : List ℕ) (p : Statement) → Lies t d base a bs p → Copied bs p
unfolding Lies
copied_then t zero base a bs p l = absurd l
copied_then t (suc d) base a bs p l = by_form t d (copied_then t d) base a bs p (command_of (get_or bs 0 0)) refl l.form

-- the bytes of the copied statement, command by command
pub lies_copied : (t : List ℕ) (d base a : ℕ) (bs : List ℕ) (p : Statement) → Lies t d base a bs p → Copies 1 bs (bytes_of (copied p))
lies_copied t d base a bs p l =
    subst (λ (l : List ℕ). Copies 1 bs l) (append-nil (bytes_of (copied p))) (copied_then t d base a bs p l 0 [] Copies.done)

-- ---- one copy alone
pub same_copies : {n : ℕ} {bs cs ds : List ℕ} → Copies n bs cs → Copies n bs ds → cs ≡ ds
same_copies Copies.done Copies.done = refl
same_copies (Copies.next {n} {bs} {cs} c e h x) (Copies.next {cs = ds} k f g y) =
    let q : k ≡ c = (let z : some k ≡ some c = sym f ∙ e in cc) in
    let i = same_copies x (subst (λ (o : Command). Copies (partCount o + n) (drop (head_length o) bs) ds) q y) in
    ap (λ (l : List ℕ). copied_head (get_or bs 0 0) (operands_of c bs) ++ l) i ∙ ap (λ (o : Command). copied_head (get_or bs 0 0) (operands_of o bs) ++ ds) (sym q)

-- each statement has a byte
enough : {n : ℕ} {bs cs : List ℕ} → Copies n bs cs → n ≤ length bs
enough Copies.done = omega arith
enough (Copies.next {n} {bs} {cs} c e h x) = omega (arith, enough x, h, length-drop (head_length c) bs)

-- ---- the loop: what is left to copy gives the rest of the copy
bytes_behind : (i n a : ℕ) (s : List ℕ) → bytes_at i n (drop a s) ≡ bytes_at (a + i) n s
bytes_behind i zero a s = refl
bytes_behind i (suc n) a s =
    let e : a + suc i ≡ suc (a + i) = omega arith in
    ap₂ (λ (x : ℕ) (l : List ℕ). x ∷ l) (get_or-drop a s i 0) (bytes_behind (suc i) n a s ∙ ap (λ (k : ℕ). bytes_at k n s) e)

pub record Left (s : List ℕ) (i : ℕ) (b₀ : List ℕ) (at to left : ℕ) (b : List ℕ) : Type 0 where
  pub cs : List ℕ
  pub copies : Copies left (drop at s) cs
  pub room : Room to (length cs) b
  pub short : length s ≤ max_bytes + 1
  pub gives : (b' : List ℕ) (r : ℕ) → Put to cs b b' r → CopyPut (rest 1 s) i b₀ b' r

pub starts : {s : List ℕ} {i : ℕ} {b : List ℕ} → CopyReady (rest 1 s) i b → Left s i b 1 i 1 b
starts {s} {i} {b} w =
    record {
      cs = w.cs;
      copies = subst (λ (l : List ℕ). Copies 1 l w.cs) (rest-is 1 s) w.copies;
      room = w.room;
      short = let e = ap length (rest-is 1 s) ∙ length-drop 1 s in omega (arith, w.short, e);
      gives = λ b' r h ds c. subst (λ (l : List ℕ). Put i l b b' r) (same_copies w.copies c) h;
    }

-- the next command
pub record Next (n : ℕ) (bs cs : List ℕ) : Type 0 where
  pub c : Command
  pub ds : List ℕ
  pub byte : command_of (get_or bs 0 0) ≡ some c
  pub there : head_length c ≤ length bs
  pub bytes : cs ≡ copied_head (get_or bs 0 0) (operands_of c bs) ++ ds
  pub more : Copies (partCount c + (n - 1)) (drop (head_length c) bs) ds

pub next : {n : ℕ} {bs cs : List ℕ} → 0 < n → Copies n bs cs → Next n bs cs
next l Copies.done = absurd (omega arith)
next l (Copies.next {n} {bs} {cs} c e h x) =
    let q : partCount c + n ≡ partCount c + (suc n - 1) = omega arith in
    record { c = c; ds = cs; byte = e; there = h; bytes = refl; more = subst (λ (o : ℕ). Copies o (drop (head_length c) bs) cs) q x }

five : (c : Command) (n : ℕ) → n ≡ operandCount c → 1 < n → n ≡ 5
five c n e l = e ∙ ap operandCount (many c (omega (arith, e, l)))

module _ {s : List ℕ} {i : ℕ} {b₀ : List ℕ} {at to left : ℕ} {b : List ℕ} (w : Left s i b₀ at to left b) (l : 0 < left) where
  abbrev y : Next left (drop at s) w.cs
  y = next l w.copies

  first : get_or (drop at s) 0 0 ≡ get_or s at 0
  first = get_or-drop at s 0 0 ∙ ap (λ (k : ℕ). get_or s k 0) (let e : at + 0 ≡ at = omega arith in e)

  pub command : command_of (get_or s at 0) ≡ some y.c
  command = ap command_of (sym first) ∙ y.byte

  pub here : at < length s
  here = omega (arith, y.there, length-drop at s)

  -- with the counts that the code found
  module _ {n : ℕ} (o : n ≡ operandCount y.c) where
    abbrev own-copy : List ℕ
    own-copy = copied_head (get_or s at 0) (bytes_at (at + 1) n s)

    is : w.cs ≡ own-copy ++ y.ds
    is = y.bytes
        ∙ ap₂ (λ (x : ℕ) (l : List ℕ). copied_head x l ++ y.ds) first
        (bytes_behind 1 (operandCount y.c) at s ∙ ap (λ (k : ℕ). bytes_at (at + 1) k s) (sym o))

    pub inside : at + (1 + n) ≤ length s
    inside = omega (arith, y.there, length-drop at s, o)

    both : Room to (length (own-copy ++ y.ds)) b
    both = subst (λ (l : List ℕ). Room to (length l) b) is w.room

    pub copyable : Copyable at n s to b
    copyable = record { there = inside; count = five y.c n o; room = room_first own-copy y.ds both }

    abbrev after : ℕ
    after = at + 1 + n

    module _ {m : ℕ} (p : m ≡ partCount y.c) where
      behind-copies : Copies (left - 1 + m) (drop after s) y.ds
      behind-copies =
          let e : partCount y.c + (left - 1) ≡ left - 1 + m = omega (arith, p) in
          let f : at + head_length y.c ≡ after = omega (arith, o) in
          subst₂ (λ (k : ℕ) (l : List ℕ). Copies k l y.ds) e (drop-drop (head_length y.c) at s ∙ ap (λ (k : ℕ). drop k s) f) y.more

      pub few : left - 1 + m ≤ max_bytes + 1
      few = omega (arith, enough behind-copies, length-drop after s, w.short)

      pub goes_on : {b₁ : List ℕ} {j : ℕ} → Put to own-copy b b₁ j → Left s i b₀ after j (left - 1 + m) b₁
      goes_on {b₁} {j} h =
          record {
            cs = y.ds;
            copies = behind-copies;
            room = room_then own-copy y.ds both h;
            short = w.short;
            gives = λ b' r k. w.gives b' r (subst (λ (l : List ℕ). Put to l b b' r) (sym is) (put_then h k));
          }

-- no statement is left
pub ends : {s : List ℕ} {i : ℕ} {b₀ : List ℕ} {at to left : ℕ} {b : List ℕ} → Left s i b₀ at to left b → left ≤ 0 → CopyPut (rest 1 s) i b₀ b to
ends {to = to} {left = left} {b = b} w z = w.gives b to (over w.copies z)
  where
    over : {n : ℕ} {bs cs : List ℕ} → Copies n bs cs → n ≤ 0 → Put to cs b b to
    over Copies.done l = record { after = refl; end = omega arith }
    over (Copies.next c e h x) l = absurd (omega arith)

-- what the counts of a byte's command are
pub counted_as : (f : Command → ℕ) (b : ℕ) {c : Command} {k : std.Option ℕ} → command_of b ≡ some c → k ≡ count_of (counted f (command_of b))
    → {n : ℕ} → n ≡ unwrap_or k 0 → n ≡ f c
counted_as f b e h g = g ∙ ap (λ (k : std.Option ℕ). unwrap_or k 0) (h ∙ ap (λ (o : Option Command). count_of (counted f o)) e)
