-- One law for each way out of the reading traversal.
use Prim.Native.Nat.{ℕ, zero, suc, ◌+◌, ◌-◌, ◌*◌, ◌≤◌, ◌<◌}
use mathlib.Core.Path.{◌≡◌, refl, sym, ap, ◌∙◌}
use mathlib.Core.Option.{some}
use mathlib.Core.List.{List}
use native.Mathlib.Omega.{arith}
use lib.ListN.{length, get_or, drop, length-set, length-drop}
use lib.Seq.{drop-drop, get_or-set_other}
use Rattle.spec_language.specs.Statement.{Statement, nothing}
use Rattle.theory_language.specs.Ranks.{middle}
use Rattle.spec_base.specs.Limits.{max_bytes, max_signals}
use Rattle.spec_sequence.specs.Commands.{Command, command_of, operandCount, bytes_at, first_operand, partCount, head_length, declares, build}
use Rattle.spec_sequence.specs.Reader.{Read, accepted, refused, Front, command, bad, front, last_part, first_part, read_parts, read}
use Rattle.spec_sequence.specs.Writer.{size, Ranged}
use Rattle.layout.specs.Layout.{rest, put_second}
use Rattle.layout.specs.Notes.{pauses_counted, note_count, note_signals, note_within}
use Rattle.layout.specs.Walk.{row_unit, head_of, Readable, Notable, LeafNoted, Entered, Done, Fitting, LeafRead, pair_read}
use Rattle.theory_sequence.proofs.Table.{byte_of, command_of_byte, command_at, leaves, ones, twos, undeclared}
use Rattle.layout.proofs.Parts.{rest-is}
use Rattle.theory_sequence.proofs.Front.{Fronted, fronted, Fronts, front-is}
use Rattle.theory_sequence.proofs.Inversion.{refuses_bad, refuses-deep, refuses-crowded, enters}
use Rattle.theory_sequence.proofs.Refusals.{Small, front_small, Rowed, rowed}
use Rattle.theory_sequence.proofs.Sound.{sound, count_within}
use Rattle.layout.proofs.Noting.{noting, count_size}
use Rattle.layout.proofs.Leaves.{notable}
use Rattle.layout.proofs.Marks.{entered_leaf, entered_one, entered_two}

-- ---- what was handed on is readable
pub onward : (g a b n : ℕ) (s t m : List ℕ) → b ≡ a + n → n ≤ length s → a + length s ≤ max_bytes → pauses_counted m ≤ b → length t ≡ max_bytes
    → length m ≡ note_count → g ≤ max_signals → Readable g b (rest n s) t m
onward g a b n s t m e l fits counted long noted allowed =
    let k : length (rest n s) ≡ length s - n = ap length (rest-is n s) ∙ length-drop n s in
    record { fits = omega arith; counted = counted; long = long; noted = noted; allowed = allowed }

pub forward : {g a : ℕ} {s t m : List ℕ} (n : ℕ) → n ≤ length s → Readable g a s t m → Readable g (a + n) (rest n s) t m
forward {g} {a} {s} {t} {m} n l r = onward g a (a + n) n s t m refl l r.fits (omega (arith, r.counted)) r.long r.noted r.allowed

pub again : {g a : ℕ} {s t m : List ℕ} → Readable g a s t m → Readable g a (rest 0 s) t m
again {g} {a} {s} {t} {m} r = onward g a a 0 s t m (omega arith) (omega arith) r.fits r.counted r.long r.noted r.allowed

pub fitting : {g a : ℕ} {s t m : List ℕ} → Readable g a s t m → Fitting a s m
fitting r = record { fits = r.fits; counted = r.counted }

-- a signal is noted, and its part is handed on
same_count : (k : ℕ) (m : List ℕ) → pauses_counted (note_signals k m) ≡ pauses_counted m
unfolding note_signals
same_count k m = get_or-set_other m 6 5 _ 0 (λ e. omega arith)

same_length : (k : ℕ) (m : List ℕ) → length (note_signals k m) ≡ length m
unfolding note_signals
same_length k m = length-set m 6 _

pub within : {g a : ℕ} {s t m n : List ℕ} (w h k : ℕ) → w ≤ length s → h ≤ g → n ≡ note_signals k m → Readable g a s t m → Readable h (a + w) (rest w s) t n
within {g} {a} {s} {t} {m} {n} w h k l below e r =
    let c : pauses_counted n ≡ pauses_counted m = ap pauses_counted e ∙ same_count k m in
    onward h a (a + w) w s t n refl l r.fits (omega (arith, r.counted)) r.long (ap length e ∙ same_length k m ∙ r.noted) (omega (arith, r.allowed))

-- ---- the command at the front, by its head of w bytes
done_refused : (g a : ℕ) (t u m n : List ℕ) (y : Read) (k r : ℕ) → y ≡ refused k → r ≡ k * row_unit → Done g a t u m n y r
done_refused g a t u m n y k r q h = rw q (h, tt)

pub done_bad : (d g a : ℕ) (s t u m n : List ℕ) (w : ℕ) → a + length s ≤ max_bytes → w ≡ head_of (front s) → row_unit ≤ w
    → Done g a t u m n (read d g a s) w
done_bad d g a s t u m n w fits e l = go (front s) refl e
  where
    go : (f : Front) → front s ≡ f → w ≡ head_of f → Done g a t u m n (read d g a s) w
    go (command c xs) q h = absurd (omega (arith, fits, (fronted s c xs q).long))
    go (bad k) q h = done_refused g a t u m n (read d g a s) k w (refuses_bad d g a s k q) h

-- no byte is left
pub done_empty : (d g a : ℕ) (s t u m n : List ℕ) → length s ≡ 0 → Done g a t u m n (read d g a s) (4 * row_unit)
done_empty d g a s t u m n e =
    done_refused g a t u m n (read d g a s) 4 _ (refuses_bad d g a s 4 (front-is s (bad 4) (Fronts.empty e))) refl

pub record Heading (s : List ℕ) (w : ℕ) : Type 0 where
  pub of : Command
  pub operands : List ℕ
  pub stands : front s ≡ command of operands
  pub wide : w ≡ head_length of

pub heading : (s : List ℕ) (w : ℕ) → w ≡ head_of (front s) → w < row_unit → Heading s w
heading s w e l = go (front s) refl e
  where
    go : (f : Front) → front s ≡ f → w ≡ head_of f → Heading s w
    go (command c xs) q h = record { of = c; operands = xs; stands = q; wide = h }
    go (bad k) q h = absurd (omega (arith, front_small s k q))

-- the same of a command whose head_length is known
abbrev pub narrow : {s : List ℕ} {w v : ℕ} (h : Heading s w) → v ≡ head_length h.of → Heading s v
narrow h e = record { of = h.of; operands = h.operands; stands = h.stands; wide = e }

-- ---- what a command notes, by its parts
module _ (k a : ℕ) (xs m : List ℕ) where
  note-one : (c : Command) → partCount c ≡ 1 → declares c ≡ 0 → (p : Statement) → note_within k (build c a xs p nothing) m ≡ note_within k p m
  unfolding note_within
  note-one =
      ones (λ (c : Command). declares c ≡ 0 → (p : Statement) → note_within k (build c a xs p nothing) m ≡ note_within k p m)
      (λ e p. refl) (λ e p. absurd (omega arith)) (λ e p. refl) (λ e p. refl)

  note-signal : (c : Command) → partCount c ≡ 1 → declares c ≡ 1 → (p : Statement)
      → note_within k (build c a xs p nothing) m ≡ note_within (suc k) p (note_signals (suc k) m)
  unfolding note_within
  note-signal =
      ones (λ (c : Command). declares c ≡ 1 → (p : Statement) → note_within k (build c a xs p nothing) m ≡ note_within (suc k) p (note_signals (suc k) m))
      (λ e p. absurd (omega arith)) (λ e p. refl) (λ e p. absurd (omega arith)) (λ e p. absurd (omega arith))

  note-two : (c : Command) → partCount c ≡ 2 → (p q : Statement) → note_within k (build c a xs p q) m ≡ note_within k q (note_within k p m)
  unfolding note_within
  note-two =
      twos (λ (c : Command). (p q : Statement) → note_within k (build c a xs p q) m ≡ note_within k q (note_within k p m))
      (λ p q. refl) (λ p q. refl) (λ p q. refl)

-- a command has two parts, behind its own bytes
same_pair : (c : Command) (a : ℕ) (xs s : List ℕ) (i : ℕ → List ℕ → Read) (y : Read)
    → first_part (λ p m. last_part (λ q. build c a xs p q) (head_length c + m) (i (a + (head_length c + m)) (drop (head_length c + m) s))) y
    ≡ first_part (λ p m. last_part (λ q. build c a xs p q) (head_length c + m) (i (a + (head_length c + m)) (drop m (drop (head_length c) s)))) y
same_pair c a xs s i (accepted p m) =
    ap (λ (bs : List ℕ). last_part (λ q. build c a xs p q) (head_length c + m) (i (a + (head_length c + m)) bs)) (sym (drop-drop m (head_length c) s))
same_pair c a xs s i (refused number) = refl

module _ {s : List ℕ} {w : ℕ} (h : Heading s w) where
  at_front : Fronted s h.of h.operands
  at_front = fronted s h.of h.operands h.stands

  pub byte : command_of (get_or s 0 0) ≡ some h.of
  byte = at_front.byte

  pub head-fits : (1 ≤ w) × (w ≤ length s)
  head-fits = (omega (arith, h.wide), omega (arith, at_front.long, h.wide))

  pub done-deep : (d g a : ℕ) (t u m n : List ℕ) → d ≡ 0 → Done g a t u m n (read d g a s) (6 * row_unit)
  done-deep zero g a t u m n e = done_refused g a t u m n _ 6 _ (refuses-deep g a s h.of h.operands h.stands) refl
  done-deep (suc d) g a t u m n e = absurd (omega arith)

  module _ (d g a : ℕ) (level : d ≡ 0 → ⊥) where
    one-level : read d g a s ≡ read (suc (d - 1)) g a s
    one-level = ap (λ (k : ℕ). read k g a s) (let e : d ≡ suc (d - 1) = omega arith in e)

    pub done-signals : (t u m n : List ℕ) (k : ℕ) → k ≡ declares h.of → g < k → Done g a t u m n (read d g a s) (6 * row_unit)
    done-signals t u m n k e l =
        done_refused g a t u m n (read d g a s) 6 _ (one-level ∙ refuses-crowded g a s h.of h.operands h.stands (d - 1) (omega arith)) refl

    parts_are : (k : ℕ) → k ≡ declares h.of → k ≤ g
        → read d g a s ≡ read_parts (read (d - 1) (g - k)) h.of a h.operands (partCount h.of) s
    parts_are k e l = one-level ∙ enters g a s h.of h.operands h.stands (d - 1) (omega arith) ∙ rw e

    -- a command other than signal
    plain-are : (partCount h.of ≡ 1 → ⊥) → read d g a s ≡ read_parts (read (d - 1) g) h.of a h.operands (partCount h.of) s
    plain-are n =
        let k : g - 0 ≡ g = omega arith in
        parts_are 0 (sym (undeclared h.of signal)) (omega arith) ∙ rw k
      where
        signal : byte_of h.of ≡ 8 → ⊥
        signal e = n (ap partCount (command_at (byte_of h.of) h.of Command.signal (command_of_byte h.of) e))

    pub done-leaf : (t m n : List ℕ) → partCount h.of ≡ 0 → n ≡ note_within (max_signals - g) (build h.of a h.operands nothing nothing) m
        → Done g a t t m n (read d g a s) (a + w)
    done-leaf t m n z e =
        let y : read d g a s ≡ accepted (build h.of a h.operands nothing nothing) (head_length h.of) = plain-are (λ o. omega arith) ∙ rw z in
        rw y (omega (arith, h.wide), (entered_leaf t (pauses_counted m) a h.operands h.of z, e))

    -- the part, of the bytes l, of a command that declares k signals
    module _ (k : ℕ) (e : k ≡ declares h.of) (le : k ≤ g) (z : partCount h.of ≡ 1) (l : List ℕ) (here : l ≡ drop w s) where
      done-part : (t u m i n : List ℕ) (r : ℕ) → pauses_counted i ≡ pauses_counted m
          → ((p : Statement) → note_within (max_signals - g) (build h.of a h.operands p nothing) m ≡ note_within (max_signals - (g - k)) p i)
          → Done (g - k) (a + w) t u i n (read (d - 1) (g - k) (a + w) l) r → Done g a t u m n (read d g a s) r
      done-part t u m i n r counted noted done =
          let c = h.of in
          let part = read (d - 1) (g - k) (a + head_length c) (drop (head_length c) s) in
          let y : read d g a s ≡ last_part (λ p. build c a h.operands p nothing) (head_length c) part = parts_are k e le ∙ rw z in
          rw y (go part (rw (here, h.wide) at done))
        where
          go : (y : Read) → Done (g - k) (a + head_length h.of) t u i n y r
              → Done g a t u m n (last_part (λ p. build h.of a h.operands p nothing) (head_length h.of) y) r
          go (accepted p j) q =
              let f : Entered t u (pauses_counted m) (a + head_length h.of) j p = rw counted at q.1.0 in
              (omega (arith, q.0), (entered_one t u (pauses_counted m) a h.operands h.of p j z f, q.1.1 ∙ sym (noted p)))
          go (refused j) q = q

    pub done-one : partCount h.of ≡ 1 → declares h.of ≡ 0 → (l : List ℕ) → l ≡ drop w s → (t u m n : List ℕ) (r : ℕ)
        → Done g (a + w) t u m n (read (d - 1) g (a + w) l) r → Done g a t u m n (read d g a s) r
    done-one z o l here t u m n r i =
        let same : g - 0 ≡ g = omega arith in
        done-part 0 (sym o) (omega arith) z l here t u m m n r refl
        (λ p. note-one (max_signals - g) a h.operands m h.of z o p ∙ ap (λ (j : ℕ). note_within (max_signals - j) p m) (sym same))
        (rw same i)

    pub done-signal : partCount h.of ≡ 1 → declares h.of ≡ 1 → 1 ≤ g → g ≤ max_signals → (l : List ℕ) → l ≡ drop w s → (t u m i n : List ℕ) (r : ℕ)
        → i ≡ note_signals (max_signals - (g - 1)) m → Done (g - 1) (a + w) t u i n (read (d - 1) (g - 1) (a + w) l) r → Done g a t u m n (read d g a s) r
    done-signal z o le allowed l here t u m i n r noted done =
        let up : suc (max_signals - g) ≡ max_signals - (g - 1) = omega arith in
        done-part 1 (sym o) le z l here t u m i n r (ap pauses_counted noted ∙ same_count (max_signals - (g - 1)) m)
        (λ p. note-signal (max_signals - g) a h.operands m h.of z o p ∙ rw (up, ← noted))
        done

    pub done-pair : partCount h.of ≡ 2 → (l : List ℕ) → l ≡ drop w s → (t u m n : List ℕ) (r : ℕ)
        → ((c : Command) (xs : List ℕ) → partCount c ≡ 2 → w ≡ head_length c → Done g a t u m n (pair_read (read (d - 1) g) c a xs l) r)
        → Done g a t u m n (read d g a s) r
    done-pair z l here t u m n r i =
        let c = h.of in
        let there : l ≡ drop (head_length c) s = here ∙ ap (λ (i : ℕ). drop i s) h.wide in
        let y : read d g a s ≡ pair_read (read (d - 1) g) c a h.operands (drop (head_length c) s)
        = plain-are (λ o. omega arith) ∙ rw z (same_pair c a h.operands s (read (d - 1) g) (read (d - 1) g (a + head_length c) (drop (head_length c) s))) in
        rw (y, ← there) (i c h.operands z h.wide)

-- ---- a command without parts at the front
first_operand_lem : (n : ℕ) (s : List ℕ) → 1 ≤ n → first_operand (bytes_at 1 n s) ≡ get_or s 1 0
first_operand_lem zero s l = absurd (omega arith)
first_operand_lem (suc n) s l = refl

bare_notes : (k a : ℕ) (xs m : List ℕ) (c : Command) → partCount c ≡ 0 → operandCount c ≡ 0 → m ≡ note_within k (build c a xs nothing nothing) m
unfolding note_within
bare_notes k a xs m =
    leaves (λ (c : Command). operandCount c ≡ 0 → m ≡ note_within k (build c a xs nothing nothing) m)
    (λ e. refl) (λ e. absurd (omega arith)) (λ e. refl) (λ e. refl) (λ e. absurd (omega arith)) (λ e. absurd (omega arith))

module _ {s : List ℕ} {w : ℕ} (h : Heading s w) where
  pub can-note : (a : ℕ) (m : List ℕ) → Fitting a s m → Notable (get_or s 0 0) (get_or s 1 0) m
  can-note a m f = notable (at_front h) m (omega (arith, f.fits, f.counted, head-fits h))

  module _ (z : partCount h.of ≡ 0) (d a : ℕ) (level : d ≡ 0 → ⊥) (m : List ℕ) where
    pub read-bare : w ≡ 1 → LeafRead d a s m m (a + w)
    read-bare one g t = done-leaf h d g a level t m m z (bare_notes (max_signals - g) a h.operands m h.of z (omega (arith, h.wide)))

    pub read-noted : 2 ≤ w → (n : List ℕ) → LeafNoted (get_or s 0 0) (get_or s 1 0) m n → LeafRead d a s m n (a + w)
    read-noted more n i g t =
        let f = at_front h in
        let x : first_operand h.operands ≡ get_or s 1 0
        = ap first_operand f.operands ∙ first_operand_lem (operandCount h.of) s (omega (arith, h.wide)) in
        done-leaf h d g a level t m n z (i h.of a (max_signals - g) h.operands f.byte z x)

-- ---- the two parts of a command of w bytes; s is behind the command, and the first part stands at offset b
pub record Firsts (d g b : ℕ) (s t u m n : List ℕ) (r : ℕ) : Type 0 where
  pub part : Statement
  pub count : ℕ
  pub reads : read d g b s ≡ accepted part count
  pub place : r ≡ b + count
  pub within : count ≤ length s
  pub sized : count ≡ size part
  pub ranged : Ranged part
  pub entered : Entered t u (pauses_counted m) b count part
  pub notes : n ≡ note_within (max_signals - g) part m
  pub counted : pauses_counted n ≡ middle (pauses_counted m) part
  pub few : pauses_counted n ≤ r
  pub noted : length n ≡ note_count

module _ (d g b : ℕ) (s t u m n : List ℕ) (r : ℕ) (can : Readable g b s t m) (h : Done g b t u m n (read d g b s) r) where
  pub firsts : r < row_unit → Firsts d g b s t u m n r
  firsts small = go (read d g b s) refl (rowed d g b s) h
    where
      go : (y : Read) → read d g b s ≡ y → Rowed (read d g b s) → Done g b t u m n y r → Firsts d g b s t u m n r
      go (accepted p k) q z i =
          let w = sound d g b s p k q in
          let a = noting (max_signals - g) p m can.noted w.within.ranged in
          let c : pauses_counted n ≡ middle (pauses_counted m) p = ap pauses_counted i.1.1 ∙ a.counted in
          record {
            part = p;
            count = k;
            reads = q;
            place = i.0;
            within = count_within d g b s p k q;
            sized = w.count;
            ranged = w.within.ranged;
            entered = i.1.0;
            notes = i.1.1;
            counted = c;
            few = omega (arith, count_size p, w.count, can.counted, i.0);
            noted = ap length i.1.1 ∙ a.long ∙ can.noted;
          }
      go (refused k) q z i = let o : Small k = rw q at z in absurd (omega (arith, i.0))

  pub first_refused : (a : ℕ) (xs : List ℕ) (c : Command) → b ≡ a + head_length c → row_unit ≤ r → Done g a t u m n (pair_read (read d g) c a xs s) r
  first_refused a xs c e large = go (read d g b s) refl h
    where
      go : (y : Read) → read d g b s ≡ y → Done g b t u m n y r → Done g a t u m n (pair_read (read d g) c a xs s) r
      go (accepted p k) q i = absurd (omega (arith, count_within d g b s p k q, i.0, can.fits))
      go (refused k) q i =
          let q' : read d g (a + head_length c) s ≡ refused k = rw e at q in
          done_refused g a t u m n (pair_read (read d g) c a xs s) k r (rw q') i.0

  -- the entries of the second part are written, and z is the answer for it, of the bytes l
  pub both : (a : ℕ) (xs : List ℕ) (c : Command) → b ≡ a + head_length c → partCount c ≡ 2 → Firsts d g b s t u m n r → r ≤ length u
      → (l : List ℕ) → l ≡ drop (r - b) s → (v j : List ℕ) (z : ℕ)
      → Done g r (put_second u a r (pauses_counted n)) v n j (read d g r l) z → Done g a t v m j (pair_read (read d g) c a xs s) z
  both a xs c e two f inside l here v j z i =
      let k = f.count in
      let q : read d g (a + head_length c) s ≡ accepted f.part k = rw e at f.reads in
      let place : r ≡ a + (head_length c + k) = omega (arith, f.place) in
      let gone : r - b ≡ k = omega (arith, f.place) in
      let same : read d g r l ≡ read d g (a + (head_length c + k)) (drop k s) = rw (here, gone, place) in
      let fore : Entered t u (pauses_counted m) (a + head_length c) k f.part = rw e at f.entered in
      rw q (go fore place (read d g (a + (head_length c + k)) (drop k s)) (rw same at i))
    where
      go : Entered t u (pauses_counted m) (a + head_length c) f.count f.part → r ≡ a + (head_length c + f.count) → (y : Read)
          → Done g r (put_second u a r (pauses_counted n)) v n j y z
          → Done g a t v m j (last_part (λ q. build c a xs f.part q) (head_length c + f.count) y) z
      go fore place (accepted p k) i =
          let back : Entered (put_second u a r (middle (pauses_counted m) f.part)) v (middle (pauses_counted m) f.part) r k p = rw f.counted at i.1.0 in (
            omega (arith, i.0),
            (
              entered_two t u v (pauses_counted m) a xs r c f.part p f.count k two f.ranged f.sized place inside fore back,
              i.1.1 ∙ ap (note_within (max_signals - g) p) f.notes ∙ sym (note-two (max_signals - g) a xs m c two f.part p),
            ),
          )
      go fore place (refused k) i = (i.0, tt)
