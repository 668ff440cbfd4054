-- What the reader accepts is written so: the bytes, the limits and the places of an accepted statement.
use mathlib.Core.Path.{◌≡◌, refl, sym, ap, ◌∙◌}
use mathlib.Core.Bool.{true, and-eq-true_iff}
use mathlib.Core.List.{List, [], ◌∷◌, ◌++◌, append_assoc}
use Prim.Native.Nat.{ℕ, zero, suc, ◌+◌, ◌-◌, ◌≤◌}
use native.Mathlib.Omega.{arith}
use lib.ListN.{length, get_or, drop, length-append}
use lib.Seq.{drop_at, drop-drop}
use lib.Dec.{leb}
use borrow.Author.Tests.{ltb-true, leb-true}
use Rattle.spec_language.specs.Statement.{local, pure, litres, Statement, nothing, pause, emit, exit, seq, par, loop, present, signal, try, setpause, suspend}
use Rattle.spec_base.specs.Limits.{label_count, signal_count, max_exit}
use Rattle.spec_sequence.specs.Commands.{Command, partCount, bytes_at, operands_of, in_range, litres_fit, head_length, declares, build}
use Rattle.spec_sequence.specs.Reader.{accepted, read}
use Rattle.spec_language.specs.Sizes.{signal_nesting, depth_of}
use Rattle.spec_sequence.specs.Writer.{bytes_of, Ranged, PlacedAt, Written}
use Rattle.spec_sequence.specs.Amounts.{amount_in}
use Rattle.theory_sequence.proofs.Amounts.{amount-read}
use Rattle.theory_sequence.proofs.Table.{byte_of, leaves, ones, twos}
use Rattle.theory_sequence.proofs.Front.{Fronted, own_bytes}
use Rattle.theory_sequence.proofs.Inversion.{Meets, met, no_level}
use Rattle.theory_sequence.proofs.Shapes.{OnePart, TwoParts, loop_shape, try_shape, signal_shape, suspend_shape, seq_shape, par_shape, present_shape}

-- ---- a command whose own bytes h stand at the front, by its parts
module _ (d g a : ℕ) (h bs : List ℕ) (are : bs ≡ h ++ drop (length h) bs) where
  leaf-sound : (p : Statement) → bytes_of p ≡ h → depth_of p ≡ 1 → signal_nesting p ≡ 0 → Ranged p → PlacedAt a p → Written (suc d) g a bs p (length h)
  leaf-sound p e i j r s =
      record {
        rest = drop (length h) bs;
        bytes = are ∙ ap (λ (l : List ℕ). l ++ drop (length h) bs) (sym e);
        count = ap length (sym e);
        within = record { deep = omega arith; nested = omega arith; ranged = r };
        placed = s;
      }

  module _ (declared : ℕ) (f : Statement → Statement) (s : OnePart h a declared f) (fits : declared ≤ g) where
    one-sound : (p : Statement) (m : ℕ) → Written d (g - declared) (a + length h) (drop (length h) bs) p m
        → Written (suc d) g a bs (f p) (length h + m)
    one-sound p m i = record {
      rest = i.rest;
      bytes = are ∙ ap (λ (l : List ℕ). h ++ l) i.bytes ∙ sym (append_assoc h (bytes_of p) i.rest) ∙ ap (λ (l : List ℕ). l ++ i.rest) (sym (s.bytes p));
      count = omega (arith, i.count, ap length (s.bytes p) ∙ length-append h (bytes_of p));
      within = record {
        deep = omega (arith, i.within.deep, s.depth p);
        nested = omega (arith, i.within.nested, s.signals p);
        ranged = (s.ranged p).0 i.within.ranged;
      };
      placed = (s.placed p).0 i.placed;
    }

  module _ (f : Statement → Statement → Statement) (s : TwoParts h a f) where
    two-sound : (p q : Statement) (m n : ℕ) → Written d (g - 0) (a + length h) (drop (length h) bs) p m
        → Written d (g - 0) (a + (length h + m)) (drop (length h + m) bs) q n
        → Written (suc d) g a bs (f p q) (length h + m + n)
    two-sound p q m n i j =
        let between : i.rest ≡ bytes_of q ++ j.rest =
        sym (drop_at (bytes_of p) i.rest m (sym i.count)) ∙ ap (drop m) (sym i.bytes) ∙ drop-drop m (length h) bs ∙ j.bytes in
        record {
          rest = j.rest;
          bytes = are
              ∙ ap (λ (l : List ℕ). h ++ l) (i.bytes ∙ ap (λ (l : List ℕ). bytes_of p ++ l) between ∙ sym (append_assoc (bytes_of p) (bytes_of q) j.rest))
              ∙ sym (append_assoc h (bytes_of p ++ bytes_of q) j.rest) ∙ ap (λ (l : List ℕ). l ++ j.rest) (sym (s.bytes p q));
          count = omega (arith, i.count, j.count, ap length (s.bytes p q) ∙ length-append h (bytes_of p ++ bytes_of q), length-append (bytes_of p) (bytes_of q));
          within = record {
            deep = omega (arith, i.within.deep, j.within.deep, s.depth p q);
            nested = omega (arith, i.within.nested, j.within.nested, s.signals p q);
            ranged = (s.ranged p q).0 (i.within.ranged, j.within.ranged);
          };
          placed = (s.placed p q).0 (i.placed, rw i.count at j.placed);
        }

-- ---- every command, by its parts
module _ (d g a : ℕ) (bs : List ℕ) where
  -- the command c stands at the front of the bytes
  abbrev Stands : Command → Type 0
  Stands c = (in_range c (operands_of c bs) ≡ true) × (litres_fit c (operands_of c bs) ≡ true) × (bs ≡ byte_of c ∷ operands_of c bs ++ drop (head_length c) bs)

  stands : (c : Command) (xs : List ℕ) → Fronted bs c xs → Stands c
  stands c xs f = (ap (in_range c) (sym f.operands) ∙ f.ranged, ap (litres_fit c) (sym f.operands) ∙ f.fit, own_bytes bs c xs f)

  abbrev x : ℕ
  x = get_or bs 1 0

  abbrev LeafSound : Command → Type 0
  LeafSound c = Stands c → Written (suc d) g a bs (build c a (operands_of c bs) nothing nothing) (head_length c)

  abbrev OneSound : Command → Type 0
  OneSound c =
      Stands c → declares c ≤ g → (p : Statement) (m : ℕ) → Written d (g - declares c) (a + head_length c) (drop (head_length c) bs) p m
      → Written (suc d) g a bs (build c a (operands_of c bs) p nothing) (head_length c + m)

  abbrev TwoSound : Command → Type 0
  TwoSound c =
      Stands c → (p q : Statement) (m n : ℕ) → Written d (g - declares c) (a + head_length c) (drop (head_length c) bs) p m
      → Written d (g - declares c) (a + (head_length c + m)) (drop (head_length c + m) bs) q n
      → Written (suc d) g a bs (build c a (operands_of c bs) p q) (head_length c + m + n)

  sound-leaf : (c : Command) → partCount c ≡ 0 → LeafSound c
  unfolding bytes_of depth_of signal_nesting
  sound-leaf =
      leaves LeafSound
      (λ s. leaf-sound d g a (0 ∷ []) bs s.2 nothing refl refl refl tt tt)
      (λ s. leaf-sound d g a (1 ∷ x ∷ []) bs s.2 (pause x) refl refl refl (ltb-true x label_count s.0) tt)
      (λ s. leaf-sound d g a (2 ∷ x ∷ []) bs s.2 (emit x pure) refl refl refl (ltb-true x signal_count s.0, omega arith) tt)
      (λ s. let r = (and-eq-true_iff (leb 1 x) (leb x max_exit)).0 s.0 in
      leaf-sound d g a (3 ∷ x ∷ []) bs s.2 (exit x) refl refl refl (leb-true 1 x r.0, leb-true x max_exit r.1) tt)
      (λ s. leaf-sound d g a (10 ∷ x ∷ []) bs s.2 (setpause x) refl refl refl (ltb-true x label_count s.0) tt)
      (λ s. let xs : List ℕ = bytes_at 2 4 bs in
      let r = amount-read xs refl s.1 in
      leaf-sound d g a (12 ∷ x ∷ xs) bs s.2 (emit x (litres (amount_in xs))) (ap (λ (l : List ℕ). 12 ∷ x ∷ l) r.1) refl refl
      (ltb-true x signal_count s.0, r.0) tt)

  sound-one : (c : Command) → partCount c ≡ 1 → OneSound c
  sound-one =
      ones OneSound
      (λ s l. one-sound d g a (6 ∷ []) bs s.2 0 (loop a) (loop_shape a) l)
      (λ s l. one-sound d g a (8 ∷ x ∷ []) bs s.2 1 (signal local a x) (signal_shape a x (ltb-true x signal_count s.0)) l)
      (λ s l. one-sound d g a (9 ∷ []) bs s.2 0 try (try_shape a) l)
      (λ s l. one-sound d g a (11 ∷ x ∷ []) bs s.2 0 (suspend x) (suspend_shape a x (ltb-true x signal_count s.0)) l)

  sound-two : (c : Command) → partCount c ≡ 2 → TwoSound c
  sound-two =
      twos TwoSound
      (λ s. two-sound d g a (4 ∷ []) bs s.2 seq (seq_shape a))
      (λ s. two-sound d g a (5 ∷ []) bs s.2 par (par_shape a))
      (λ s. two-sound d g a (7 ∷ x ∷ []) bs s.2 (present x) (present_shape a x (ltb-true x signal_count s.0)))

-- ---- accepted, so written
module _ (d : ℕ) (ih : (g a : ℕ) (bs : List ℕ) (p : Statement) (n : ℕ) → read d g a bs ≡ accepted p n → Written d g a bs p n) where
  sound-met : (g a : ℕ) (bs : List ℕ) (p : Statement) (n : ℕ) → Meets (read d) g a bs (accepted p n) → Written (suc d) g a bs p n
  sound-met g a bs p n (Meets.leaf c xs l z) =
      rw l.fronted.operands (sound-leaf d g a bs c z (stands d g a bs c xs l.fronted))
  sound-met g a bs p n (Meets.one c xs l z q m e) =
      rw l.fronted.operands (sound-one d g a bs c z (stands d g a bs c xs l.fronted) l.fits q m (ih _ _ _ q m e))
  sound-met g a bs p n (Meets.two c xs l z q m e r k f) =
      rw l.fronted.operands (sound-two d g a bs c z (stands d g a bs c xs l.fronted) q r m k (ih _ _ _ q m e) (ih _ _ _ r k f))

pub sound : (d g a : ℕ) (bs : List ℕ) (p : Statement) (n : ℕ) → read d g a bs ≡ accepted p n → Written d g a bs p n
sound zero g a bs p n e = no_level g a bs p n e
sound (suc d) g a bs p n e = sound-met d (sound d) g a bs p n (met d g a bs (accepted p n) e)

-- the count is that of bytes that are there
pub count_within : (d g a : ℕ) (bs : List ℕ) (p : Statement) (n : ℕ) → read d g a bs ≡ accepted p n → n ≤ length bs
count_within d g a bs p n e =
    let w = sound d g a bs p n e in
    omega (arith, w.count, ap length w.bytes ∙ length-append (bytes_of p) w.rest)
