-- What is written within the limits is accepted.
use mathlib.Core.Path.{◌≡◌, refl, sym, ap, ◌∙◌}
use mathlib.Core.Bool.{true}
use mathlib.Core.Option.{some}
use mathlib.Core.List.{List, [], ◌∷◌, ◌++◌, append_assoc}
use Prim.Native.Nat.{ℕ, zero, suc, ◌+◌, ◌-◌, ◌≤◌, ◌<◌}
use native.Mathlib.Omega.{arith}
use lib.ListN.{length, get_or, drop, length-append}
use lib.Seq.{drop_at}
use borrow.Author.Tests.{lt-ltb, le-leb}
use Rattle.spec_language.specs.Statement.{pure, litres, local, reported, Statement, nothing, pause, emit, exit, seq, par, loop, present, signal, try, setpause, suspend, held}
use Rattle.spec_base.specs.Limits.{label_count, signal_count, max_exit}
use Rattle.spec_sequence.specs.Commands.{Command, command_of, operands_of, partCount, in_range, litres_fit, head_length, declares}
use Rattle.spec_sequence.specs.Reader.{accepted, last_part, first_part, read_parts, read}
use Rattle.spec_sequence.specs.Writer.{bytes_of, size, Within, PlacedAt}
use Rattle.spec_language.specs.Sizes.{depth_of}
use Rattle.spec_base.specs.Bytes.{le_bytes}
use Rattle.theory_sequence.proofs.Amounts.{amount-written}
use Rattle.theory_sequence.proofs.Front.{Fronted, Fronts, front-is}
use Rattle.theory_sequence.proofs.Inversion.{enters}
use Rattle.theory_sequence.proofs.Shapes.{OnePart, TwoParts, loop_shape, try_shape, signal_shape, suspend_shape, seq_shape, par_shape, present_shape}

depth_positive : (p : Statement) → 0 < depth_of p
unfolding depth_of
depth_positive nothing = omega arith
depth_positive (pause l) = omega arith
depth_positive (emit s v) = omega arith
depth_positive (exit n) = omega arith
depth_positive (seq p q) = omega arith
depth_positive (par p q) = omega arith
depth_positive (loop a p) = omega arith
depth_positive (present s p q) = omega arith
depth_positive (signal sc a s p) = omega arith
depth_positive (try p) = omega arith
depth_positive (setpause l) = omega arith
depth_positive (suspend s p) = omega arith
depth_positive (held s K p) = omega arith

-- a command that is there, with its operands in their ranges and its signals allowed
starts : (d g a : ℕ) (bs : List ℕ) (c : Command) → command_of (get_or bs 0 0) ≡ some c → head_length c ≤ length bs → in_range c (operands_of c bs) ≡ true
    → litres_fit c (operands_of c bs) ≡ true → declares c ≤ g → read (suc d) g a bs ≡ read_parts (read d (g - declares c)) c a (operands_of c bs) (partCount c) bs
starts d g a bs c e l r i f =
    let w : Fronted bs c (operands_of c bs) = record { byte = e; long = l; operands = refl; ranged = r; fit = i } in
    enters g a bs c (operands_of c bs) (front-is bs _ (Fronts.whole c (operands_of c bs) w)) d f

module _ (d g a : ℕ) (h t : List ℕ) where
  module _ (declared : ℕ) (f : Statement → Statement) (s : OnePart h a declared f) (p : Statement) (w : Within (suc d) g (f p)) where
    one-within : Within d (g - declared) p
    one-within = record {
      deep = omega (arith, w.deep, s.depth p);
      nested = omega (arith, w.nested, s.signals p);
      ranged = (s.ranged p).1 w.ranged;
    }

    one-fits : declared ≤ g
    one-fits = omega (arith, w.nested, s.signals p)

    one-complete : read d (g - declared) (a + length h) (bytes_of p ++ t) ≡ accepted p (size p)
        → last_part f (length h) (read d (g - declared) (a + length h) (drop (length h) (h ++ (bytes_of p ++ t)))) ≡ accepted (f p) (size (f p))
    one-complete e =
        ap (λ (l : List ℕ). last_part f (length h) (read d (g - declared) (a + length h) l)) (drop_at h (bytes_of p ++ t) (length h) refl)
        ∙ ap (last_part f (length h)) e
        ∙ ap (accepted (f p)) (sym (length-append h (bytes_of p)) ∙ ap length (sym (s.bytes p)))

  module _ (f : Statement → Statement → Statement) (s : TwoParts h a f) (p q : Statement) (w : Within (suc d) g (f p q)) where
    two-first : Within d (g - 0) p
    two-first = record {
      deep = omega (arith, w.deep, s.depth p q);
      nested = omega (arith, w.nested, s.signals p q);
      ranged = ((s.ranged p q).1 w.ranged).0;
    }

    two-second : Within d (g - 0) q
    two-second = record {
      deep = omega (arith, w.deep, s.depth p q);
      nested = omega (arith, w.nested, s.signals p q);
      ranged = ((s.ranged p q).1 w.ranged).1;
    }

    two-complete : (bs : List ℕ) → bs ≡ h ++ (bytes_of p ++ bytes_of q ++ t)
        → read d (g - 0) (a + length h) (bytes_of p ++ (bytes_of q ++ t)) ≡ accepted p (size p)
        → read d (g - 0) (a + (length h + size p)) (bytes_of q ++ t) ≡ accepted q (size q)
        → first_part
        (λ r m. last_part (λ u. f r u) (length h + m) (read d (g - 0) (a + (length h + m)) (drop (length h + m) bs)))
        (read d (g - 0) (a + length h) (drop (length h) bs))
        ≡ accepted (f p q) (size (f p q))
    two-complete bs z e k =
        let y : bs ≡ h ++ (bytes_of p ++ (bytes_of q ++ t)) = z ∙ ap (λ (l : List ℕ). h ++ l) (append_assoc (bytes_of p) (bytes_of q) t) in
        let u : bs ≡ h ++ bytes_of p ++ (bytes_of q ++ t) = y ∙ sym (append_assoc h (bytes_of p) (bytes_of q ++ t)) in
        let one : drop (length h) bs ≡ bytes_of p ++ (bytes_of q ++ t) = ap (drop (length h)) y ∙ drop_at h _ (length h) refl in
        let two : drop (length h + size p) bs ≡ bytes_of q ++ t = ap (drop (length h + size p)) u ∙ drop_at (h ++ bytes_of p) _ _ (length-append h (bytes_of p)) in
        let n : length h + size p + size q ≡ size (f p q) =
        omega (arith, ap length (s.bytes p q) ∙ length-append h (bytes_of p ++ bytes_of q), length-append (bytes_of p) (bytes_of q)) in
        rw (one, e) (rw (two, k) (ap (accepted (f p q)) n))

-- 0C: its 4 bytes hold the litres that were written
module _ (d g a x n : ℕ) (w : Within (suc d) g (emit x (litres n))) (t : List ℕ) where
  delivers : read (suc d) g a (bytes_of (emit x (litres n)) ++ t) ≡ accepted (emit x (litres n)) (size (emit x (litres n)))
  unfolding bytes_of command_of le_bytes
  delivers =
      let b = amount-written n w.ranged.1 in
      starts d g a _ Command.deliver refl (omega arith) (lt-ltb x signal_count w.ranged.0) b.0 (omega arith)
      ∙ ap (λ (k : ℕ). accepted (emit x (litres k)) 6) b.1

pub complete : (d g a : ℕ) (p : Statement) → Within d g p → PlacedAt a p → (t : List ℕ) → read d g a (bytes_of p ++ t) ≡ accepted p (size p)
unfolding bytes_of command_of
complete zero g a p w s t = absurd (omega (arith, w.deep, depth_positive p))
complete (suc d) g a nothing w s t = starts d g a _ Command.nothing refl (omega arith) refl refl (omega arith)
complete (suc d) g a (pause l) w s t = starts d g a _ Command.pause refl (omega arith) (lt-ltb l label_count w.ranged) refl (omega arith)
complete (suc d) g a (emit x pure) w s t = starts d g a _ Command.emit refl (omega arith) (lt-ltb x signal_count w.ranged.0) refl (omega arith)
complete (suc d) g a (emit x (litres n)) w s t = delivers d g a x n w t
complete (suc d) g a (exit n) w s t =
    starts d g a _ Command.exit refl (omega arith) (rw (le-leb 1 n w.ranged.0, le-leb n max_exit w.ranged.1)) refl (omega arith)
complete (suc d) g a (seq p q) w s t =
    let c = seq_shape a in
    starts d g a _ Command.seq refl (omega arith) refl refl (omega arith)
    ∙ two-complete d g a (4 ∷ []) t seq c p q w _ refl
    (complete d (g - 0) (a + 1) p (two-first d g a (4 ∷ []) t seq c p q w) s.0 (bytes_of q ++ t))
    (complete d (g - 0) (a + (1 + size p)) q (two-second d g a (4 ∷ []) t seq c p q w) s.1 t)
complete (suc d) g a (par p q) w s t =
    let c = par_shape a in
    starts d g a _ Command.par refl (omega arith) refl refl (omega arith)
    ∙ two-complete d g a (5 ∷ []) t par c p q w _ refl
    (complete d (g - 0) (a + 1) p (two-first d g a (5 ∷ []) t par c p q w) s.0 (bytes_of q ++ t))
    (complete d (g - 0) (a + (1 + size p)) q (two-second d g a (5 ∷ []) t par c p q w) s.1 t)
complete (suc d) g a (loop b p) w s t =
    let c = loop_shape a in
    let v : Within (suc d) g (loop a p) = rw s.0 at w in
    starts d g a _ Command.loop refl (omega arith) refl refl (omega arith)
    ∙ one-complete d g a (6 ∷ []) t 0 (loop a) c p v
    (complete d (g - 0) (a + 1) p (one-within d g a (6 ∷ []) t 0 (loop a) c p v) s.1 t)
    ∙ ap (λ (i : ℕ). accepted (loop i p) (size (loop i p))) (sym s.0)
complete (suc d) g a (present x p q) w s t =
    let c = present_shape a x w.ranged.0 in
    let h : List ℕ = 7 ∷ x ∷ [] in
    starts d g a _ Command.present refl (omega arith) (lt-ltb x signal_count w.ranged.0) refl (omega arith)
    ∙ two-complete d g a h t (present x) c p q w _ refl
    (complete d (g - 0) (a + 2) p (two-first d g a h t (present x) c p q w) s.0 (bytes_of q ++ t))
    (complete d (g - 0) (a + (2 + size p)) q (two-second d g a h t (present x) c p q w) s.1 t)
complete (suc d) g a (signal reported b x p) w s t = absurd (let z : ◌≡◌ {A = ℕ} 0 1 = cc w.ranged.0 in omega arith)
complete (suc d) g a (signal local b x p) w s t =
    let c = signal_shape a x w.ranged.1 in
    let h : List ℕ = 8 ∷ x ∷ [] in
    let v : Within (suc d) g (signal local a x p) = rw s.0 at w in
    starts d g a _ Command.signal refl (omega arith) (lt-ltb x signal_count w.ranged.1) refl (one-fits d g a h t 1 (signal local a x) c p v)
    ∙ one-complete d g a h t 1 (signal local a x) c p v
    (complete d (g - 1) (a + 2) p (one-within d g a h t 1 (signal local a x) c p v) s.1 t)
    ∙ ap (λ (i : ℕ). accepted (signal local i x p) (size (signal local i x p))) (sym s.0)
complete (suc d) g a (try p) w s t =
    let c = try_shape a in
    starts d g a _ Command.try refl (omega arith) refl refl (omega arith)
    ∙ one-complete d g a (9 ∷ []) t 0 try c p w
    (complete d (g - 0) (a + 1) p (one-within d g a (9 ∷ []) t 0 try c p w) s t)
complete (suc d) g a (setpause l) w s t = starts d g a _ Command.setpause refl (omega arith) (lt-ltb l label_count w.ranged) refl (omega arith)
complete (suc d) g a (suspend x p) w s t =
    let c = suspend_shape a x w.ranged.0 in
    let h : List ℕ = 11 ∷ x ∷ [] in
    starts d g a _ Command.suspend refl (omega arith) (lt-ltb x signal_count w.ranged.0) refl (omega arith)
    ∙ one-complete d g a h t 0 (suspend x) c p w
    (complete d (g - 0) (a + 2) p (one-within d g a h t 0 (suspend x) c p w) s t)
complete (suc d) g a (held x K p) w s t = absurd w.ranged
