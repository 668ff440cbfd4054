-- What the reader accepts is encoded in the bytes with the table that it filled; and a statement encoded there is taken apart by
-- its command byte.
use Prim.Native.Nat.{ℕ, zero, suc, ◌+◌, ◌-◌, ◌≤◌, ◌<◌}
use mathlib.Core.Path.{◌≡◌, refl, sym, ap, ◌∙◌, subst, subst₂}
use mathlib.Core.Option.{Option, none, some}
use mathlib.Core.List.{List}
use native.Mathlib.Omega.{arith}
use native.Mathlib.Numerals.{sub-one}
use lib.ListN.{length, drop, get_or, length-drop}
use Rattle.spec_language.specs.Statement.{Statement, nothing}
use Rattle.theory_language.specs.Ranks.{middle}
use Rattle.spec_sequence.specs.Commands.{Command, command_of, partCount, in_range, litres_fit, head_length, declares, build}
use Rattle.spec_base.specs.Limits.{last_command, max_bytes}
use Rattle.spec_sequence.specs.Reader.{accepted, read}
use Rattle.spec_sequence.specs.Writer.{size}
use Rattle.layout.specs.Layout.{rest, secondAt, Marked, Two, Parts, Begins, Form, AtFront, Lies, Ready, Pair}
use Rattle.layout.proofs.Parts.{rest-is}
use Rattle.theory_sequence.proofs.Table.{byte_of, byte_is, command_of_byte, last_byte}
use Rattle.theory_sequence.proofs.Front.{Fronted}
use Rattle.theory_sequence.proofs.Inversion.{Meets, met, no_level}
use Rattle.theory_sequence.proofs.Sound.{sound, count_within}
use Rattle.layout.proofs.Marks.{marked-one, Marks, marked-two}

-- ---- one level, by what is known of the parts
module _ (t : List ℕ) (d : ℕ)
    (ih : (g base a : ℕ) (bs : List ℕ) (p : Statement) (n : ℕ) → read d g a bs ≡ accepted p n → Marked t base a p → a + length bs ≤ max_bytes
    → Lies t d base a bs p) where
  -- the part at b, found at k in the bytes l
  part_at : (g base b : ℕ) (cs : List ℕ) (p : Statement) (n k : ℕ) (l : List ℕ) → k ≡ b → l ≡ cs → read d g b cs ≡ accepted p n → Marked t base b p
      → b + length cs ≤ max_bytes → Lies t d base k l p
  part_at g base b cs p n k l e s h m f =
      subst₂ (λ (i : ℕ) (v : List ℕ). Lies t d base i v p) (sym e) (sym s) (ih g base b cs p n h m f)

  module _ (base a : ℕ) (bs : List ℕ) (fits : a + length bs ≤ max_bytes) where
    front_of : (c : Command) (xs : List ℕ) (p : Statement) → Fronted bs c xs → Parts (Lies t d) t base a bs p c (partCount c) → Lies t (suc d) base a bs p
    unfolding Lies
    front_of c xs p f y =
        let b : Begins (Lies t d) t base a bs p c = record {
          there = f.long;
          ranged = ap (in_range c) (sym f.operands) ∙ f.ranged;
          fit = ap (litres_fit c) (sym f.operands) ∙ f.fit;
          parts = y;
        } in
        record { fits = fits; bytes = omega (arith, f.long); form = subst (λ (o : Option Command). Form (Lies t d) t base a bs p o) (sym f.byte) b }

    laid : (g : ℕ) (p : Statement) (n : ℕ) → Meets (read d) g a bs (accepted p n) → Marked t base a p → Lies t (suc d) base a bs p
    laid g p n (Meets.leaf c xs l z) m =
        let f = l.fronted in
        front_of c xs p f
        (subst (λ (k : ℕ). Parts (Lies t d) t base a bs p c k) (sym z) (ap (λ (o : List ℕ). build c a o nothing nothing) f.operands))
    laid g p n (Meets.one c xs l z q i h) m =
        let f = l.fronted in
        front_of c xs p f
        (subst (λ (k : ℕ). Parts (Lies t d) t base a bs p c k) (sym z) (
          q,
          (
            ap (λ (o : List ℕ). build c a o q nothing) f.operands,
            part_at (g - declares c) base (a + head_length c) (drop (head_length c) bs) q i (a + head_length c) (rest (head_length c) bs) refl (rest-is (head_length c) bs) h
                ((marked-one t base a xs c z q).1 m) (omega (arith, fits, f.long, length-drop (head_length c) bs)),
          ),
        ))
    laid g p n (Meets.two c xs l z q i h r j k) m =
        let f = l.fronted in
        let y : Marks t base a xs c q r = (marked-two t base a xs c z q r).1 m in
        let u : i ≡ size q = (sound d (g - declares c) (a + head_length c) (drop (head_length c) bs) q i h).count in
        let v : i ≤ length (drop (head_length c) bs) = count_within d (g - declares c) (a + head_length c) (drop (head_length c) bs) q i h in
        let w : secondAt t a ≡ a + (head_length c + i) = y.0.0 ∙ ap (λ (o : ℕ). a + (head_length c + o)) (sym u) in
        let s : rest (secondAt t a - a) bs ≡ drop (head_length c + i) bs
        = ap (λ (o : ℕ). rest o bs) (let o : secondAt t a - a ≡ head_length c + i = omega (arith, w) in o) ∙ rest-is (head_length c + i) bs in
        let two : Two (Lies t d) t base a (head_length c) bs q r = record {
          first = part_at (g - declares c) base (a + head_length c) (drop (head_length c) bs) q i (a + head_length c) (rest (head_length c) bs) refl
              (rest-is (head_length c) bs) h y.1 (omega (arith, fits, f.long, length-drop (head_length c) bs));
          second = part_at (g - declares c) (middle base q) (a + (head_length c + i)) (drop (head_length c + i) bs) r j (secondAt t a)
              (rest (secondAt t a - a) bs) w s k
              (subst (λ (o : ℕ). Marked t (middle base q) (a + (head_length c + o)) r) (sym u) y.2)
              (omega (arith, fits, f.long, v, length-drop (head_length c) bs, length-drop (head_length c + i) bs));
          place = w ∙ ap (λ (o : ℕ). a + (head_length c + o)) u;
          before = ap (λ (o : ℕ). get_or t (o - 1) 0) y.0.0 ∙ y.0.1;
          behind = omega (arith, w);
          room = omega (arith, w, v, fits, f.long, length-drop (head_length c) bs);
          within = omega (arith, w, v, length-drop (head_length c) bs, f.long);
        } in
        front_of c xs p f
        (subst (λ (o : ℕ). Parts (Lies t d) t base a bs p c o) (sym z) (q, r, (ap (λ (o : List ℕ). build c a o q r) f.operands, two)))

pub lies : (t : List ℕ) (d g base a : ℕ) (bs : List ℕ) (p : Statement) (n : ℕ) → read d g a bs ≡ accepted p n → Marked t base a p
    → a + length bs ≤ max_bytes → Lies t d base a bs p
lies t zero g base a bs p n h m f = no_level g a bs p n h
lies t (suc d) g base a bs p n h m f = laid t d (lies t d) base a bs f g p n (met d g a bs (accepted p n) h) m

-- ---- taken apart
pub opened : (t : List ℕ) (d base a : ℕ) (bs : List ℕ) (p : Statement) → Lies t d base a bs p → (0 < d) × AtFront (Lies t (d - 1)) t base a bs p
unfolding Lies
opened t zero base a bs p l = absurd l
opened t (suc d) base a bs p l = (omega arith, subst (λ (k : ℕ). AtFront (Lies t k) t base a bs p) (sym (sub-one (suc d))) l)

pub ready : {t : List ℕ} {d a : ℕ} {bs : List ℕ} (base : ℕ) (p : Statement) → length t ≡ max_bytes → Lies t d base a bs p → Ready t d a bs
ready {t} {d} {a} {bs} base p e l =
    let o = opened t d base a bs p l in
    record { base = base; p = p; lies = l; levels = o.0; fits = o.1.fits; bytes = o.1.bytes; long = e }

-- all of the bytes, handed on as a part
pub whole : {t : List ℕ} {d a : ℕ} {bs : List ℕ} → Ready t d a bs → Ready t d a (rest 0 bs)
whole {t} {d} {a} {bs} r = subst (λ (l : List ℕ). Ready t d a l) (sym (rest-is 0 bs)) r

pub whole_lies : (t : List ℕ) (d base a : ℕ) (bs : List ℕ) (p : Statement) → Lies t d base a bs p → Lies t d base a (rest 0 bs) p
whole_lies t d base a bs p l = subst (λ (k : List ℕ). Lies t d base a k p) (sym (rest-is 0 bs)) l

-- by the command c of the first byte
pub by_command : (t : List ℕ) (d base a : ℕ) (bs : List ℕ) (p : Statement) → Lies t d base a bs p → (c : Command) → get_or bs 0 0 ≡ byte_of c
    → Begins (Lies t (d - 1)) t base a bs p c
by_command t d base a bs p l c b =
    subst (λ (o : Option Command). Form (Lies t (d - 1)) t base a bs p o) (ap command_of b ∙ command_of_byte c) (opened t d base a bs p l).1.form

module _ {t : List ℕ} {d a : ℕ} {bs : List ℕ} (r : Ready t d a bs) where
  pub taken-apart : (base : ℕ) (p : Statement) → Lies t d base a bs p → (c : Command) → get_or bs 0 0 ≡ byte_of c → Begins (Lies t (d - 1)) t base a bs p c
  taken-apart base p l c b = by_command t d base a bs p l c b

  pub begins : (c : Command) → get_or bs 0 0 ≡ byte_of c → Begins (Lies t (d - 1)) t r.base a bs r.p c
  begins = taken-apart r.base r.p r.lies

  -- the first byte is a command's
  pub command : (c : Command) × (get_or bs 0 0 ≡ byte_of c)
  command = go (command_of (get_or bs 0 0)) refl (opened t d r.base a bs r.p r.lies).1.form
    where
      go : (o : Option Command) → command_of (get_or bs 0 0) ≡ o → Form (Lies t (d - 1)) t r.base a bs r.p o → (c : Command) × (get_or bs 0 0 ≡ byte_of c)
      go none e f = absurd f
      go (some c) e f = (c, byte_is (get_or bs 0 0) c e)

-- ---- the last command is known by elimination
abbrev pub Beyond : ℕ → ℕ → Type 0
Beyond b zero = Unit {0}
Beyond b (suc n) = Beyond b n × (b ≡ n → ⊥)

beyond : (b n : ℕ) → Beyond b n → n ≤ b
beyond b zero h = omega arith
beyond b (suc n) h = let l : n ≤ b = beyond b n h.0 in let z : b ≡ n → ⊥ = h.1 in omega arith

byte_small : (c : Command) → byte_of c ≤ last_command
byte_small c = last_byte (byte_of c) c (command_of_byte c)

-- the last command, by the bytes that it is not
pub last_one : {t : List ℕ} {d a : ℕ} {bs : List ℕ} → Ready t d a bs → Beyond (get_or bs 0 0) last_command → get_or bs 0 0 ≡ last_command
last_one {bs = bs} r h =
    let c = command r in
    let l = beyond (get_or bs 0 0) last_command h in
    let m = byte_small c.0 in
    let e = c.1 in
    omega (arith, l, m, e)

-- ---- the two parts of a command of w bytes
module _ {t : List ℕ} {d a w : ℕ} {bs : List ℕ} (r : Pair t d a w bs) where
  pub first-ready : Ready t d (a + w) (rest w bs)
  first-ready = ready r.base r.p r.long r.two.first

  pub second-ready : Ready t d (secondAt t a) (rest (secondAt t a - a) bs)
  second-ready = ready (middle r.base r.p) r.q r.long r.two.second
