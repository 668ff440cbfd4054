-- The places of a statement that the bytes spell are the offsets of its command bytes, also in the program and its expansions.
use Prim.Native.Nat.{ℕ, suc, ◌+◌, ◌<◌, ◌≤◌}
use native.Mathlib.Omega.{arith}
use mathlib.Core.Path.{◌≡◌, refl, ap, ◌∙◌, subst}
use mathlib.Core.Logic.{◌≢◌, inl, inr}
use mathlib.Core.List.{List, [], ◌∷◌, ◌++◌}
use lib.ListN.{length, get_or, length-append, get_or-append}
use lib.Seq.{get_or-append-add}
use Rattle.spec_base.specs.Limits.{signal_count, read_back_place}
use Rattle.spec_base.specs.Sets.{none}
use Rattle.sets.proofs.Lists.{members_none}
use Rattle.spec_language.specs.Statement.{Scope, local, Statement, nothing, pause, emit, exit, seq, par, loop, present, signal, try, setpause, suspend, held}
use Rattle.spec_language.specs.Errors.{Error, instantaneous, not_reactive, not_deterministic}
use Rattle.spec_language.specs.Places.{Part, PartOf, seq₁, seq₂, par₁, par₂, loop₁, present₁, present₂, signal₁, try₁, suspend₁, Place, At}
use Rattle.spec_sequence.specs.Writer.{bytes_of, size, Ranged, PlacedAt}
use Rattle.spec_sequence.specs.Program.{read_back_signals, program}
use Rattle.spec_sequence.specs.Rows.{Spells}
use Rattle.spec_tick.specs.PlaceNamed.{PlaceNamed, of_loop, of_signal, of_declaration}
use Rattle.theory_tick.proofs.ErrorPlaces.{AllErrors, errors-declared}

-- p stands somewhere in w, and so does a part of it
abbrev Has : Statement → Statement → Type 0
Has w p = (x : Place) × At p x w

deeper : {p c : Statement} {d : Part} {w : Statement} {x : Place} → At p x w → PartOf d c p → Has w c
deeper {d = d} At.here i = (d ∷ [], At.inside i At.here)
deeper (At.inside {d = b} j u) i = let v = deeper u i in (b ∷ v.0, At.inside j v.1)

at_part : {w p c : Statement} {d : Part} {x : Place} → At p x w → PartOf d c p → Has w c
at_part u i = deeper u i

-- ---- bytes that stand in bs from offset a on
module _ (bs : List ℕ) where
  abbrev LiesAt : ℕ → List ℕ → Type 0
  LiesAt a xs = (a + length xs ≤ length bs) × ((i : ℕ) → i < length xs → get_or bs (a + i) 0 ≡ get_or xs i 0)

  head-lies : (a x : ℕ) (xs : List ℕ) → LiesAt a (x ∷ xs) → (a < length bs) × (get_or bs a 0 ≡ x)
  head-lies a x xs h = (omega (arith, h.0), ap (λ (n : ℕ). get_or bs n 0) (let z : a ≡ a + 0 = omega arith in z) ∙ h.1 0 (omega arith))

  tail-lies : (a x : ℕ) (xs : List ℕ) → LiesAt a (x ∷ xs) → LiesAt (a + 1) xs
  tail-lies a x xs h = (
    omega (arith, h.0),
    λ i m. ap (λ (n : ℕ). get_or bs n 0) (let z : a + 1 + i ≡ a + suc i = omega arith in z) ∙ h.1 (suc i) (omega (arith, m)),
  )

  first-lies : (a : ℕ) (xs ys : List ℕ) → LiesAt a (xs ++ ys) → LiesAt a xs
  first-lies a xs ys h =
      let n = length-append xs ys in
      (omega (arith, h.0, n), λ i m. h.1 i (omega (arith, m, n)) ∙ get_or-append xs ys 0 i m)

  second-lies : (a : ℕ) (xs ys : List ℕ) → LiesAt a (xs ++ ys) → LiesAt (a + length xs) ys
  second-lies a xs ys h =
      let n = length-append xs ys in (
        omega (arith, h.0, n),
        λ i m. ap (λ (k : ℕ). get_or bs k 0) (let z : a + length xs + i ≡ a + (length xs + i) = omega arith in z)
            ∙ h.1 (length xs + i) (omega (arith, m, n)) ∙ get_or-append-add xs ys i 0,
      )

  -- after an operand, and the second of two parts
  operand-lies : (a x y : ℕ) (xs : List ℕ) → LiesAt a (x ∷ y ∷ xs) → LiesAt (a + 2) xs
  operand-lies a x y xs h =
      subst (λ (n : ℕ). LiesAt n xs) (let z : a + 1 + 1 ≡ a + 2 = omega arith in z) (tail-lies (a + 1) y xs (tail-lies a x (y ∷ xs) h))

  next-lies : (a n : ℕ) (xs ys : List ℕ) → LiesAt (a + n) (xs ++ ys) → LiesAt (a + (n + length xs)) ys
  next-lies a n xs ys h =
      subst (λ (m : ℕ). LiesAt m ys) (let z : a + n + length xs ≡ a + (n + length xs) = omega arith in z) (second-lies (a + n) xs ys h)

-- ---- the errors of a statement that the bytes spell
module _ (P : Error → Type 0) (sequence : List ℕ) (read_back : ℕ) (w : Statement) (spelled : Spells sequence w)
    (named : (x : Error) → PlaceNamed sequence read_back x.kind x.place → P x) where
  loop-named : (a b : ℕ) (p : Statement) → Has w (loop b p) → b ≡ a → LiesAt sequence a (6 ∷ bytes_of p) → P (instantaneous b)
  loop-named a b p u i l =
      let m = head-lies sequence a 6 (bytes_of p) l in
      named (instantaneous b) (of_loop refl spelled u.1 (omega (arith, i, m.0)) (ap (λ (n : ℕ). get_or sequence n 0) i ∙ m.1))

  signal-named : (a b s : ℕ) (sc : Scope) (p : Statement) → Has w (signal sc b s p) → sc ≡ local → b ≡ a
      → LiesAt sequence a (8 ∷ s ∷ bytes_of p) → P (not_reactive b) × P (not_deterministic b)
  signal-named a b s sc p u k i l =
      let m = head-lies sequence a 8 (s ∷ bytes_of p) l in
      let v : Has w (signal local b s p) = subst (λ (c : Scope). Has w (signal c b s p)) k u in
      let y : get_or sequence b 0 ≡ 8 = ap (λ (n : ℕ). get_or sequence n 0) i ∙ m.1 in (
        named (not_reactive b) (of_signal (inl refl) spelled v.1 (omega (arith, i, m.0)) y),
        named (not_deterministic b) (of_signal (inr refl) spelled v.1 (omega (arith, i, m.0)) y),
      )

  placed-errors : (a : ℕ) (p : Statement) → Has w p → Ranged p → PlacedAt a p → LiesAt sequence a (bytes_of p) → AllErrors P p
  unfolding bytes_of
  placed-errors a nothing u r h l = tt
  placed-errors a (pause n) u r h l = tt
  placed-errors a (emit s v) u r h l = tt
  placed-errors a (exit n) u r h l = tt
  placed-errors a (seq p q) u r h l =
      let k = tail-lies sequence a 4 (bytes_of p ++ bytes_of q) l in (
        placed-errors (a + 1) p (at_part u.1 seq₁) r.0 h.0 (first-lies sequence (a + 1) (bytes_of p) (bytes_of q) k),
        placed-errors (a + (1 + size p)) q (at_part u.1 seq₂) r.1 h.1 (next-lies sequence a 1 (bytes_of p) (bytes_of q) k),
      )
  placed-errors a (par p q) u r h l =
      let k = tail-lies sequence a 5 (bytes_of p ++ bytes_of q) l in (
        placed-errors (a + 1) p (at_part u.1 par₁) r.0 h.0 (first-lies sequence (a + 1) (bytes_of p) (bytes_of q) k),
        placed-errors (a + (1 + size p)) q (at_part u.1 par₂) r.1 h.1 (next-lies sequence a 1 (bytes_of p) (bytes_of q) k),
      )
  placed-errors a (loop b p) u r h l =
      (loop-named a b p u h.0 l, placed-errors (a + 1) p (at_part u.1 loop₁) r h.1 (tail-lies sequence a 6 (bytes_of p) l))
  placed-errors a (present s p q) u r h l =
      let k = operand-lies sequence a 7 s (bytes_of p ++ bytes_of q) l in (
        placed-errors (a + 2) p (at_part u.1 present₁) r.1 h.0 (first-lies sequence (a + 2) (bytes_of p) (bytes_of q) k),
        placed-errors (a + (2 + size p)) q (at_part u.1 present₂) r.2 h.1 (next-lies sequence a 2 (bytes_of p) (bytes_of q) k),
      )
  placed-errors a (signal sc b s p) u r h l =
      let g = signal-named a b s sc p u r.0 h.0 l in
      (g.0, g.1, placed-errors (a + 2) p (at_part u.1 signal₁) r.2 h.1 (operand-lies sequence a 8 s (bytes_of p) l))
  placed-errors a (try p) u r h l = placed-errors (a + 1) p (at_part u.1 try₁) r h (tail-lies sequence a 9 (bytes_of p) l)
  placed-errors a (setpause n) u r h l = tt
  placed-errors a (suspend s p) u r h l =
      placed-errors (a + 2) p (at_part u.1 suspend₁) r.1 h (operand-lies sequence a 11 s (bytes_of p) l)
  placed-errors a (held s K p) u r h l = absurd r

  -- the program: the statement under its declarations
  pub program-errors : AllErrors P (program read_back w)
  program-errors =
      errors-declared P read_back_place (read_back_signals read_back) w
      (λ n. let m : read_back ≢ none = λ z. n (ap read_back_signals z ∙ members_none signal_count 0) in (
        named (not_reactive read_back_place) (of_declaration (inl refl) m refl),
        named (not_deterministic read_back_place) (of_declaration (inr refl) m refl),
      ))
      (placed-errors 0 w ([], At.here) spelled.1.ranged spelled.2 lies)
    where
      lies : LiesAt sequence 0 (bytes_of w)
      lies = (
        omega (arith, ap length spelled.0),
        λ i m. ap (λ (n : ℕ). get_or sequence n 0) (let z : 0 + i ≡ i = omega arith in z) ∙ ap (λ (xs : List ℕ). get_or xs i 0) spelled.0,
      )
