-- The check gives a number exactly if its row holds and no row of a smaller number does, and 0 exactly if none holds.
use Prim.Native.Nat.{ℕ, zero, suc, ◌+◌, ◌≤◌, ◌<◌}
use native.Mathlib.Omega.{arith}
use native.Mathlib.Decide.{ℕ_discrete, dec_lt}
use mathlib.Core.Path.{◌≡◌, refl, sym, ap, ◌∙◌, subst}
use mathlib.Core.Bool.{Bool, true, false, ◌&&◌, cond, true≢false}
use mathlib.Core.Option.{Option, none, some, some-injective}
use mathlib.Core.List.{List, [], ◌∷◌}
use mathlib.Core.Logic.{◌⊎◌, inl, inr}
use lib.ListN.{length, drop}
use lib.Dec.{leb, ltb}
use borrow.Author.Tests.{ltb-true, ltb-false, leb-true, le-leb}
use Rattle.spec_language.specs.Statement.{Statement}
use Rattle.spec_language.specs.States.{Distinct, Targeted, WellFormed}
use Rattle.spec_language.specs.LabelTests.{distinct, targeted, well_formed}
use Rattle.theory_language.proofs.LabelTests.{distinct_is, targeted_is, wellFormed-is}
use Rattle.spec_base.specs.Limits.{max_bytes, max_depth, max_signals}
use Rattle.spec_sequence.specs.Commands.{declares}
use Rattle.spec_sequence.specs.Reader.{Read, accepted, refused, Front, command, front, read}
use Rattle.spec_language.specs.Sizes.{signal_nesting}
use Rattle.spec_sequence.specs.Program.{program}
use Rattle.spec_sequence.specs.Writer.{Written}
use Rattle.spec_sequence.specs.Check.{Checked, sound, bad, label_rules, after_read, checked, number_of, check_of}
use Rattle.spec_sequence.specs.Rows.{Awaited, awaits, Reached, at, Fault, unknown, no_statement, no_operand, out_of_range, no_litres, too_deep, too_many_signals, enter, next, walk, Spells, Row, row_2, row_3_to_6, row_6, row_7, row_8, row_9, row_10, rank, ByRows}
use Rattle.theory_sequence.proofs.Walk.{fault_of, fault_is, Faulty, Comes, comes}
use Rattle.theory_sequence.proofs.Sound.{count_within}
use Rattle.theory_sequence.proofs.Writer.{reader_writer, reads_what_is-written}
use Rattle.theory_sequence.proofs.ByRows.{rank_least, refused_by, accepted_by}

fault_range : {bs : List ℕ} {s : Awaited} {k : ℕ} → Fault bs s k → (3 ≤ k) × (k ≤ 18)
fault_range (unknown h) = omega arith
fault_range no_statement = omega arith
fault_range (no_operand i o) = omega arith
fault_range (out_of_range i o r) = omega arith
fault_range (no_litres i o r f) = omega arith
fault_range (too_deep f h) = omega arith
fault_range (too_many_signals f h) = omega arith

fault_rank : {bs : List ℕ} {s : Awaited} {k : ℕ} → Fault bs s k → rank k ≤ 20
fault_rank (unknown h) = omega arith
fault_rank no_statement = omega arith
fault_rank (no_operand i o) = omega arith
fault_rank (out_of_range i o r) = omega arith
fault_rank (no_litres i o r f) = omega arith
fault_rank (too_deep f h) = omega arith
fault_rank (too_many_signals f h) = omega arith

-- row k is not before j
late : (m k j : ℕ) → rank m < rank j → m ≡ k → rank j ≤ rank k → ⊥
late m k j l e h = let z : rank m ≡ rank k = ap rank e in omega (arith, l, z, h)

module _ (bs : List ℕ) where
  -- ---- reading from the left ends once
  later : (n m : ℕ) → n ≤ m → walk n bs ≡ none → walk m bs ≡ none
  unfolding walk
  later n zero h e = subst (λ (k : ℕ). walk k bs ≡ none) (let z : n ≡ 0 = omega arith in z) e
  later n (suc m) h e =
      elim (ℕ_discrete n (suc m)) [
        | yes i ↦ subst (λ (k : ℕ). walk k bs ≡ none) i e
        | no i ↦ rw (later n m (omega arith) e)
      ]

  -- the last position of the traversal
  pub record Last (n : ℕ) (x : Reached) : Type 0 where
    pub here : walk n bs ≡ some x
    pub stop : next bs (some x) ≡ none

  stopped : (n : ℕ) (x : Reached) → Last n x → walk (suc n) bs ≡ none
  unfolding walk
  stopped n x l = ap (next bs) l.here ∙ l.stop

  not-later : (n m : ℕ) (x y : Reached) → Last n x → walk m bs ≡ some y → n < m → ⊥
  not-later n m x y l h i =
      let e : walk m bs ≡ none = later (suc n) m i (stopped n x l) in
      let z : ◌≡◌ {A = ℕ} 0 1 = cc in
      omega arith

  last-unique : (n m : ℕ) (x y : Reached) → Last n x → Last m y → x ≡ y
  last-unique n m x y l r =
      elim (dec_lt n m) [
        | yes i ↦ absurd (not-later n m x y l r.here i)
        | no i ↦ elim (dec_lt m n) [
          | yes j ↦ absurd (not-later m n y x r l.here j)
          | no j ↦ let e : n ≡ m = omega arith in
              some-injective x y (sym l.here ∙ ap (λ (k : ℕ). walk k bs) e ∙ r.here)
        ]
      ]

  stays : (k : ℕ) (b : Bool) (y : Option Reached) → cond b none (some 6) ≡ some k → cond b y none ≡ none
  stays k true y h = absurd (let z : ◌≡◌ {A = ℕ} 0 1 = cc in omega arith)
  stays k false y h = refl

  faulty-last : (n a : ℕ) (s : Awaited) (w : List Awaited) (k : ℕ) → walk n bs ≡ some (at a (s ∷ w)) → Fault (drop a bs) s k
      → Last n (at a (s ∷ w))
  faulty-last n a (awaits d g) w k h f =
      record { here = h; stop = go (front (drop a bs)) ((fault_is (awaits d g) (drop a bs) k).0 f) }
    where
      go : (y : Front) → fault_of (awaits d g) y ≡ some k → enter a d g w y ≡ none
      go (Front.bad m) e = refl
      go (command c xs) e = stays k (ltb d max_depth && leb (g + declares c) max_signals) _ e

  ended-last : (n a : ℕ) → walk n bs ≡ some (at a []) → Last n (at a [])
  ended-last n a h = record { here = h; stop = refl }

  -- two faults are one; a fault and an end exclude each other; two ends are one
  one-fault : (n m a b k j : ℕ) (s t : Awaited) (v w : List Awaited) → walk n bs ≡ some (at a (s ∷ v)) → Fault (drop a bs) s k
      → walk m bs ≡ some (at b (t ∷ w)) → Fault (drop b bs) t j → k ≡ j
  one-fault n m a b k j s t v w h f i g =
      let e : at a (s ∷ v) ≡ at b (t ∷ w) = last-unique n m _ _ (faulty-last n a s v k h f) (faulty-last m b t w j i g) in
      let ea : a ≡ b = cc in
      let es : s ≡ t = cc in
      some-injective k j
      (sym ((fault_is s (drop a bs) k).0 f) ∙ ap (λ (x : ℕ). fault_of s (front (drop x bs))) ea
      ∙ ap (λ (x : Awaited). fault_of x (front (drop b bs))) es ∙ (fault_is t (drop b bs) j).0 g)

  fault-or-end : (n m a b k : ℕ) (s : Awaited) (w : List Awaited) → walk n bs ≡ some (at a (s ∷ w)) → Fault (drop a bs) s k
      → walk m bs ≡ some (at b []) → ⊥
  fault-or-end n m a b k s w h f i =
      let e : at a (s ∷ w) ≡ at b [] = last-unique n m _ _ (faulty-last n a s w k h f) (ended-last m b i) in
      let l : s ∷ w ≡ [] = cc in
      let z : ◌≡◌ {A = ℕ} 0 1 = cc in
      omega arith

  one_end : (n m a b : ℕ) → walk n bs ≡ some (at a []) → walk m bs ≡ some (at b []) → a ≡ b
  one_end n m a b h i =
      let e : at a [] ≡ at b [] = last-unique n m _ _ (ended-last n a h) (ended-last m b i) in
      cc

  -- the bytes begin with one statement
  one-statement : (p q : Statement) (n m : ℕ) → read max_depth max_signals 0 bs ≡ accepted p n → Written max_depth max_signals 0 bs q m → q ≡ p
  one-statement p q n m e w =
      let f : accepted q m ≡ accepted p n = sym ((reader_writer max_depth max_signals 0 bs q m).1 w) ∙ e in
      cc

  -- bytes that begin with a statement have no fault: each of rows 6 (by read-back) to 10 asks for one
  no-fault : (p : Statement) (m k : ℕ) → read max_depth max_signals 0 bs ≡ accepted p m → Faulty bs k → ⊥
  unfolding walk
  no-fault p m k e x =
      let c : Comes bs 0 [] (accepted p m) = subst (Comes bs 0 []) e (comes bs max_depth 0 max_signals 0 0 0 [] refl refl refl) in
      fault-or-end x.commands c.0 x.offset (0 + m) k x.awaiting x.awaited x.met x.fault c.1

  unspelled : (p : Statement) (k : ℕ) → Spells bs p → Faulty bs k → ⊥
  unspelled p k s = no-fault p (length bs) k ((reads_what_is-written bs p).1 s)

module _ (bs : List ℕ) (read_back : ℕ) where
  -- ---- which rows the reader's answer leaves
  -- n is given: its row holds, and no row before it
  abbrev pub Given : ℕ → Type 0
  Given n = Row bs read_back n × ((m : ℕ) → rank m < rank n → ¬ Row bs read_back m)

  abbrev pub Sized : Type 0
  Sized = (1 ≤ length bs) × (length bs ≤ max_bytes)

  given-2 : ¬ Sized → Given 2
  given-2 h = (row_2 (go (dec_lt 0 (length bs)) (dec_lt max_bytes (length bs))), none_below)
    where
      go : Dec (0 < length bs) → Dec (max_bytes < length bs) → (length bs ≡ 0) ⊎ (max_bytes < length bs)
      go (yes x) (yes y) = inr y
      go (yes x) (no y) = absurd (h (x, omega arith))
      go (no x) y = inl (omega arith)

      none_below : (m : ℕ) → rank m < rank 2 → ¬ Row bs read_back m
      none_below m l (row_2 x) = omega arith
      none_below m l (row_3_to_6 n h f) = omega (arith, rank_least 3 m (fault_range f).0 (omega arith))
      none_below m l (row_6 w x) = omega arith
      none_below m l (row_7 n h x) = omega arith
      none_below m l (row_8 s x) = omega arith
      none_below m l (row_9 s x) = omega arith
      none_below m l (row_10 s x) = omega arith

  not-2 : Sized → (length bs ≡ 0) ⊎ (max_bytes < length bs) → ⊥
  not-2 z (inl x) = omega arith
  not-2 z (inr x) = omega arith

  given-fault : Sized → (k : ℕ) → Faulty bs k → Given k
  given-fault z k x = (row_3_to_6 x.commands x.met x.fault, none_below)
    where
      none_below : (m : ℕ) → rank m < rank k → ¬ Row bs read_back m
      none_below m l (row_2 y) = not-2 z y
      none_below m l (row_3_to_6 n {a = a} {s = s} {awaited = w} h f) =
          let e : rank m ≡ rank k = ap rank (one-fault bs n x.commands a x.offset m k s x.awaiting w x.awaited h f x.met x.fault) in
          omega (arith, e, l)
      none_below m l (row_6 {p = p} {n = j} w y) = no-fault bs p j k ((reader_writer max_depth max_signals 0 bs p j).1 w) x
      none_below m l (row_7 n {a = a} h y) =
          fault-or-end bs x.commands n x.offset a k x.awaiting x.awaited x.met x.fault h
      none_below m l (row_8 {p = p} s y) = unspelled bs p k s x
      none_below m l (row_9 {p = p} s y) = unspelled bs p k s x
      none_below m l (row_10 {p = p} s y) = unspelled bs p k s x

  -- 'the declarations make the nesting of signals exceed six'
  abbrev Crowded : Statement → Type 0
  Crowded p = max_signals < signal_nesting (program read_back p)

  given-6 : Sized → (p : Statement) (m n a : ℕ) → read max_depth max_signals 0 bs ≡ accepted p m → walk n bs ≡ some (at a []) → Crowded p → Given 6
  given-6 z p j n a e h c = (row_6 ((reader_writer max_depth max_signals 0 bs p j).0 e) c, none_below)
    where
      none_below : (m : ℕ) → rank m < rank 6 → ¬ Row bs read_back m
      none_below m l (row_2 y) = not-2 z y
      none_below m l (row_3_to_6 k {a = b} {s = s} {awaited = w} i f) = fault-or-end bs k n b a m s w i f h
      none_below m l (row_6 w y) = omega arith
      none_below m l (row_7 k i y) = omega arith
      none_below m l (row_8 s y) = omega arith
      none_below m l (row_9 s y) = omega arith
      none_below m l (row_10 s y) = omega arith

  given-7 : Sized → (p : Statement) (j n a : ℕ) → read max_depth max_signals 0 bs ≡ accepted p j → ¬ Crowded p
      → walk n bs ≡ some (at a []) → a < length bs → Given 7
  given-7 z p j n a e c h i = (row_7 n h i, none_below)
    where
      none_below : (m : ℕ) → rank m < rank 7 → ¬ Row bs read_back m
      none_below m l (row_2 y) = not-2 z y
      none_below m l (row_3_to_6 k {a = b} {s = s} {awaited = w} g f) = fault-or-end bs k n b a m s w g f h
      none_below m l (row_6 {p = q} w y) = c (subst Crowded (one-statement bs p q j _ e w) y)
      none_below m l (row_7 k g y) = omega arith
      none_below m l (row_8 s y) = omega arith
      none_below m l (row_9 s y) = omega arith
      none_below m l (row_10 s y) = omega arith

  -- ---- the bytes are one statement
  module _ (z : Sized) (p : Statement) (n : ℕ) (h : walk n bs ≡ some (at (length bs) [])) (spelled : Spells bs p)
      (clear : ¬ Crowded p) where
    same_statement : (q : Statement) → Spells bs q → p ≡ q
    same_statement q s =
        let e : accepted p (length bs) ≡ accepted q (length bs) =
        sym ((reads_what_is-written bs p).1 spelled) ∙ (reads_what_is-written bs q).1 s in
        cc

    -- no row up to 7 holds, and the label rows speak of p
    remaining : (m : ℕ) → Row bs read_back m
        → ((m ≡ 8) × ¬ Distinct p) ⊎ (((m ≡ 9) × ¬ Targeted p) ⊎ ((m ≡ 10) × ¬ WellFormed p))
    remaining m (row_2 y) = absurd (not-2 z y)
    remaining m (row_3_to_6 k {a = b} {s = s} {awaited = w} j f) = absurd (fault-or-end bs k n b (length bs) m s w j f h)
    remaining m (row_6 {p = q} w y) =
        absurd (clear (subst Crowded (one-statement bs p q (length bs) _ ((reads_what_is-written bs p).1 spelled) w) y))
    remaining m (row_7 k {a = a} j y) = absurd (omega (arith, one_end bs k n a (length bs) j h))
    remaining m (row_8 {p = q} s y) = inl (refl, λ d. y (subst Distinct (same_statement q s) d))
    remaining m (row_9 {p = q} s y) = inr (inl (refl, λ d. y (subst Targeted (same_statement q s) d)))
    remaining m (row_10 {p = q} s y) = inr (inr (refl, λ d. y (subst WellFormed (same_statement q s) d)))

    given-8 : ¬ Distinct p → Given 8
    given-8 x = (row_8 spelled x, λ m l r. go m l (remaining m r))
      where
        go : (m : ℕ) → rank m < rank 8 → ((m ≡ 8) × ¬ Distinct p) ⊎ (((m ≡ 9) × ¬ Targeted p) ⊎ ((m ≡ 10) × ¬ WellFormed p)) → ⊥
        go m l (inl e) = late m 8 8 l e.0 (omega arith)
        go m l (inr (inl e)) = late m 9 8 l e.0 (omega arith)
        go m l (inr (inr e)) = late m 10 8 l e.0 (omega arith)

    given-9 : Distinct p → ¬ Targeted p → Given 9
    given-9 d x = (row_9 spelled x, λ m l r. go m l (remaining m r))
      where
        go : (m : ℕ) → rank m < rank 9 → ((m ≡ 8) × ¬ Distinct p) ⊎ (((m ≡ 9) × ¬ Targeted p) ⊎ ((m ≡ 10) × ¬ WellFormed p)) → ⊥
        go m l (inl e) = e.1 d
        go m l (inr (inl e)) = late m 9 9 l e.0 (omega arith)
        go m l (inr (inr e)) = late m 10 9 l e.0 (omega arith)

    given-10 : Distinct p → Targeted p → ¬ WellFormed p → Given 10
    given-10 d t x = (row_10 spelled x, λ m l r. go m l (remaining m r))
      where
        go : (m : ℕ) → rank m < rank 10 → ((m ≡ 8) × ¬ Distinct p) ⊎ (((m ≡ 9) × ¬ Targeted p) ⊎ ((m ≡ 10) × ¬ WellFormed p)) → ⊥
        go m l (inl e) = e.1 d
        go m l (inr (inl e)) = e.1 t
        go m l (inr (inr e)) = late m 10 10 l e.0 (omega arith)

    given-none : Distinct p → Targeted p → WellFormed p → (m : ℕ) → ¬ Row bs read_back m
    given-none d t f m r = go (remaining m r)
      where
        go : ((m ≡ 8) × ¬ Distinct p) ⊎ (((m ≡ 9) × ¬ Targeted p) ⊎ ((m ≡ 10) × ¬ WellFormed p)) → ⊥
        go (inl e) = e.1 d
        go (inr (inl e)) = e.1 t
        go (inr (inr e)) = e.1 f

  -- ---- the check decides by the rows
  abbrev pub Decides : Checked → Type 0
  Decides (bad number) = Given number
  Decides (sound p) = ((m : ℕ) → ¬ Row bs read_back m) × Spells bs p × Distinct p × Targeted p × WellFormed p

  labels-decide : Sized → (p : Statement) (n : ℕ) → walk n bs ≡ some (at (length bs) []) → Spells bs p → ¬ Crowded p → Decides (label_rules p)
  labels-decide z p n h s c = go-8 (distinct p) refl
    where
      go-10 : Distinct p → Targeted p → (b : Bool) → well_formed p ≡ b → Decides (cond b (sound p) (bad 10))
      go-10 d t true e =
          let f = (wellFormed-is p d).0 e in
          (given-none z p n h s c d t f, s, d, t, f)
      go-10 d t false e = given-10 z p n h s c d t (λ f. true≢false (sym ((wellFormed-is p d).1 f) ∙ e))

      go-9 : Distinct p → (b : Bool) → targeted p ≡ b → Decides (cond b (cond (well_formed p) (sound p) (bad 10)) (bad 9))
      go-9 d true e = go-10 d ((targeted_is p).0 e) (well_formed p) refl
      go-9 d false e = given-9 z p n h s c d (λ t. true≢false (sym ((targeted_is p).1 t) ∙ e))

      go-8 : (b : Bool) → distinct p ≡ b
          → Decides (cond b (cond (targeted p) (cond (well_formed p) (sound p) (bad 10)) (bad 9)) (bad 8))
      go-8 true e = go-9 ((distinct_is p).0 e) (targeted p) refl
      go-8 false e = given-8 z p n h s c (λ d. true≢false (sym ((distinct_is p).1 d) ∙ e))

  read-decides : Sized → (r : Read) → read max_depth max_signals 0 bs ≡ r → Comes bs 0 [] r → Decides (after_read read_back (length bs) r)
  read-decides z (refused k) e x = given-fault z k x
  read-decides z (accepted p m) e x = crowds (ltb max_signals (signal_nesting (program read_back p))) refl
    where
      exact : (m ≡ length bs) → ¬ Crowded p → Decides (label_rules p)
      exact i c =
          labels-decide z p x.0 (x.1 ∙ ap (λ (k : ℕ). some (at k [])) (let j : 0 + m ≡ length bs = omega arith in j))
          ((reads_what_is-written bs p).0 (e ∙ ap (accepted p) i)) c

      go : ¬ Crowded p → (b : Bool) → ltb m (length bs) ≡ b → Decides (cond b (bad 7) (label_rules p))
      go c true i = given-7 z p m x.0 (0 + m) e c x.1 (omega (arith, ltb-true m (length bs) i))
      go c false i =
          exact (omega (arith, ltb-false m (length bs) i, count_within max_depth max_signals 0 bs p m e)) c

      crowds : (b : Bool) → ltb max_signals (signal_nesting (program read_back p)) ≡ b
          → Decides (cond b (bad 6) (cond (ltb m (length bs)) (bad 7) (label_rules p)))
      crowds true i = given-6 z p m x.0 (0 + m) e x.1 (ltb-true max_signals (signal_nesting (program read_back p)) i)
      crowds false i = go (λ c. omega (arith, ltb-false max_signals (signal_nesting (program read_back p)) i)) (ltb m (length bs)) refl

  pub decided : Decides (checked bs read_back)
  unfolding checked walk
  decided = go (leb 1 (length bs)) (leb (length bs) max_bytes) refl refl
    where
      go : (b c : Bool) → leb 1 (length bs) ≡ b → leb (length bs) max_bytes ≡ c
          → Decides (cond (b && c) (after_read read_back (length bs) (read max_depth max_signals 0 bs)) (bad 2))
      go true true i j =
          read-decides (leb-true 1 (length bs) i, leb-true (length bs) max_bytes j) (read max_depth max_signals 0 bs) refl
          (comes bs max_depth 0 max_signals 0 0 0 [] refl refl refl)
      go true false i j = given-2 (λ z. true≢false (sym (le-leb (length bs) max_bytes z.1) ∙ j))
      go false c i j = given-2 (λ z. true≢false (sym (le-leb 1 (length bs) z.0) ∙ i))

  pub row-range : (k : ℕ) → Row bs read_back k → (2 ≤ k) × (k ≤ 18)
  row-range k (row_2 x) = omega arith
  row-range k (row_3_to_6 n h f) = omega (arith, fault_range f)
  row-range k (row_6 w x) = omega arith
  row-range k (row_7 n h x) = omega arith
  row-range k (row_8 s x) = omega arith
  row-range k (row_9 s x) = omega arith
  row-range k (row_10 s x) = omega arith

  -- before rows 11 and 12
  pub row-rank : (k : ℕ) → Row bs read_back k → rank k ≤ 20
  row-rank k (row_2 x) = omega arith
  row-rank k (row_3_to_6 n h f) = fault_rank f
  row-rank k (row_6 w x) = omega arith
  row-rank k (row_7 n h x) = omega arith
  row-rank k (row_8 s x) = omega arith
  row-rank k (row_9 s x) = omega arith
  row-rank k (row_10 s x) = omega arith

  -- CHECK: the number goes by rows 2 to 10 and 18
  pub check_by_rows : ByRows (check_of bs read_back) (Row bs read_back)
  unfolding check_of
  check_by_rows = go (checked bs read_back) decided
    where
      go : (c : Checked) → Decides c → ByRows (number_of c) (Row bs read_back)
      go (bad k) d = refused_by k (Row bs read_back) (λ r. omega (arith, row-range 0 r)) d.0 d.1
      go (sound p) d = accepted_by (Row bs read_back) d.0
