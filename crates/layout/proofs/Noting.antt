-- What reading notes of a statement: its labels, whether a pause's label came twice, the number and the ranks of its pauses, the most
-- signal commands around a command, and the farms that it names.
use Prim.Native.Nat.{ℕ, suc, ◌+◌, ◌-◌, ◌/◌, ◌%◌, ◌^◌, ◌≤◌, ◌<◌, max}
use mathlib.Core.Path.{◌≡◌, refl, sym, ap, ap₂, ◌∙◌, subst}
use mathlib.Core.Logic.{⊎_elim}
use mathlib.Core.Bool.{Bool, true, false, ◌&&◌, cond, and-eq-true_iff, and-true}
use mathlib.Core.List.{List}
use native.Mathlib.Omega.{arith}
use lib.ListN.{length, get_or, set, length-set, length-replicate, length-append, get_or-replicate}
use lib.Seq.{get_or-set_same, get_or-set_other}
use lib.Dec.{eqb, ltb}
use lib.Pow.{pow_pos, pow-lt}
use lib.Bits.{bit_and, or_lt}
use borrow.Author.Tests.{eqb-true, eqb-false, ltb-true, ltb-false}
use Rattle.spec_base.specs.Limits.{label_count, word_labels, signal_count}
use Rattle.spec_base.specs.Sets.{member, none, empty, only, join, disjoint}
use Rattle.spec_base.specs.Widths.{two_words, set_at}
use Rattle.sets.proofs.Booleans.{clash, Tested, tested}
use Rattle.sets.proofs.Members.{member-only, in_none, in_join, out_l, out_r}
use Rattle.sets.proofs.Algebra.{join-none_l, join-none_r, join_assoc, empty_join}
use Rattle.sets.proofs.Tests.{disjoint-is, disjoint-none, none-disjoint}
use Rattle.sets.proofs.Widths.{none_lt, only_lt, join_lt}
use Rattle.sets.proofs.Words.{words-none, one-low, one-high, common-low, common-high}
use Rattle.spec_language.specs.Statement.{Value, pure, litres, Statement, nothing, pause, emit, exit, seq, par, loop, present, signal, try, setpause, suspend, held}
use Rattle.spec_language.specs.LabelTests.{labels_of, pauses, setpauses, distinct}
use Rattle.theory_language.specs.Ranks.{pause_count, rank}
use Rattle.spec_language.specs.Sizes.{signal_nesting}
use Rattle.theory_language.proofs.LabelTests.{once_both}
use Rattle.theory_language.specs.Farms.{farm_of, farms_of}
use Rattle.spec_sequence.specs.Writer.{bytes_of, size, Ranged}
use Rattle.layout.specs.Notes.{pausesIn, setpausesIn, twice_in, pauses_counted, most_in, farms_in, rank_in, note_count, no_notes, word_at, in_word, notePause, noteSetpause, noteFarm, note_emission, note_signals, note_within, note, Noted}

-- the words of both sets hold what they have space for
pub record WordsFit (m : List ℕ) : Type 0 where
  pub fits : (j : ℕ) → j < 4 → get_or m j 0 < 2 ^ word_labels

-- the notes m become n by these pauses and setpauses, so many pauses, the test of row 8 among them, and their ranks
pub record Added (paused targeted count : ℕ) (once : Bool) (rank : (base l : ℕ) → ℕ) (m n : List ℕ) : Type 0 where
  pub long : length n ≡ length m
  pub held : WordsFit m → WordsFit n
  pub pauses_in : WordsFit m → pausesIn n ≡ join (pausesIn m) paused
  pub setpauses_in : WordsFit m → setpausesIn n ≡ join (setpausesIn m) targeted
  pub counted : pauses_counted n ≡ pauses_counted m + count
  pub twice : WordsFit m → empty (twice_in n) ≡ (empty (twice_in m) && (disjoint (pausesIn m) paused && once))
  pub kept : (l : ℕ) → member l paused ≡ false → rank_in n l ≡ rank_in m l
  pub ranked : once ≡ true → (l : ℕ) → member l paused ≡ true → rank_in n l ≡ rank (pauses_counted m) l

-- the notes m become n by those of p
abbrev pub NotesOf : Statement → (m n : List ℕ) → Type 0
NotesOf p = Added (pauses p) (setpauses p) (pause_count p) (distinct p) (λ base l. rank base p l)

-- ---- a command with no label
once-none : (x : Bool) (seen : ℕ) → x ≡ (x && (disjoint seen none && true))
once-none x seen = rw (disjoint-none seen) (sym (and-true x))

silent : (m : List ℕ) → Added none none 0 true (λ base l. base) m m
silent m =
    record {
      long = refl;
      held = λ f. f;
      pauses_in = λ f. sym (join-none_r (pausesIn m));
      setpauses_in = λ f. sym (join-none_r (setpausesIn m));
      counted = omega arith;
      twice = λ f. once-none (empty (twice_in m)) (pausesIn m);
      kept = λ l e. refl;
      ranked = λ e l h. in_none l h;
    }

-- ---- what is noted beside all that
-- only the words of signals and farms differ
record Aside (m n : List ℕ) : Type 0 where
  pub long : length n ≡ length m
  pub low : (j : ℕ) → j < 6 → get_or n j 0 ≡ get_or m j 0
  pub ranks : (l : ℕ) → rank_in n l ≡ rank_in m l

stored_aside : (i v : ℕ) (m : List ℕ) → 6 ≤ i → i < 8 → Aside m (set m i v)
stored_aside i v m k h =
    record {
      long = length-set m i v;
      low = λ j g. get_or-set_other m i j v 0 (λ e. omega arith);
      ranks = λ l. get_or-set_other m i (8 + l) v 0 (λ e. omega arith);
    }

module _ {m n : List ℕ} (z : Aside m n) where
  held-aside : WordsFit m → WordsFit n
  held-aside f = record { fits = λ j g. subst (λ (x : ℕ). x < 2 ^ word_labels) (sym (z.low j (omega arith))) (f.fits j g) }

  same-pauses : pausesIn n ≡ pausesIn m
  same-pauses = ap₂ (two_words word_labels) (z.low 0 (omega arith)) (z.low 1 (omega arith))

  same-setpauses : setpausesIn n ≡ setpausesIn m
  same-setpauses = ap₂ (two_words word_labels) (z.low 2 (omega arith)) (z.low 3 (omega arith))

  from-aside : {x s a : ℕ} {o : Bool} {f : (base l : ℕ) → ℕ} {r : List ℕ} → Added x s a o f n r → Added x s a o f m r
  from-aside {x} {s} {a} {o} {f} {r} q =
      record {
        long = q.long ∙ z.long;
        held = λ h. q.held (held-aside h);
        pauses_in = λ h. q.pauses_in (held-aside h) ∙ ap (λ (y : ℕ). join y x) same-pauses;
        setpauses_in = λ h. q.setpauses_in (held-aside h) ∙ ap (λ (y : ℕ). join y s) same-setpauses;
        counted = q.counted ∙ ap (λ (y : ℕ). y + a) (z.low 5 (omega arith));
        twice = λ h.
            q.twice (held-aside h)
            ∙ ap₂ (λ (y w : ℕ). empty y && (disjoint w x && o)) (z.low 4 (omega arith)) same-pauses;
        kept = λ l e. q.kept l e ∙ z.ranks l;
        ranked = λ e l h. q.ranked e l h ∙ ap (λ (y : ℕ). f y l) (z.low 5 (omega arith));
      }

farm_adds : (s : ℕ) (m : List ℕ) → Added none none 0 true (λ base l. base) m (noteFarm s m)
unfolding noteFarm
farm_adds s m = from-aside (stored_aside 7 (join (farms_in m) (only s)) m (omega arith) (omega arith)) (silent (set m 7 (join (farms_in m) (only s))))

signals_aside : (k : ℕ) (m : List ℕ) → Aside m (note_signals k m)
unfolding note_signals
signals_aside k m = stored_aside 6 (max (most_in m) k) m (omega arith) (omega arith)

-- ---- a word of a set
-- a word stored among those of the sets, and a number stored behind them
held_set : (i v : ℕ) (m : List ℕ) → i < length m → v < 2 ^ word_labels → WordsFit m → WordsFit (set m i v)
held_set i v m k f fit = record { fits = λ j g. go j g (tested (eqb i j)) }
  where
    go : (j : ℕ) → j < 4 → Tested (eqb i j) → get_or (set m i v) j 0 < 2 ^ word_labels
    go j g (Tested.yes e) =
        let z : i ≡ j = eqb-true i j e in
        subst (λ (n : ℕ). get_or (set m i v) n 0 < 2 ^ word_labels) z (subst (λ (x : ℕ). x < 2 ^ word_labels) (sym (get_or-set_same m i v 0 k)) f)
    go j g (Tested.no e) =
        subst (λ (x : ℕ). x < 2 ^ word_labels) (sym (get_or-set_other m i j v 0 (λ z. eqb-false i j e (sym z)))) (fit.fits j g)

held_above : (i v : ℕ) (m : List ℕ) → 4 ≤ i → WordsFit m → WordsFit (set m i v)
held_above i v m k fit =
    record { fits = λ j g. subst (λ (x : ℕ). x < 2 ^ word_labels) (sym (get_or-set_other m i j v 0 (λ z. omega arith))) (fit.fits j g) }

digit-fits : (l : ℕ) → in_word l < 2 ^ word_labels
unfolding only
digit-fits l = let h : l % word_labels < word_labels = omega arith in pow-lt h

module _ (at l : ℕ) (m : List ℕ) (h : l < label_count) (long : at + 1 < length m) (fits : get_or m at 0 < 2 ^ word_labels) where
  -- the notes with l in the set
  abbrev with-digit : List ℕ
  with-digit = set m (at + l / word_labels) (join (word_at at l m) (in_word l))

  in-low : l < word_labels → (at + l / word_labels ≡ at) × (l % word_labels ≡ l)
  in-low k = (omega arith, omega arith)

  in-high : word_labels ≤ l → (at + l / word_labels ≡ at + 1) × (l % word_labels ≡ l - word_labels)
  in-high k = (omega arith, omega arith)

  joined-fits : word_at at l m < 2 ^ word_labels → join (word_at at l m) (in_word l) < 2 ^ word_labels
  unfolding join
  joined-fits k = or_lt word_labels (word_at at l m) (in_word l) k (digit-fits l)

  set-joins : set_at at with-digit ≡ join (set_at at m) (only l)
  set-joins = go (tested (ltb l word_labels))
    where
      go : Tested (ltb l word_labels) → set_at at with-digit ≡ join (set_at at m) (only l)
      go (Tested.yes k) =
          let q = in-low (ltb-true l word_labels k) in
          rw (q.0, q.1)
          (ap₂ (two_words word_labels) (get_or-set_same m at (join (get_or m at 0) (only l)) 0 (omega arith))
          (get_or-set_other m at (at + 1) (join (get_or m at 0) (only l)) 0 (λ e. omega arith))
          ∙ one-low word_labels (get_or m at 0) (get_or m (at + 1) 0) l fits (ltb-true l word_labels k))
      go (Tested.no k) =
          let q = in-high (ltb-false l word_labels k) in
          rw (q.0, q.1)
          (ap₂ (two_words word_labels) (get_or-set_other m (at + 1) at (join (get_or m (at + 1) 0) (only (l - word_labels))) 0 (λ e. omega arith))
          (get_or-set_same m (at + 1) (join (get_or m (at + 1) 0) (only (l - word_labels))) 0 (omega arith))
          ∙ one-high word_labels (get_or m at 0) (get_or m (at + 1) 0) l fits (ltb-false l word_labels k))

  digit-common : empty (bit_and (word_at at l m) (in_word l)) ≡ disjoint (set_at at m) (only l)
  unfolding disjoint none
  digit-common = go (tested (ltb l word_labels))
    where
      go : Tested (ltb l word_labels) → eqb (bit_and (word_at at l m) (in_word l)) 0 ≡ eqb (bit_and (set_at at m) (only l)) 0
      go (Tested.yes k) =
          let q = in-low (ltb-true l word_labels k) in
          rw (q.0, q.1) (common-low word_labels (get_or m at 0) (get_or m (at + 1) 0) l fits (ltb-true l word_labels k))
      go (Tested.no k) =
          let q = in-high (ltb-false l word_labels k) in
          rw (q.0, q.1) (common-high word_labels (get_or m at 0) (get_or m (at + 1) 0) l fits (ltb-false l word_labels k))

-- ---- a pause and a setpause
module _ (l : ℕ) (m : List ℕ) (h : l < label_count) (long : length m ≡ note_count) where
  -- notePause: what it stores first, and the notes with the first store, and with the second
  abbrev twice : ℕ
  twice = join (twice_in m) (bit_and (word_at 0 l m) (in_word l))

  abbrev paused : ℕ
  paused = join (word_at 0 l m) (in_word l)

  abbrev one : List ℕ
  one = set m 4 twice

  abbrev two : List ℕ
  two = set one (0 + l / word_labels) paused

  at-two : (j : ℕ) → (j ≡ 5 → ⊥) → (j ≡ 8 + l → ⊥) → get_or (notePause l m) j 0 ≡ get_or two j 0
  unfolding notePause
  at-two j f g = get_or-set_other (set two (8 + l) (pauses_counted m)) 5 j (pauses_counted m + 1) 0 f ∙ get_or-set_other two (8 + l) j (pauses_counted m) 0 g

  at_one : (j : ℕ) → (j ≡ 4 → ⊥) → get_or one j 0 ≡ get_or m j 0
  at_one j f = get_or-set_other m 4 j twice 0 f

  at_rest : (j : ℕ) → (j ≡ 0 + l / word_labels → ⊥) → (j ≡ 4 → ⊥) → get_or two j 0 ≡ get_or m j 0
  at_rest j f g = get_or-set_other one (0 + l / word_labels) j paused 0 f ∙ at_one j g

  at-twice : twice_in (notePause l m) ≡ twice
  at-twice =
      at-two 4 (λ e. omega arith) (λ e. omega arith)
      ∙ get_or-set_other one (0 + l / word_labels) 4 paused 0 (λ e. omega arith)
      ∙ get_or-set_same m 4 twice 0 (omega arith)

  at-rank : rank_in (notePause l m) l ≡ pauses_counted m
  unfolding notePause
  at-rank =
      get_or-set_other (set two (8 + l) (pauses_counted m)) 5 (8 + l) (pauses_counted m + 1) 0 (λ e. omega arith)
      ∙ get_or-set_same two (8 + l) (pauses_counted m) 0 (simp length-set (omega arith))

  at_count : pauses_counted (notePause l m) ≡ pauses_counted m + 1
  unfolding notePause
  at_count = get_or-set_same (set two (8 + l) (pauses_counted m)) 5 (pauses_counted m + 1) 0 (simp length-set (omega arith))

  pause-length : length (notePause l m) ≡ length m
  unfolding notePause
  pause-length = simp length-set

  -- the two words of the pauses, which the first store leaves
  same-words : (j : ℕ) → j < 2 → get_or one j 0 ≡ get_or m j 0
  same-words j k = at_one j (λ e. omega arith)

  pause-joins : WordsFit m → pausesIn (notePause l m) ≡ join (pausesIn m) (only l)
  pause-joins fit =
      ap₂ (two_words word_labels) (at-two 0 (λ e. omega arith) (λ e. omega arith)) (at-two 1 (λ e. omega arith) (λ e. omega arith))
      ∙ ap (λ (v : ℕ). set_at 0 (set one (0 + l / word_labels) (join v (in_word l)))) (sym (same-words (0 + l / word_labels) (omega arith)))
      ∙ set-joins 0 l one h (simp length-set (omega arith)) (omega (arith, same-words 0 (omega arith), fit.fits 0 (omega arith)))
      ∙ ap₂ (λ (a b : ℕ). join (two_words word_labels a b) (only l)) (same-words 0 (omega arith)) (same-words 1 (omega arith))

  pause-twice : WordsFit m → empty (twice_in (notePause l m)) ≡ (empty (twice_in m) && (disjoint (pausesIn m) (only l) && true))
  pause-twice fit =
      ap empty at-twice ∙ empty_join (twice_in m) (bit_and (word_at 0 l m) (in_word l))
      ∙ ap (λ (b : Bool). empty (twice_in m) && b)
      (digit-common 0 l m h (omega arith) (fit.fits 0 (omega arith)) ∙ sym (and-true (disjoint (pausesIn m) (only l))))

  pause-held : WordsFit m → WordsFit (notePause l m)
  unfolding notePause
  pause-held fit =
      held_above 5 (pauses_counted m + 1) (set two (8 + l) (pauses_counted m)) (omega arith)
      (held_above (8 + l) (pauses_counted m) two (omega arith)
      (held_set (0 + l / word_labels) paused one (simp length-set (omega arith))
      (joined-fits 0 l m h (omega arith) (fit.fits 0 (omega arith)) (fit.fits (0 + l / word_labels) (omega arith)))
      (held_above 4 twice m (omega arith) fit)))

  pause-adds : Added (only l) none 1 true (λ base k. base) m (notePause l m)
  pause-adds =
      record {
        long = pause-length;
        held = pause-held;
        pauses_in = pause-joins;
        setpauses_in = λ fit.
            ap₂ (two_words word_labels) (other 2 (omega arith) (omega arith)) (other 3 (omega arith) (omega arith))
            ∙ sym (join-none_r (setpausesIn m));
        counted = at_count;
        twice = pause-twice;
        kept = λ k e.
            at-two (8 + k) (λ q. omega arith) (λ q. eqb-false l k (sym (member-only l k) ∙ e) (omega arith))
            ∙ at_rest (8 + k) (λ q. omega arith) (λ q. omega arith);
        ranked = λ o k e.
            ap (rank_in (notePause l m)) (sym (eqb-true l k (sym (member-only l k) ∙ e))) ∙ at-rank;
      }
    where
      other : (j : ℕ) → 2 ≤ j → j < 4 → get_or (notePause l m) j 0 ≡ get_or m j 0
      other j g k = at-two j (λ e. omega arith) (λ e. omega arith) ∙ at_rest j (λ e. omega arith) (λ e. omega arith)

  setpause-other : (j : ℕ) → (j ≡ 2 + l / word_labels → ⊥) → get_or (noteSetpause l m) j 0 ≡ get_or m j 0
  unfolding noteSetpause
  setpause-other j f = get_or-set_other m (2 + l / word_labels) j (join (word_at 2 l m) (in_word l)) 0 f

  setpause-adds : Added none (only l) 0 true (λ base k. base) m (noteSetpause l m)
  setpause-adds =
      record {
        long = unfold noteSetpause in length-set m (2 + l / word_labels) (join (word_at 2 l m) (in_word l));
        held = λ fit. unfold noteSetpause in
            held_set (2 + l / word_labels) (join (word_at 2 l m) (in_word l)) m (omega arith)
            (joined-fits 2 l m h (omega arith) (fit.fits 2 (omega arith)) (fit.fits (2 + l / word_labels) (omega arith))) fit;
        pauses_in = λ fit.
            ap₂ (two_words word_labels) (setpause-other 0 (λ e. omega arith)) (setpause-other 1 (λ e. omega arith))
            ∙ sym (join-none_r (pausesIn m));
        setpauses_in = λ fit. unfold noteSetpause in set-joins 2 l m h (omega arith) (fit.fits 2 (omega arith));
        counted = setpause-other 5 (λ e. omega arith) ∙ (omega arith);
        twice = λ fit. ap empty (setpause-other 4 (λ e. omega arith)) ∙ once-none (empty (twice_in m)) (pausesIn m);
        kept = λ k e. setpause-other (8 + k) (λ q. omega arith);
        ranked = λ e k q. in_none k q;
      }

-- ---- two parts, from the left
module _ {x y s t a b : ℕ} {o u : Bool} {f g : (base l : ℕ) → ℕ} {m n r : List ℕ} (p : Added x s a o f m n) (q : Added y t b u g n r) where
  two-kept : (l : ℕ) → member l (join x y) ≡ false → rank_in r l ≡ rank_in m l
  two-kept l e =
      q.kept l (out_r l x y e) ∙ p.kept l (out_l l x y e)

  two-ranked : (disjoint x y && (o && u)) ≡ true → (l : ℕ) → member l (join x y) ≡ true
      → rank_in r l ≡ cond (member l x) (f (pauses_counted m) l) (g (pauses_counted m + a) l)
  two-ranked e l h =
      let apart = (and-eq-true_iff (disjoint x y) (o && u)).0 e in
      let each = (and-eq-true_iff o u).0 apart.1 in
      go ((disjoint-is x y).0 apart.0 l) each.0 each.1 (tested (member l x))
    where
      go : (member l x ≡ true → member l y ≡ false) → o ≡ true → u ≡ true → Tested (member l x)
          → rank_in r l ≡ cond (member l x) (f (pauses_counted m) l) (g (pauses_counted m + a) l)
      go d v w (Tested.yes i) = rw i (q.kept l (d i) ∙ p.ranked v l i)
      go d v w (Tested.no i) =
          let j : member l y ≡ true = ⊎_elim (λ z. clash (member l x) z i) (λ z. z) (in_join l x y h) in
          rw i (q.ranked w l j ∙ ap (λ (c : ℕ). g c l) p.counted)

  two-adds : Added (join x y) (join s t) (a + b) (disjoint x y && (o && u)) (λ base l. cond (member l x) (f base l) (g (base + a) l)) m r
  two-adds =
      record {
        long = q.long ∙ p.long;
        held = λ f. q.held (p.held f);
        pauses_in = λ f. q.pauses_in (p.held f) ∙ ap (λ (z : ℕ). join z y) (p.pauses_in f) ∙ sym (join_assoc (pausesIn m) x y);
        setpauses_in = λ f. q.setpauses_in (p.held f) ∙ ap (λ (z : ℕ). join z t) (p.setpauses_in f) ∙ sym (join_assoc (setpausesIn m) s t);
        counted = let e = q.counted in let d = p.counted in omega arith;
        twice = λ f.
            q.twice (p.held f) ∙ ap₂ (λ (c : Bool) (z : ℕ). c && (disjoint z y && u)) (p.twice f) (p.pauses_in f)
            ∙ sym (once_both (empty (twice_in m)) (pausesIn m) x y o u);
        kept = two-kept;
        ranked = two-ranked;
      }

-- ---- every statement
emission_adds : (s : ℕ) (v : Value) (m : List ℕ) → Added none none 0 true (λ base l. base) m (note_emission s v m)
emission_adds s pure m = silent m
emission_adds s (litres n) m = farm_adds s m

pub noting : (k : ℕ) (p : Statement) (m : List ℕ) → length m ≡ note_count → Ranged p → NotesOf p m (note_within k p m)
unfolding note_within labels_of pause_count distinct rank
noting k nothing m h r = silent m
noting k (pause l) m h r = pause-adds l m r h
noting k (emit s v) m h r = emission_adds s v m
noting k (exit n) m h r = silent m
noting k (seq p q) m h r = let a = noting k p m h r.0 in two-adds a (noting k q (note_within k p m) (a.long ∙ h) r.1)
noting k (par p q) m h r = let a = noting k p m h r.0 in two-adds a (noting k q (note_within k p m) (a.long ∙ h) r.1)
noting k (loop a p) m h r = noting k p m h r
noting k (present s p q) m h r = let a = noting k p m h r.1 in two-adds a (noting k q (note_within k p m) (a.long ∙ h) r.2)
noting k (signal sc a s p) m h r =
    let z = signals_aside (suc k) m in from-aside z (noting (suc k) p (note_signals (suc k) m) (z.long ∙ h) r.2)
noting k (try p) m h r = noting k p m h r
noting k (setpause l) m h r = setpause-adds l m r h
noting k (suspend s p) m h r = noting k p m h r.1
noting k (held s K p) m h r = absurd r

-- ---- the signal commands around, and the farms
pause_aside : (j l : ℕ) (m : List ℕ) → l < label_count → length m ≡ note_count → 6 ≤ j → j < 8 → get_or (notePause l m) j 0 ≡ get_or m j 0
pause_aside j l m h long k g =
    at-two l m h long j (λ e. omega arith) (λ e. omega arith) ∙ at_rest l m h long j (λ e. omega arith) (λ e. omega arith)

setpause_aside : (j l : ℕ) (m : List ℕ) → l < label_count → length m ≡ note_count → 6 ≤ j → get_or (noteSetpause l m) j 0 ≡ get_or m j 0
setpause_aside j l m h long k = setpause-other l m h long j (λ e. omega arith)

noted_most : (k : ℕ) (m : List ℕ) → length m ≡ note_count → most_in (note_signals k m) ≡ max (most_in m) k
unfolding note_signals
noted_most k m h = get_or-set_same m 6 (max (most_in m) k) 0 (omega arith)

most_emission : (s : ℕ) (v : Value) (m : List ℕ) → most_in (note_emission s v m) ≡ most_in m
unfolding noteFarm
most_emission s pure m = refl
most_emission s (litres n) m = get_or-set_other m 7 6 (join (farms_in m) (only s)) 0 (λ e. omega arith)

most_two : (k x y a : ℕ) {b c : ℕ} → k ≤ a → b ≡ max a (k + x) → c ≡ max b (k + y) → c ≡ max a (k + max x y)
most_two k x y a l e f = omega arith

-- the most of what was noted and of what p has around its commands, where k stand around p and are noted
pub most_noted : (k : ℕ) (p : Statement) (m : List ℕ) → length m ≡ note_count → Ranged p → k ≤ most_in m
    → most_in (note_within k p m) ≡ max (most_in m) (k + signal_nesting p)
unfolding note_within signal_nesting
most_noted k nothing m h r l = omega arith
most_noted k (pause x) m h r l = omega (arith, pause_aside 6 x m r h (omega arith) (omega arith))
most_noted k (emit s v) m h r l = omega (arith, most_emission s v m)
most_noted k (exit n) m h r l = omega arith
most_noted k (seq p q) m h r l =
    let e = most_noted k p m h r.0 l in
    most_two k (signal_nesting p) (signal_nesting q) (most_in m) l e
    (most_noted k q (note_within k p m) ((noting k p m h r.0).long ∙ h) r.1 (omega (arith, e)))
most_noted k (par p q) m h r l =
    let e = most_noted k p m h r.0 l in
    most_two k (signal_nesting p) (signal_nesting q) (most_in m) l e
    (most_noted k q (note_within k p m) ((noting k p m h r.0).long ∙ h) r.1 (omega (arith, e)))
most_noted k (loop a p) m h r l = most_noted k p m h r l
most_noted k (present s p q) m h r l =
    let e = most_noted k p m h r.1 l in
    most_two k (signal_nesting p) (signal_nesting q) (most_in m) l e
    (most_noted k q (note_within k p m) ((noting k p m h r.1).long ∙ h) r.2 (omega (arith, e)))
most_noted k (signal sc a s p) m h r l =
    let e = noted_most (suc k) m h in
    omega (arith, e, most_noted (suc k) p (note_signals (suc k) m) ((signals_aside (suc k) m).long ∙ h) r.2 (omega (arith, e)))
most_noted k (try p) m h r l = most_noted k p m h r l
most_noted k (setpause x) m h r l = omega (arith, setpause_aside 6 x m r h (omega arith))
most_noted k (suspend s p) m h r l = most_noted k p m h r.1 l
most_noted k (held s K p) m h r l = absurd r

farms_emission : (s : ℕ) (v : Value) (m : List ℕ) → length m ≡ note_count → farms_in (note_emission s v m) ≡ join (farms_in m) (farm_of s v)
unfolding noteFarm
farms_emission s pure m h = sym (join-none_r (farms_in m))
farms_emission s (litres n) m h = get_or-set_same m 7 (join (farms_in m) (only s)) 0 (omega arith)

farms_signals : (k : ℕ) (m : List ℕ) → farms_in (note_signals k m) ≡ farms_in m
unfolding note_signals
farms_signals k m = get_or-set_other m 6 7 (max (most_in m) k) 0 (λ e. omega arith)

farms_two : (x y a : ℕ) {b c : ℕ} → b ≡ join a x → c ≡ join b y → c ≡ join a (join x y)
farms_two x y a e f = f ∙ ap (λ (z : ℕ). join z y) e ∙ sym (join_assoc a x y)

-- the farms noted before, and those that p names
pub farms_noted : (k : ℕ) (p : Statement) (m : List ℕ) → length m ≡ note_count → Ranged p → farms_in (note_within k p m) ≡ join (farms_in m) (farms_of p)
unfolding note_within farms_of
farms_noted k nothing m h r = sym (join-none_r (farms_in m))
farms_noted k (pause x) m h r = pause_aside 7 x m r h (omega arith) (omega arith) ∙ sym (join-none_r (farms_in m))
farms_noted k (emit s v) m h r = farms_emission s v m h
farms_noted k (exit n) m h r = sym (join-none_r (farms_in m))
farms_noted k (seq p q) m h r =
    farms_two (farms_of p) (farms_of q) (farms_in m) (farms_noted k p m h r.0) (farms_noted k q (note_within k p m) ((noting k p m h r.0).long ∙ h) r.1)
farms_noted k (par p q) m h r =
    farms_two (farms_of p) (farms_of q) (farms_in m) (farms_noted k p m h r.0) (farms_noted k q (note_within k p m) ((noting k p m h r.0).long ∙ h) r.1)
farms_noted k (loop a p) m h r = farms_noted k p m h r
farms_noted k (present s p q) m h r =
    farms_two (farms_of p) (farms_of q) (farms_in m) (farms_noted k p m h r.1) (farms_noted k q (note_within k p m) ((noting k p m h r.1).long ∙ h) r.2)
farms_noted k (signal sc a s p) m h r =
    farms_noted (suc k) p (note_signals (suc k) m) ((signals_aside (suc k) m).long ∙ h) r.2
    ∙ ap (λ (z : ℕ). join z (farms_of p)) (farms_signals (suc k) m)
farms_noted k (try p) m h r = farms_noted k p m h r
farms_noted k (setpause x) m h r = setpause_aside 7 x m r h (omega arith) ∙ sym (join-none_r (farms_in m))
farms_noted k (suspend s p) m h r = farms_noted k p m h r.1
farms_noted k (held s K p) m h r = absurd r

-- signals are numbers below their count
farm_below : (s : ℕ) (v : Value) → s < signal_count → farm_of s v < 2 ^ signal_count
farm_below s pure h = none_lt signal_count
farm_below s (litres n) h = only_lt signal_count s h

pub farms_below : (p : Statement) → Ranged p → farms_of p < 2 ^ signal_count
unfolding farms_of
farms_below nothing r = none_lt signal_count
farms_below (pause l) r = none_lt signal_count
farms_below (emit s pure) r = none_lt signal_count
farms_below (emit s (litres n)) r = farm_below s (litres n) r.0
farms_below (exit n) r = none_lt signal_count
farms_below (seq p q) r = join_lt signal_count (farms_of p) (farms_of q) (farms_below p r.0) (farms_below q r.1)
farms_below (par p q) r = join_lt signal_count (farms_of p) (farms_of q) (farms_below p r.0) (farms_below q r.1)
farms_below (loop a p) r = farms_below p r
farms_below (present s p q) r = join_lt signal_count (farms_of p) (farms_of q) (farms_below p r.1) (farms_below q r.2)
farms_below (signal sc a s p) r = farms_below p r.2
farms_below (try p) r = farms_below p r
farms_below (setpause l) r = none_lt signal_count
farms_below (suspend s p) r = farms_below p r.1
farms_below (held s K p) r = absurd r

nothing_held : WordsFit no_notes
nothing_held = record { fits = λ j g. subst (λ (x : ℕ). x < 2 ^ word_labels) (sym (get_or-replicate note_count j 0 0 (omega arith))) (pow_pos word_labels) }

-- from nothing noted, the notes of p
pub noted : (p : Statement) → Ranged p → Noted p (note p no_notes)
unfolding none
noted p r =
    let long = length-replicate {A = ℕ} note_count 0 in
    let a = noting 0 p no_notes long r in
    let zero : most_in no_notes ≡ 0 = get_or-replicate note_count 6 0 0 (omega arith) in
    let free : farms_in no_notes ≡ none = get_or-replicate note_count 7 0 0 (omega arith) in
    record {
      paused = a.pauses_in nothing_held ∙ ap (λ (x : ℕ). join x (pauses p)) (words-none word_labels) ∙ join-none_l (pauses p);
      targeting = a.setpauses_in nothing_held ∙ ap (λ (x : ℕ). join x (setpauses p)) (words-none word_labels) ∙ join-none_l (setpauses p);
      once = a.twice nothing_held ∙ ap (λ (s : ℕ). disjoint s (pauses p) && distinct p) (words-none word_labels) ∙ ap (λ (b : Bool). b && distinct p) (none-disjoint (pauses p));
      ranked = a.ranked;
      most = omega (arith, most_noted 0 p no_notes long r (omega arith), zero);
      named = farms_noted 0 p no_notes long r ∙ ap (λ (x : ℕ). join x (farms_of p)) free ∙ join-none_l (farms_of p);
    }

-- a pause has two bytes
pub count_size : (p : Statement) → pause_count p + pause_count p ≤ size p
unfolding pause_count bytes_of
count_size nothing = omega arith
count_size (pause l) = omega arith
count_size (emit s v) = omega arith
count_size (exit n) = omega arith
count_size (seq p q) = let a = count_size p in let b = count_size q in omega (arith, length-append (bytes_of p) (bytes_of q))
count_size (par p q) = let a = count_size p in let b = count_size q in omega (arith, length-append (bytes_of p) (bytes_of q))
count_size (loop a p) = let b = count_size p in omega arith
count_size (present s p q) = let a = count_size p in let b = count_size q in omega (arith, length-append (bytes_of p) (bytes_of q))
count_size (signal sc a s p) = let b = count_size p in omega arith
count_size (try p) = let b = count_size p in omega arith
count_size (setpause l) = omega arith
count_size (suspend s p) = let b = count_size p in omega arith
count_size (held s K p) = omega arith
