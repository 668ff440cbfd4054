-- The verdict of the check, from the reader's answer and the label rules.
use Prim.Native.Nat.{ℕ, ◌+◌, ◌-◌, ◌≤◌, ◌<◌}
use mathlib.Core.Path.{◌≡◌, refl, sym, ap, ◌∙◌, subst}
use mathlib.Core.Bool.{Bool, true, false, cond, ◌&&◌, and-eq-true_iff}
use mathlib.Core.List.{List}
use native.Mathlib.Omega.{arith}
use native.Mathlib.Decide.{dec_lt}
use lib.Dec.{leb, ltb}
use lib.ListN.{length}
use borrow.Author.Tests.{lt-ltb, le-ltb, leb-true}
use Rattle.std.specs.Prelude.{Result, Ok, Err}
use Rattle.spec_language.specs.Statement.{Statement}
use Rattle.spec_language.specs.LabelTests.{distinct, targeted, well_formed}
use Rattle.reading.specs.declared.reader.Reading.{Reading}
use Rattle.limits.specs.declared.rows.Refusal.{Refusal}
use Rattle.limits.specs.Rows.{row_number}
use Rattle.spec_base.specs.Limits.{max_bytes, max_depth, max_signals, read_back_place}
use Rattle.theory_language.proofs.Ceiling.{nesting_declared}
use Rattle.spec_sequence.specs.Reader.{Read, accepted, refused, read_all}
use Rattle.spec_language.specs.Sizes.{signal_nesting}
use Rattle.spec_sequence.specs.Writer.{Written}
use Rattle.spec_sequence.specs.Program.{read_back_signals, program}
use Rattle.layout.specs.Layout.{Lies}
use Rattle.layout.specs.Notes.{Noted}
use Rattle.reading.specs.Reading.{ReadingOf, Reads}
use Rattle.spec_sequence.specs.Check.{sound, bad, label_rules, after_read, number_of, checked, check_of}
use Rattle.theory_sequence.proofs.Sound as Sound
use Rattle.layout.proofs.Noting as Noting
use Rattle.layout.proofs.Laid.{lies, ready}
use Rattle.layout.specs.Known.{Known}
use Rattle.wellformed.specs.Survey.{Standing}
use Rattle.checks.specs.Labelling.{ByLabels}
use Rattle.checks.specs.Verdict.{Judged}

never_sound {ℓ} : {A : Type ℓ} {k : ℕ} {p : Statement} → bad k ≡ sound p → A
never_sound e = absurd (let z : ◌≡◌ {A = ℕ} 0 1 = cc in omega arith)

rules_sound : (a b c : Bool) (p q : Statement) → cond a (cond b (cond c (sound p) (bad 10)) (bad 9)) (bad 8) ≡ sound q → (a ≡ true) × (p ≡ q)
rules_sound true true true p q e = (refl, cc)
rules_sound true true false p q e = never_sound e
rules_sound true false c p q e = never_sound e
rules_sound false b c p q e = never_sound e

pub sized_few : (bs : List ℕ) → (leb 1 (length bs) && leb (length bs) max_bytes) ≡ true → length bs ≤ max_bytes
sized_few bs e = leb-true (length bs) max_bytes ((and-eq-true_iff (leb 1 (length bs)) (leb (length bs) max_bytes)).0 e).1

-- the bytes begin with a statement of n bytes, around which so many more signals may stand
record ReadAs (bs : List ℕ) (n left : ℕ) : Type 0 where
  statement : Statement
  reads : read_all bs ≡ accepted statement n
  leaves : left ≡ max_signals - signal_nesting statement

module _ (bs : List ℕ) (read_back : ℕ) (t notes : List ℕ) where
  -- turned down
  refuse : {r k : ℕ} → checked bs read_back ≡ bad k → r ≡ k → Judged bs read_back t notes r
  unfolding check_of
  refuse e h = record { number = h ∙ ap number_of (sym e); known = λ p z. never_sound (sym e ∙ z) }

  pub unsized : (leb 1 (length bs) && leb (length bs) max_bytes) ≡ false → Judged bs read_back t notes 2
  unfolding checked
  unsized e = refuse (rw e) refl

  module _ (sized : (leb 1 (length bs) && leb (length bs) max_bytes) ≡ true) {x : Result Reading Refusal} (h : Reads bs t notes x) where
    few : length bs ≤ max_bytes
    few = sized_few bs sized

    by-reading : (y : Read) → read_all bs ≡ y → checked bs read_back ≡ after_read read_back (length bs) y
    unfolding checked
    by-reading y e = rw (sized, e)

    pub refused-is : {refusal : Refusal} → x ≡ Err refusal → Judged bs read_back t notes (row_number refusal)
    refused-is {refusal} g = go (read_all bs) refl (subst (ReadingOf (read_all bs)) g h.answer)
      where
        go : (y : Read) → read_all bs ≡ y → ReadingOf y (Err refusal) → Judged bs read_back t notes (row_number refusal)
        go (accepted p n) q z = absurd (let n : ◌≡◌ {A = ℕ} 0 1 = cc in omega arith)
        go (refused n) q z = let same : refusal ≡ z.0 = cc in refuse (by-reading (refused n) q) (ap row_number same ∙ z.2)

    module _ {reading : Reading} (g : x ≡ Ok reading) where
      abbrev n : ℕ
      n = reading.bytes

      abbrev left : ℕ
      left = reading.left

      as_read : ReadAs bs n left
      as_read = go (read_all bs) refl (subst (ReadingOf (read_all bs)) g h.answer)
        where
          go : (y : Read) → read_all bs ≡ y → ReadingOf y (Ok reading) → ReadAs bs n left
          go (accepted p m) q z =
              let e : reading ≡ record { bytes = m; left = max_signals - signal_nesting p } = cc in
              record { statement = p; reads = q ∙ ap (λ (r : Reading). accepted p r.bytes) (sym e); leaves = ap (λ (r : Reading). r.left) e }
          go (refused m) q z = absurd (let k : ◌≡◌ {A = ℕ} 0 1 = cc in omega arith)

      abbrev p : Statement
      p = as_read.statement

      written : Written max_depth max_signals 0 bs p n
      written = Sound.sound max_depth max_signals 0 bs p n as_read.reads

      laid : Lies t max_depth 0 0 bs p
      laid = lies t max_depth max_signals 0 0 bs p n as_read.reads (h.marked p n as_read.reads).0 (omega (arith, few))

      noted : Noted p notes
      noted = subst (Noted p) (sym (h.marked p n as_read.reads).1) (Noting.noted p written.within.ranged)

      pub standing : Standing max_depth 0 bs
      standing = record { table = t; ready = ready 0 p (h.long p n as_read.reads) laid }

      -- k signals are read back
      module _ {k : ℕ} (size : k ≡ length (read_back_signals read_back)) where
        nests : signal_nesting (program read_back p) ≡ k + signal_nesting p
        nests = nesting_declared read_back_place (read_back_signals read_back) p ∙ ap (λ (i : ℕ). i + signal_nesting p) (sym size)

        pub too_many : left < k → Judged bs read_back t notes 6
        too_many l =
            let c : ltb max_signals (signal_nesting (program read_back p)) ≡ true = lt-ltb max_signals (signal_nesting (program read_back p)) (omega (arith, nests, as_read.leaves)) in
            refuse (by-reading (accepted p n) as_read.reads ∙ rw c) refl

        module _ (fits : k ≤ left) where
          within : ltb max_signals (signal_nesting (program read_back p)) ≡ false
          within = le-ltb max_signals (signal_nesting (program read_back p)) (omega (arith, nests, as_read.leaves, written.within.nested))

          pub bytes_left : n < length bs → Judged bs read_back t notes 7
          bytes_left l = refuse (by-reading (accepted p n) as_read.reads ∙ rw (within, lt-ltb n (length bs) l)) refl

          pub by_labels : length bs ≤ n → {r : ℕ} → ByLabels bs notes r → Judged bs read_back t notes r
          unfolding check_of
          by_labels l f =
              let e : checked bs read_back ≡ label_rules p = by-reading (accepted p n) as_read.reads ∙ rw (within, le-ltb n (length bs) l) in
              record {
                number = f t p laid noted ∙ ap number_of (sym e);
                known = λ q z.
                    let s = rules_sound (distinct p) (targeted p) (well_formed p) p q (sym e ∙ z) in
                    subst (Known t notes bs) s.1 (record { lies = laid; noted = noted; once = s.0; long = h.long p n as_read.reads });
              }

      -- rows 6 and 7
      pub by-numbers : {r : ℕ} → r ≡ cond (ltb left (length (read_back_signals read_back))) 6 (cond (ltb n (length bs)) 7 0) → (r ≡ 0 → ⊥) → Judged bs read_back t notes r
      by-numbers {r} e z = go (dec_lt left (length (read_back_signals read_back))) (dec_lt n (length bs))
        where
          go : Dec (left < length (read_back_signals read_back)) → Dec (n < length bs) → Judged bs read_back t notes r
          go (yes l) d = let k : r ≡ 6 = e ∙ rw (lt-ltb left (length (read_back_signals read_back)) l) in rw k (too_many refl l)
          go (no m) (yes l) =
              let f : length (read_back_signals read_back) ≤ left = omega (arith, m) in
              let k : r ≡ 7 = e ∙ rw (le-ltb left (length (read_back_signals read_back)) f, lt-ltb n (length bs) l) in
              rw k (bytes_left refl f l)
          go (no m) (no l) =
              let f : length (read_back_signals read_back) ≤ left = omega (arith, m) in
              let g : length bs ≤ n = omega (arith, l) in
              absurd (z (e ∙ rw (le-ltb left (length (read_back_signals read_back)) f, le-ltb n (length bs) g)))

      -- neither of them
      pub passes : ◌≡◌ {A = ℕ} 0 (cond (ltb left (length (read_back_signals read_back))) 6 (cond (ltb n (length bs)) 7 0)) → (length (read_back_signals read_back) ≤ left) × (length bs ≤ n)
      passes e = go (dec_lt left (length (read_back_signals read_back))) (dec_lt n (length bs))
        where
          go : Dec (left < length (read_back_signals read_back)) → Dec (n < length bs) → (length (read_back_signals read_back) ≤ left) × (length bs ≤ n)
          go (yes l) d = absurd (let k : ◌≡◌ {A = ℕ} 0 6 = e ∙ rw (lt-ltb left (length (read_back_signals read_back)) l) in omega arith)
          go (no m) (yes l) =
              let f : length (read_back_signals read_back) ≤ left = omega (arith, m) in
              absurd (let k : ◌≡◌ {A = ℕ} 0 7 = e ∙ rw (le-ltb left (length (read_back_signals read_back)) f, lt-ltb n (length bs) l) in omega arith)
          go (no m) (no l) = (omega (arith, m), omega (arith, l))
