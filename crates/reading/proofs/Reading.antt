-- What the traversal over a whole sequence answers and leaves.
use Prim.Native.Nat.{ℕ, ◌-◌, ◌*◌, ◌≤◌, ◌<◌}
use mathlib.Core.Path.{◌≡◌, refl, sym, ap, ◌∙◌, subst}
use mathlib.Core.Logic.{inl, inr}
use mathlib.Core.List.{List}
use native.Mathlib.Omega.{arith}
use lib.ListN.{length, length-replicate}
use Rattle.spec_language.specs.Statement.{Statement}
use Rattle.spec_base.specs.Limits.{max_bytes, max_depth, max_signals}
use Rattle.spec_sequence.specs.Reader.{Read, accepted, refused, read}
use Rattle.spec_language.specs.Sizes.{signal_nesting}
use Rattle.theory_sequence.proofs.Refusals.{Small, Rowed, rowed, RowHas, row_has}
use Rattle.theory_sequence.proofs.Sound.{sound, count_within}
use Rattle.layout.specs.Layout.{rest, Marked}
use Rattle.layout.specs.Notes.{pauses_counted, most_in, note_count, no_notes, note}
use Rattle.layout.specs.Walk.{row_unit, Packed, Readable, Entered, Done}
use Rattle.layout.proofs.Walk.{onward}
use Rattle.layout.proofs.Noting.{noted}
use Rattle.std.specs.Prelude.{Ok, Err}
use Rattle.limits.specs.declared.rows.Refusal.{Refusal}
use Rattle.limits.specs.Rows.{row_number}
use Rattle.reading.specs.Reading.{Reads}

pub beginning : (s t m : List ℕ) → length s ≤ max_bytes → length t ≡ max_bytes → m ≡ no_notes → Readable max_signals 0 (rest 0 s) t m
beginning s t m l long e =
    let c : pauses_counted m ≡ 0 = rw e in
    let k : length m ≡ note_count = ap length e ∙ length-replicate {A = ℕ} note_count 0 in
    onward max_signals 0 0 0 s t m refl (omega arith) (omega arith) (omega arith) long k (omega arith)

module _ (s t u m n : List ℕ) (r : ℕ) (short : length s ≤ max_bytes) (long : length t ≡ max_bytes) (none : m ≡ no_notes)
    (h : Done max_signals 0 t u m n (read max_depth max_signals 0 s) r) where
  -- the row of a refusal
  pub packs : row_unit ≤ r → Packed r
  packs large =
      go (read max_depth max_signals 0 s)
      (row_has (λ (k : ℕ). Packed (k * row_unit)) (inl refl) (inr (inl refl)) (inr (inr (inl refl))) (inr (inr (inr (inl refl)))) (inr (inr (inr (inr refl)))) max_depth max_signals 0 s)
      refl h
    where
      go : (y : Read) → RowHas (λ (k : ℕ). Packed (k * row_unit)) y → read max_depth max_signals 0 s ≡ y → Done max_signals 0 t u m n y r → Packed r
      go (accepted p k) z q i = absurd (omega (arith, count_within max_depth max_signals 0 s p k q, i.0))
      go (refused k) z q i = subst Packed (sym i.0) z

  pub reads-refused : row_unit ≤ r → (refusal : Refusal) → row_number refusal * row_unit ≡ r → Reads s u n (Err refusal)
  reads-refused large refusal e = go (read max_depth max_signals 0 s) refl h
    where
      go : (y : Read) → read max_depth max_signals 0 s ≡ y → Done max_signals 0 t u m n y r → Reads s u n (Err refusal)
      go (accepted p k) q i = absurd (omega (arith, count_within max_depth max_signals 0 s p k q, i.0))
      go (refused k) q i =
          let number : row_number refusal ≡ k = omega (arith, e, i.0) in
          record {
            answer = rw q (refusal, refl, number);
            marked = λ p j f. never (sym q ∙ f);
            long = λ p j f. never (sym q ∙ f);
          }
        where
          never : {A : Type 0} {p : Statement} {j : ℕ} → refused k ≡ accepted p j → A
          never f = absurd (let z : ◌≡◌ {A = ℕ} 0 1 = cc in omega arith)

  at : {p q : Statement} {j k : ℕ} (P : Statement → Type 0) → accepted p j ≡ accepted q k → P p → P q
  at {p} {q} P e x = let f : p ≡ q = cc in subst P f x

  -- an accepted statement, and the most signal commands around one of its commands
  record Acceptance : Type 0 where
    pub p : Statement
    pub reads : read max_depth max_signals 0 s ≡ accepted p r
    pub marked : Marked u 0 0 p
    pub notes : n ≡ note p no_notes
    pub sized : length u ≡ max_bytes
    pub most : most_in n ≡ signal_nesting p
    pub few : signal_nesting p ≤ max_signals

  acceptance : r < row_unit → Acceptance
  acceptance small = go (read max_depth max_signals 0 s) refl (rowed max_depth max_signals 0 s) h
    where
      go : (y : Read) → read max_depth max_signals 0 s ≡ y → Rowed (read max_depth max_signals 0 s) → Done max_signals 0 t u m n y r → Acceptance
      go (refused k) q z i = let o : Small k = rw q at z in absurd (omega (arith, i.0))
      go (accepted p k) q z i =
          let f : Entered t u 0 0 k p = rw none at i.1.0 in
          let g : n ≡ note p no_notes = rw none at i.1.1 in
          let w = sound max_depth max_signals 0 s p k q in
          let count : k ≡ r = omega (arith, i.0) in
          record {
            p = p;
            reads = q ∙ ap (accepted p) count;
            marked = f.marked;
            notes = g;
            sized = f.long ∙ long;
            most = ap most_in g ∙ (noted p w.within.ranged).most;
            few = w.within.nested;
          }

  pub most-fits : r < row_unit → most_in n ≤ max_signals
  most-fits small = let a = acceptance small in omega (arith, a.most, a.few)

  pub reads-accepted : r < row_unit → Reads s u n (Ok (record { bytes = r; left = max_signals - most_in n }))
  reads-accepted small =
      let a = acceptance small in
      record {
        answer = rw (a.reads, a.most) refl;
        marked = λ p' j e. at (λ (p : Statement). Marked u 0 0 p × (n ≡ note p no_notes)) (sym a.reads ∙ e) (a.marked, a.notes);
        long = λ p' j e. a.sized;
      }
