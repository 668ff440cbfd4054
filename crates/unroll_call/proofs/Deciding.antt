-- What a call comes to, return by return.
use Prim.Native.Nat.{ℕ, ◌≤◌, ◌<◌}
use native.Mathlib.Omega.{arith}
use mathlib.Core.Path.{◌≡◌, refl, sym, ap, ◌∙◌}
use mathlib.Core.Logic.{◌≢◌}
use mathlib.Core.Bool.{Bool, true, false, and-false}
use mathlib.Core.List.{List, ◌++◌}
use Rattle.std.specs.Prelude.{Result, Err}
use lib.ListN.{length, drop}
use lib.Dec.{eqb, leb}
use borrow.Author.Tests.{eq-eqb, ne_eqb, le-leb, lt-leb}
use Rattle.spec_base.specs.Limits.{max_bytes, max_depth, length_row, setpause_row, unrolled_row}
use Rattle.spec_base.specs.Sets.{none, empty}
use Rattle.spec_language.specs.Statement.{Statement}
use Rattle.spec_language.specs.LabelTests.{setpauses}
use Rattle.spec_sequence.specs.Writer.{bytes_of, size}
use Rattle.spec_language.specs.Sizes.{depth_of}
use Rattle.spec_sequence.specs.Check.{Checked, sound, bad, checked, number_of, check_of}
use Rattle.layout.specs.Layout.{Ready}
use Rattle.layout.specs.Notes.{setpausesIn}
use Rattle.checks.specs.Verdict.{Judged}
use Rattle.checks.proofs.Passing.{passed}
use Rattle.spec_unroll.specs.Unrolled.{unrolled}
use Rattle.spec_unroll.specs.Call.{unrolling, fits, of_plain, of_checked, unroll_of}
use Rattle.unroll_call.specs.declared.sizes.Sizes.{Sizes}
use Rattle.unroll_call.specs.Measured.{Has}
use Rattle.unroll_call.specs.Putting.{Put, Room}
use Rattle.unroll_call.proofs.Putting.{put_whole}
use Rattle.unroll_call.specs.Writing.{Writable}
use Rattle.limits.specs.declared.rows.Refusal.{Refusal}
use Rattle.limits.specs.Rows.{row_number}
use Rattle.unroll_call.specs.Unrolling.{UnrollMeets, PlainMeets}
use Rattle.limits.proofs.Refusals.{row_not_0}

-- ---- a statement without setpause
module _ (p : Statement) {n : Sizes} (h : Has p n) (b : List ℕ) where
  too_long : max_bytes < n.whole → fits p ≡ false
  too_long l = rw (lt-leb (size (unrolled p)) max_bytes (omega (arith, h.wholes)))

  too_deep : max_depth < n.depth → fits p ≡ false
  too_deep l = rw (lt-leb (depth_of (unrolled p)) max_depth (omega (arith, h.depths))) (and-false (leb (size (unrolled p)) max_bytes))

  pub long-refused : max_bytes < n.whole → unrolling unrolled_row 0 b ≡ of_plain p b
  long-refused l = rw (too_long l)

  pub depth-refused : max_depth < n.depth → unrolling unrolled_row 0 b ≡ of_plain p b
  depth-refused l = rw (too_deep l)

  module _ (short : n.whole ≤ max_bytes) (shallow : n.depth ≤ max_depth) (sized : length b ≡ max_bytes) where
    pub short-enough : size (unrolled p) ≤ max_bytes
    short-enough = omega (arith, h.wholes)

    shallow-enough : depth_of (unrolled p) ≤ max_depth
    shallow-enough = omega (arith, h.depths)

    pub room : Room 0 (size (unrolled p)) b
    room = record { fits = omega (arith, short-enough); sized = sized }

    pub written : {b' : List ℕ} {c : ℕ} → Put 0 (bytes_of (unrolled p)) b b' c → unrolling 0 c b' ≡ of_plain p b
    written {b'} {c} w =
        let e : c ≡ size (unrolled p) = omega (arith, w.end) in
        let f : b' ≡ bytes_of (unrolled p) ++ drop (size (unrolled p)) b = put_whole (omega (arith, short-enough)) w in
        rw (le-leb (size (unrolled p)) max_bytes short-enough, le-leb (depth_of (unrolled p)) max_depth shallow-enough, e, f)

pub writable : {t : List ℕ} {bs b : List ℕ} {n : Sizes} (r : Ready t max_depth 0 bs) → Has r.p n
    → n.whole ≤ max_bytes → n.depth ≤ max_depth → length b ≡ max_bytes → Writable t max_depth 0 bs 0 b
writable {b = b} r h l d z =
    record { ready = r; base = r.base; p = r.p; lies = r.lies; room = room r.p h b l d z }

-- ---- the whole call
module _ (bs : List ℕ) (read_back : ℕ) (b : List ℕ) where
  pub other_length : length b ≢ max_bytes → unrolling length_row 0 b ≡ unroll_of bs read_back b
  unfolding unroll_of
  other_length n = rw (ne_eqb (length b) max_bytes n)

  module _ {t notes : List ℕ} {row : ℕ} (j : Judged bs read_back t notes row) (z : length b ≡ max_bytes) where
    turned_down : row ≢ 0 → unrolling row 0 b ≡ unroll_of bs read_back b
    unfolding unroll_of check_of
    turned_down n = rw (eq-eqb (length b) max_bytes z) (go (checked bs read_back) refl)
      where
        go : (c : Checked) → checked bs read_back ≡ c → unrolling row 0 b ≡ of_checked c b
        go (bad k) e = let f : row ≡ k = j.number ∙ ap number_of e in rw f
        go (sound p) e = absurd (n (j.number ∙ ap number_of e))

    pub refused : (refusal : Refusal) → row ≡ row_number refusal → UnrollMeets (Err refusal) b bs read_back b
    refused refusal e = ap (λ (n : ℕ). unrolling n 0 b) (sym e) ∙ turned_down (λ z. row_not_0 refusal (sym e ∙ z))

    module _ (y : row ≡ 0) {s : ℕ} {e : Bool} (i : s ≡ setpausesIn notes) (k : e ≡ eqb s none) where
      tested-empty : empty (setpauses (passed bs read_back t notes row j y).p) ≡ e
      tested-empty = sym (k ∙ ap (λ (m : ℕ). eqb m none) (i ∙ (passed bs read_back t notes row j y).known.noted.targeting))

      pub plain : (r : Result ℕ Refusal) {b' : List ℕ} → e ≡ true → PlainMeets r b' t bs b → UnrollMeets r b' bs read_back b
      unfolding unroll_of
      plain r f m =
          let a = passed bs read_back t notes row j y in
          m a.p a.known.lies ∙ sym (rw (eq-eqb (length b) max_bytes z, a.is, tested-empty ∙ f))

      pub with_setpause : e ≡ false → unrolling setpause_row 0 b ≡ unroll_of bs read_back b
      unfolding unroll_of
      with_setpause f =
          let a = passed bs read_back t notes row j y in
          sym (rw (eq-eqb (length b) max_bytes z, a.is, tested-empty ∙ f))
