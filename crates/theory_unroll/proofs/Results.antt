-- The result of a call that gave 0: it stands at the front of the buffer, is accepted, its ticks answer as the original's up to the
-- last before a wrong one, and in an instant that is not wrong no command of it reacts twice, one run of each signal counted.
use Prim.Native.Nat.{ℕ}
use native.Mathlib.Omega.{arith}
use mathlib.Core.Path.{◌≡◌, refl, ap}
use mathlib.Core.Bool.{false}
use mathlib.Core.List.{List, ◌++◌}
use lib.ListN.{length, take, drop}
use lib.Seq.{take_at, drop_at}
use Rattle.spec_language.specs.Statement.{Statement}
use Rattle.spec_language.specs.Machines.{State, by_labels}
use Rattle.spec_base.specs.Limits.{read_back_place}
use Rattle.spec_sequence.specs.Writer.{bytes_of, size}
use Rattle.spec_sequence.specs.Program.{read_back_signals, program}
use Rattle.spec_sequence.specs.Check.{sound, checked, number_of, check_of}
use Rattle.spec_sequence.specs.Rows.{Spells}
use Rattle.theory_sequence.proofs.Rows.{row-range}
use Rattle.theory_tick.proofs.Sequence.{same_statement}
use Rattle.spec_unroll.specs.Unrolled.{unrolled, result_of}
use Rattle.spec_unroll.specs.Call.{Unrolling, unrolling, unroll_of}
use Rattle.spec_unroll.specs.Runs.{shows_wrong}
use Rattle.spec_unroll.specs.Entries.{Counting, OneRun, AtMostOnce}
use Rattle.spec_unroll.specs.Claims.{Written}
use Rattle.theory_unroll.proofs.Forms.{declared_forms}
use Rattle.theory_unroll.proofs.Runs.{tick_once}
use Rattle.theory_unroll.proofs.Spelled.{out-forms, out-spelled, out_checked}
use Rattle.theory_unroll.proofs.Rows.{Comes, comes_1, comes_2_to_10, comes_20, comes_21, comes_result, comes}
use Rattle.theory_unroll.proofs.Ticks.{ticks-same, litres-same}

accepted_by : (bs : List ℕ) (read_back : ℕ) {p : Statement} → checked bs read_back ≡ sound p → check_of bs read_back ≡ 0
unfolding check_of
accepted_by bs read_back e = ap number_of e

once_by : (bs : List ℕ) (read_back : ℕ) (p : Statement) → Spells bs (result_of p)
    → (q : Statement) → Spells bs q → (c : Counting) → OneRun c → (s : State) (e : ℕ)
    → shows_wrong (by_labels (program read_back q) s e).0 ≡ false → AtMostOnce c (program read_back q) s e
once_by bs read_back p a q k c i =
    rw (same_statement bs q (result_of p) k a) (tick_once c i (declared_forms read_back_place (read_back_signals read_back) (out-forms p)))

module _ (sequence : List ℕ) (read_back : ℕ) (buffer : List ℕ) where
  pub written : (n : ℕ) (out : List ℕ) → unroll_of sequence read_back buffer ≡ unrolling 0 n out → Written sequence read_back buffer n out
  written n out e = go (comes sequence read_back buffer) e
    where
      go : {u : Unrolling} → Comes sequence read_back buffer u → u ≡ unrolling 0 n out → Written sequence read_back buffer n out
      go (comes_1 x) h = absurd (let z : ◌≡◌ {A = ℕ} 1 0 = cc in omega arith)
      go (comes_2_to_10 {n = m} x d) h = absurd (let z : m ≡ 0 = cc in omega (arith, row-range sequence read_back m d.0))
      go (comes_20 x d y) h = absurd (let z : ◌≡◌ {A = ℕ} 20 0 = cc in omega arith)
      go (comes_21 x d y o) h = absurd (let z : ◌≡◌ {A = ℕ} 21 0 = cc in omega arith)
      go (comes_result {p = p} x d k y f) h =
          let bs = bytes_of (unrolled p) in
          let en : size (unrolled p) ≡ n = cc in
          let eo : bs ++ drop (length bs) buffer ≡ out = cc in
          let front : take (length bs) (bs ++ drop (length bs) buffer) ≡ bs = take_at bs (drop (length bs) buffer) (length bs) refl in
          let spells = out-spelled p d.1.1 f.shallow in
          rw (← en, ← eo) (record {
            bytes = λ q s. rw (same_statement sequence q p s d.1) (front, refl);
            behind = drop_at bs (drop (length bs) buffer) (length bs) refl;
            accepted = rw front (accepted_by bs read_back (out_checked sequence read_back p k f.short f.shallow));
            spelled = λ q s. rw (same_statement sequence q p s d.1, front) spells;
            same = rw front (ticks-same sequence read_back (accepted_by sequence read_back k) p d.1 f);
            same_litres = rw front (litres-same sequence read_back (accepted_by sequence read_back k) p d.1 f);
            once = rw front (once_by bs read_back p spells);
          })
