-- The ceiling of a program by the numbers of its statement and the number of its declarations.
use Prim.Native.Nat.{ℕ, ◌+◌, ◌*◌, ◌^◌, ◌≤◌}
use mathlib.Core.Path.{◌≡◌, refl, sym, ap, ◌∙◌}
use mathlib.Core.List.{List}
use native.Mathlib.Omega.{arith}
use lib.ListN.{length}
use Rattle.spec_language.specs.Statement.{Statement}
use Rattle.spec_language.specs.Sizes.{commands, loop_nesting, signal_nesting}
use Rattle.spec_language.specs.Ceiling.{ceiling}
use Rattle.theory_language.proofs.Ceiling.{commands_declared, loops-declared, nesting_declared}
use Rattle.spec_base.specs.Limits.{max_depth, max_signals, read_back_place}
use Rattle.spec_sequence.specs.Program.{read_back_signals, program}
use Rattle.spec_sequence.specs.Check.{Checked, sound, bad, checked, number_of, check_of}
use Rattle.theory_sequence.proofs.Extents.{few_signals}
use Rattle.layout.specs.Notes.{most_in}
use Rattle.checks.specs.Verdict.{Judged, Passed}
use Rattle.checks.proofs.Passing.{as-ready}
use Rattle.limits.proofs.Refusals.{row_not_0}
use Rattle.std.specs.Prelude.{Result, Ok, Err}
use Rattle.std.specs.Result.{result_unwrap_or}
use Rattle.limits.specs.declared.rows.Refusal.{Refusal}
use Rattle.limits.specs.Rows.{row_number, call_number}
use Rattle.ceilings.specs.declared.Extent.{Extent}
use Rattle.ceilings.specs.Extents.{Has, Countable, HasWith}
use Rattle.spec_sequence.specs.Ceilings.{ceiling_of}
use Rattle.ceilings.specs.Ceilings.{Plannable, product}
use Rattle.ceilings.specs.Plans.{PlanOf}
use Rattle.ceilings.proofs.Sizes.{sized}

-- ---- the product
pub ceiling-is : (read_back k : ℕ) (p : Statement) → k ≡ length (read_back_signals read_back)
    → ceiling (program read_back p) ≡ (k + commands p) * (1 + loop_nesting p) * 2 ^ (k + signal_nesting p)
unfolding ceiling
ceiling-is read_back k p e =
    let ss = read_back_signals read_back in
    rw (commands_declared read_back_place ss p, loops-declared read_back_place ss p, nesting_declared read_back_place ss p, e)

-- ---- a sequence that the check has judged
module _ (bs : List ℕ) (read_back : ℕ) where
  module _ (t notes : List ℕ) (a : Passed bs read_back t notes) where
    pub whole : Countable max_depth bs
    whole =
        record {
          t = t;
          d = max_depth;
          base = 0;
          a = 0;
          p = a.p;
          lies = a.known.lies;
          levels = omega arith;
          low = omega arith;
          short = omega (arith, (as-ready a).fits);
        }

    -- the most signal commands around a command, as the check noted it
    pub few-around : most_in notes ≤ max_signals
    few-around =
        let g = few_signals bs read_back a.p a.is in
        let f = nesting_declared read_back_place (read_back_signals read_back) a.p in
        omega (arith, g, f, a.known.noted.most)

    pub numbers : {x : ℕ} {n : Extent} → HasWith bs x n → x ≡ most_in notes → Has a.p n
    numbers h e = h t max_depth 0 0 a.p a.known.lies (e ∙ a.known.noted.most)

    -- the numbers n that the counting finds, with k signals read back
    module _ {n : Extent} (h : Has a.p n) where
      pub plannable : Plannable n (length (read_back_signals read_back))
      plannable =
          let s = sized t max_depth 0 0 bs a.p a.known.lies in
          let r = as-ready a in
          let g = few_signals bs read_back a.p a.is in
          let f = nesting_declared read_back_place (read_back_signals read_back) a.p in
          record { count = omega (arith, h, s, r.fits); loops = omega (arith, h, s); signals = omega (arith, h, g, f) }

      pub by-numbers : {r : ℕ} → r ≡ product n (length (read_back_signals read_back)) → r ≡ ceiling_of read_back (checked bs read_back)
      by-numbers z =
          z ∙ rw (h.count, h.loops, h.signals) (sym (ceiling-is read_back (length (read_back_signals read_back)) a.p refl)) ∙ ap (ceiling_of read_back) (sym a.is)

  -- ---- what an admission is told
  pub plan-refused : {t notes : List ℕ} {r : Result (Unit {0}) Refusal} (refusal : Refusal) → Judged bs read_back t notes (call_number r)
      → r ≡ Err refusal → PlanOf read_back (checked bs read_back) (Err refusal)
  unfolding check_of
  plan-refused refusal j is = go (checked bs read_back) (sym (ap call_number is) ∙ j.number)
    where
      go : (c : Checked) → row_number refusal ≡ number_of c → PlanOf read_back c (Err refusal)
      go (bad k) e = (refusal, refl, e)
      go (sound p) e = absurd (row_not_0 refusal e)

  pub plan-takes : {t notes : List ℕ} → Passed bs read_back t notes → {r : ℕ} → r ≡ ceiling_of read_back (checked bs read_back)
      → PlanOf read_back (checked bs read_back) (Ok r)
  plan-takes a {r} e = rw a.is (ap (λ (n : ℕ). Ok n) (e ∙ ap (ceiling_of read_back) a.is))

-- the ceiling by what an admission is told
module _ (read_back : ℕ) where
  pub its-ceiling : (c : Checked) (r : Result ℕ Refusal) → PlanOf read_back c r → result_unwrap_or r 0 ≡ ceiling_of read_back c
  its-ceiling (bad k) r (refusal, e, f) = rw e refl
  its-ceiling (sound p) r e = rw e refl
