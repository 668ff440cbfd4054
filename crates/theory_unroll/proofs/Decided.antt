-- A call that its claims decide is `unrollOf`, for all arguments.
use Prim.Native.Nat.{ℕ, zero, suc}
use native.Mathlib.Omega.{arith}
use native.Mathlib.Decide.{ℕ_discrete}
use mathlib.Core.Path.{◌≡◌, refl, sym, ap, ap₂, ◌∙◌}
use mathlib.Core.Logic.{◌≢◌}
use mathlib.Core.List.{List, ◌++◌}
use lib.ListN.{drop, take-append-drop}
use Rattle.spec_sequence.specs.Check.{check_of}
use Rattle.spec_sequence.specs.Rows.{ByRows}
use Rattle.theory_sequence.proofs.Rows.{check_by_rows}
use Rattle.theory_tick.proofs.Sequence.{accepted}
use Rattle.spec_unroll.specs.Call.{Unrolling, unrolling, number, refused, unroll_of}
use Rattle.spec_unroll.specs.Rows.{UnrollRow, row_2_to_10}
use Rattle.spec_unroll.specs.Claims.{Written, Unroll, DecidesUnroll}
use Rattle.theory_unroll.proofs.Rows as rows
use Rattle.theory_unroll.proofs.Results as results

one_number : (Holds : ℕ → Type 0) (m n : ℕ) → ByRows m Holds → ByRows n Holds → m ≡ n
one_number Holds zero n f g = sym (g.acceptance.1 (f.acceptance.0 refl))
one_number Holds (suc m) n f g = sym ((g.refusal (suc m) (omega arith)).1 ((f.refusal (suc m) (omega arith)).0 refl))

module _ (sequence : List ℕ) (read_back : ℕ) (buffer : List ℕ) where
  -- two results of one sequence in one buffer
  same-written : check_of sequence read_back ≡ 0 → (n n' : ℕ) (out out' : List ℕ) → Written sequence read_back buffer n out → Written sequence read_back buffer n' out'
      → unrolling 0 n out ≡ unrolling 0 n' out'
  same-written c n n' out out' w w' =
      let a = accepted sequence read_back c in
      let b = w.bytes a.statement a.spelled in
      let b' = w'.bytes a.statement a.spelled in
      let e : n ≡ n' = b.1 ∙ sym b'.1 in
      let o : out ≡ out' =
      sym (take-append-drop n out)
      ∙ ap₂ (λ (x y : List ℕ). x ++ y) (b.0 ∙ sym b'.0) (w.behind ∙ ap (λ (k : ℕ). drop k buffer) e ∙ sym w'.behind)
      ∙ take-append-drop n' out' in
      ap₂ (unrolling 0) e o

  module _ (u : Unrolling) (goes : ByRows (number u) (UnrollRow sequence read_back buffer)) (leaves : number u ≢ 0 → u ≡ refused (number u) buffer)
      (writes : (n : ℕ) (out : List ℕ) → u ≡ unrolling 0 n out → Written sequence read_back buffer n out) where
    is-unroll_of : u ≡ unroll_of sequence read_back buffer
    is-unroll_of =
        elim (ℕ_discrete (number u) 0) [
          | yes z ↦ both u (unroll_of sequence read_back buffer) refl refl z (sym same ∙ z)
          | no z ↦ leaves z ∙ ap (λ (n : ℕ). refused n buffer) same ∙ sym (rows.refusal_writes_nothing sequence read_back buffer (λ y. z (same ∙ y)))
        ]
      where
        same : number u ≡ number (unroll_of sequence read_back buffer)
        same =
            one_number (UnrollRow sequence read_back buffer) (number u) (number (unroll_of sequence read_back buffer)) goes (rows.unroll-by-rows sequence read_back buffer)

        passed : number u ≡ 0 → check_of sequence read_back ≡ 0
        passed z = (check_by_rows sequence read_back).acceptance.1 (λ m r. goes.acceptance.0 z m (row_2_to_10 r))

        both : (v w : Unrolling) → u ≡ v → unroll_of sequence read_back buffer ≡ w → number v ≡ 0 → number w ≡ 0 → v ≡ w
        both (unrolling n count out) (unrolling m count' out') e f z y =
            let e0 = e ∙ ap (λ (k : ℕ). unrolling k count out) z in
            let f0 = f ∙ ap (λ (k : ℕ). unrolling k count' out') y in
            ap (λ (k : ℕ). unrolling k count out) z
            ∙ same-written (passed (ap number e0)) count count' out out' (writes count out e0) (results.written sequence read_back buffer count' out' f0)
            ∙ sym (ap (λ (k : ℕ). unrolling k count' out') y)

pub unroll_is : (unroll : Unroll) → DecidesUnroll unroll
    → (sequence : List ℕ) (read_back : ℕ) (buffer : List ℕ) → unroll sequence read_back buffer ≡ unroll_of sequence read_back buffer
unroll_is unroll d sequence read_back buffer =
    is-unroll_of sequence read_back buffer (unroll sequence read_back buffer) (d.by_rows sequence read_back buffer)
    (d.refusal_writes_nothing sequence read_back buffer) (d.result_written sequence read_back buffer)
