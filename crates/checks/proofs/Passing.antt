-- A sequence that passed the check.
use Prim.Native.Nat.{ℕ}
use native.Mathlib.Omega.{arith}
use mathlib.Core.Path.{◌≡◌, refl, sym, ◌∙◌}
use mathlib.Core.List.{List}
use Rattle.spec_base.specs.Limits.{max_depth}
use Rattle.spec_sequence.specs.Check.{Checked, sound, bad, checked, number_of, check_of}
use Rattle.theory_sequence.proofs.Rows.{Decides, decided, row-range}
use Rattle.layout.specs.Layout.{Ready}
use Rattle.layout.specs.Known.{Sound}
use Rattle.layout.proofs.Laid.{ready}
use Rattle.checks.specs.Verdict.{Judged, Passed}

pub passed : (bs : List ℕ) (read_back : ℕ) (t notes : List ℕ) (r : ℕ) → Judged bs read_back t notes r → r ≡ 0 → Passed bs read_back t notes
unfolding check_of
passed bs read_back t notes r j z = go (checked bs read_back) refl (decided bs read_back) (sym j.number ∙ z)
  where
    go : (c : Checked) → checked bs read_back ≡ c → Decides bs read_back c → number_of c ≡ 0 → Passed bs read_back t notes
    go (bad k) e d h = absurd (let i = row-range bs read_back k d.0 in omega arith)
    go (sound p) e d h = record { p = p; is = e; ranged = d.1.1.ranged; known = j.known p e }

module _ {bs t notes : List ℕ} {read_back : ℕ} (h : Passed bs read_back t notes) where
  pub as-sound : Sound t notes bs
  as-sound = record { p = h.p; known = h.known }

  pub as-ready : Ready t max_depth 0 bs
  as-ready = ready 0 h.p h.known.long h.known.lies
