-- What is written, return by return.
use Prim.Native.Nat.{ℕ, zero, suc, ◌/◌, ◌%◌}
use native.Mathlib.Omega.{arith}
use mathlib.Core.Path.{◌≡◌, refl, ap₂}
use mathlib.Core.Logic.{◌≢◌}
use mathlib.Core.Bool.{true, false}
use mathlib.Core.List.{List, [], ◌∷◌}
use Rattle.std.specs.Int.{w16, to_le_bytes}
use Rattle.spec_base.specs.Bytes.{le_bytes}
use Rattle.spec_programs.specs.File.{length_bytes, sequence_in, read_back_in, whole}
use Rattle.spec_programs.specs.Text.{input_cut, refusal}
use Rattle.spec_unroll.specs.Call.{unrolling, unroll_of}
use Rattle.spec_programs.specs.Output.{with_sequence, output, output_of}

module _ (file buffer : List ℕ) where
  pub cut-output : whole file ≡ false → input_cut ≡ output_of file buffer
  unfolding output_of
  cut-output h = rw h refl

  module _ {number count : ℕ} {out : List ℕ} (w : whole file ≡ true)
      (e : unrolling number count out ≡ unroll_of (sequence_in file) (read_back_in file) buffer) where
    refusing : (n : ℕ) → n ≢ 0 → refusal n ≡ output file (unrolling n count out)
    refusing zero z = absurd (z refl)
    refusing (suc n) z = refl

    pub refused-output : number ≢ 0 → refusal number ≡ output_of file buffer
    unfolding output_of
    refused-output z = rw (w, ← e) (refusing number z)

  pub written-output : {count : ℕ} {out : List ℕ} → whole file ≡ true → unrolling 0 count out ≡ unroll_of (sequence_in file) (read_back_in file) buffer
      → with_sequence file count out ≡ output_of file buffer
  unfolding output_of
  written-output w e = rw (w, ← e) refl

-- the two lowest bytes are those of the remainder
pub two_bytes : (n : ℕ) → to_le_bytes w16 (n % 65536) ≡ le_bytes length_bytes n
unfolding le_bytes
two_bytes n =
    let low : n % 65536 % 256 ≡ n % 256 = omega arith in
    let high : n % 65536 / 256 % 256 ≡ n / 256 % 256 = omega arith in
    ap₂ (λ (a b : ℕ). a ∷ b ∷ []) low high
