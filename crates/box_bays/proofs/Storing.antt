-- Runs of stores that clear and fill a slot.
use Prim.Native.Nat.{ℕ, ◌+◌, ◌≤◌}
use native.Mathlib.Omega.{arith}
use mathlib.Core.Path.{◌≡◌, refl, ap, ◌∙◌}
use mathlib.Core.List.{List, []}
use lib.ListN.{length}
use lib.Seq.{sets}
use Rattle.spec_base.specs.Limits.{max_bytes, signal_bytes, reactions_bytes}
use Rattle.spec_base.specs.Bytes.{le_bytes}
use Rattle.numbers.proofs.Bytes.{length_le_bytes}
use Rattle.spec_base.specs.Parts.{put, zeros}
use Rattle.numbers.proofs.Putting.{stored}
use Rattle.spec_bay.specs.Called.{called}
use Rattle.spec_bay.specs.Stretch.{length_bytes, sequence_at, read_back_at, ceiling_at, service_at, bay_length, stretch_length, vacated, Terms, filled}
use Rattle.spec_bay.specs.BayCalls.{bay_release_of}
use Rattle.theory_bay.proofs.Fields.{s1, s2, s3, s4, l0, l1, l2, l3, l4}

pub cleared_out : (s : List ℕ) → length s ≡ stretch_length → sets s 0 (le_bytes bay_length 0) ≡ vacated s
unfolding vacated zeros
cleared_out s z = stored 0 bay_length (le_bytes bay_length 0) s (omega arith) (length_le_bytes bay_length 0)

pub released : (s : List ℕ) {v : List ℕ} → v ≡ vacated s → called 0 v [] ≡ bay_release_of s
unfolding bay_release_of
released s e = ap (λ (r : List ℕ). called 0 r []) e

module _ (t : Terms) (ceiling : ℕ) (s : List ℕ) (z : length s ≡ stretch_length) (fits : length t.sequence ≤ max_bytes) where
  -- a store, on what was stored before it
  next : (at n : ℕ) (bytes r r' : List ℕ) → r ≡ r' → (length r' ≡ stretch_length) → at + n ≤ stretch_length → length bytes ≡ n
      → {v : List ℕ} → v ≡ sets r at bytes → v ≡ put at n bytes r'
  next at n bytes r r' e l room sized h =
      h ∙ ap (λ (x : List ℕ). sets x at bytes) e ∙ stored at n bytes r' (omega (arith, l)) sized

  pub filled-by : {v a b c d e : List ℕ} → v ≡ vacated s → a ≡ sets v 0 (le_bytes length_bytes (length t.sequence))
      → b ≡ sets a sequence_at t.sequence → c ≡ sets b read_back_at (le_bytes signal_bytes t.read_back)
      → d ≡ sets c ceiling_at (le_bytes reactions_bytes ceiling) → e ≡ sets d service_at (le_bytes signal_bytes t.service_only) → e ≡ filled t ceiling s
  unfolding filled
  filled-by {v} {a} {b} {c} {d} {e} ev ea eb ec ed ee =
      let n = length t.sequence in
      let wa = next 0 length_bytes (le_bytes length_bytes n) v (vacated s) ev (l0 t ceiling s z fits) (omega arith) (length_le_bytes length_bytes n) ea in
      let wb = next sequence_at n t.sequence a (s1 t ceiling s z fits) wa (l1 t ceiling s z fits) (omega arith) refl eb in
      let wc = next read_back_at signal_bytes (le_bytes signal_bytes t.read_back) b (s2 t ceiling s z fits) wb (l2 t ceiling s z fits) (omega arith)
      (length_le_bytes signal_bytes t.read_back) ec in
      let wd = next ceiling_at reactions_bytes (le_bytes reactions_bytes ceiling) c (s3 t ceiling s z fits) wc (l3 t ceiling s z fits) (omega arith)
      (length_le_bytes reactions_bytes ceiling) ed in
      next service_at signal_bytes (le_bytes signal_bytes t.service_only) d (s4 t ceiling s z fits) wd (l4 t ceiling s z fits) (omega arith)
      (length_le_bytes signal_bytes t.service_only) ee
