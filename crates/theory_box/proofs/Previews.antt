-- A preview of a bay: the slot stays, and so do the lent bytes where it is turned down.
use Prim.Native.Nat.{ℕ, ◌<◌}
use native.Mathlib.Omega.{arith}
use mathlib.Core.Path.{◌≡◌, refl, sym, ap, ◌∙◌}
use mathlib.Core.Logic.{◌≢◌, ⊎_elim}
use mathlib.Core.List.{List, [], ◌∷◌}
use Rattle.spec_bay.specs.Preview as fillings
use Rattle.spec_bay.specs.Preview.{Previewed, previewed, preview_of}
use Rattle.spec_sequence.specs.Rows.{rank}
use Rattle.theory_bay.proofs.Numbers.{lent-left, preview-range}
use Rattle.spec_bay.specs.Called.{called, number, memory_after}
use Rattle.spec_bay.specs.Stretch.{sequence_in, read_back_in, state_in}
use Rattle.spec_bay.specs.BayCalls.{stretch_kept, bay_preview_of}

kept_stretch : (s : List ℕ) (o : Previewed) → memory_after (stretch_kept s o) ≡ s
kept_stretch s (previewed n buffer) = refl

kept_number : (s : List ℕ) (o : Previewed) → number (stretch_kept s o) ≡ fillings.number o
kept_number s (previewed n buffer) = refl

kept_shown : (s : List ℕ) (o : Previewed) → number (stretch_kept s o) ≡ 0 → stretch_kept s o ≡ called 0 s (fillings.buffer_after o ∷ [])
kept_shown s (previewed n buffer) h = ap (λ (m : ℕ). called m s (buffer ∷ [])) h

module _ (s : List ℕ) (e unknown : ℕ) (buffer : List ℕ) where
  abbrev o : Previewed
  o = preview_of (sequence_in s) (state_in s) e unknown (read_back_in s) buffer

  pub preview-stays : memory_after (bay_preview_of s e unknown buffer) ≡ s
  unfolding bay_preview_of
  preview-stays = kept_stretch s o

  pub preview-number : number (bay_preview_of s e unknown buffer) ≡ fillings.number o
  unfolding bay_preview_of
  preview-number = kept_number s o

  pub preview-refused : number (bay_preview_of s e unknown buffer) ≢ 0
      → bay_preview_of s e unknown buffer ≡ called (number (bay_preview_of s e unknown buffer)) s (buffer ∷ [])
  unfolding bay_preview_of
  preview-refused h =
      ap (stretch_kept s) (lent-left (sequence_in s) (state_in s) (read_back_in s) e unknown buffer (λ z. h (kept_number s o ∙ z)))
      ∙ ap (λ (n : ℕ). called n s (buffer ∷ [])) (sym (kept_number s o))

  pub preview-not : (k : ℕ) → rank 12 < rank k → k ≢ 17 → number (bay_preview_of s e unknown buffer) ≢ k
  preview-not k l n h =
      ⊎_elim (λ r. omega (arith, r, ap rank (sym preview-number ∙ h))) (λ r. n (sym h ∙ preview-number ∙ r))
      (preview-range (sequence_in s) (state_in s) (read_back_in s) e unknown buffer)

  pub preview-shown : number (bay_preview_of s e unknown buffer) ≡ 0
      → bay_preview_of s e unknown buffer ≡ called 0 s (fillings.buffer_after o ∷ [])
  unfolding bay_preview_of
  preview-shown h = kept_shown s o h
