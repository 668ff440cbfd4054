-- The law by which the code of a bay's preview returns, over plain lists.
use Prim.Native.Nat.{ℕ}
use mathlib.Core.Path.{◌≡◌, ap, ◌∙◌}
use mathlib.Core.List.{List, [], ◌∷◌}
use Rattle.spec_bay.specs.Preview.{previewed, preview_of}
use Rattle.spec_bay.specs.Called.{called}
use Rattle.spec_bay.specs.Stretch.{sequence_in, read_back_in, state_in}
use Rattle.spec_bay.specs.BayCalls.{stretch_kept, bay_preview_of}

-- the preview on the fields that were read
pub on_stretch_lem : (s : List ℕ) (e u : ℕ) (buffer : List ℕ) {sequence state : List ℕ} {read_back : ℕ}
    → sequence ≡ sequence_in s → state ≡ state_in s → read_back ≡ read_back_in s
    → (n : ℕ) (buffer' : List ℕ) → previewed n buffer' ≡ preview_of sequence state e u read_back buffer
    → called n s (buffer' ∷ []) ≡ bay_preview_of s e u buffer
unfolding bay_preview_of
on_stretch_lem s e u buffer {sequence} {state} {read_back} p q o n buffer' h =
    ap (stretch_kept s)
    (h ∙ ap (λ (x : List ℕ). preview_of x state e u read_back buffer) p
    ∙ ap (λ (x : List ℕ). preview_of (sequence_in s) x e u read_back buffer) q
    ∙ ap (λ (x : ℕ). preview_of (sequence_in s) (state_in s) e u x buffer) o)
