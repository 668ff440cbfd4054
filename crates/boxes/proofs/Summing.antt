-- The loop that sums what the bays present have of the shared ceiling.
use Prim.Native.Nat.{ℕ, ◌+◌, ◌*◌}
use native.Mathlib.Numerals.{add-one}
use mathlib.Core.Path.{◌≡◌, refl, sym, ap, ◌∙◌}
use mathlib.Core.List.{List}
use Rattle.spec_bay.specs.Stretch.{stretch_length, part_of}
use Rattle.spec_box.specs.Box.{stretch_of, present}
use Rattle.boxes.proofs.Calling.{cut, cut-there}

pub none_present : (box : List ℕ) → 0 ≡ present 0 box
unfolding present
none_present box = refl

pub one_more : (box : List ℕ) (i sum : ℕ) → sum ≡ present i box → {k : ℕ} → k ≡ part_of (cut (i * stretch_length) box)
    → sum + k ≡ present (i + 1) box
unfolding present
one_more box i sum e {k} d =
    let x : k ≡ part_of (stretch_of i box) = d ∙ ap part_of (cut-there box i refl) in rw (e, x) (sym (ap (λ (n : ℕ). present n box) (add-one i)))
