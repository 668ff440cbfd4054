-- A run of stores that gives the bytes of a preview.
use Prim.Native.Nat.{ℕ}
use mathlib.Core.Path.{◌≡◌, refl, sym, ap, ◌∙◌}
use mathlib.Core.Bool.{Bool, true, false}
use Rattle.std.specs.Int.{from_bool}
use mathlib.Core.List.{List, [], ◌∷◌, ◌++◌}
use lib.ListN.{length}
use lib.Seq.{sets}
use Rattle.spec_base.specs.Limits.{signal_count, signal_bytes}
use Rattle.spec_base.specs.Widths.{complement}
use Rattle.spec_base.specs.Bytes.{le_bytes}
use Rattle.numbers.proofs.Writing.{sets-whole, sets_append}
use Rattle.spec_bay.specs.declared.Findings.{Findings}
use Rattle.spec_bay.specs.Preview.{never_at, wrong_at, preview_length, bit, preview_bytes}

pub byte_bit : (b : Bool) → from_bool b ≡ bit b
byte_bit true = refl
byte_bit false = refl

pub preview_sized : (x : Findings) → length (preview_bytes x) ≡ preview_length
unfolding le_bytes
preview_sized x = refl

pub preview_stored : (x : Findings) (b : List ℕ) → length b ≡ preview_length
    → sets (sets (sets b 0 (le_bytes signal_bytes x.every)) never_at (le_bytes signal_bytes (complement signal_count x.some))) wrong_at (bit x.wrong ∷ x.code ∷ [])
    ≡ preview_bytes x
unfolding le_bytes
preview_stored x b z =
    let h = le_bytes signal_bytes x.every in
    let n = le_bytes signal_bytes (complement signal_count x.some) in
    let t = bit x.wrong ∷ x.code ∷ [] in
    ap (λ (l : List ℕ). sets l wrong_at t) (sets_append b 0 h n)
    ∙ sets_append b 0 (h ++ n) t
    ∙ sets-whole b ((h ++ n) ++ t) (preview_sized x ∙ sym z)
