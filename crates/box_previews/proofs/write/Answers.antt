use Prim.Native.Nat.{ℕ}
use native.Mathlib.Omega.{arith}
use mathlib.Core.Path.{ap₂, ◌∙◌}
use mathlib.Core.List.{List, [], ◌∷◌}
use lib.ListN.{length-set}
use lib.Seq.{sets}
use Rattle.spec_base.specs.Limits.{signal_bytes}
use Rattle.spec_base.specs.Bytes.{le_bytes}
use Rattle.spec_bay.specs.Preview.{never_at, wrong_at}
use Rattle.box_previews.proofs.Stores.{byte_bit, preview_stored}
use Rattle.box_previews.proofs.write.Goals as goal

pub bounds-buffer : goal.bounds-buffer
bounds-buffer c = simp length-set (omega (arith, c.put_le-2.auto.buf, c.put_le.auto.buf))

pub shape_of-buffer : goal.shape_of-buffer
shape_of-buffer c = simp length-set (c.put_le-2.auto.buf ∙ c.put_le.auto.buf)

pub returns : goal.returns
returns c =
    let a = c.args in
    let n = c.complement-never.ensures in
    ap₂ (λ (l : List ℕ) (w : ℕ). sets l wrong_at (w ∷ a.x.code ∷ []))
    (c.put_le-2.ensures ∙ ap₂ (λ (l : List ℕ) (y : ℕ). sets l never_at (le_bytes signal_bytes y)) c.put_le.ensures n) (c.from.ensures ∙ byte_bit a.x.wrong)
    ∙ preview_stored a.x a.buffer.now c.requires
