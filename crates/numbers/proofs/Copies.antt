-- A run of stores over a whole buffer.
use Prim.Native.Nat.{ℕ}
use mathlib.Core.Path.{◌≡◌, refl, sym, ◌∙◌}
use mathlib.Core.List.{List}
use lib.ListN.{length}
use lib.Seq.{sets}
use Rattle.spec_base.specs.Bytes.{replaced}
use Rattle.numbers.proofs.Writing.{sets-whole, replaced-by}

pub copied : (b bytes : List ℕ) → length b ≡ length bytes → sets b 0 bytes ≡ replaced b bytes
copied b bytes h = sets-whole b bytes (sym h) ∙ sym (replaced-by (length bytes) b bytes refl h)
