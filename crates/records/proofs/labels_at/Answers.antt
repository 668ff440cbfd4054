use Prim.Native.Nat.{ℕ, ◌*◌, ◌+◌, ◌^◌}
use native.Mathlib.Omega.{arith}
use mathlib.Core.Path.{sym, ap, ap₂, ◌∙◌}
use mathlib.Core.List.{List}
use lib.ListN.{take, drop}
use lib.Seq.{take-take}
use Rattle.spec_base.specs.Widths.{two_words}
use Rattle.spec_base.specs.Bytes.{le_number}
use Rattle.numbers.proofs.Bytes.{le_behind}
use Rattle.records.proofs.labels_at.Goals as goal

pub returns : goal.returns
unfolding two_words
returns c =
    let a = c.args in
    let bytes = drop a.at a.buffer.now in
    let h = c.part-bytes.ensures in
    c.from_words.ensures
    ∙ ap₂ (λ (low high : ℕ). high * 2 ^ 64 + low)
    (c.get_le-low.ensures.value ∙ ap (λ (bs : List ℕ). le_number (take 8 bs)) h)
    (c.get_le-high.ensures.value ∙ ap (λ (bs : List ℕ). le_number (take 8 (drop 8 bs))) h)
    ∙ sym (le_behind 8 8 (take 16 bytes))
    ∙ ap le_number (take-take 16 16 bytes (omega arith))
