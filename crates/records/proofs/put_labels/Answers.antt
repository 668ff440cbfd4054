use Prim.Native.Nat.{ℕ, ◌+◌}
use mathlib.Core.Path.{ap, ap₂, ◌∙◌}
use mathlib.Core.List.{List}
use lib.Seq.{sets}
use Rattle.labels.specs.Labels.{label_set}
use Rattle.spec_base.specs.Bytes.{le_bytes}
use Rattle.records.proofs.StateStores.{words_stored}
use Rattle.records.proofs.put_labels.Goals as goal

pub returns : goal.returns
returns c =
    let a = c.args in
    c.put_le-2.ensures
    ∙ ap₂ (λ (l : List ℕ) (x : ℕ). sets l (a.at + 8) (le_bytes 8 x))
    (c.put_le.ensures ∙ ap (λ (x : ℕ). sets a.buffer.now a.at (le_bytes 8 x)) c.low_word.ensures)
    c.high_word.ensures
    ∙ words_stored a.buffer.now a.at (label_set a.labels)
