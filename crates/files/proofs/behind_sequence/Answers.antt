use Prim.Native.Nat.{ℕ, ◌+◌}
use native.Mathlib.Omega.{arith}
use mathlib.Core.List.{List}
use mathlib.Core.Path.{◌≡◌, ap, ◌∙◌}
use lib.ListN.{length, take, drop, length-drop}
use lib.Seq.{take_all}
use Rattle.spec_programs.specs.File.{sequence_length, read_back_at}
use Rattle.files.proofs.behind_sequence.Goals as goal

behind-part : (file s : List ℕ) (n : ℕ) → n ≡ sequence_length file → s ≡ take (length file) (drop (2 + n) file)
    → s ≡ drop (read_back_at file) file
behind-part file s n e h =
    h ∙ take_all (length file) (drop (2 + n) file) (omega (arith, length-drop (2 + n) file)) ∙ ap (λ (k : ℕ). drop (2 + k) file) e

pub returns : goal.returns
returns c =
    let l = c.sequence_length-at in
    behind-part c.args.file.now c.part.result.now l.result l.ensures.value c.part.ensures
