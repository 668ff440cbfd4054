use mathlib.Core.Path.{refl, ◌∙◌}
use Rattle.lines.proofs.Buffers.{before}
use Rattle.lines.proofs.Lines.{shown}
use Rattle.lines.proofs.numbered.Goals as goal

pub returns : goal.returns
returns c =
    let t = c.put_text-from in
    let f = c.put_field-at in
    shown _ refl (t.auto.line ∙ f.auto.line) (before f.ensures.prepended t.ensures)
