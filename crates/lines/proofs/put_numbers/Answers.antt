use Rattle.lines.proofs.Buffers.{before}
use Rattle.lines.proofs.put_numbers.Goals as goal

pub returns : goal.returns
returns c =
    before (before (before c.put_field-at.ensures.prepended c.put_field-at-2.ensures.prepended) c.put_field-at-3.ensures.prepended)
    c.put_field.ensures.prepended
