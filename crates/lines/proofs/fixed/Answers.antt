use mathlib.Core.Path.{refl}
use Rattle.lines.proofs.Lines.{shown}
use Rattle.lines.proofs.fixed.Goals as goal

pub returns : goal.returns
returns c = shown _ refl c.put_text-from.auto.line c.put_text-from.ensures
