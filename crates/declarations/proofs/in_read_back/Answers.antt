use mathlib.Core.Path.{refl}
use Rattle.spec_language.specs.Statement.{reported}
use Rattle.declarations.proofs.in_read_back.Goals as goal

pub returns : goal.returns
returns c f = c.declaring.ensures f reported refl
