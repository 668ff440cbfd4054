use mathlib.Core.Path.{refl}
use Rattle.spec_base.specs.Limits.{read_back_place}
use Rattle.spec_language.specs.Statement.{reported}
use Rattle.declarations.proofs.in_read_back_once.Goals as goal

pub returns : goal.returns
returns c f s = c.declaring_once.ensures f reported read_back_place s refl
