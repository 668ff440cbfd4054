use Rattle.spec_language.specs.Statement.{local}
use Rattle.declarations.proofs.in_signal.Goals as goal

pub returns : goal.returns
returns c f = c.declaring.ensures f local c.without.ensures
