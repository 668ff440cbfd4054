use Rattle.spec_language.specs.Statement.{local}
use Rattle.declarations.proofs.in_signal_once.Goals as goal

pub returns : goal.returns
returns c f a = c.declaring_once.ensures f local a _ c.without.ensures
