use Rattle.rules.proofs.Combining.{try_catches}
use Rattle.rules.proofs.in_try.Goals as goal

pub returns : goal.returns
returns c i a = try_catches i _ a _ _ c.caught.ensures c.over_one.ensures
