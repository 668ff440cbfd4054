use borrow.Author.Rules.{rules}
use Rattle.sets.proofs.Masks.{all_others}
use Rattle.signals.proofs.complement.Goals as goal

pub returns : goal.returns
returns c = all_others 32 c.args.s (search rules)
