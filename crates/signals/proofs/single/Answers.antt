use borrow.Author.Rules.{rules}
use Rattle.spec_base.specs.Sets.{none}
use Rattle.sets.proofs.Widths.{shifted_only, none_only}
use Rattle.signals.proofs.single.Goals as goal

pub returns-then-i-lt-SIGNALS : goal.returns-then-i-lt-SIGNALS
returns-then-i-lt-SIGNALS c = shifted_only 32 c.args.i (search rules)

pub returns-else-i-lt-SIGNALS : goal.returns-else-i-lt-SIGNALS
unfolding none
returns-else-i-lt-SIGNALS c = none_only 32 c.args.i (search rules)
