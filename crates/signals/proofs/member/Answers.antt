use mathlib.Core.Path.{refl, sym, ◌∙◌}
use borrow.Author.Rules.{rules}
use borrow.Author.Tests.{le-ltb}
use Rattle.spec_base.specs.Limits.{signal_count}
use Rattle.spec_base.specs.Sets.{member}
use Rattle.sets.proofs.Members.{member-high}
use Rattle.signals.proofs.member.Goals as goal

pub returns-then-i-lt-SIGNALS : goal.returns-then-i-lt-SIGNALS
unfolding member
returns-then-i-lt-SIGNALS c = refl

pub returns-else-i-lt-SIGNALS : goal.returns-else-i-lt-SIGNALS
returns-else-i-lt-SIGNALS c =
    le-ltb c.args.i signal_count c.if-i-lt-SIGNALS.false ∙ sym (member-high {w = 32} _ (search rules) (search rules))
