use mathlib.Core.Path.{ap, ◌∙◌}
use Rattle.spec_base.specs.Sets.{join}
use Rattle.sets.proofs.Widths.{join-only}
use Rattle.signals.proofs.with.Goals as goal

pub returns : goal.returns
unfolding join
returns c =
    let a = c.args in
    ap (join a.s) c.single.ensures ∙ join-only 32 a.i a.s
