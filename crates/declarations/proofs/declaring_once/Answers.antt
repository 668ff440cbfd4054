use mathlib.Core.Path.{sym, ◌∙◌}
use Rattle.spec_base.specs.Sets.{none}
use Rattle.declarations.proofs.Once.{once-right, once-wrong}
use borrow.Author.Rules.{rules}
use Rattle.declarations.proofs.declaring_once.Goals as goal

pub returns-then-is_wrong : goal.returns-then-is_wrong
unfolding none
returns-then-is_wrong c f sc a s w t h =
    once-wrong f sc a s t _ h c.over_two-reactions.ensures (sym c.is_wrong.ensures ∙ c.if-is_wrong.true) (search rules, c.empty.ensures)
    c.made.ensures

pub returns-else-is_wrong : goal.returns-else-is_wrong
returns-else-is_wrong c f sc a s w t h =
    once-right f sc a s t _ h c.over_two-reactions.ensures (sym c.is_wrong.ensures ∙ c.if-is_wrong.false) w
    c.made-else-is_wrong.ensures
