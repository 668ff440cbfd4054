use mathlib.Core.Path.{refl}
use Rattle.program.proofs.Deliveries.{wrong-instant, right-instant}
use Rattle.program.proofs.instant.Goals as goal

pub returns-then-is_wrong : goal.returns-then-is_wrong
returns-then-is_wrong c =
    let a = c.args in
    wrong-instant a.second.now a.s.now a.origin a.input a.read_back c.requires.litres_value c.react-r.ensures c.is_wrong.ensures
    c.if-is_wrong.true refl

pub returns-else-is_wrong : goal.returns-else-is_wrong
returns-else-is_wrong c =
    let a = c.args in
    right-instant a.second.now a.s.now a.origin a.input a.read_back c.requires.litres_value c.react-r.ensures c.is_wrong.ensures c.if-is_wrong.false
