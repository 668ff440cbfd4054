use mathlib.Core.Path.{◌∙◌}
use Rattle.declarations.proofs.Cases.{signal-both, signal-neither, signal-inherits, signal-unreactive, signal-undetermined}
use Rattle.declarations.proofs.declaring.Goals as goal

pub returns-in-Both : goal.returns-in-Both
returns-in-Both c f sc w t u a b =
    signal-both f sc _ _ t u _ _ a b _ c.choose.ensures _ _ c.over_two-reactions.ensures c.asked-asked.ensures c.in-Both.is w c.made.ensures

pub returns-in-Neither : goal.returns-in-Neither
returns-in-Neither c f sc w t u a b =
    signal-neither f sc _ _ t u _ _ a b _ c.choose.ensures _ _ c.over_two-reactions.ensures c.asked-asked.ensures c.in-Neither.is c.made-in-Neither.ensures

pub returns-in-OnlyMinus : goal.returns-in-OnlyMinus
returns-in-OnlyMinus c f sc w t u a b =
    c.failing.ensures
    ∙ signal-unreactive f sc _ _ t u _ _ a b _ c.choose.ensures _ _ c.over_two-reactions.ensures c.asked-asked.ensures c.in-OnlyMinus.is

pub returns-in-OnlyPlus : goal.returns-in-OnlyPlus
returns-in-OnlyPlus c f sc w t u a b =
    c.failing-in-OnlyPlus.ensures
    ∙ signal-undetermined f sc _ _ t u _ _ a b _ c.choose.ensures _ _ c.over_two-reactions.ensures c.asked-asked.ensures c.in-OnlyPlus.is

pub returns-in-Inherited : goal.returns-in-Inherited
returns-in-Inherited c f sc w t u a b =
    signal-inherits f sc _ _ t u _ _ a b _ c.choose.ensures _ _ c.over_two-reactions.ensures c.asked-asked.ensures c.in-Inherited.is c.inherited.ensures
