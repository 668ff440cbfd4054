use mathlib.Core.Path.{refl}
use mathlib.Core.Bool.{true, false}
use Rattle.spec_language.specs.LabelTests.{alternative, parallel}
use Rattle.wellformed.proofs.Surveyed.{fresh_rows}
use Rattle.wellformed.proofs.Formed.{formed-is}
use Rattle.wellformed.proofs.triggers.is_well_formed.Goals as goal

pub returns : goal.returns
returns c t p l e g =
    let h = c.survey.ensures t p l in
    formed-is p _ _ (fresh_rows true false alternative p _ _ c.empty-none.result c.empty-none.ensures refl h.0) (fresh_rows true true parallel p _ _ c.empty-none.result c.empty-none.ensures refl h.1) _ e g _ c.any_clash.ensures
