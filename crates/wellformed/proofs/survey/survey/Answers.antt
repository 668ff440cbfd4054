use mathlib.Core.Bool.{true, false}
use Rattle.spec_language.specs.LabelTests.{alternative, parallel}
use Rattle.layout.proofs.Laid.{whole, whole_lies}
use Rattle.wellformed.proofs.Surveyed.{nothing_before}
use Rattle.wellformed.proofs.survey.survey.Goals as goal

pub pass-requires : goal.pass-requires
pass-requires c = record { table = _; ready = whole c.requires.ready }

pub returns : goal.returns
returns c t p l =
    let h = c.pass.ensures t 0 p (whole_lies _ _ _ _ _ p l) in
    (nothing_before true false alternative p c.empty-none.ensures h.excludes, nothing_before true true parallel p c.empty-none.ensures h.sides)
