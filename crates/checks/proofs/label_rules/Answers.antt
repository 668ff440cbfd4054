use Rattle.checks.proofs.LabelRules.{eight, without-setpauses, nine, sound, ten}
use Rattle.checks.proofs.label_rules.Goals as goal

pub returns-then-not-is_distinct : goal.returns-then-not-is_distinct
returns-then-not-is_distinct c t p l n = eight p _ n c.is_distinct.ensures c.if-not-is_distinct.true

pub returns-then-is_empty : goal.returns-then-is_empty
returns-then-is_empty c t p l n = without-setpauses p _ n c.is_distinct.ensures c.if-not-is_distinct.false _ c.setpauses-setpauses.ensures c.is_empty.ensures c.if-is_empty.true

pub returns-then-not-subset : goal.returns-then-not-subset
returns-then-not-subset c t p l n = nine p _ n c.is_distinct.ensures c.if-not-is_distinct.false _ c.setpauses-setpauses.ensures _ c.pauses-pauses.ensures c.subset.ensures c.if-not-subset.true

pub returns : goal.returns
returns c t p l n = sound p _ n c.is_distinct.ensures c.if-not-is_distinct.false _ c.setpauses-setpauses.ensures _ c.pauses-pauses.ensures c.subset.ensures c.if-not-subset.false (c.is_well_formed.ensures t p l) c.if-not-is_well_formed.false

pub returns-then-not-is_well_formed : goal.returns-then-not-is_well_formed
returns-then-not-is_well_formed c t p l n = ten p _ n c.is_distinct.ensures c.if-not-is_distinct.false _ c.setpauses-setpauses.ensures _ c.pauses-pauses.ensures c.subset.ensures c.if-not-subset.false (c.is_well_formed.ensures t p l) c.if-not-is_well_formed.true
