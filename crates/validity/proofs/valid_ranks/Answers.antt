use Rattle.spec_base.specs.Limits.{word_labels}
use mathlib.Core.Path.{◌∙◌}
use Rattle.labels.specs.Labels.{label_set}
use Rattle.sets.proofs.Words.{words-lt}
use Rattle.layout.proofs.Laid.{ready, whole, whole_lies}
use Rattle.validity.proofs.Ranking.{ranked, paused-in}
use Rattle.validity.proofs.Validities.{none-invalid, outside-invalid, valid-is}
use borrow.Author.Rules.{rules}
use Rattle.validity.proofs.valid_ranks.Goals as goal

pub returns-then-is_empty : goal.returns-then-is_empty
returns-then-is_empty c p k = none-invalid p _ c.is_empty.ensures c.if-is_empty.true

pub returns-then-not-subset : goal.returns-then-not-subset
returns-then-not-subset c p k = outside-invalid p _ c.is_empty.ensures c.if-is_empty.false _ (c.pauses.ensures ∙ k.noted.paused) c.subset.ensures c.if-not-subset.true

pub ranks-active-requires : goal.ranks-active-requires
ranks-active-requires c = ranked c.requires.p _ _ _ c.requires.known.noted c.pauses.ensures (c.subset.ensures.0 c.if-not-subset.false) c.requires.known.once (unfold label_set in words-lt word_labels _ _ (search rules) word_labels (search rules))

pub compatible-requires : goal.compatible-requires
compatible-requires c = whole (ready 0 c.requires.p c.requires.known.long c.requires.known.lies)

pub returns-then-compatible : goal.returns-then-compatible
returns-then-compatible c p k =
    let m = c.ranks-active.ensures p k.noted k.once (paused-in p _ _ _ k.noted c.pauses.ensures (c.subset.ensures.0 c.if-not-subset.false)) in
    (valid-is p _ c.is_empty.ensures c.if-is_empty.false _ (c.pauses.ensures ∙ k.noted.paused) c.subset.ensures c.if-not-subset.false m (c.compatible.ensures 0 p (whole_lies _ _ _ _ _ p k.lies)) ∙ c.if-compatible.true, m)

pub returns-else-compatible : goal.returns-else-compatible
returns-else-compatible c p k =
    let m = c.ranks-active.ensures p k.noted k.once (paused-in p _ _ _ k.noted c.pauses.ensures (c.subset.ensures.0 c.if-not-subset.false)) in
    valid-is p _ c.is_empty.ensures c.if-is_empty.false _ (c.pauses.ensures ∙ k.noted.paused) c.subset.ensures c.if-not-subset.false m (c.compatible.ensures 0 p (whole_lies _ _ _ _ _ p k.lies)) ∙ c.if-compatible.false
