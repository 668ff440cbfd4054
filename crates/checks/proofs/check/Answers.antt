use mathlib.Core.Path.{refl, sym, ◌∙◌}
use Rattle.std.proofs.lemmas.Result.{err_from_is_err_and}
use Rattle.checks.proofs.Verdicts.{sized_few, unsized, refused-is, standing, by_labels, by-numbers, passes}
use Rattle.checks.proofs.check.Goals as goal
use Rattle.limits.proofs.Refusals.{row_not_0}

pub returns-then-not-is_sized : goal.returns-then-not-is_sized
returns-then-not-is_sized c = unsized _ _ _ _ (sym c.is_sized.ensures ∙ c.if-not-is_sized.true)

pub read_sequence-requires-clause-s_len_bound : goal.read_sequence-requires-clause-s_len_bound
read_sequence-requires-clause-s_len_bound c = sized_few c.args.s.now (sym c.is_sized.ensures ∙ c.if-not-is_sized.false)

pub returns-in_err-read : goal.returns-in_err-read
returns-in_err-read c =
    let p = err_from_is_err_and c.from_residual.result c.from_residual.ensures.1 in
    rw (p.1, p.2) (refused-is _ _ _ _ (sym c.is_sized.ensures ∙ c.if-not-is_sized.false) c.read_sequence.ensures c.in_err-read.was)

pub returns-in_err-after_reading : goal.returns-in_err-after_reading
returns-in_err-after_reading c =
    let p = err_from_is_err_and c.from_residual-in_err-after_reading.result c.from_residual-in_err-after_reading.ensures.1 in
    rw (p.1, p.2) (by-numbers _ _ _ _ (sym c.is_sized.ensures ∙ c.if-not-is_sized.false) c.read_sequence.ensures c.in_ok-read.was c.in_err-after_reading.ensures (row_not_0 _))

pub label_rules-requires : goal.label_rules-requires
label_rules-requires c = standing _ c.args.read_back _ _ (sym c.is_sized.ensures ∙ c.if-not-is_sized.false) c.read_sequence.ensures c.in_ok-read.was

pub returns : goal.returns
returns c =
    let s = (sym c.is_sized.ensures ∙ c.if-not-is_sized.false) in
    let h = c.read_sequence.ensures in
    let g = c.in_ok-read.was in
    let k = passes _ _ _ _ s h g c.in_ok-after_reading.ensures in
    by_labels _ _ _ _ s h g refl k.0 k.1 c.label_rules.ensures
