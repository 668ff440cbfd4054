use Rattle.std.proofs.lemmas.Result.{err_from_is_err_and}
use Rattle.boxes.proofs.Entering.{turned-away, not-wanted, is-wanted}
use Rattle.boxes.proofs.Calling.{cut-there}
use mathlib.Core.Path.{ap, ◌∙◌}
use Rattle.spec_bay.specs.Stretch.{is_empty}
use Rattle.boxes.proofs.entry.Goals as goal

pub returns-in_err-from : goal.returns-in_err-from
returns-in_err-from c =
    let p = err_from_is_err_and c.from_residual.result c.from_residual.ensures.1 in
    rw (p.1, p.2) (turned-away _ _ c.args.vacant _ c.in_err-from.ensures)

pub returns-then-is_empty-vacant : goal.returns-then-is_empty-vacant
returns-then-is_empty-vacant c =
    let h = c.in_ok-from.ensures in
    not-wanted _ _ c.args.vacant h (c.is_empty.ensures ∙ ap is_empty (cut-there _ _ h.3)) c.if-is_empty-vacant.true

pub returns : goal.returns
returns c =
    let h = c.in_ok-from.ensures in
    is-wanted _ _ c.args.vacant h (c.is_empty.ensures ∙ ap is_empty (cut-there _ _ h.3)) c.if-is_empty-vacant.false
