use mathlib.Core.Path.{ap, ◌∙◌, subst}
use Rattle.spec_programs.specs.Stages as Listing
use Rattle.lines.specs.Shown.{failure_of}
use Rattle.listing.specs.Pieces.{Prints}
use Rattle.listing.proofs.Turns.{opened_failure}
use Rattle.listing.proofs.opening.Goals as goal

pub returns-in-Err : goal.returns-in-Err
returns-in-Err c =
    let f = c.args.file.now in
    let e = c.in-Err.error in
    subst (λ (t : Listing.Turn). Prints f t c.last.result) (opened_failure f e ∙ ap Listing.opened c.in-Err.ensures)
    (c.last.ensures f (failure_of e) c.failure.ensures)
