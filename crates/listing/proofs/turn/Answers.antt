use mathlib.Core.Path.{◌∙◌, subst}
use mathlib.Core.List.{[]}
use Rattle.spec_programs.specs.Text.{ending}
use Rattle.spec_programs.specs.Stages as Listing
use Rattle.listing.specs.declared.Stage.TheVariants as stages
use Rattle.listing.specs.Pieces.{Prints}
use Rattle.listing.proofs.Turns.{turn_by, turn_opening, turn_closing, turn_finished}
use Rattle.listing.proofs.turn.Goals as goal

pub returns-in-Opening : goal.returns-in-Opening
returns-in-Opening c =
    let a = c.args in
    let f = a.file.now in
    subst (λ (t : Listing.Turn). Prints f t c.opening.result) (turn_opening f ∙ turn_by f a.run stages.Opening c.in-Opening.is) c.opening.ensures

pub returns-in-Running : goal.returns-in-Running
returns-in-Running c =
    let a = c.args in
    let f = a.file.now in
    subst (λ (t : Listing.Turn). Prints f t c.step.result) (turn_by f a.run (stages.Running c.in-Running.i) c.in-Running.is) c.step.ensures

pub returns-in-Closing : goal.returns-in-Closing
returns-in-Closing c =
    let a = c.args in
    let f = a.file.now in
    subst (λ (t : Listing.Turn). Prints f t c.last.result) (turn_closing ∙ turn_by f a.run stages.Closing c.in-Closing.is) (c.last.ensures f ending c.ending.ensures)

pub returns-in-Finished : goal.returns-in-Finished
returns-in-Finished c =
    let a = c.args in
    let f = a.file.now in
    subst (λ (t : Listing.Turn). Prints f t c.last-in-Finished.result) (turn_finished ∙ turn_by f a.run stages.Finished c.in-Finished.is) (c.last-in-Finished.ensures f [] c.nothing.ensures)
