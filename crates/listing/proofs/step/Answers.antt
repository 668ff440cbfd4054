use mathlib.Core.Path.{sym, ap, ◌∙◌, subst}
use Prim.Native.Nat.{suc}
use lib.ListN.{drop}
use Rattle.spec_programs.specs.Text.{ending}
use Rattle.spec_programs.specs.File.{sequence_in, read_back_in, inputs_in}
use Rattle.spec_programs.specs.Stages as Listing
use Rattle.files.specs.Answers.{input_by}
use Rattle.listing.specs.Pieces.{Prints}
use Rattle.listing.proofs.Turns.{no_turn}
use Rattle.listing.proofs.step.Goals as goal

pub instant-requires : goal.instant-requires
instant-requires c = sym c.input_at.ensures ∙ ap input_by c.in-Some.is

pub returns-in-None : goal.returns-in-None
returns-in-None c =
    let a = c.args in
    let f = a.file.now in
    subst (λ (t : Listing.Turn). Prints f t c.last.result)
    (no_turn (sequence_in f) (read_back_in f) a.state (suc a.i) (drop a.i (inputs_in f)) (sym c.input_at.ensures ∙ ap input_by c.in-None.is)) (c.last.ensures f ending c.ending.ensures)
