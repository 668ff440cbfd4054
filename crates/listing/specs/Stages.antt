-- What the code's answers stand for: the stage of a run.
use Rattle.std.specs.Prelude.{ℕ, suc, cond, List, drop, eqb}
use Rattle.spec_programs.specs.File.{sequence_in, read_back_in, inputs_in}
use Rattle.spec_programs.specs.Stages as Listing
use Rattle.listing.specs.declared.Stage.{Stage}
use Rattle.listing.specs.declared.Stage.TheVariants as stages
use Rattle.listing.specs.declared.Run.{Run}

-- an instant's number is one more than the inputs before it
abbrev pub stage_by : List ℕ → Stage → (state : List ℕ) → Listing.Stage
stage_by file stages.Opening state = Listing.opening file
stage_by file (stages.Running i) state = Listing.running (sequence_in file) (read_back_in file) state (suc i) (drop i (inputs_in file))
stage_by file stages.Closing state = Listing.closing
stage_by file stages.Finished state = Listing.finished

abbrev pub stage_in : List ℕ → Run → Listing.Stage
stage_in file run = stage_by file run.stage run.state

-- a machine that is over ends the run
abbrev pub stage_after : (phase i : ℕ) → Stage
stage_after phase i = cond (eqb phase 2) stages.Closing (stages.Running i)
