use mathlib.Core.Path.{refl}
use Rattle.spec_tick.specs.Demands.{cleared}
use Rattle.spec_programs.specs.File.{sequence_in, read_back_in, inputs_in}
use Rattle.spec_programs.specs.Stages as Listing
use Rattle.listing.proofs.Pieces.{printed}
use Rattle.listing.proofs.heading.Goals as goal

pub returns : goal.returns
returns c = λ file. printed file _ (Listing.running (sequence_in file) (read_back_in file) cleared 1 (inputs_in file)) c.heading.ensures refl
