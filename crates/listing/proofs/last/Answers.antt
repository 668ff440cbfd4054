use mathlib.Core.Path.{refl}
use Rattle.spec_programs.specs.Stages as Listing
use Rattle.listing.proofs.Pieces.{printed}
use Rattle.listing.proofs.last.Goals as goal

pub returns : goal.returns
returns c = λ file text h. printed file _ Listing.finished h refl
