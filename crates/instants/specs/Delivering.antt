-- What a call delivers, as the code gives it: the litres of each farm (capped_of), and of no other than some farms.
use Rattle.std.specs.Prelude.{ℕ, ◌<◌, ◌≡◌, List, get_or}
use Rattle.spec_base.specs.Limits.{farm_count}
use Rattle.reaction.specs.Reactions.{capped_of}
use Rattle.spec_tick.specs.Deliveries.{deliveries}
use Rattle.program.specs.Deliveries.{OnlyOf}

abbrev pub Delivers : (sequence state : List ℕ) (e read_back farms : ℕ) (litres : List ℕ) → Type 0
Delivers sequence state e read_back farms litres =
    OnlyOf farms litres
    × ((f : ℕ) → f < farm_count → get_or litres f 0 ≡ capped_of (deliveries sequence read_back state e f))
