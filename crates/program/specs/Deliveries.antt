-- The litres of farms as an instant of a program gives them (reaction, capped_of), for whatever statement the bytes encode.
use Rattle.std.specs.Prelude.{ℕ, ◌<◌, ◌≡◌, false, List, get_or}
use Rattle.spec_base.specs.Limits.{max_depth, farm_count}
use Rattle.spec_base.specs.Sets.{member}
use Rattle.spec_language.specs.Statement.{Statement}
use Rattle.spec_language.specs.Litres.{AtMost}
use Rattle.spec_language.specs.Machines.{adds}
use Rattle.spec_sequence.specs.Program.{program}
use Rattle.layout.specs.Layout.{Lies}
use Rattle.reaction.specs.declared.Reaction.{Reaction}
use Rattle.reaction.specs.Reactions.{capped_of, reaction_to}
use Rattle.program.specs.declared.Start.{Start}
use Rattle.program.specs.Program.{term_at}

-- the term of the program
abbrev pub term_of : (origin : Start) (read_back : ℕ) → Statement → Statement
term_of origin read_back p = program read_back (term_at origin p)

-- a set has the farms that p names
abbrev pub HasNamed : (farms : ℕ) → Statement → Type 0
HasNamed farms p = (f : ℕ) → f < farm_count → member f farms ≡ false → AtMost f 0 p

-- only farms of a set have litres
abbrev pub OnlyOf : (farms : ℕ) (litres : List ℕ) → Type 0
OnlyOf farms litres = (f : ℕ) → f < farm_count → member f farms ≡ false → get_or litres f 0 ≡ 0

-- the instant, and every farm's litres: none of those that a set with all named farms has not
abbrev pub Instant : (t bs : List ℕ) (origin : Start) (e read_back : ℕ) (r : Reaction) (litres : List ℕ) → Type 0
Instant t bs origin e read_back r litres =
    (p : Statement) → Lies t max_depth 0 0 bs p
    → (r ≡ reaction_to (term_of origin read_back p) e)
    × ((f : ℕ) → f < farm_count → get_or litres f 0 ≡ capped_of (adds f (term_of origin read_back p) e))
    × ((farms : ℕ) → HasNamed farms p → OnlyOf farms litres)
