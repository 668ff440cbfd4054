-- What a program answers, for whatever statement the bytes encode (layout, specs/Layout).
use Rattle.std.specs.Prelude.{ℕ, ◌≡◌, List}
use Rattle.spec_base.specs.Limits.{max_depth}
use Rattle.labels.specs.Labels.{label_set}
use Rattle.spec_language.specs.Statement.{Statement}
use Rattle.theory_language.specs.Traced.{start_traced}
use Rattle.theory_language.specs.RankedExpansion.{expand_by}
use Rattle.spec_sequence.specs.Program.{program}
use Rattle.layout.specs.Layout.{Lies}
use Rattle.reaction.specs.declared.Reaction.{Reaction}
use Rattle.reaction.specs.Reactions.{reaction_to, Realizes}
use Rattle.program.specs.declared.Start.{Start}
use Rattle.program.specs.declared.Start.TheVariants.{Fresh, Waiting}

-- the statement itself: fresh, or expanded by the ranks of its active pauses
abbrev pub term_at : Start → Statement → Statement
term_at Fresh p = p
term_at (Waiting m) p = expand_by 0 p (label_set m)

-- and the litres x of all farms become y by it
abbrev pub Inside : (t bs : List ℕ) (origin : Start) (e : ℕ) (x y : List ℕ) (r : Reaction) → Type 0
Inside t bs origin e x y r = (p : Statement) → Lies t max_depth 0 0 bs p → (f : ℕ) → Realizes f x y r (start_traced f (term_at origin p) e)

-- and under the declarations
abbrev pub Reacted : (t bs : List ℕ) (origin : Start) (e read_back : ℕ) (x y : List ℕ) (r : Reaction) → Type 0
Reacted t bs origin e read_back x y r =
    (p : Statement) → Lies t max_depth 0 0 bs p → (f : ℕ) → Realizes f x y r (start_traced f (program read_back (term_at origin p)) e)

-- the reaction alone
abbrev pub ReactedWithoutLitres : (t bs : List ℕ) (origin : Start) (e read_back : ℕ) (r : Reaction) → Type 0
ReactedWithoutLitres t bs origin e read_back r =
    (p : Statement) → Lies t max_depth 0 0 bs p → r ≡ reaction_to (program read_back (term_at origin p)) e
