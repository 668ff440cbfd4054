-- What a waiting statement answers by the ranks m of its active pauses, for whatever statement the bytes encode
-- (layout, specs/Layout).
use Rattle.std.specs.Prelude.{ℕ, cond, List}
use Rattle.spec_base.specs.Sets.{empty}
use Rattle.spec_language.specs.Statement.{Statement, nothing}
use Rattle.theory_language.specs.Traced.{start_traced}
use Rattle.theory_language.specs.RankedExpansion.{expand_by, resume_traced}
use Rattle.layout.specs.Layout.{Lies}
use Rattle.reaction.specs.declared.Reaction.{Reaction}
use Rattle.reaction.specs.Reactions.{Realizes}

-- r is the tree of the statement encoded there, and the litres x of all farms become y by it
abbrev pub Resumed : (t : List ℕ) (d a : ℕ) (bs : List ℕ) (m e : ℕ) (x y : List ℕ) (r : Reaction) → Type 0
Resumed t d a bs m e x y r = (base : ℕ) (p : Statement) → Lies t d base a bs p → (f : ℕ) → Realizes f x y r (resume_traced f base p m e)

-- the expansion of a side of a parallel: it has ended where none of its pauses is active
abbrev pub side_by : (base : ℕ) → Statement → (m : ℕ) → Statement
side_by base p m = cond (empty m) nothing (expand_by base p m)

abbrev pub ResumedSide : (t : List ℕ) (d a : ℕ) (bs : List ℕ) (m e : ℕ) (x y : List ℕ) (r : Reaction) → Type 0
ResumedSide t d a bs m e x y r = (base : ℕ) (p : Statement) → Lies t d base a bs p → (f : ℕ) → Realizes f x y r (start_traced f (side_by base p m) e)
