-- What one instant tells: its reaction, its first error and the number of its reactions.
use Rattle.std.specs.Prelude.{ℕ}
use Rattle.std.proofs.Math.Option.{Option}
use Rattle.spec_language.specs.Statement.{Statement}
use Rattle.spec_language.specs.Reaction.{Reaction, Order, inheritanceFirst, react_by}
use Rattle.spec_language.specs.Errors.{Error, first_error_by}
use Rattle.spec_language.specs.Reactions.{reactions_by}

-- a reaction with the first error of its tree, where it is wrong, and the number of reactions in it
pub data Instant : Type 0 where
  instant : (r : Reaction) (first : Option Error) (reactions : ℕ) → Instant

abbrev pub start_by : Order → Statement → ℕ → Instant
start_by ord p e = instant (react_by ord p e) (first_error_by ord p e) (reactions_by ord p e)

abbrev pub start : Statement → ℕ → Instant
start = start_by inheritanceFirst
