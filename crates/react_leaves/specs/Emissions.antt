-- The values of emissions, as the code has them (02, item 12), from the bytes of the command.
use Rattle.std.specs.Prelude.{ℕ, ◌≤◌, ◌<◌, ◌≡◌, cond, List, get_or, length, T, eqb}
use Rattle.std.specs.Float.{binary32}
use Rattle.std.specs.Float.Ieee.{of_bits}
use Rattle.spec_base.specs.Limits.{signal_count}
use Rattle.spec_base.specs.Bytes.{number_at}
use Rattle.spec_base.specs.WholeLitres.{whole, litres}
use Rattle.spec_language.specs.Statement as Esterel
use Rattle.react_leaves.specs.declared.Value.{Value}
use Rattle.react_leaves.specs.declared.Value.TheVariants.{Pure, Litres}

-- 02: 'An emission by 02 carries no litres'; 0C does
abbrev pub value_in : List ℕ → Value
value_in bs = cond (eqb (get_or bs 0 0) 12) (Litres (of_bits binary32 (number_at 2 4 bs))) Pure

abbrev pub amount_of : Value → ℕ
amount_of Pure = 0
amount_of (Litres x) = litres x

-- the value that it stands for
abbrev pub meant : Value → Esterel.Value
meant Pure = Esterel.pure
meant (Litres x) = Esterel.litres (litres x)

-- litres are a whole number up to the limit
abbrev pub Whole : Value → Type 0
Whole Pure = Unit {0}
Whole (Litres x) = T (whole x)

-- an emission's bytes: its signal is there and is one, and so are the litres of a 0C, which are such a number
pub record Emission (bs : List ℕ) : Type 0 where
  pub there : 2 ≤ length bs
  pub small : get_or bs 1 0 < signal_count
  pub fit : get_or bs 0 0 ≡ 12 → (6 ≤ length bs) × T (whole (of_bits binary32 (number_at 2 4 bs)))
