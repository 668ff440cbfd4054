-- What the code's answer stands for: the next input.
use Rattle.std.specs.Prelude.{ℕ}
use Rattle.std.specs.Prelude as std
use Rattle.std.proofs.Math.Option.{Option, none, some}

abbrev pub input_by : std.Option ℕ → Option ℕ
input_by (std.Some e) = some e
input_by std.None = none
