-- What the call that writes loops out has to meet.
use Rattle.std.specs.Prelude.{ℕ, ◌≡◌, List, Result}
use Rattle.std.specs.Result.{result_unwrap_or}
use Rattle.spec_language.specs.Statement.{Statement}
use Rattle.spec_base.specs.Limits.{max_depth}
use Rattle.layout.specs.Layout.{Lies}
use Rattle.spec_unroll.specs.Call.{unrolling, of_plain, unroll_of}
use Rattle.limits.specs.declared.rows.Refusal.{Refusal}
use Rattle.limits.specs.Rows.{call_number}

-- number, length and buffer are unrollOf's
abbrev pub UnrollMeets : (r : Result ℕ Refusal) (b' sequence : List ℕ) (read_back : ℕ) (b : List ℕ) → Type 0
UnrollMeets r b' sequence read_back b = unrolling (call_number r) (result_unwrap_or r 0) b' ≡ unroll_of sequence read_back b

-- those of a statement without setpause
abbrev pub PlainMeets : (r : Result ℕ Refusal) (b' t sequence b : List ℕ) → Type 0
PlainMeets r b' t sequence b = (p : Statement) → Lies t max_depth 0 0 sequence p → unrolling (call_number r) (result_unwrap_or r 0) b' ≡ of_plain p b
