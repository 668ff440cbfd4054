-- What a command makes of the instants of its parts: its reaction, its first error and the number of its reactions.
use Rattle.std.specs.Prelude.{ℕ, ◌+◌, cond}
use Rattle.std.proofs.Math.Option.{Option, some}
use Rattle.spec_base.specs.Sets.{none, only}
use Rattle.spec_language.specs.Statement.{Scope, Statement}
use Rattle.spec_language.specs.Reaction.{Code, is_wrong, Reaction, code, in_seq, in_par, in_loop, in_try, in_suspend, stopped, Case, both, neither, only−, only+, inherited, inheritanceFirst, case_of, in_signal}
use Rattle.spec_language.specs.Errors.{Error, instantaneous, not_reactive, not_deterministic, if_ended}
use Rattle.spec_language.specs.Instants.{Instant, instant}

-- the error of the first of two reactions where it is wrong, else that of the second
abbrev pub if_wrong : Code → (x y : Option Error) → Option Error
if_wrong k x y = cond (is_wrong k) x y

abbrev pub seq_instant : Statement → Instant → Instant → Instant
seq_instant q (instant r x n) (instant r₂ x₂ n₂) = instant (in_seq q r r₂) (if_ended (code r) x₂ x) (1 + n + if_ended (code r) n₂ 0)

abbrev pub par_instant : Instant → Instant → Instant
par_instant (instant r x n) (instant r₂ x₂ n₂) = instant (in_par r r₂) (if_wrong (code r) x x₂) (1 + n + n₂)

abbrev pub loop_instant : ℕ → Statement → Instant → Instant
loop_instant a p (instant r x n) = instant (in_loop a p r) (if_ended (code r) (some (instantaneous a)) x) (1 + n)

-- of a test, the branch taken and the test itself
abbrev pub present_instant : Instant → Instant
present_instant (instant r x n) = instant r x (1 + n)

abbrev pub try_instant : Instant → Instant
try_instant (instant r x n) = instant (in_try r) x (1 + n)

-- a signal errs itself only where neither run is wrong
abbrev pub signal_names : Case → ℕ → Option Error → Option Error
signal_names both a x = Option.none
signal_names neither a x = Option.none
signal_names only− a x = some (not_reactive a)
signal_names only+ a x = some (not_deterministic a)
signal_names inherited a x = x

abbrev pub signal_instant : Scope → ℕ → ℕ → Instant → Instant → Instant
signal_instant sc a s (instant r− x− n−) (instant r+ x+ n+) =
    instant (in_signal inheritanceFirst sc a s r− r+) (signal_names (case_of inheritanceFirst s r− r+) a (if_wrong (code r−) x− x+))
    (1 + n− + n+)

abbrev pub suspend_instant : ℕ → Instant → Instant
suspend_instant s (instant r x n) = instant (in_suspend s r) x (1 + n)

-- the expansion stands in the residual only
abbrev pub stopped_instant : (s K : ℕ) → Statement → Instant
stopped_instant s K p = instant (stopped s K p) Option.none 1

abbrev pub reaction_in : Instant → Reaction
reaction_in (instant r x n) = r

abbrev pub code_told : Instant → Code
code_told (instant r x n) = code r
