-- An instant's records, reported, are what the machine by rewriting sees.
use Prim.Native.Nat.{ℕ, ◌^◌, ◌<◌}
use native.Mathlib.Omega.{arith}
use mathlib.Core.Path.{◌≡◌, refl}
use mathlib.Core.Option.{Option}
use Rattle.spec_base.specs.Limits.{signal_count, place_bytes, reactions_bytes}
use Rattle.spec_base.specs.Sets.{none}
use Rattle.spec_language.specs.Statement.{Statement}
use Rattle.spec_language.specs.Reaction.{Code, ended, waiting, leaving, wrong, Reaction, gives, emitted, code}
use Rattle.spec_language.specs.Errors.{Error, blame}
use Rattle.spec_language.specs.Instants.{instant}
use Rattle.spec_language.specs.Machines.{shown, phase_after, seen, state_after}
use Rattle.spec_tick.specs.StateRecord.{encode_state, phase_in}
use Rattle.records.proofs.AnswerLaws.{code-field, kind-field, place-field, emitted-field, reactions-field}
use Rattle.spec_tick.specs.Tick.{written}
use Rattle.spec_tick.specs.Paper.{phase_number, report_of}
use Rattle.spec_tick.specs.Demands.{report}

pub shown-below : (o : ℕ) (k : Code) → o < 2 ^ signal_count → shown k o < 2 ^ signal_count
unfolding none
shown-below o ended h = h
shown-below o waiting h = h
shown-below o (leaving n) h = h
shown-below o wrong h = omega arith

phase_field : (o : ℕ) (k : Code) (l : ℕ) (t : Statement) → phase_in (encode_state (state_after (gives o k l t))) ≡ phase_number (phase_after k)
unfolding encode_state
phase_field o ended l t = refl
phase_field o waiting l t = refl
phase_field o (leaving n) l t = refl
phase_field o wrong l t = refl

-- an instant is reported as the machine by rewriting sees it
pub report_written : (r : Reaction) (x : Option Error) (n : ℕ) → emitted r < 2 ^ signal_count → (blame (code r) x).place < 256 ^ place_bytes
    → n < 256 ^ reactions_bytes → report (written (instant r x n)) ≡ report_of (seen r x n)
report_written (gives o k l t) x n h i j =
    rw (
      code-field o k l t x n,
      kind-field o k l t x n,
      place-field o k l t x n i,
      emitted-field o k l t x n (shown-below o k h),
      reactions-field o k l t x n j,
      phase_field o k l t,
    )
