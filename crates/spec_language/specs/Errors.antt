-- The errors of an instant (01, 'One reaction'): the uses of kinds 1, 2 and 3 anywhere in its tree of reactions, both
-- runs of each signal counted, in the order of 02, item 3. A wrong instant names the first.
use Rattle.std.specs.Prelude.{ℕ, cond}
use Rattle.std.proofs.Math.Option.{Option, some}
use mathlib.Core.List.{List, [], ◌∷◌, ◌++◌, head?}
use Rattle.spec_base.specs.Limits.{instantaneous_kind, not_reactive_kind, not_deterministic_kind}
use Rattle.spec_base.specs.Sets.{member, insert, remove}
use Rattle.spec_language.specs.Statement.{Statement, nothing, pause, emit, exit, seq, par, loop, present, signal, try, setpause, suspend, held}
use Rattle.spec_language.specs.Reaction.{Code, ended, waiting, leaving, wrong, Reaction, code, Case, both, neither, only−, only+, inherited, Order, inheritanceFirst, case_of, react_by}
use Rattle.spec_language.specs.Rules.{ReactsBy}

pub record Error : Type 0 where
  pub kind : ℕ
  pub place : ℕ

-- kind 1: a loop whose body ended; kind 2: not reactive; kind 3: not strongly deterministic
abbrev pub instantaneous : ℕ → Error
instantaneous a = record { kind = instantaneous_kind; place = a }

abbrev pub not_reactive : ℕ → Error
not_reactive a = record { kind = not_reactive_kind; place = a }

abbrev pub not_deterministic : ℕ → Error
not_deterministic a = record { kind = not_deterministic_kind; place = a }

-- what counts only where code 0 led on to it
abbrev pub if_ended {ℓ} : {A : Type ℓ} → Code → A → A → A
if_ended ended x y = x
if_ended waiting x y = y
if_ended (leaving n) x y = y
if_ended wrong x y = y

abbrev pub loop_errors : ℕ → Code → List Error
loop_errors a k = if_ended k (instantaneous a ∷ []) []

abbrev pub signal_errors : ℕ → Case → List Error
signal_errors a both = []
signal_errors a neither = []
signal_errors a only− = not_reactive a ∷ []
signal_errors a only+ = not_deterministic a ∷ []
signal_errors a inherited = []

-- 02, item 3: 'first part before second, run without the signal before run with it, a command after its parts'
unfoldable pub errors_by : Order → Statement → ℕ → List Error
errors_by ord nothing e = []
errors_by ord (pause l) e = []
errors_by ord (emit s v) e = []
errors_by ord (exit n) e = []
errors_by ord (seq p q) e = errors_by ord p e ++ if_ended (code (react_by ord p e)) (errors_by ord q e) []
errors_by ord (par p q) e = errors_by ord p e ++ errors_by ord q e
errors_by ord (loop a p) e = errors_by ord p e ++ loop_errors a (code (react_by ord p e))
errors_by ord (present s p q) e = cond (member s e) (errors_by ord p e) (errors_by ord q e)
errors_by ord (signal sc a s p) e =
    errors_by ord p (remove s e) ++ errors_by ord p (insert s e)
    ++ signal_errors a (case_of ord s (react_by ord p (remove s e)) (react_by ord p (insert s e)))
errors_by ord (try p) e = errors_by ord p e
errors_by ord (setpause l) e = []
errors_by ord (suspend s p) e = errors_by ord p e
errors_by ord (held s K p) e = cond (member s e) [] (errors_by ord p e)

abbrev pub errors : Statement → ℕ → List Error
errors = errors_by inheritanceFirst

-- 02, item 3: 'the first error in the tree of reactions'
abbrev pub first_error_by : Order → Statement → ℕ → Option Error
first_error_by ord p e = head? (errors_by ord p e)

abbrev pub first_error : Statement → ℕ → Option Error
first_error = first_error_by inheritanceFirst

-- what an instant names: nothing, as kind 0 and place 0, unless its code is wrong
abbrev pub no_error : Error
no_error = record { kind = 0; place = 0 }

abbrev pub blame : Code → Option Error → Error
blame ended x = no_error
blame waiting x = no_error
blame (leaving n) x = no_error
blame wrong (some x) = x
blame wrong Option.none = no_error

-- ---- the same on derivations: one error for each use of loop-error, signal+− and signal−+, in the same order
unfoldable pub uses : {ord : Order} {p : Statement} {e : ℕ} {r : Reaction} → ReactsBy ord p e r → List Error
uses ReactsBy.nothing = []
uses ReactsBy.pause = []
uses ReactsBy.exit = []
uses ReactsBy.emit = []
uses (ReactsBy.loop d n) = uses d
uses (ReactsBy.loop_error {a = a} d z) = uses d ++ (instantaneous a ∷ [])
uses (ReactsBy.parallel d d₂) = uses d ++ uses d₂
uses (ReactsBy.present+ i d) = uses d
uses (ReactsBy.present− i d) = uses d
uses (ReactsBy.try_catch d) = uses d
uses (ReactsBy.try_through d n) = uses d
uses (ReactsBy.sequence_p d n) = uses d
uses (ReactsBy.sequence_q d d₂) = uses d ++ uses d₂
uses (ReactsBy.signal++ d− i− d+ i+ n) = uses d− ++ uses d+
uses (ReactsBy.signal−− d− i− d+ i+ n) = uses d− ++ uses d+
uses (ReactsBy.signal+− {a = a} d− i− d+ i+ n) = uses d− ++ uses d+ ++ (not_reactive a ∷ [])
uses (ReactsBy.signal−+ {a = a} d− i− d+ i+ n) = uses d− ++ uses d+ ++ (not_deterministic a ∷ [])
uses (ReactsBy.signal∞ d− d+ w) = uses d− ++ uses d+
uses ReactsBy.setpause = []
uses (ReactsBy.suspend d) = uses d
uses (ReactsBy.held+ i) = []
uses (ReactsBy.held− i d) = uses d
