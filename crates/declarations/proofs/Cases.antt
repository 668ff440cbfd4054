-- The signal rules on the values of the code are the language's: one law for each case.
use Prim.Native.Nat.{ℕ, ◌+◌}
use mathlib.Core.Path.{◌≡◌, refl, sym, ap, ◌∙◌}
use mathlib.Core.Bool.{Bool, true, false, not, ◌||◌, cond, false≢true, true≢false}
use mathlib.Core.Option.{Option, some}
use Rattle.spec_base.specs.Sets.{member, none, join, remove}
use Rattle.labels.specs.Labels.{labels_with}
use Rattle.labels.proofs.LabelValues.{stands_of}
use Rattle.spec_language.specs.Statement.{Scope}
use Rattle.spec_language.specs.Reaction.{Code, wrong, is_wrong, gives, failed, outside, Case, both, neither, only−, only+, inherited, inheritanceFirst, first_fit, answer}
use Rattle.spec_language.specs.Reaction as rules
use Rattle.spec_language.specs.Errors.{Error, not_reactive, not_deterministic}
use Rattle.spec_language.specs.Litres as litres
use Rattle.spec_language.specs.Litres.{passing}
use Rattle.theory_language.specs.Traced as Traces
use Rattle.spec_language.specs.Instants.{instant}
use Rattle.theory_language.specs.InstantRules.{if_wrong, signal_names}
use Rattle.theory_language.specs.Traced.{traced, signal_traced}
use Rattle.theory_language.proofs.Rules.{either_wrong}
use Rattle.reaction.specs.declared.Reaction.{Reaction}
use Rattle.declarations.specs.declared.Choice.{Choice}
use Rattle.declarations.specs.declared.Choice.TheVariants.{Both, Neither, OnlyMinus, OnlyPlus, Inherited}
use Rattle.reaction.specs.Completions.{completion_of, greater_of}
use Rattle.reaction.proofs.Completions.{code_of_lem, greater_of_lem}
use Rattle.reaction.specs.Reactions.{reaction_of, failed_with}
use Rattle.declarations.specs.Choices.{choice_of, case_in}
use Rattle.declarations.proofs.Fitting.{case_of, same_case}
use Rattle.declarations.proofs.Runs.{unmoved, Counted, Noted}
use Rattle.reaction.proofs.Values.{kept_two, made}

-- the tree of a case
abbrev in_case : Case → (f : ℕ) → Scope → (b s : ℕ) → Traces.Traced → Traces.Traced → Traces.Traced
in_case d f sc b s (traced (instant (gives o− k− l− t−) x− n−) a− y−) (traced (instant r+ x+ n+) a+ y+) =
    traced (instant (answer d sc b s (gives o− k− l− t−) r+) (signal_names d b (if_wrong k− x− x+)) (1 + n− + n+)) (remove s (join a− a+))
    (passing sc f s (litres.chosen d y− y+))

as_fits : (f : ℕ) (sc : Scope) (b s : ℕ) (t u : Traces.Traced)
    → signal_traced f sc b s t u ≡ in_case (case_in s (reaction_of t) (reaction_of u)) f sc b s t u
as_fits f sc b s (traced (instant (gives o− k− l− t−) x− n−) a− y−) (traced (instant (gives o+ k+ l+ t+) x+ n+) a+ y+) =
    rw (code_of_lem k− x−, code_of_lem k+ x+)

-- the two runs of a case: not wrong, or one of them wrong
abbrev is_inherited : Case → Bool
is_inherited both = false
is_inherited neither = false
is_inherited only− = false
is_inherited only+ = false
is_inherited inherited = true

right_runs : (i− i+ w− w+ : Bool) → is_inherited (first_fit inheritanceFirst i− i+ w− w+) ≡ false → (w− ≡ false) × (w+ ≡ false)
right_runs i− i+ true w+ h = absurd (true≢false h)
right_runs i− i+ false true h = absurd (true≢false h)
right_runs i− i+ false false h = (refl, refl)

wrong_runs : (i− i+ w− w+ : Bool) → is_inherited (first_fit inheritanceFirst i− i+ w− w+) ≡ true → (w− || w+) ≡ true
wrong_runs i− i+ true w+ h = refl
wrong_runs i− i+ false true h = refl
wrong_runs true true false false h = absurd (false≢true h)
wrong_runs true false false false h = absurd (false≢true h)
wrong_runs false true false false h = absurd (false≢true h)
wrong_runs false false false false h = absurd (false≢true h)

-- by the case of two runs, as the code sees them
abbrev Runs : (s : ℕ) (p q : Reaction) → Bool → Type 0
Runs s p q b = is_inherited (case_in s p q) ≡ b

abbrev InBoth : (f : ℕ) (sc : Scope) (b s : ℕ) (t u : Traces.Traced) (p q : Reaction) → Type 0
InBoth f sc b s t u p q =
    (o m a : ℕ) → Runs s p q false → o ≡ outside sc s q.emitted → Counted p q m → Noted s p q a
    → ◌≡◌ {A = Reaction} (record { emitted = o; labels = q.labels; completion = q.completion; reactions = m; asked = a })
    (reaction_of (in_case both f sc b s t u))

in_both : (f : ℕ) (sc : Scope) (b s : ℕ) (t u : Traces.Traced) → InBoth f sc b s t u (reaction_of t) (reaction_of u)
in_both f sc b s (traced (instant (gives o− k− l− t−) x− n−) a− y−) (traced (instant (gives o+ k+ l+ t+) x+ n+) a+ y+) o m a h e w i =
    made k+ Option.none (1 + n− + n+) (remove s (join a− a+)) (passing sc f s y+) e (stands_of l+)
    (unmoved k+ x+ Option.none
    (right_runs (member s o−) (member s o+) (is_wrong k−) (is_wrong k+) (rw (code_of_lem k− x−, code_of_lem k+ x+) at h)).1)
    (w ∙ kept_two n− n+) i

abbrev InNeither : (f : ℕ) (sc : Scope) (b s : ℕ) (t u : Traces.Traced) (p q : Reaction) → Type 0
InNeither f sc b s t u p q =
    (m a : ℕ) → Runs s p q false → Counted p q m → Noted s p q a
    → ◌≡◌ {A = Reaction}
    (record { emitted = p.emitted; labels = p.labels; completion = p.completion; reactions = m; asked = a })
    (reaction_of (in_case neither f sc b s t u))

in_neither : (f : ℕ) (sc : Scope) (b s : ℕ) (t u : Traces.Traced) → InNeither f sc b s t u (reaction_of t) (reaction_of u)
in_neither f sc b s (traced (instant (gives o− k− l− t−) x− n−) a− y−) (traced (instant (gives o+ k+ l+ t+) x+ n+) a+ y+) m a h w i =
    made k− Option.none (1 + n− + n+) (remove s (join a− a+)) (passing sc f s y−) refl (stands_of l−)
    (unmoved k− x− Option.none
    (right_runs (member s o−) (member s o+) (is_wrong k−) (is_wrong k+) (rw (code_of_lem k− x−, code_of_lem k+ x+) at h)).0)
    (w ∙ kept_two n− n+) i

abbrev InInherited : (f : ℕ) (sc : Scope) (b s : ℕ) (t u : Traces.Traced) (p q : Reaction) → Type 0
InInherited f sc b s t u p q =
    (m a : ℕ) → Runs s p q true → Counted p q m → Noted s p q a
    → ◌≡◌ {A = Reaction}
    (record { emitted = none; labels = labels_with none; completion = greater_of p.completion q.completion; reactions = m; asked = a })
    (reaction_of (in_case inherited f sc b s t u))

in_inherited : (f : ℕ) (sc : Scope) (b s : ℕ) (t u : Traces.Traced) → InInherited f sc b s t u (reaction_of t) (reaction_of u)
in_inherited f sc b s (traced (instant (gives o− k− l− t−) x− n−) a− y−) (traced (instant (gives o+ k+ l+ t+) x+ n+) a+ y+) m a h w i =
    let v = wrong_runs (member s o−) (member s o+) (is_wrong k−) (is_wrong k+) (rw (code_of_lem k− x−, code_of_lem k+ x+) at h) in
    made wrong (if_wrong k− x− x+) (1 + n− + n+) (remove s (join a− a+)) (passing sc f s 0) refl (stands_of none)
    (greater_of_lem k− k+ x− x+ ∙ ap (λ (k : Code). completion_of k (if_wrong k− x− x+)) (either_wrong k− k+ v))
    (w ∙ kept_two n− n+) i

-- a case of the signal's own error
abbrev InFailed : (d : Case) (f : ℕ) (sc : Scope) (b s : ℕ) (t u : Traces.Traced) (p q : Reaction) → Type 0
InFailed d f sc b s t u p q =
    (x : Error) (m a : ℕ) → ((r− r+ : rules.Reaction) → answer d sc b s r− r+ ≡ failed) → ((y : Option Error) → signal_names d b y ≡ some x)
    → Counted p q m → Noted s p q a → failed_with x m a ≡ reaction_of (in_case d f sc b s t u)

in_failed : (d : Case) (f : ℕ) (sc : Scope) (b s : ℕ) (t u : Traces.Traced) → InFailed d f sc b s t u (reaction_of t) (reaction_of u)
in_failed d f sc b s (traced (instant (gives o− k− l− t−) x− n−) a− y−) (traced (instant r+ x+ n+) a+ y+) x m a h n w i =
    rw (h (gives o− k− l− t−) r+, n (if_wrong k− x− x+), w, kept_two n− n+, i)

module _ (f : ℕ) (sc : Scope) (b s : ℕ) (t u : Traces.Traced) (p q : Reaction) (p-is : p ≡ reaction_of t) (q-is : q ≡ reaction_of u)
    (v : Choice) (fits : v ≡ choice_of (case_in s p q)) (m a : ℕ) (counted : Counted p q m) (noted : Noted s p q a) where
  fit_is : (d : Case) → v ≡ choice_of d → case_in s p q ≡ d
  fit_is d h = sym (same_case (case_in s p q)) ∙ ap case_of (sym fits ∙ h) ∙ same_case d

  chosen : (d : Case) → v ≡ choice_of d → reaction_of (in_case d f sc b s t u) ≡ reaction_of (signal_traced f sc b s t u)
  chosen d h =
      sym (ap reaction_of (as_fits f sc b s t u ∙ ap (λ (c : Case). in_case c f sc b s t u) (rw (p-is, q-is) at (fit_is d h))))

  pub signal-both : v ≡ Both → {o : ℕ} {r : Reaction} → o ≡ outside sc s q.emitted
      → r ≡ record { emitted = o; labels = q.labels; completion = q.completion; reactions = m; asked = a }
      → r ≡ reaction_of (signal_traced f sc b s t u)
  signal-both h {o} e k =
      let law : InBoth f sc b s t u p q = rw (p-is, q-is) (in_both f sc b s t u) in
      k ∙ law o m a (ap is_inherited (fit_is both h)) e counted noted ∙ chosen both h

  pub signal-neither : v ≡ Neither → {r : Reaction}
      → r ≡ record { emitted = p.emitted; labels = p.labels; completion = p.completion; reactions = m; asked = a }
      → r ≡ reaction_of (signal_traced f sc b s t u)
  signal-neither h k =
      let law : InNeither f sc b s t u p q = rw (p-is, q-is) (in_neither f sc b s t u) in
      k ∙ law m a (ap is_inherited (fit_is neither h)) counted noted ∙ chosen neither h

  pub signal-inherits : v ≡ Inherited → {r : Reaction}
      → r ≡ record { emitted = none; labels = labels_with none; completion = greater_of p.completion q.completion; reactions = m; asked = a }
      → r ≡ reaction_of (signal_traced f sc b s t u)
  signal-inherits h k =
      let law : InInherited f sc b s t u p q = rw (p-is, q-is) (in_inherited f sc b s t u) in
      k ∙ law m a (ap is_inherited (fit_is inherited h)) counted noted ∙ chosen inherited h

  failed-as : (d : Case) → InFailed d f sc b s t u p q
  failed-as d = rw (p-is, q-is) (in_failed d f sc b s t u)

  pub signal-unreactive : v ≡ OnlyMinus → failed_with (not_reactive b) m a ≡ reaction_of (signal_traced f sc b s t u)
  signal-unreactive h = failed-as only− (not_reactive b) m a (λ r− r+. refl) (λ y. refl) counted noted ∙ chosen only− h

  pub signal-undetermined : v ≡ OnlyPlus → failed_with (not_deterministic b) m a ≡ reaction_of (signal_traced f sc b s t u)
  signal-undetermined h = failed-as only+ (not_deterministic b) m a (λ r− r+. refl) (λ y. refl) counted noted ∙ chosen only+ h
