-- The errors that the function lists are those of a derivation by the printed rules, by either order of the signal rules.
use Prim.Native.Nat.{ℕ}
use mathlib.Core.Path.{◌≡◌, refl, sym, ap, ap₂, ◌∙◌}
use mathlib.Core.Logic.{◌≢◌}
use mathlib.Core.List.{List, [], ◌∷◌, ◌++◌, append-nil, head?}
use Rattle.spec_language.specs.Statement.{Statement}
use Rattle.spec_language.specs.Reaction.{Code, ended, waiting, leaving, wrong, Reaction, code, Case, Order, case_of}
use Rattle.spec_language.specs.Rules.{ReactsBy}
use Rattle.spec_language.specs.Errors.{Error, if_ended, signal_errors, errors_by, first_error_by, uses, instantaneous}
use Rattle.theory_language.proofs.Rules.{fits++, fits−−, fits+−, fits−+, fits∞, sound}

-- what follows counts only after code 0
adds_none : (k : Code) (xs ys : List Error) → k ≢ ended → xs ≡ xs ++ if_ended k ys []
adds_none ended xs ys n = absurd (n refl)
adds_none waiting xs ys n = sym (append-nil xs)
adds_none (leaving m) xs ys n = sym (append-nil xs)
adds_none wrong xs ys n = sym (append-nil xs)

adds : {k : Code} (xs ys : List Error) → k ≡ ended → xs ++ ys ≡ xs ++ if_ended k ys []
adds xs ys h = rw h

-- the parts react as their derivations say
ended-uses : {us xs : List Error} {x r : Reaction} (ys : List Error) → us ≡ xs → x ≡ r
    → us ++ if_ended (code x) ys [] ≡ xs ++ if_ended (code r) ys []
ended-uses ys h i = ap₂ (λ (zs : List Error) (y : Reaction). zs ++ if_ended (code y) ys []) h i

signal_uses : {us xs vs ys : List Error} {x− r− x+ r+ : Reaction} {c : Case} (ord : Order) (a s : ℕ) → us ≡ xs → vs ≡ ys
    → case_of ord s x− x+ ≡ c → x− ≡ r− → x+ ≡ r+
    → us ++ vs ++ signal_errors a c ≡ xs ++ ys ++ signal_errors a (case_of ord s r− r+)
signal_uses ord a s h g i h− h+ = ap₂ ◌++◌ (ap₂ ◌++◌ h g) (ap (signal_errors a) (sym i ∙ ap₂ (case_of ord s) h− h+))

-- USES: one error for each use of loop-error, signal+− and signal−+
pub uses-is : {ord : Order} {p : Statement} {e : ℕ} {r : Reaction} (d : ReactsBy ord p e r) → uses d ≡ errors_by ord p e
unfolding uses errors_by
uses-is ReactsBy.nothing = refl
uses-is ReactsBy.pause = refl
uses-is ReactsBy.exit = refl
uses-is ReactsBy.emit = refl
uses-is (ReactsBy.loop {a = a} {k = k} d n) =
    adds_none k (uses d) (instantaneous a ∷ []) n ∙ ended-uses (instantaneous a ∷ []) (uses-is d) (sound d)
uses-is (ReactsBy.loop_error {a = a} d z) =
    adds (uses d) (instantaneous a ∷ []) z ∙ ended-uses (instantaneous a ∷ []) (uses-is d) (sound d)
uses-is (ReactsBy.parallel d d₂) = ap₂ ◌++◌ (uses-is d) (uses-is d₂)
uses-is (ReactsBy.present+ i d) = rw i (uses-is d)
uses-is (ReactsBy.present− i d) = rw i (uses-is d)
uses-is (ReactsBy.try_catch d) = uses-is d
uses-is (ReactsBy.try_through d n) = uses-is d
uses-is {ord} {e = e} (ReactsBy.sequence_p {k = k} {q = q} d n) =
    adds_none k (uses d) (errors_by ord q e) n ∙ ended-uses (errors_by ord q e) (uses-is d) (sound d)
uses-is {ord} {e = e} (ReactsBy.sequence_q {q = q} d d₂) =
    ap (λ (xs : List Error). uses d ++ xs) (uses-is d₂) ∙ ended-uses (errors_by ord q e) (uses-is d) (sound d)
uses-is {ord} (ReactsBy.signal++ {a = a} {s = s} {o− = o−} {o+ = o+} {k− = k−} {k+ = k+} d− i− d+ i+ n) =
    sym (append-nil _) ∙ signal_uses ord a s (uses-is d−) (uses-is d+) (fits++ s o− o+ k− k+ ord i− i+ n) (sound d−) (sound d+)
uses-is {ord} (ReactsBy.signal−− {a = a} {s = s} {o− = o−} {o+ = o+} {k− = k−} {k+ = k+} d− i− d+ i+ n) =
    sym (append-nil _) ∙ signal_uses ord a s (uses-is d−) (uses-is d+) (fits−− s o− o+ k− k+ ord i− i+ n) (sound d−) (sound d+)
uses-is {ord} (ReactsBy.signal+− {a = a} {s = s} {o− = o−} {o+ = o+} {k− = k−} {k+ = k+} d− i− d+ i+ n) =
    signal_uses ord a s (uses-is d−) (uses-is d+) (fits+− s o− o+ k− k+ ord i− i+ n) (sound d−) (sound d+)
uses-is {ord} (ReactsBy.signal−+ {a = a} {s = s} {o− = o−} {o+ = o+} {k− = k−} {k+ = k+} d− i− d+ i+ n) =
    signal_uses ord a s (uses-is d−) (uses-is d+) (fits−+ s o− o+ k− k+ ord i− i+ n) (sound d−) (sound d+)
uses-is {ord} (ReactsBy.signal∞ {a = a} {s = s} {o− = o−} {o+ = o+} {k− = k−} {k+ = k+} d− d+ w) =
    sym (append-nil _) ∙ signal_uses ord a s (uses-is d−) (uses-is d+) (fits∞ s o− o+ k− k+ ord w) (sound d−) (sound d+)
uses-is ReactsBy.setpause = refl
uses-is (ReactsBy.suspend d) = uses-is d
uses-is (ReactsBy.held+ i) = rw i
uses-is (ReactsBy.held− i d) = rw i (uses-is d)

-- the first error is the first use in any derivation
pub first_use : {ord : Order} {p : Statement} {e : ℕ} {r : Reaction} (d : ReactsBy ord p e r) → head? (uses d) ≡ first_error_by ord p e
first_use d = ap head? (uses-is d)
