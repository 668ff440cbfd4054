-- The two orders of the signal cases compared (02, item 4): where two of the printed cases fit.
use Rattle.std.specs.Prelude.{ℕ, ◌≡◌, refl, Bool, true, false, ◌&&◌, ◌||◌, cond, [], ◌∷◌}
use Rattle.std.proofs.Common.{ap}
use Rattle.std.proofs.lemmas.Bool.{false≢true}
use Rattle.spec_base.specs.Sets.{member, none, only, join, insert, remove}
use Rattle.spec_language.specs.Statement.{local, pure, Statement, nothing, pause, emit, exit, seq, par, loop, present, signal, try, setpause, suspend, held}
use Rattle.spec_language.specs.Reaction.{ended, wrong, is_wrong, Reaction, gives, emitted, code, failed, printed, react_by, react}
use Rattle.spec_language.specs.Rules.{ReactsBy, Reacts}
use Rattle.spec_language.specs.Errors.{if_ended, errors_by, errors, instantaneous, not_reactive}

-- 02: 'a signal whose body emitted in both runs with at least one run wrong'
abbrev pub overlaps : ℕ → Reaction → Reaction → Bool
overlaps s r− r+ = member s (emitted r−) && member s (emitted r+) && (is_wrong (code r−) || is_wrong (code r+))

-- is such a signal used anywhere in the tree of reactions, by the printed order?
unfoldable pub overlap : Statement → ℕ → Bool
overlap nothing e = false
overlap (pause l) e = false
overlap (emit s v) e = false
overlap (exit n) e = false
overlap (seq p q) e = overlap p e || if_ended (code (react_by printed p e)) (overlap q e) false
overlap (par p q) e = overlap p e || overlap q e
overlap (loop a p) e = overlap p e
overlap (present s p q) e = cond (member s e) (overlap p e) (overlap q e)
overlap (signal sc a s p) e =
    overlap p (remove s e) || overlap p (insert s e)
    || overlaps s (react_by printed p (remove s e)) (react_by printed p (insert s e))
overlap (try p) e = overlap p e
overlap (setpause l) e = false
overlap (suspend s p) e = overlap p e
overlap (held s K p) e = cond (member s e) false (overlap p e)

-- ---- by computation
-- 02: 08 00 04 02 00 07 00 00 06 00
abbrev twofold : Statement
twofold = signal local 0 0 (seq (emit 0 pure) (present 0 nothing (loop 8 nothing)))

two_fit : (code (react_by printed twofold 0) ≡ ended)
    × (react twofold 0 ≡ failed)
    × (errors_by printed twofold 0 ≡ instantaneous 8 ∷ [])
    × (errors twofold 0 ≡ instantaneous 8 ∷ [])
    × (overlap twofold 0 ≡ true)
unfolding react_by errors_by overlap member none only join insert remove
two_fit = (refl, refl, refl, refl, refl)

-- derived with code 0 by the printed rules, whose signal++ does not ask for the codes; wrong by 02's
twofold_derived : ReactsBy printed twofold 0 (gives 0 ended 0 (signal local 0 0 nothing)) × Reacts twofold 0 failed
unfolding member none only join insert remove
twofold_derived = (
  ReactsBy.signal++ {o− = 1} {o+ = 1}
      (ReactsBy.sequence_q ReactsBy.emit (ReactsBy.present− refl (ReactsBy.loop_error ReactsBy.nothing refl))) refl
      (ReactsBy.sequence_q ReactsBy.emit (ReactsBy.present+ refl ReactsBy.nothing)) refl tt,
  ReactsBy.signal∞ {o− = 1} {o+ = 1}
      (ReactsBy.sequence_q ReactsBy.emit (ReactsBy.present− refl (ReactsBy.loop_error ReactsBy.nothing refl)))
      (ReactsBy.sequence_q ReactsBy.emit (ReactsBy.present+ refl ReactsBy.nothing)) refl,
)

-- an overlap in an instant that was wrong before: only what is emitted beside the error differs, and is not shown
abbrev still_wrong : Statement
still_wrong = signal local 0 0 (seq (emit 0 pure) (seq (emit 1 pure) (loop 8 nothing)))

still_wrong_lem : (react_by printed still_wrong 0 ≡ gives 2 wrong 0 (signal local 0 0 nothing))
    × (react still_wrong 0 ≡ failed)
    × (overlap still_wrong 0 ≡ true)
unfolding react_by overlap member none only join insert remove
still_wrong_lem = (refl, refl, refl)

-- no overlap: the reactions are equal, but the printed order has an error more, never the first
abbrev oneMore : Statement
oneMore = signal local 0 0 (par (present 0 nothing (emit 0 pure)) (present 0 nothing (loop 10 nothing)))

one_more : (react_by printed oneMore 0 ≡ react oneMore 0)
    × (errors_by printed oneMore 0 ≡ instantaneous 10 ∷ not_reactive 0 ∷ [])
    × (errors oneMore 0 ≡ instantaneous 10 ∷ [])
    × (overlap oneMore 0 ≡ false)
unfolding react_by errors_by overlap member none only join insert remove
one_more = (refl, refl, refl, refl)

-- so it is by the printed rules: signal+− asks that the run with the signal is not wrong
one_more_derived : ReactsBy printed oneMore 0 failed
unfolding member none only join insert remove
one_more_derived =
    ReactsBy.signal+− {o− = 1} {o+ = 0}
    (ReactsBy.parallel (ReactsBy.present− refl ReactsBy.emit) (ReactsBy.present− refl (ReactsBy.loop_error ReactsBy.nothing refl))) refl
    (ReactsBy.parallel (ReactsBy.present+ refl ReactsBy.nothing) (ReactsBy.present+ refl ReactsBy.nothing)) refl
    (λ h. false≢true (ap is_wrong h))

-- by the printed order a body may end though an error is in its tree: a loop around it errs after it
errs_after : errors_by printed (loop 0 (signal local 1 0 (seq (emit 0 pure) (present 0 nothing (loop 9 nothing))))) 0
    ≡ instantaneous 9 ∷ instantaneous 0 ∷ []
unfolding react_by errors_by member none only join insert remove
errs_after = refl
