-- Two machines over the instants of one statement: by labels (01, 'States and resuming'), which keeps the label set and
-- expands, and by rewriting (01, 'The fitters' paper'), which keeps the residual and knows neither labels nor expansion.
use Rattle.std.specs.Prelude.{ℕ, ◌≡◌, refl, cond, List, [], ◌∷◌}
use Rattle.std.proofs.Math.Option.{Option}
use Rattle.spec_base.specs.Sets.{member, none, only, join, without}
use Rattle.spec_language.specs.Statement.{litres, Statement, nothing, pause, emit, exit, seq, par, loop, present, signal, try, setpause, suspend, held}
use Rattle.spec_language.specs.Reaction.{Code, ended, waiting, leaving, wrong, is_wrong, Reaction, gives, code, react_by, react}
use Rattle.spec_language.specs.Errors.{Error, errors_by, first_error, blame}
use Rattle.spec_language.specs.Reactions.{reactions_by, reactions}
use Rattle.spec_language.specs.States.{active, Valid}
use Rattle.spec_language.specs.Litres.{delivered_by, delivered}
use Rattle.spec_language.specs.Expansion.{expand}

-- 01: code 1 gives phase 1 (waiting), every other code phase 2 (over)
pub data Phase : Type 0 where
  fresh waits over : Phase

abbrev pub phase_after : Code → Phase
phase_after ended = over
phase_after waiting = waits
phase_after (leaving n) = over
phase_after wrong = over

-- 01: a wrong instant reports an empty set
abbrev pub shown : Code → ℕ → ℕ
shown ended o = o
shown waiting o = o
shown (leaving n) o = o
shown wrong o = none

-- What is seen of one tick: an instant with its code, the error it names, the set it shows, the number of reactions it takes
-- and the phase after it; no instant once over.
pub data Seen : Type 0 where
  instant : (k : Code) (names : Error) (shows reactions : ℕ) (after : Phase) → Seen
  refused : Seen

-- from a reaction, the first error of its tree and the number of reactions in it
abbrev pub seen : Reaction → Option Error → ℕ → Seen
seen (gives o k l p') x n = instant k (blame k x) (shown k o) n (phase_after k)

-- the same with a set that lacks the signals of the list
abbrev pub seen_without : List ℕ → Seen → Seen
seen_without ss (instant k names shows reactions after) = instant k names (without ss shows) reactions after
seen_without ss refused = refused

-- A machine: from its state and the input, what is seen and the next state.
abbrev pub Machine : Type 0 → Type 0
Machine S = S → ℕ → Seen × S

unfoldable pub run : {S : Type 0} → Machine S → S → List ℕ → List Seen
run m s [] = []
run m s (e ∷ es) = (m s e).0 ∷ run m (m s e).1 es

-- the state after a list of inputs
unfoldable pub reached : {S : Type 0} → Machine S → S → List ℕ → S
reached m s [] = s
reached m s (e ∷ es) = reached m (m s e).1 es

-- ---- by labels
pub data State : Type 0 where
  fresh : State
  waits : (L : ℕ) → State
  over : State

abbrev pub state_after : Reaction → State
state_after (gives o ended l p') = State.over
state_after (gives o waiting l p') = State.waits l
state_after (gives o (leaving n) l p') = State.over
state_after (gives o wrong l p') = State.over

abbrev pub by_labels : Statement → Machine State
by_labels p State.fresh e = (seen (react p e) (first_error p e) (reactions p e), state_after (react p e))
by_labels p (State.waits L) e =
    (seen (react (expand p L) e) (first_error (expand p L) e) (reactions (expand p L) e), state_after (react (expand p L) e))
by_labels p State.over e = (refused, State.over)

-- fresh, over, or waiting at a valid set
abbrev pub ValidState : Statement → State → Type 0
ValidState p State.fresh = Unit {0}
ValidState p (State.waits L) = Valid p L
ValidState p State.over = Unit {0}

-- A reaction of p itself, or of an expansion of p.
pub data ReactionOf (p : Statement) (e : ℕ) : Reaction → Type 0 where
  of_statement : ReactionOf p e (react p e)
  of_expansion : (L : ℕ) → ReactionOf p e (react (expand p L) e)

-- if anything was resumed, a valid set
abbrev pub FromValid : (p : Statement) (e : ℕ) {r : Reaction} → ReactionOf p e r → Type 0
FromValid p e of_statement = Unit {0}
FromValid p e (of_expansion L) = Valid p L

-- ---- by rewriting
pub data Rewriting : Type 0 where
  fresh waits : (t : Statement) → Rewriting
  over : Rewriting

abbrev pub term_after : Reaction → Rewriting
term_after (gives o ended l p') = Rewriting.over
term_after (gives o waiting l p') = Rewriting.waits p'
term_after (gives o (leaving n) l p') = Rewriting.over
term_after (gives o wrong l p') = Rewriting.over

abbrev pub by_rewriting : Machine Rewriting
by_rewriting (Rewriting.fresh t) e = (seen (react t e) (first_error t e) (reactions t e), term_after (react t e))
by_rewriting (Rewriting.waits t) e = (seen (react t e) (first_error t e) (reactions t e), term_after (react t e))
by_rewriting Rewriting.over e = (refused, Rewriting.over)

-- ---- litres (02, item 12): 'an instant not wrong adds its litres'
abbrev pub adds : (farm : ℕ) → Statement → ℕ → ℕ
adds f t e = cond (is_wrong (code (react t e))) 0 (delivered f t e)

abbrev pub adds_by_labels : (farm : ℕ) → Statement → State → ℕ → ℕ
adds_by_labels f p State.fresh e = adds f p e
adds_by_labels f p (State.waits L) e = adds f (expand p L) e
adds_by_labels f p State.over e = 0

abbrev pub adds_by_rewriting : (farm : ℕ) → Rewriting → ℕ → ℕ
adds_by_rewriting f (Rewriting.fresh t) e = adds f t e
adds_by_rewriting f (Rewriting.waits t) e = adds f t e
adds_by_rewriting f Rewriting.over e = 0

-- what the instants of a machine add, one after the other, each by the state that it begins in
unfoldable pub added : {S : Type 0} → Machine S → (S → ℕ → ℕ) → S → List ℕ → List ℕ
added m f s [] = []
added m f s (e ∷ es) = f s e ∷ added m f (m s e).1 es

-- By computation: 5 litres beside an error are not added, and without it they are. A loop that waits after its delivery adds 5, then 7
-- and 5 of the round that begins, by labels and by rewriting; nothing is added after the end.
wrong_adds_none : (adds 2 (par (emit 2 (litres 5)) (loop 7 nothing)) 0 ≡ 0) × (adds 2 (par (emit 2 (litres 5)) nothing) 0 ≡ 5)
unfolding delivered_by react_by none only join
wrong_adds_none = (refl, refl)

abbrev delivers_twice : Statement
delivers_twice = loop 0 (seq (emit 2 (litres 5)) (seq (pause 0) (emit 2 (litres 7))))

added_twice : (added (by_labels delivers_twice) (adds_by_labels 2 delivers_twice) State.fresh (0 ∷ 0 ∷ []) ≡ 5 ∷ 12 ∷ [])
    × (added by_rewriting (adds_by_rewriting 2) (Rewriting.fresh delivers_twice) (0 ∷ 0 ∷ []) ≡ 5 ∷ 12 ∷ [])
    × (added by_rewriting (adds_by_rewriting 2) (Rewriting.fresh (emit 2 (litres 5))) (0 ∷ 0 ∷ []) ≡ 5 ∷ 0 ∷ [])
unfolding added delivered_by react_by errors_by reactions_by expand active member none only join
added_twice = (refl, refl, refl)

-- The term with no labels in its held suspends, as the paper, which knows no labels, would have it.
unfoldable pub erase : Statement → Statement
erase nothing = nothing
erase (pause l) = pause l
erase (emit s v) = emit s v
erase (exit n) = exit n
erase (seq p q) = seq (erase p) (erase q)
erase (par p q) = par (erase p) (erase q)
erase (loop a p) = loop a (erase p)
erase (present s p q) = present s (erase p) (erase q)
erase (signal sc a s p) = signal sc a s (erase p)
erase (try p) = try (erase p)
erase (setpause l) = setpause l
erase (suspend s p) = suspend s (erase p)
erase (held s K p) = held s none (erase p)
