-- One reaction as a function (01, 'One reaction'; 003, figures 3 and 7; 002, figure 4; 02, item 1): a statement and the
-- present set E give the emitted set O, the completion code k, the labels L and the residual.
use Rattle.std.specs.Prelude.{ℕ, ◌-◌, max, Bool, true, false, not, ◌&&◌, ◌||◌, cond, eqb}
use Rattle.spec_base.specs.Sets.{member, none, only, join, insert, remove}
use Rattle.spec_language.specs.Statement.{Scope, local, reported, Statement, nothing, pause, emit, exit, seq, par, loop, present, signal, try, setpause, suspend, held}

-- 01: ended (0), waiting (1), leaving n enclosing try blocks (n + 1), wrong (greater than all)
pub data Code : Type 0 where
  ended waiting : Code
  leaving : (count : ℕ) → Code
  wrong : Code

abbrev pub is_wrong : Code → Bool
is_wrong ended = false
is_wrong waiting = false
is_wrong (leaving n) = false
is_wrong wrong = true

-- 003: max
abbrev pub greater : Code → Code → Code
greater ended k = k
greater waiting ended = waiting
greater waiting waiting = waiting
greater waiting (leaving n) = leaving n
greater waiting wrong = wrong
greater (leaving m) ended = leaving m
greater (leaving m) waiting = leaving m
greater (leaving m) (leaving n) = leaving (max m n)
greater (leaving m) wrong = wrong
greater wrong k = wrong

-- 003, figure 3: ↓
abbrev pub down : Code → Code
down ended = ended
down waiting = waiting
down (leaving n) = leaving (n - 1)
down wrong = wrong

pub data Reaction : Type 0 where
  gives : (o : ℕ) (k : Code) (l : ℕ) (p' : Statement) → Reaction

abbrev pub emitted : Reaction → ℕ
emitted (gives o k l p') = o

abbrev pub code : Reaction → Code
code (gives o k l p') = k

abbrev pub labels : Reaction → ℕ
labels (gives o k l p') = l

abbrev pub residual : Reaction → Statement
residual (gives o k l p') = p'

-- ---- what a command makes of the reactions of its parts
abbrev pub quiet : Reaction
quiet = gives none ended none nothing

abbrev pub failed : Reaction
failed = gives none wrong none nothing

-- p; q
abbrev pub in_seq : Statement → Reaction → Reaction → Reaction
in_seq q (gives o ended l p') r = gives (join o (emitted r)) (code r) (labels r) (residual r)
in_seq q (gives o waiting l p') r = gives o waiting l (seq p' q)
in_seq q (gives o (leaving n) l p') r = gives o (leaving n) l (seq p' q)
in_seq q (gives o wrong l p') r = gives o wrong l (seq p' q)

-- 002: γ, labels are kept only with code 1
abbrev pub if_waiting : Code → ℕ → ℕ
if_waiting ended l = none
if_waiting waiting l = l
if_waiting (leaving n) l = none
if_waiting wrong l = none

-- 01: a side that ended leaves nothing
abbrev pub side : Code → Statement → Statement
side ended p' = nothing
side waiting p' = p'
side (leaving n) p' = p'
side wrong p' = p'

-- p in parallel with q
abbrev pub in_par : Reaction → Reaction → Reaction
in_par (gives o k l p') (gives o₂ k₂ l₂ q') =
    gives (join o o₂) (greater k k₂) (if_waiting (greater k k₂) (join l l₂)) (par (side k p') (side k₂ q'))

-- loop p at place a
abbrev pub in_loop : ℕ → Statement → Reaction → Reaction
in_loop a p (gives o ended l p') = failed
in_loop a p (gives o waiting l p') = gives o waiting l (seq p' (loop a p))
in_loop a p (gives o (leaving n) l p') = gives o (leaving n) l (seq p' (loop a p))
in_loop a p (gives o wrong l p') = gives o wrong l (seq p' (loop a p))

-- try p: code 2 is caught, ↓ for every other
abbrev pub in_try : Reaction → Reaction
in_try (gives o ended l p') = gives o ended l (try p')
in_try (gives o waiting l p') = gives o waiting l (try p')
in_try (gives o (leaving n) l p') = cond (eqb n 1) (gives o ended l nothing) (gives o (down (leaving n)) l (try p'))
in_try (gives o wrong l p') = gives o wrong l (try p')

-- 02: after code 1 a held suspend remains, with the labels of its part and around its residual; else nothing
abbrev pub remains : ℕ → Code → ℕ → Statement → Statement
remains s ended l p' = nothing
remains s waiting l p' = held s l p'
remains s (leaving n) l p' = nothing
remains s wrong l p' = nothing

-- suspend s p, fresh or resumed with s absent
abbrev pub in_suspend : ℕ → Reaction → Reaction
in_suspend s (gives o k l p') = gives o k l (remains s k l p')

-- a held suspend with s present: nothing inside reacts
abbrev pub stopped : (s K : ℕ) → Statement → Reaction
stopped s K p = gives none waiting K (held s K p)

-- The five signal cases of 01.
pub data Case : Type 0 where
  both neither only− only+ inherited : Case

-- The order in which they are tried: as 01 prints them, or inheritance of a wrong run before the other four (02, item 4).
pub data Order : Type 0 where
  printed inheritanceFirst : Order

-- The first that fits, in printed order; is s in O−, in O+; is the code of −, of + wrong?
abbrev pub printed_fit : Bool → Bool → Bool → Bool → Case
printed_fit in− in+ wrong− wrong+ =
    cond (in− && in+) both
    (cond (not in− && not in+ && not wrong− && not wrong+) neither
    (cond (in− && not in+ && not wrong+) only−
    (cond (not in− && in+ && not wrong−) only+
    inherited)))

abbrev pub first_fit : Order → Bool → Bool → Bool → Bool → Case
first_fit printed in− in+ wrong− wrong+ = printed_fit in− in+ wrong− wrong+
first_fit inheritanceFirst in− in+ wrong− wrong+ = cond (wrong− || wrong+) inherited (printed_fit in− in+ wrong− wrong+)

abbrev pub case_of : Order → ℕ → Reaction → Reaction → Case
case_of ord s r− r+ = first_fit ord (member s (emitted r−)) (member s (emitted r+)) (is_wrong (code r−)) (is_wrong (code r+))

-- what is emitted outside a declaration of s around o
abbrev pub outside : Scope → ℕ → ℕ → ℕ
outside local s o = remove s o
outside reported s o = o

-- the answer of each case, from the runs without s and with s
abbrev pub answer : Case → Scope → ℕ → ℕ → Reaction → Reaction → Reaction
answer both sc a s r− r+ = gives (outside sc s (emitted r+)) (code r+) (labels r+) (signal sc a s (residual r+))
answer neither sc a s r− r+ = gives (emitted r−) (code r−) (labels r−) (signal sc a s (residual r−))
answer only− sc a s r− r+ = failed
answer only+ sc a s r− r+ = failed
answer inherited sc a s r− r+ = failed

-- signal s in p at place a
abbrev pub in_signal : Order → Scope → ℕ → ℕ → Reaction → Reaction → Reaction
in_signal ord sc a s r− r+ = answer (case_of ord s r− r+) sc a s r− r+

-- ---- the reaction, by either order
unfoldable pub react_by : Order → Statement → ℕ → Reaction
react_by ord nothing e = quiet
react_by ord (pause l) e = gives none waiting (only l) nothing
react_by ord (emit s v) e = gives (only s) ended none nothing
react_by ord (exit n) e = gives none (leaving n) none nothing
react_by ord (seq p q) e = in_seq q (react_by ord p e) (react_by ord q e)
react_by ord (par p q) e = in_par (react_by ord p e) (react_by ord q e)
react_by ord (loop a p) e = in_loop a p (react_by ord p e)
react_by ord (present s p q) e = cond (member s e) (react_by ord p e) (react_by ord q e)
react_by ord (signal sc a s p) e = in_signal ord sc a s (react_by ord p (remove s e)) (react_by ord p (insert s e))
react_by ord (try p) e = in_try (react_by ord p e)
react_by ord (setpause l) e = gives none waiting (only l) nothing
react_by ord (suspend s p) e = in_suspend s (react_by ord p e)
react_by ord (held s K p) e = cond (member s e) (stopped s K p) (in_suspend s (react_by ord p e))

-- 02, item 4: 'inheritance of a wrong run is tried before the other four'; all that is not marked `printed` goes by it
abbrev pub react : Statement → ℕ → Reaction
react = react_by inheritanceFirst
