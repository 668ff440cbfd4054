-- How often a command reacts in one instant (02, item 13: 'can't enter a body twice in an instant'). A command is named by its place
-- in the statement; of a waiting statement the expansion reacts, whose commands keep the places they come from, so that one place may
-- stand in it twice: as the active part of a loop, and in the loop that follows.
use Rattle.std.specs.Prelude.{ℕ, ◌+◌, ◌≤◌, max, ◌≡◌, Bool, true, false, ◌&&◌, cond, [], ◌∷◌}
use Rattle.spec_base.specs.Sets.{member, insert, remove}
use Rattle.spec_language.specs.Statement.{Statement, nothing, pause, emit, exit, seq, par, loop, present, signal, try, setpause, suspend, held}
use Rattle.spec_language.specs.Places.{Part, first, second, PartOf, Place}
use Rattle.spec_language.specs.Reaction.{code, Case, both, neither, only−, only+, inherited, inheritanceFirst, case_of, react}
use Rattle.spec_language.specs.Errors.{if_ended}
use Rattle.spec_language.specs.States.{active}
use Rattle.spec_language.specs.Expansion.{expand}
use Rattle.spec_language.specs.Machines.{State}

-- ---- marks on the commands of a statement, by their places
abbrev pub Marks : Type 0
Marks = Place → Bool

abbrev pub nowhere : Marks
nowhere a = false

abbrev pub everywhere : Marks
everywhere a = true

-- of a command: its own mark, and the marks in its first and second part
abbrev pub marks : Bool → Marks → Marks → Marks
marks x m n [] = x
marks x m n (first ∷ a) = m a
marks x m n (second ∷ a) = n a

abbrev pub own : Marks → Bool
own m = m []

abbrev pub in_first : Marks → Marks
in_first m a = m (first ∷ a)

abbrev pub in_second : Marks → Marks
in_second m a = m (second ∷ a)

-- the command at place a, and no other
unfoldable pub at : Place → Marks
at [] = marks true nowhere nowhere
at (first ∷ a) = marks false (at a) nowhere
at (second ∷ a) = marks false nowhere (at a)

-- ---- what counts of the two runs of signal s in p with e present: x of the run without s, and y of the run with it
abbrev pub Counting : Type 0
Counting = (s : ℕ) (p : Statement) (e x y : ℕ) → ℕ

abbrev pub with_signal : Case → Bool
with_signal both = true
with_signal neither = false
with_signal only− = false
with_signal only+ = false
with_signal inherited = false

-- is it the run with s whose answer the signal gives? Where it gives neither's, it is wrong
abbrev pub chosen : (s : ℕ) (p : Statement) (e : ℕ) → Bool
chosen s p e = with_signal (case_of inheritanceFirst s (react p (remove s e)) (react p (insert s e)))

abbrev pub chosen_run : Counting
chosen_run s p e x y = cond (chosen s p e) y x

-- the run in which more is counted: no run has more
abbrev pub any_run : Counting
any_run s p e x y = max x y

abbrev pub both_runs : Counting
both_runs s p e x y = x + y

-- of each signal one run counts at most
abbrev pub OneRun : Counting → Type 0
OneRun c = (s : ℕ) (p : Statement) (e x y : ℕ) → c s p e x y ≤ max x y

-- ---- how many marked commands of p react
abbrev pub one : Bool → ℕ
one b = cond b 1 0

unfoldable pub reacting : Counting → Statement → (e : ℕ) → Marks → ℕ
reacting c nothing e m = one (own m)
reacting c (pause l) e m = one (own m)
reacting c (emit s v) e m = one (own m)
reacting c (exit n) e m = one (own m)
reacting c (seq p q) e m = one (own m) + reacting c p e (in_first m) + if_ended (code (react p e)) (reacting c q e (in_second m)) 0
reacting c (par p q) e m = one (own m) + reacting c p e (in_first m) + reacting c q e (in_second m)
reacting c (loop a p) e m = one (own m) + reacting c p e (in_first m)
reacting c (present s p q) e m = one (own m) + cond (member s e) (reacting c p e (in_first m)) (reacting c q e (in_second m))
reacting c (signal sc a s p) e m =
    one (own m) + c s p e (reacting c p (remove s e) (in_first m)) (reacting c p (insert s e) (in_first m))
reacting c (try p) e m = one (own m) + reacting c p e (in_first m)
reacting c (setpause l) e m = one (own m)
reacting c (suspend s p) e m = one (own m) + reacting c p e (in_first m)
reacting c (held s K p) e m = one (own m) + cond (member s e) 0 (reacting c p e (in_first m))

-- ---- the marks of p in `expand p L`, command by command as expand makes it. What begins afresh keeps its mark; what is left of a
-- command around or at an active pause keeps it if `resumed`: a pause leaves a nothing, and a suspend a held one. The sequence that a
-- loop becomes, and the nothing in place of an inactive part, are not marked
unfoldable pub carried : (resumed : Bool) → Statement → (L : ℕ) → Marks → Marks
carried r nothing L m = nowhere
carried r (pause l) L m = marks (r && own m) nowhere nowhere
carried r (emit s v) L m = nowhere
carried r (exit n) L m = nowhere
carried r (seq p q) L m = cond (active p L) (marks (r && own m) (carried r p L (in_first m)) (in_second m)) (carried r q L (in_second m))
carried r (par p q) L m =
    marks (r && own m) (cond (active p L) (carried r p L (in_first m)) nowhere) (cond (active q L) (carried r q L (in_second m)) nowhere)
carried r (loop a p) L m = marks false (carried r p L (in_first m)) m
carried r (present s p q) L m = cond (active p L) (carried r p L (in_first m)) (carried r q L (in_second m))
carried r (signal sc a s p) L m = marks (r && own m) (carried r p L (in_first m)) nowhere
carried r (try p) L m = marks (r && own m) (carried r p L (in_first m)) nowhere
carried r (setpause l) L m = nowhere
carried r (suspend s p) L m = cond (active p L) (marks (r && own m) (carried r p L (in_first m)) nowhere) nowhere
carried r (held s K p) L m = nowhere

-- ---- how many marked commands of p are resumed with L, whether the expansion has them or not: those around or at the active pauses,
-- the first active part counting as in expand; but not a loop, nor its body as a whole, which go round
unfoldable pub resuming : Statement → (L : ℕ) → Marks → ℕ
resuming nothing L m = 0
resuming (pause l) L m = one (own m)
resuming (emit s v) L m = 0
resuming (exit n) L m = 0
resuming (seq p q) L m = one (own m) + cond (active p L) (resuming p L (in_first m)) (resuming q L (in_second m))
resuming (par p q) L m = one (own m) + cond (active p L) (resuming p L (in_first m)) 0 + cond (active q L) (resuming q L (in_second m)) 0
resuming (loop a p) L m = resuming p L (marks false (in_first (in_first m)) (in_second (in_first m)))
resuming (present s p q) L m = one (own m) + cond (active p L) (resuming p L (in_first m)) (resuming q L (in_second m))
resuming (signal sc a s p) L m = one (own m) + resuming p L (in_first m)
resuming (try p) L m = one (own m) + resuming p L (in_first m)
resuming (setpause l) L m = 0
resuming (suspend s p) L m = one (own m) + resuming p L (in_first m)
resuming (held s K p) L m = 0

-- `AtLoop a p`: at place a of p stands a loop, or the body of one
pub data AtLoop : Place → Statement → Type 0 where
  itself : {b : ℕ} {p : Statement} → AtLoop [] (loop b p)
  body : {b : ℕ} {p : Statement} → AtLoop (first ∷ []) (loop b p)
  inside : {d : Part} {a : Place} {c p : Statement} → PartOf d c p → AtLoop a c → AtLoop (d ∷ a) p

-- ---- `Stands x a p`: the command x stands at place a of p, a held suspend having its part as its first
pub data Stands (x : Statement) : Place → Statement → Type 0 where
  here : Stands x [] x
  inside : {d : Part} {a : Place} {c p : Statement} → PartOf d c p → Stands x a c → Stands x (d ∷ a) p
  inside_held : {a : Place} {s K : ℕ} {p : Statement} → Stands x a p → Stands x (first ∷ a) (held s K p)

-- What a command x of `expand p L` comes from, h being its mark there by the marks of p: the command itself, what expansion leaves
-- of it, the sequence that a loop becomes, or the nothing in place of an inactive part. The last two are never marked.
pub data Origin (resumed : Bool) (p : Statement) (L : ℕ) (x : Statement) (h : Marks → Bool) : Type 0 where
  copy : (a : Place) → Stands x a p → ((m : Marks) → h m ≡ m a) → Origin resumed p L x h
  remains : (a : Place) (y : Statement) → Stands y a p → x ≡ expand y L → ((m : Marks) → h m ≡ (resumed && m a)) → Origin resumed p L x h
  round : (a : Place) (b : ℕ) (y : Statement) → Stands (loop b y) a p → x ≡ expand (loop b y) L → ((m : Marks) → h m ≡ false)
      → Origin resumed p L x h
  idle : (a : Place) (y : Statement) → Stands y a p → active y L ≡ false → x ≡ nothing → ((m : Marks) → h m ≡ false)
      → Origin resumed p L x h

-- ---- how often the command at place a of p reacts in an instant of the machine by labels
abbrev pub reacts_at : Counting → Statement → State → (e : ℕ) → Place → ℕ
reacts_at c p State.fresh e a = reacting c p e (at a)
reacts_at c p (State.waits L) e a = reacting c (expand p L) e (carried true p L (at a))
reacts_at c p State.over e a = 0

-- how often it begins afresh
abbrev pub begins_at : Counting → Statement → State → (e : ℕ) → Place → ℕ
begins_at c p State.fresh e a = reacting c p e (at a)
begins_at c p (State.waits L) e a = reacting c (expand p L) e (carried false p L (at a))
begins_at c p State.over e a = 0

-- how often it is resumed
abbrev pub resumes_at : Statement → State → Place → ℕ
resumes_at p State.fresh a = 0
resumes_at p (State.waits L) a = resuming p L (at a)
resumes_at p State.over a = 0

abbrev pub enters_at : Counting → Statement → State → (e : ℕ) → Place → ℕ
enters_at c p s e a = begins_at c p s e a + resumes_at p s a

-- no command reacts twice, begins twice, or is resumed and begins; of a loop and of its body as a whole only the beginnings count
pub record AtMostOnce (c : Counting) (p : Statement) (s : State) (e : ℕ) : Type 0 where
  pub reacts : (a : Place) → reacts_at c p s e a ≤ 1
  pub enters : (a : Place) → enters_at c p s e a ≤ 1
