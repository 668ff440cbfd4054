-- An instant with what its tree of reactions asks for and delivers: what a command makes of those of its parts, by which the code goes.
use Rattle.std.specs.Prelude.{ℕ, ◌+◌, ◌≡◌, refl}
use Rattle.spec_base.specs.Sets.{member, none, only, join, insert, remove}
use Rattle.spec_language.specs.Statement.{Scope, local, pure, litres, Statement, nothing, pause, emit, exit, seq, par, loop, present, signal, try, suspend, held}
use Rattle.spec_language.specs.Reaction.{Case, both, inheritanceFirst, case_of, react_by}
use Rattle.spec_language.specs.Errors.{if_ended, errors_by}
use Rattle.spec_language.specs.Reactions.{reactions_by}
use Rattle.theory_language.specs.Asked.{asked_by, asked, tests}
use Rattle.spec_language.specs.Litres.{chosen, passing, delivered_by, delivered}
use Rattle.spec_language.specs.Instants.{Instant, instant, start}
use Rattle.theory_language.specs.InstantRules.{code_told, loop_instant, par_instant, present_instant, reaction_in, seq_instant, signal_instant, stopped_instant, suspend_instant, try_instant}

-- an instant with the signals that its tree asks for, which are not told but say where one run of a signal stands for both, and
-- with the litres of the one farm that the caller asks for
pub data Traced : Type 0 where
  traced : (i : Instant) (asked delivered : ℕ) → Traced

abbrev pub instant_of : Traced → Instant
instant_of (traced i a x) = i

abbrev pub asked_of : Traced → ℕ
asked_of (traced i a x) = a

abbrev pub delivered_of : Traced → ℕ
delivered_of (traced i a x) = x

abbrev pub start_traced : (farm : ℕ) → Statement → ℕ → Traced
start_traced f p e = traced (start p e) (asked p e) (delivered f p e)

abbrev pub case_of_runs : ℕ → Instant → Instant → Case
case_of_runs s i− i+ = case_of inheritanceFirst s (reaction_in i−) (reaction_in i+)

-- what a command makes of the trees of its parts
abbrev pub seq_traced : Statement → Traced → Traced → Traced
seq_traced q (traced i a x) (traced j b y) = traced (seq_instant q i j) (join a (if_ended (code_told i) b none)) (x + if_ended (code_told i) y 0)

abbrev pub par_traced : Traced → Traced → Traced
par_traced (traced i a x) (traced j b y) = traced (par_instant i j) (join a b) (x + y)

abbrev pub loop_traced : ℕ → Statement → Traced → Traced
loop_traced a p (traced i b x) = traced (loop_instant a p i) b (if_ended (code_told i) 0 x)

abbrev pub present_traced : ℕ → Traced → Traced
present_traced s (traced i a x) = traced (present_instant i) (insert s a) x

abbrev pub try_traced : Traced → Traced
try_traced (traced i a x) = traced (try_instant i) a x

abbrev pub signal_traced : (farm : ℕ) → Scope → ℕ → ℕ → Traced → Traced → Traced
signal_traced f sc a s (traced i− a− x−) (traced i+ a+ x+) =
    traced (signal_instant sc a s i− i+) (remove s (join a− a+)) (passing sc f s (chosen (case_of_runs s i− i+) x− x+))

-- the same from one run that stands for both, and does not ask for s
abbrev pub signal_once : (farm : ℕ) → Scope → ℕ → ℕ → Traced → Traced
signal_once f sc a s (traced i b x) = traced (signal_instant sc a s i i) b (passing sc f s (chosen (case_of_runs s i i) x x))

-- a fresh suspend, and a held one whose signal is absent, or present
abbrev pub suspend_traced : ℕ → Traced → Traced
suspend_traced s (traced i a x) = traced (suspend_instant s i) a x

abbrev pub held_traced : ℕ → Traced → Traced
held_traced s (traced i a x) = traced (suspend_instant s i) (insert s a) x

abbrev pub stopped_traced : (s K : ℕ) → Statement → Traced
stopped_traced s K p = traced (stopped_instant s K p) (insert s none) 0

-- ---- by computation: a tree is what its command makes of the trees of the parts (theory_language/proofs/Trees)
from_parts : (start_traced 2 (seq (tests 1) (tests 0)) 0 ≡ seq_traced (tests 0) (start_traced 2 (tests 1) 0) (start_traced 2 (tests 0) 0))
    × (start_traced 2 (seq (pause 0) (tests 0)) 0 ≡ seq_traced (tests 0) (start_traced 2 (pause 0) 0) (start_traced 2 (tests 0) 0))
    × (start_traced 2 (par (loop 1 (tests 0)) (loop 5 (tests 1))) 0 ≡ par_traced (start_traced 2 (loop 1 (tests 0)) 0) (start_traced 2 (loop 5 (tests 1)) 0))
    × (start_traced 2 (loop 1 (tests 0)) 0 ≡ loop_traced 1 (tests 0) (start_traced 2 (tests 0) 0))
    × (start_traced 2 (present 2 (tests 0) nothing) 4 ≡ present_traced 2 (start_traced 2 (tests 0) 4))
    × (start_traced 2 (try (par (tests 0) (exit 1))) 0 ≡ try_traced (start_traced 2 (par (tests 0) (exit 1)) 0))
    × (start_traced 2 (suspend 2 (tests 0)) 4 ≡ suspend_traced 2 (start_traced 2 (tests 0) 4))
    × (start_traced 2 (held 2 1 (tests 0)) 4 ≡ stopped_traced 2 1 (tests 0))
    × (start_traced 2 (held 2 1 (tests 0)) 0 ≡ held_traced 2 (start_traced 2 (tests 0) 0))
unfolding react_by errors_by reactions_by asked_by delivered_by member none only join insert remove
from_parts = (refl, refl, refl, refl, refl, refl, refl, refl, refl)

-- both runs of a signal, and one for both where the first does not ask for it
from_runs : (start_traced 2 (signal local 4 3 (present 3 (tests 1) (emit 2 (litres 5)))) 0
    ≡ signal_traced 2 local 4 3 (start_traced 2 (present 3 (tests 1) (emit 2 (litres 5))) 0) (start_traced 2 (present 3 (tests 1) (emit 2 (litres 5))) 8))
    × (start_traced 2 (signal local 4 3 (present 3 nothing (emit 3 pure))) 0
    ≡ signal_traced 2 local 4 3 (start_traced 2 (present 3 nothing (emit 3 pure)) 0) (start_traced 2 (present 3 nothing (emit 3 pure)) 8))
    × (start_traced 2 (signal local 4 3 (tests 1)) 0 ≡ signal_once 2 local 4 3 (start_traced 2 (tests 1) 0))
unfolding react_by errors_by reactions_by asked_by delivered_by member none only join insert remove
from_runs = (refl, refl, refl)
