-- Completions as values of the code: what a code and the error beside it are, and the code back.
use Rattle.std.specs.Prelude.{◌-◌, max, Bool, true, false, cond, eqb}
use Rattle.std.proofs.Math.Option.{Option}
use Rattle.spec_language.specs.Reaction.{Code, ended, waiting, leaving, wrong}
use Rattle.spec_language.specs.Errors.{Error, blame}
use Rattle.reaction.specs.declared.Completion.{Completion}
use Rattle.reaction.specs.declared.Completion.TheVariants.{Ended, Waiting, Leaving, Wrong}

-- 01: 'wrong with kind and place'
abbrev pub completion_of : Code → Option Error → Completion
completion_of ended x = Ended
completion_of waiting x = Waiting
completion_of (leaving n) x = Leaving n
completion_of wrong x = Wrong (blame wrong x).kind (blame wrong x).place

-- ---- the same from the values: the code that a completion has, and the greater of two
abbrev pub code_of : Completion → Code
code_of Ended = ended
code_of Waiting = waiting
code_of (Leaving n) = leaving n
code_of (Wrong kind place) = wrong

-- of two that are wrong the first, so that its error is named
abbrev pub greater_of : Completion → Completion → Completion
greater_of Ended l = l
greater_of Waiting Ended = Waiting
greater_of Waiting Waiting = Waiting
greater_of Waiting (Leaving n) = Leaving n
greater_of Waiting (Wrong kind place) = Wrong kind place
greater_of (Leaving m) Ended = Leaving m
greater_of (Leaving m) Waiting = Leaving m
greater_of (Leaving m) (Leaving n) = Leaving (max m n)
greater_of (Leaving m) (Wrong kind place) = Wrong kind place
greater_of (Wrong kind place) l = Wrong kind place

abbrev pub is_ended : Completion → Bool
is_ended Ended = true
is_ended Waiting = false
is_ended (Leaving n) = false
is_ended (Wrong kind place) = false

-- in a try block
abbrev pub caught : Completion → Completion
caught Ended = Ended
caught Waiting = Waiting
caught (Leaving n) = cond (eqb n 1) Ended (Leaving (n - 1))
caught (Wrong kind place) = Wrong kind place
