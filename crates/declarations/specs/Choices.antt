-- The five signal cases as the code tells them, and the one that fits two runs.
use Rattle.std.specs.Prelude.{ℕ}
use Rattle.spec_base.specs.Sets.{member}
use Rattle.spec_language.specs.Reaction as rules
use Rattle.reaction.specs.Completions.{code_of}
use Rattle.reaction.specs.declared.Reaction.{Reaction}
use Rattle.declarations.specs.declared.Choice.{Choice}
use Rattle.declarations.specs.declared.Choice.TheVariants.{Both, Neither, OnlyMinus, OnlyPlus, Inherited}

abbrev pub choice_of : rules.Case → Choice
choice_of rules.both = Both
choice_of rules.neither = Neither
choice_of rules.only− = OnlyMinus
choice_of rules.only+ = OnlyPlus
choice_of rules.inherited = Inherited

-- the case that fits the runs without the signal s and with it
abbrev pub case_in : ℕ → (minus plus : Reaction) → rules.Case
case_in s minus plus =
    rules.first_fit rules.inheritanceFirst (member s minus.emitted) (member s plus.emitted)
    (rules.is_wrong (code_of minus.completion)) (rules.is_wrong (code_of plus.completion))
