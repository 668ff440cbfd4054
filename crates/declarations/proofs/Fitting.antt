-- The case that the code tells is the one that fits.
use mathlib.Core.Path.{◌≡◌, refl}
use Rattle.spec_language.specs.Reaction.{Case, both, neither, only−, only+, inherited}
use Rattle.declarations.specs.declared.Choice.{Choice}
use Rattle.declarations.specs.declared.Choice.TheVariants.{Both, Neither, OnlyMinus, OnlyPlus, Inherited}
use Rattle.declarations.specs.Choices.{choice_of}

abbrev pub case_of : Choice → Case
case_of Both = both
case_of Neither = neither
case_of OnlyMinus = only−
case_of OnlyPlus = only+
case_of Inherited = inherited

pub same_case : (c : Case) → case_of (choice_of c) ≡ c
same_case both = refl
same_case neither = refl
same_case only− = refl
same_case only+ = refl
same_case inherited = refl
