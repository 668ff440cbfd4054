-- A completion stands for its code, and the greater of two for the greater code with the error of the first that is wrong.
use mathlib.Core.Path.{◌≡◌, refl}
use mathlib.Core.Option.{Option}
use Rattle.spec_language.specs.Reaction.{Code, ended, waiting, leaving, wrong, greater}
use Rattle.spec_language.specs.Errors.{Error}
use Rattle.theory_language.specs.InstantRules.{if_wrong}
use Rattle.reaction.specs.Completions.{completion_of, code_of, greater_of}

pub code_of_lem : (k : Code) (x : Option Error) → code_of (completion_of k x) ≡ k
code_of_lem ended x = refl
code_of_lem waiting x = refl
code_of_lem (leaving n) x = refl
code_of_lem wrong x = refl

pub greater_of_lem : (j k : Code) (x y : Option Error)
    → greater_of (completion_of j x) (completion_of k y) ≡ completion_of (greater j k) (if_wrong j x y)
greater_of_lem ended k x y = refl
greater_of_lem waiting ended x y = refl
greater_of_lem waiting waiting x y = refl
greater_of_lem waiting (leaving n) x y = refl
greater_of_lem waiting wrong x y = refl
greater_of_lem (leaving m) ended x y = refl
greater_of_lem (leaving m) waiting x y = refl
greater_of_lem (leaving m) (leaving n) x y = refl
greater_of_lem (leaving m) wrong x y = refl
greater_of_lem wrong k x y = refl
