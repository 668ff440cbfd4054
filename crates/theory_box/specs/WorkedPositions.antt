-- The positions of a bay worked by hand (02, item 9): calls to a bay by itself, and of each its number and its answer's code.
use Rattle.std.specs.Prelude.{ℕ, List, [], ◌∷◌, ◌++◌, map}
use Rattle.spec_box.specs.Box.{save, restore, forget}
use Rattle.spec_box.specs.Lists.{Request}
use Rattle.theory_box.specs.Worked.{admitted, released, ticked, Line, line}

-- pause 0, then pause 1, then nothing: from label 0 a tick has code 1, from label 1 code 0
abbrev pub two_stages : List ℕ
two_stages = 0x04 ∷ 0x01 ∷ 0x00 ∷ 0x04 ∷ 0x01 ∷ 0x01 ∷ 0x00 ∷ []

abbrev pub saved : (bay name : ℕ) → Request
saved bay name = record { bay = bay; call = save name }

abbrev pub back_to : (bay name : ℕ) → Request
back_to bay name = record { bay = bay; call = restore name }

abbrev forgotten : (bay name : ℕ) → Request
forgotten bay name = record { bay = bay; call = forget name }

abbrev plain : Request → (number : ℕ) → Line
plain x n = line x n 0

-- no bay that is empty
abbrev not_there : List Line
not_there = plain (saved 0 1) 13 ∷ plain (back_to 0 1) 13 ∷ plain (forgotten 0 1) 13 ∷ []

-- fresh: nothing to save, and no name known; then labels 0 and 1 saved, and nothing more when over
abbrev saves : List Line
saves =
    plain (admitted 0 two_stages) 0
    ∷ plain (saved 0 1) 15
    ∷ plain (back_to 0 1) 15
    ∷ plain (forgotten 0 1) 15
    ∷ line (ticked 0) 0 1
    ∷ plain (saved 0 1) 0
    ∷ line (ticked 0) 0 1
    ∷ plain (saved 0 2) 0
    ∷ line (ticked 0) 0 0
    ∷ plain (saved 0 1) 15
    ∷ line (ticked 0) 12 77
    ∷ []

-- back when over, and twice in a row; then name 2 replaced by label 0
abbrev returns : List Line
returns =
    plain (back_to 0 1) 0
    ∷ line (ticked 0) 0 1
    ∷ plain (back_to 0 1) 0
    ∷ plain (back_to 0 2) 0
    ∷ line (ticked 0) 0 0
    ∷ plain (back_to 0 1) 0
    ∷ plain (saved 0 2) 0
    ∷ plain (back_to 0 2) 0
    ∷ line (ticked 0) 0 1
    ∷ []

-- with fourteen more a seventeenth is refused, when over because it is over; a known one is replaced, and a place that is freed goes
-- to another
abbrev sixteen : List Line
sixteen =
    map (λ (name : ℕ). plain (saved 0 name) 0) (3 ∷ 4 ∷ 5 ∷ 6 ∷ 7 ∷ 8 ∷ 9 ∷ 10 ∷ 11 ∷ 12 ∷ 13 ∷ 14 ∷ 15 ∷ 4294967295 ∷ [])
    ++ (plain (saved 0 0) 16
    ∷ line (ticked 0) 0 0
    ∷ plain (saved 0 0) 15
    ∷ plain (saved 0 5) 15
    ∷ plain (back_to 0 1) 0
    ∷ plain (saved 0 5) 0
    ∷ plain (forgotten 0 6) 0
    ∷ plain (forgotten 0 6) 15
    ∷ plain (saved 0 0) 0
    ∷ plain (saved 0 6) 16
    ∷ [])

-- a bay that was taken out and admitted again knows none
abbrev taken_out : List Line
taken_out =
    plain (released 0) 0
    ∷ plain (back_to 0 1) 13
    ∷ plain (admitted 0 two_stages) 0
    ∷ plain (back_to 0 1) 15
    ∷ line (ticked 0) 0 1
    ∷ plain (forgotten 0 1) 15
    ∷ plain (saved 0 1) 0
    ∷ plain (back_to 0 2) 15
    ∷ []

abbrev pub positions : List Line
positions = not_there ++ saves ++ returns ++ sixteen ++ taken_out
