-- The positions of a bay by name (02, item 9), with no bytes in them: at most 16, a name in one of them at most. What a position keeps of
-- the machine is of any type T: the label set of the engine, or the term of the paper.
use Rattle.std.specs.Prelude.{ℕ, Bool, true, false, cond, ◌||◌, length, eqb, ltb}
use Rattle.std.proofs.Math.Option.{Option, some, none}
use mathlib.Core.List.{List, [], ◌∷◌, Memᴰ}
use Rattle.spec_base.specs.Limits.{max_positions, position_row, positions_row}

pub data Position (T : Type 0) : Type 0 where
  position : (name : ℕ) (kept : T) → Position T

-- what is kept under a name
unfoldable pub find : {T : Type 0} → (name : ℕ) → List (Position T) → Option T
find name [] = none
find name (position n t ∷ ps) = cond (eqb n name) (some t) (find name ps)

unfoldable pub without : {T : Type 0} → (name : ℕ) → List (Position T) → List (Position T)
without name [] = []
without name (position n t ∷ ps) = cond (eqb n name) (without name ps) (position n t ∷ without name ps)

abbrev pub is_known : {T : Type 0} → Option T → Bool
is_known none = false
is_known (some t) = true

-- ---- a number and the positions after it
pub data Answered (T : Type 0) : Type 0 where
  answered : (number : ℕ) (positions : List (Position T)) → Answered T

-- 'Saving under a known name replaces it'; '16 for a seventeenth name'
unfoldable pub save_named : {T : Type 0} → (name : ℕ) (kept : T) → List (Position T) → Answered T
save_named name t ps =
    cond (is_known (find name ps) || ltb (length ps) max_positions)
    (answered 0 (position name t ∷ without name ps))
    (answered positions_row ps)

-- 'forgetting one frees its place for another'; '15 .. for an unknown name'
unfoldable pub forget_named : {T : Type 0} → (name : ℕ) → List (Position T) → Answered T
forget_named name ps = cond (is_known (find name ps)) (answered 0 (without name ps)) (answered position_row ps)

abbrev pub number_answered : {T : Type 0} → Answered T → ℕ
number_answered (answered number ps) = number

abbrev pub positions_after : {T : Type 0} → Answered T → List (Position T)
positions_after (answered number ps) = ps

-- ---- names, each once
unfoldable pub names_of : {T : Type 0} → List (Position T) → List ℕ
names_of [] = []
names_of (position n t ∷ ps) = n ∷ names_of ps

abbrev pub Once : List ℕ → Type 0
Once [] = Unit {0}
Once (n ∷ ns) = (¬ Memᴰ n ns) × Once ns
