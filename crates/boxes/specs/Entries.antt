-- The number that turns a call down before its bay is touched, or 0: 13 for a bay number above 7, 1 for a box of another length, 13 for
-- a bay that is not there for the call.
use Rattle.std.specs.Prelude.{ℕ, ◌*◌, ◌<◌, ◌≡◌, Bool, true, not, cond, List, length, eqb, ltb, Result, Ok, Err}
use Rattle.spec_base.specs.Limits.{bay_count, length_row, bay_row}
use Rattle.limits.specs.declared.rows.Refusal.{Refusal}
use Rattle.limits.specs.Rows.{row_number}
use Rattle.spec_bay.specs.Stretch.{stretch_length, is_empty}
use Rattle.spec_box.specs.Box.{box_length, stretch_of}

-- is the bay as the call wants it, empty or filled? The ledger's calls take either
abbrev pub fits : (vacant : Bool) → List ℕ → Bool
fits vacant s = cond vacant (is_empty s) (not (is_empty s))

abbrev pub either : List ℕ → Bool
either s = true

unfoldable pub entry_of : (box : List ℕ) (bay : ℕ) (wanted : List ℕ → Bool) → ℕ
entry_of box bay wanted =
    cond (ltb bay bay_count) (cond (eqb (length box) box_length) (cond (wanted (stretch_of bay box)) 0 bay_row) length_row) bay_row

-- the code answers where the bay's slot begins if the number is 0, and else the refusal of that number
abbrev pub Enters : Result ℕ Refusal → (number : ℕ) → (box : List ℕ) (bay : ℕ) → Type 0
Enters (Ok from) number box bay = (number ≡ 0) × (bay < bay_count) × (length box ≡ box_length) × (from ≡ bay * stretch_length)
Enters (Err refusal) number box bay = number ≡ row_number refusal
