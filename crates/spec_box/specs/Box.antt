-- The box (02, items 8 to 12): eight slots, one a bay, and a call to one of them: the number, the box after the call and the lent
-- buffers after it, for all arguments.
use Rattle.std.specs.Prelude.{ℕ, zero, suc, ◌+◌, ◌*◌, Bool, true, not, cond, List, [], ◌∷◌, length, eqb, ltb}
use Rattle.spec_base.specs.Limits.{bay_count, length_row, bay_row}
use Rattle.spec_base.specs.Parts.{slot, put, zeros}
use Rattle.spec_bay.specs.Called.{Called, called}
use Rattle.spec_bay.specs.Stretch.{stretch_length, is_empty, part_of, Terms}
use Rattle.spec_bay.specs.BayCalls.{bay_tick_of, bay_release_of, bay_admit_of, bay_save_of, bay_forget_of, bay_restore_of, bay_service_of, bay_panel_of, bay_preview_of, bay_ledger_of, bay_new_year_of}

abbrev pub box_length : ℕ
box_length = bay_count * stretch_length

-- the box that a host begins with
unfoldable pub empty_box : List ℕ
empty_box = zeros box_length

abbrev pub stretch_of : (bay : ℕ) → List ℕ → List ℕ
stretch_of bay box = slot (bay * stretch_length) stretch_length box

-- what the first n bays have of the shared ceiling
unfoldable pub present : (n : ℕ) → List ℕ → ℕ
present zero box = 0
present (suc n) box = present n box + part_of (stretch_of n box)

-- ---- the calls
pub data Call : Type 0 where
  admit : Terms → Call
  release : Call
  tick : (input : ℕ) (answer trace : List ℕ) → Call
  save : (name : ℕ) → Call
  restore : (name : ℕ) → Call
  forget : (name : ℕ) → Call
  service : (trace view : List ℕ) → Call
  panel : (trace view : List ℕ) → Call
  preview : (input unknown : ℕ) (buffer : List ℕ) → Call
  ledger : (totals : List ℕ) → Call
  new_year : Call

-- ---- by the kind of a call: what is made of one kind, and what every other call comes to
abbrev pub on_admit {ℓ} : {A : Type ℓ} → (other : A) → (Terms → A) → Call → A
on_admit x f = elim [ admit t ↦ f t | release ↦ x | tick e a r ↦ x | save n ↦ x | restore n ↦ x | forget n ↦ x | service r v ↦ x | panel r v ↦ x | preview e u b ↦ x | ledger b ↦ x | new_year ↦ x ]

abbrev pub on_release {ℓ} : {A : Type ℓ} → (other : A) → A → Call → A
on_release x f = elim [ admit t ↦ x | release ↦ f | tick e a r ↦ x | save n ↦ x | restore n ↦ x | forget n ↦ x | service r v ↦ x | panel r v ↦ x | preview e u b ↦ x | ledger b ↦ x | new_year ↦ x ]

abbrev pub on_tick {ℓ} : {A : Type ℓ} → (other : A) → ((input : ℕ) (answer trace : List ℕ) → A) → Call → A
on_tick x f = elim [ admit t ↦ x | release ↦ x | tick e a r ↦ f e a r | save n ↦ x | restore n ↦ x | forget n ↦ x | service r v ↦ x | panel r v ↦ x | preview e u b ↦ x | ledger b ↦ x | new_year ↦ x ]

abbrev pub on_save {ℓ} : {A : Type ℓ} → (other : A) → ((name : ℕ) → A) → Call → A
on_save x f = elim [ admit t ↦ x | release ↦ x | tick e a r ↦ x | save n ↦ f n | restore n ↦ x | forget n ↦ x | service r v ↦ x | panel r v ↦ x | preview e u b ↦ x | ledger b ↦ x | new_year ↦ x ]

abbrev pub on_restore {ℓ} : {A : Type ℓ} → (other : A) → ((name : ℕ) → A) → Call → A
on_restore x f = elim [ admit t ↦ x | release ↦ x | tick e a r ↦ x | save n ↦ x | restore n ↦ f n | forget n ↦ x | service r v ↦ x | panel r v ↦ x | preview e u b ↦ x | ledger b ↦ x | new_year ↦ x ]

abbrev pub on_forget {ℓ} : {A : Type ℓ} → (other : A) → ((name : ℕ) → A) → Call → A
on_forget x f = elim [ admit t ↦ x | release ↦ x | tick e a r ↦ x | save n ↦ x | restore n ↦ x | forget n ↦ f n | service r v ↦ x | panel r v ↦ x | preview e u b ↦ x | ledger b ↦ x | new_year ↦ x ]

abbrev pub on_preview {ℓ} : {A : Type ℓ} → (other : A) → ((input unknown : ℕ) (buffer : List ℕ) → A) → Call → A
on_preview x f = elim [ admit t ↦ x | release ↦ x | tick e a r ↦ x | save n ↦ x | restore n ↦ x | forget n ↦ x | service r v ↦ x | panel r v ↦ x | preview e u b ↦ f e u b | ledger b ↦ x | new_year ↦ x ]

abbrev pub on_new_year {ℓ} : {A : Type ℓ} → (other : A) → A → Call → A
on_new_year x f = elim [ admit t ↦ x | release ↦ x | tick e a r ↦ x | save n ↦ x | restore n ↦ x | forget n ↦ x | service r v ↦ x | panel r v ↦ x | preview e u b ↦ x | ledger b ↦ x | new_year ↦ f ]

-- the ledger's two calls
abbrev pub on_ledgers {ℓ} : {A : Type ℓ} → (other : A) → A → Call → A
on_ledgers x f = elim [ admit t ↦ x | release ↦ x | tick e a r ↦ x | save n ↦ x | restore n ↦ x | forget n ↦ x | service r v ↦ x | panel r v ↦ x | preview e u b ↦ x | ledger b ↦ f | new_year ↦ f ]

-- the buffers that a call is lent for writing beside the box
abbrev pub buffers : Call → List (List ℕ)
buffers (admit t) = []
buffers release = []
buffers (tick e answer trace) = answer ∷ trace ∷ []
buffers (save name) = []
buffers (restore name) = []
buffers (forget name) = []
buffers (service trace view) = view ∷ []
buffers (panel trace view) = view ∷ []
buffers (preview e unknown buffer) = buffer ∷ []
buffers (ledger totals) = totals ∷ []
buffers new_year = []

-- the call on the bay's slot; what those present have of the shared ceiling concerns an admission alone
abbrev pub bay_call : (present : ℕ) → Call → List ℕ → Called
bay_call present (admit t) s = bay_admit_of present s t
bay_call present release s = bay_release_of s
bay_call present (tick e answer trace) s = bay_tick_of s e answer trace
bay_call present (save name) s = bay_save_of s name
bay_call present (restore name) s = bay_restore_of s name
bay_call present (forget name) s = bay_forget_of s name
bay_call present (service trace view) s = bay_service_of s trace view
bay_call present (panel trace view) s = bay_panel_of s trace view
bay_call present (preview e unknown buffer) s = bay_preview_of s e unknown buffer
bay_call present (ledger totals) s = bay_ledger_of s totals
bay_call present new_year s = bay_new_year_of s

-- a bay is there for the call: an empty one for an admission, a filled one for every other; 'The ledger's calls take an empty bay too'
abbrev pub is_for : Call → List ℕ → Bool
is_for c s = on_admit (on_ledgers (not (is_empty s)) true c) (λ t. is_empty s) c

-- what a call makes of the bay's slot, put where the box has it
abbrev pub in_box : (bay : ℕ) → List ℕ → Called → Called
in_box bay box (called number s lent) = called number (put (bay * stretch_length) stretch_length s box) lent

-- 13 for a bay number above 7, then 1 for a box of another length, then 13 for a bay that is not there for the call, then the call
unfoldable pub call_of : (box : List ℕ) (bay : ℕ) → Call → Called
call_of box bay c =
    cond (ltb bay bay_count)
    (cond (eqb (length box) box_length)
    (cond (is_for c (stretch_of bay box)) (in_box bay box (bay_call (present bay_count box) c (stretch_of bay box))) (called bay_row box (buffers c)))
    (called length_row box (buffers c)))
    (called bay_row box (buffers c))
