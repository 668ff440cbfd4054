-- Lists of calls to the bays of a box, calls turned down included, for any function in the place of `call_of`: what the box comes to,
-- and what one bay is asked and answers.
use Rattle.std.specs.Prelude.{ℕ, cond, List, [], ◌∷◌, map, length, eqb}
use Rattle.spec_base.specs.Parts.{zeros}
use Rattle.spec_bay.specs.Called.{Called, number, memory_after, lent_after}
use Rattle.spec_bay.specs.Stretch.{Terms}
use Rattle.spec_box.specs.Box.{Call, admit, release, tick, save, restore, forget, service, panel, preview, ledger, new_year, on_admit}

-- box, bay, call
abbrev pub Calling : Type 0
Calling = List ℕ → ℕ → Call → Called

-- a call and the bay that it is for; the box is the one that the calls before it left, so that a call with bytes of another length than a
-- box is in no list: NoBox says what it gives, and RefusalsLeave that it writes nothing
pub record Request : Type 0 where
  pub bay : ℕ
  pub call : Call

-- the box after a call, and after a list of them: each reads the box as the last one left it
abbrev pub after_call : Calling → List ℕ → Request → List ℕ
after_call call box x = memory_after (call box x.bay x.call)

unfoldable pub box_after : Calling → List ℕ → List Request → List ℕ
box_after call box [] = box
box_after call box (x ∷ xs) = box_after call (after_call call box x) xs

-- ---- THE CALLS TO ONE BAY
-- a call to it with the box that it finds: one of bytes, or one on paper
pub record CallIn (Box : Type 0) : Type 0 where
  pub box : Box
  pub call : Call

-- those of a list, in their order; `after` is the box after a call
unfoldable pub calls_to : {Box : Type 0} → (after : Box → Request → Box) → (bay : ℕ) → Box → List Request → List (CallIn Box)
calls_to after bay box [] = []
calls_to after bay box (x ∷ xs) =
    cond (eqb x.bay bay) (record { box = box; call = x.call } ∷ calls_to after bay (after box x) xs) (calls_to after bay (after box x) xs)

-- what such a call comes to
abbrev pub comes_to : Calling → (bay : ℕ) → CallIn (List ℕ) → Called
comes_to call bay c = call c.box bay c.call

-- what they make of what was there, one after the other
abbrev pub in_turn : {A B : Type 0} → (makes : A → B → B) → B → List A → B
in_turn makes there [] = there
in_turn makes there (x ∷ xs) = in_turn makes (makes x there) xs

-- a call that is turned down leaves what was there
abbrev pub if_answered : {A : Type 0} → Calling → (bay : ℕ) → (makes : CallIn (List ℕ) → A → A) → CallIn (List ℕ) → A → A
if_answered call bay makes c there = cond (eqb (number (comes_to call bay c)) 0) (makes c there) there

-- ---- what one bay is asked and answers
-- the call with zeros in every buffer that it only writes, so that of such a buffer the length alone counts: a host may lend one buffer
-- to all bays. The record that a reader is lent is read, and counts whole
abbrev pub blanked : Call → Call
blanked (admit t) = admit t
blanked release = release
blanked (tick e answer trace) = tick e (zeros (length answer)) (zeros (length trace))
blanked (save name) = save name
blanked (restore name) = restore name
blanked (forget name) = forget name
blanked (service trace view) = service trace (zeros (length view))
blanked (panel trace view) = panel trace (zeros (length view))
blanked (preview e unknown buffer) = preview e unknown (zeros (length buffer))
blanked (ledger totals) = ledger (zeros (length totals))
blanked new_year = new_year

-- the calls to a bay in their order, an admission with the number that it got
pub data Asked : Type 0 where
  admission : Terms → (number : ℕ) → Asked
  other : Call → Asked

abbrev pub asked_by : Call → Called → Asked
asked_by c o = on_admit (other (blanked c)) (λ t. admission t (number o)) c

abbrev pub asked : Calling → (bay : ℕ) → List ℕ → List Request → List Asked
asked call bay box xs = map (λ c. asked_by c.call (comes_to call bay c)) (calls_to (after_call call) bay box xs)

-- what it answers: the number and, with number 0, the lent buffers; with another they are those that it was lent (RefusalsLeave)
pub data Answer : Type 0 where
  answered : (number : ℕ) (lent : List (List ℕ)) → Answer

abbrev pub answer_of : Called → Answer
answer_of o = answered (number o) (cond (eqb (number o) 0) (lent_after o) [])

abbrev pub answers : Calling → (bay : ℕ) → List ℕ → List Request → List Answer
answers call bay box xs = map (λ c. answer_of (comes_to call bay c)) (calls_to (after_call call) bay box xs)
