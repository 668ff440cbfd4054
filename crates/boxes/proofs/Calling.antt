-- What a call of the code leaves in the box, over plain lists.
use Prim.Native.Nat.{ℕ, ◌+◌, ◌-◌, ◌*◌}
use native.Mathlib.Omega.{arith}
use mathlib.Core.Path.{◌≡◌, refl, sym, ap, ◌∙◌}
use mathlib.Core.Bool.{Bool, true, false, cond}
use mathlib.Core.List.{List, [], ◌++◌}
use lib.ListN.{length, take, drop}
use lib.Dec.{eqb, ltb}
use borrow.Author.Tests.{lt-ltb, eq-eqb}
use Rattle.spec_base.specs.Limits.{bay_count}
use Rattle.spec_base.specs.Parts.{slot, put}
use Rattle.numbers.proofs.Putting.{put-slot}
use Rattle.spec_bay.specs.Called.{called}
use Rattle.spec_bay.specs.Stretch.{stretch_length, Terms}
use Rattle.spec_bay.specs.BayCalls.{bay_admit_of}
use Rattle.spec_box.specs.Box.{box_length, stretch_of, present, Call, admit, buffers, bay_call, is_for, in_box, call_of}
use Rattle.box_bays.specs.declared.naming.Naming.TheVariants.{Save, Restore, Forget}
use Rattle.box_bays.specs.Moves.{bay_moved_of}
use Rattle.box_bays.specs.declared.bufferless.Moving.{Moving}
use Rattle.box_bays.specs.declared.bufferless.Moving.TheVariants.{Release, Named}
use Rattle.std.specs.Prelude.{Result, Ok, Err}
use Rattle.std.specs.Result.{IsErrAnd}
use Rattle.limits.specs.declared.rows.Refusal.{Refusal}
use Rattle.limits.specs.Rows.{row_number, call_number}
use Rattle.limits.proofs.Refusals.{row_not_0, handed-on}
use Rattle.boxes.specs.Entries.{fits, entry_of, Enters}
use Rattle.boxes.proofs.Entering.{wanted-there}
use Rattle.boxes.specs.Moving.{call_by}

-- the slot as the code cuts it out of the box
whole : (from : ℕ) → from + stretch_length - from ≡ stretch_length
whole from = omega arith

abbrev pub cut : (from : ℕ) → List ℕ → List ℕ
cut from box = slot from (from + stretch_length - from) box

pub cut-there : (box : List ℕ) (bay : ℕ) {from : ℕ} → from ≡ bay * stretch_length → cut from box ≡ stretch_of bay box
cut-there box bay {from} e =
    ap (λ (i : ℕ). slot from i box) (whole from) ∙ ap (λ (i : ℕ). slot i stretch_length box) e

module _ (box : List ℕ) (bay : ℕ) (wanted : List ℕ → Bool) (c : Call) (wants : (s : List ℕ) → is_for c s ≡ wanted s) where
  -- a refusal that the code hands on by `?` is the call's answer
  pub turned_down : {A : Type 0} (r : Result A Refusal) (row : Refusal) → IsErrAnd r (λ given. given ≡ row)
      → Enters (Err row) (entry_of box bay wanted) box bay → called (call_number r) box (buffers c) ≡ call_of box bay c
  unfolding call_of entry_of
  turned_down r row e h =
      rw (handed-on r row e, wants (stretch_of bay box)) (go (ltb bay bay_count) (eqb (length box) box_length) (wanted (stretch_of bay box)) h)
    where
      go : (a b d : Bool) → cond a (cond b (cond d 0 13) 1) 13 ≡ row_number row
          → called (row_number row) box (buffers c)
          ≡ cond a
          (cond b (cond d (in_box bay box (bay_call (present bay_count box) c (stretch_of bay box))) (called 13 box (buffers c))) (called 1 box (buffers c)))
          (called 13 box (buffers c))
      go true true true e = absurd (row_not_0 row (sym e))
      go true true false e = ap (λ (m : ℕ). called m box (buffers c)) (sym e)
      go true false d e = ap (λ (m : ℕ). called m box (buffers c)) (sym e)
      go false b d e = ap (λ (m : ℕ). called m box (buffers c)) (sym e)

  module _ (from : ℕ) (h : Enters (Ok from) (entry_of box bay wanted) box bay) where
    entered : in_box bay box (bay_call (present bay_count box) c (stretch_of bay box)) ≡ call_of box bay c
    unfolding call_of
    entered =
        rw (lt-ltb bay bay_count h.1, eq-eqb (length box) box_length h.2, wants (stretch_of bay box), wanted-there box bay wanted h.0)

    -- the call on the slot that was lent, and what comes back in its place
    pub lent-call : (n : ℕ) (s' : List ℕ) (lent : List (List ℕ)) → called n s' lent ≡ bay_call (present bay_count box) c (cut from box)
        → called n (take from box ++ (s' ++ drop (from + stretch_length - from) (drop from box))) lent ≡ call_of box bay c
    unfolding put
    lent-call n s' lent w =
        ap (λ (i : ℕ). called n (take from box ++ (s' ++ drop i (drop from box))) lent) (whole from)
        ∙ ap (λ (i : ℕ). called n (put i stretch_length s' box) lent) h.3
        ∙ ap (in_box bay box) (w ∙ ap (bay_call (present bay_count box) c) (cut-there box bay h.3)) ∙ entered

    -- a reader of the slot leaves the box
    pub read-call : (n : ℕ) (lent : List (List ℕ)) → called n (cut from box) lent ≡ bay_call (present bay_count box) c (cut from box)
        → called n box lent ≡ call_of box bay c
    read-call n lent w =
        let e : cut from box ≡ stretch_of bay box = cut-there box bay h.3 in
        ap (λ (r : List ℕ). called n r lent) (sym (put-slot (bay * stretch_length) stretch_length box))
        ∙ ap (in_box bay box) (ap (λ (r : List ℕ). called n r lent) (sym e) ∙ w ∙ ap (bay_call (present bay_count box) c) e) ∙ entered

-- an admission, by the sum that the code found
pub admit_call : (box : List ℕ) (bay : ℕ) (t : Terms) (from : ℕ) → Enters (Ok from) (entry_of box bay (fits true)) box bay
    → {k : ℕ} → k ≡ present bay_count box → (n : ℕ) (s' : List ℕ) → called n s' [] ≡ bay_admit_of k (cut from box) t
    → called n (take from box ++ (s' ++ drop (from + stretch_length - from) (drop from box))) [] ≡ call_of box bay (admit t)
admit_call box bay t from h e n s' w =
    lent-call box bay (fits true) (admit t) (λ s. refl) from h n s' [] (w ∙ ap (λ (i : ℕ). bay_admit_of i (cut from box) t) e)

-- a call that lends nothing but a bay that is filled
module _ (box : List ℕ) (bay : ℕ) (m : Moving) where
  wants-filled : (s : List ℕ) → is_for (call_by m) s ≡ fits false s
  wants-filled s = go m
    where
      go : (m : Moving) → is_for (call_by m) s ≡ fits false s
      go Release = refl
      go (Named Save name) = refl
      go (Named Restore name) = refl
      go (Named Forget name) = refl

  on_stretch_lem : (k : ℕ) (s : List ℕ) → bay_moved_of m s ≡ bay_call k (call_by m) s
  on_stretch_lem k s = go m
    where
      go : (m : Moving) → bay_moved_of m s ≡ bay_call k (call_by m) s
      go Release = refl
      go (Named Save name) = refl
      go (Named Restore name) = refl
      go (Named Forget name) = refl

  lends_none : buffers (call_by m) ≡ []
  lends_none = go m
    where
      go : (m : Moving) → buffers (call_by m) ≡ []
      go Release = refl
      go (Named Save name) = refl
      go (Named Restore name) = refl
      go (Named Forget name) = refl

  pub move-refused : {A : Type 0} (r : Result A Refusal) (row : Refusal) → IsErrAnd r (λ given. given ≡ row)
      → Enters (Err row) (entry_of box bay (fits false)) box bay → called (call_number r) box [] ≡ call_of box bay (call_by m)
  move-refused r row e h =
      ap (called (call_number r) box) (sym lends_none) ∙ turned_down box bay (fits false) (call_by m) wants-filled r row e h

  pub move-made : (from : ℕ) → Enters (Ok from) (entry_of box bay (fits false)) box bay → (n : ℕ) (s' : List ℕ)
      → called n s' [] ≡ bay_moved_of m (cut from box)
      → called n (take from box ++ (s' ++ drop (from + stretch_length - from) (drop from box))) [] ≡ call_of box bay (call_by m)
  move-made from h n s' w =
      lent-call box bay (fits false) (call_by m) wants-filled from h n s' [] (w ∙ on_stretch_lem (present bay_count box) (cut from box))
