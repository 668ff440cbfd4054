-- A call on the box by the call on the bay's slot; a refused call leaves the box, and a call to a bay the others.
use Prim.Native.Nat.{ℕ, ◌+◌, ◌*◌, ◌≤◌, ◌<◌}
use native.Mathlib.Omega.{arith}
use native.Mathlib.Decide.{dec_lt, ℕ_discrete}
use mathlib.Core.Path.{◌≡◌, refl, sym, ap, ◌∙◌}
use mathlib.Core.Logic.{◌≢◌}
use mathlib.Core.Bool.{Bool, true, false, cond}
use mathlib.Core.List.{List, []}
use lib.ListN.{length, drop, length-drop}
use lib.Seq.{length-take-le}
use borrow.Author.Tests.{lt-ltb, le-ltb, eq-eqb, ne_eqb}
use Rattle.spec_base.specs.Limits.{bay_count}
use Rattle.spec_base.specs.Parts.{put}
use Rattle.numbers.proofs.Putting.{put-slot, length-put, slot-put, put-before, put-behind}
use Rattle.spec_bay.specs.Called.{Called, called, number, memory_after, lent_after}
use Rattle.spec_bay.specs.Stretch.{stretch_length, is_empty, Terms}
use Rattle.spec_box.specs.Box.{box_length, stretch_of, present, Call, admit, buffers, bay_call, is_for, in_box, call_of}
use Rattle.theory_box.proofs.Bays.{on_stretch, stretch-refused, sized_after}

in_box_lem : (bay : ℕ) (box : List ℕ) (o : Called)
    → in_box bay box o ≡ called (number o) (put (bay * stretch_length) stretch_length (memory_after o) box) (lent_after o)
in_box_lem bay box (called n s lent) = refl

module _ (box : List ℕ) (bay : ℕ) (c : Call) where
  abbrev s : List ℕ
  s = stretch_of bay box

  -- what the call makes of the slot
  abbrev pub result : Called
  result = on_stretch (present bay_count box) c s

  abbrev InPlace : Type 0
  InPlace = call_of box bay c ≡ called (number result) (put (bay * stretch_length) stretch_length (memory_after result) box) (lent_after result)

  pub no-bay : bay_count ≤ bay → call_of box bay c ≡ called 13 box (buffers c)
  unfolding call_of
  no-bay h = rw (le-ltb bay bay_count h)

  pub other-box : bay < bay_count → length box ≢ box_length → call_of box bay c ≡ called 1 box (buffers c)
  unfolding call_of
  other-box b n = rw (lt-ltb bay bay_count b, ne_eqb (length box) box_length n)

  in_place : bay < bay_count → length box ≡ box_length → InPlace
  unfolding call_of
  in_place b z = rw (lt-ltb bay bay_count b, eq-eqb (length box) box_length z) (go (is_for c s) ∙ in_box_lem bay box result)
    where
      go : (f : Bool) → cond f (in_box bay box (bay_call (present bay_count box) c s)) (called 13 box (buffers c))
          ≡ in_box bay box (cond f (bay_call (present bay_count box) c s) (called 13 s (buffers c)))
      go true = refl
      go false = ap (λ (r : List ℕ). called 13 r (buffers c)) (sym (put-slot (bay * stretch_length) stretch_length box))

  pub data Case : Type 0 where
    aside : (n : ℕ) → n ≢ 0 → call_of box bay c ≡ called n box (buffers c) → Case
    inside : bay < bay_count → length box ≡ box_length → InPlace → Case

  pub cases : Case
  cases =
      elim (dec_lt bay bay_count) [
        | yes b ↦ elim (ℕ_discrete (length box) box_length) [
          | yes z ↦ inside b z (in_place b z)
          | no z ↦ aside 1 (λ x. omega arith) (other-box b z)
        ]
        | no b ↦ aside 13 (λ x. omega arith) (no-bay (omega arith))
      ]

  -- a call answered 0 is to a bay of a box
  pub answered-inside : number (call_of box bay c) ≡ 0 → (bay < bay_count) × (length box ≡ box_length)
  answered-inside h = go cases
    where
      go : Case → (bay < bay_count) × (length box ≡ box_length)
      go (aside n z e) = absurd (z (sym (ap number e) ∙ h))
      go (inside b z e) = (b, z)

  -- ---- where the slot is in the box
  module _ (b : bay < bay_count) (z : length box ≡ box_length) where
    fits : bay * stretch_length + stretch_length ≤ length box
    fits = omega arith

    pub stretch_sized : length s ≡ stretch_length
    stretch_sized = length-take-le stretch_length (drop (bay * stretch_length) box) (omega (arith, length-drop (bay * stretch_length) box))

    result-sized : length (memory_after result) ≡ stretch_length
    result-sized = sized_after (present bay_count box) s stretch_sized c

    -- the bay's own slot, and what it is answered
    pub own : InPlace
    own = in_place b z

    pub own_stretch : stretch_of bay (memory_after (call_of box bay c)) ≡ memory_after result
    own_stretch =
        ap (λ (o : Called). stretch_of bay (memory_after o)) own
        ∙ slot-put (bay * stretch_length) stretch_length (memory_after result) box fits result-sized

  pub refused-leaves : number (call_of box bay c) ≢ 0 → call_of box bay c ≡ called (number (call_of box bay c)) box (buffers c)
  refused-leaves h = go cases
    where
      go : Case → call_of box bay c ≡ called (number (call_of box bay c)) box (buffers c)
      go (aside n z e) = e ∙ ap (λ (m : ℕ). called m box (buffers c)) (sym (ap number e))
      go (inside b z e) =
          let k = stretch-refused (present bay_count box) s (stretch_sized b z) c (λ y. h (ap number e ∙ y)) in
          e
          ∙ ap (λ (o : Called). called (number result) (put (bay * stretch_length) stretch_length (memory_after o) box) (lent_after o)) k
          ∙ ap (λ (r : List ℕ). called (number result) r (buffers c)) (put-slot (bay * stretch_length) stretch_length box)
          ∙ ap (λ (m : ℕ). called m box (buffers c)) (sym (ap number e))

  pub refused-stretch : number (call_of box bay c) ≢ 0 → stretch_of bay (memory_after (call_of box bay c)) ≡ s
  refused-stretch n = ap (λ (o : Called). stretch_of bay (memory_after o)) (refused-leaves n)

  -- where the bay is there for the call
  pub number-there : bay < bay_count → length box ≡ box_length → is_for c s ≡ true
      → number (call_of box bay c) ≡ number (bay_call (present bay_count box) c s)
  number-there b z i = ap number (own b z) ∙ rw i

  pub same_length : length (memory_after (call_of box bay c)) ≡ length box
  same_length = go cases
    where
      go : Case → length (memory_after (call_of box bay c)) ≡ length box
      go (aside n z e) = ap (λ (o : Called). length (memory_after o)) e
      go (inside b z e) =
          ap (λ (o : Called). length (memory_after o)) e
          ∙ length-put (bay * stretch_length) stretch_length (memory_after result) box (fits b z) (result-sized b z)

  pub others_stay : (other : ℕ) → other ≢ bay → other < bay_count → stretch_of other (memory_after (call_of box bay c)) ≡ stretch_of other box
  others_stay other d o = go cases
    where
      go : Case → stretch_of other (memory_after (call_of box bay c)) ≡ stretch_of other box
      go (aside n z e) = ap (λ (o : Called). stretch_of other (memory_after o)) e
      go (inside b z e) =
          ap (λ (o : Called). stretch_of other (memory_after o)) e
          ∙ elim (dec_lt other bay) [
            | yes l ↦ put-before (bay * stretch_length) stretch_length (memory_after result) box (fits b z) (result-sized b z)
                (other * stretch_length) stretch_length (omega arith)
            | no l ↦ put-behind (bay * stretch_length) stretch_length (memory_after result) box (fits b z) (result-sized b z)
                (other * stretch_length) stretch_length
                (let h : bay < other = elim (dec_lt bay other) [ yes k ↦ k | no k ↦ absurd (d (omega arith)) ] in omega arith)
          ]

-- a filled bay is not admitted again
pub filled_already : (box : List ℕ) (bay : ℕ) → bay < bay_count → length box ≡ box_length → is_empty (stretch_of bay box) ≡ false
    → (t : Terms) → number (call_of box bay (admit t)) ≢ 0
filled_already box bay b z f t n =
    let x : result box bay (admit t) ≡ called 13 (stretch_of bay box) [] = rw f in
    omega (arith, ap number (own box bay (admit t) b z), ap number x)
