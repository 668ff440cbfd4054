-- What the entries of a table hold after one is written.
use Prim.Native.Nat.{ℕ, zero, suc, ◌+◌, ◌*◌, ◌^◌, ◌≤◌, ◌<◌}
use native.Mathlib.Omega.{arith}
use native.Mathlib.Decide.{dec_lt, ℕ_discrete}
use mathlib.Core.Path.{◌≡◌, refl, sym, ap, ap₂, ◌∙◌}
use mathlib.Core.Bool.{cond}
use mathlib.Core.Logic.{◌≢◌}
use mathlib.Core.List.{List}
use lib.ListN.{length, take, drop, length-append}
use lib.Seq.{take_at, drop_at}
use lib.Dec.{eqb}
use borrow.Author.Tests.{eq-eqb, ne_eqb}
use Rattle.spec_base.specs.Limits.{label_bytes, max_positions, name_bytes}
use Rattle.spec_base.specs.Bytes.{le_bytes, le_number}
use Rattle.numbers.proofs.Bytes.{length_le_bytes, le_round_trip, le_behind}
use Rattle.spec_tick.specs.StateRecord.{state_length, state_record, labels_in}
use Rattle.records.proofs.StateLaws.{state_sized}
use Rattle.spec_base.specs.Parts.{slot, put}
use Rattle.numbers.proofs.Putting.{put-before, put-behind, put-within, length-put}
use Rattle.spec_bay.specs.Table.{key_bytes, entry_length, table_length, entry_of, key_in, saved_labels}
use Rattle.box_positions.specs.Places.{key_of, place}

-- ---- an entry
module _ (name labels : ℕ) where
  front : length (le_bytes name_bytes name) ≡ name_bytes
  front = length_le_bytes name_bytes name

  pub entry-sized : length (entry_of name labels) ≡ entry_length
  entry-sized = length-append (le_bytes name_bytes name) (state_record 1 labels) ∙ ap₂ (λ (x y : ℕ). x + y) front (state_sized 1 labels)

  behind-name : drop name_bytes (entry_of name labels) ≡ state_record 1 labels
  behind-name = drop_at (le_bytes name_bytes name) (state_record 1 labels) name_bytes front

  mark : le_number (take 1 (state_record 1 labels)) ≡ 1
  unfolding le_number
  mark = refl

  pub entry_key : name < 256 ^ name_bytes → le_number (slot 0 key_bytes (entry_of name labels)) ≡ key_of name
  entry_key h =
      let a : le_number (take name_bytes (entry_of name labels)) ≡ name =
      ap le_number (take_at (le_bytes name_bytes name) (state_record 1 labels) name_bytes front) ∙ le_round_trip name_bytes name h in
      let b : le_number (take 1 (drop name_bytes (entry_of name labels))) ≡ 1 = ap (λ (r : List ℕ). le_number (take 1 r)) behind-name ∙ mark in
      le_behind name_bytes 1 (entry_of name labels) ∙ omega (arith, a, b)

  whole : take label_bytes (drop 1 (take state_length (state_record 1 labels))) ≡ le_bytes label_bytes labels
  unfolding le_bytes
  whole = refl

  pub entry-labels : labels < 256 ^ label_bytes → labels_in (slot name_bytes state_length (entry_of name labels)) ≡ labels
  entry-labels h =
      ap (λ (r : List ℕ). labels_in (take state_length r)) behind-name ∙ ap le_number whole ∙ le_round_trip label_bytes labels h

-- ---- an entry in a table
module _ (i : ℕ) (bytes t : List ℕ) (z : length t ≡ table_length) (l : i < max_positions) (sized : length bytes ≡ entry_length) where
  abbrev t' : List ℕ
  t' = put (i * entry_length) entry_length bytes t

  fits : i * entry_length + entry_length ≤ length t
  fits = omega arith

  pub length-entry : length t' ≡ table_length
  length-entry = length-put (i * entry_length) entry_length bytes t fits sized ∙ z

  pub own_key : key_in i t' ≡ le_number (slot 0 key_bytes bytes)
  own_key =
      let e : i * entry_length ≡ i * entry_length + 0 = omega arith in
      ap (λ (k : ℕ). le_number (slot k key_bytes t')) e
      ∙ ap le_number (put-within (i * entry_length) entry_length bytes t fits sized 0 key_bytes (omega arith))

  pub own-labels : saved_labels i t' ≡ labels_in (slot name_bytes state_length bytes)
  own-labels = ap labels_in (put-within (i * entry_length) entry_length bytes t fits sized name_bytes state_length (omega arith))

  module _ (j : ℕ) (d : j ≢ i) where
    apart : (k m : ℕ) → k + m ≤ entry_length → slot (j * entry_length + k) m t' ≡ slot (j * entry_length + k) m t
    apart k m h =
        elim (dec_lt j i) [
          | yes w ↦ put-before (i * entry_length) entry_length bytes t fits sized (j * entry_length + k) m (omega arith)
          | no w ↦ put-behind (i * entry_length) entry_length bytes t fits sized (j * entry_length + k) m
              (let x : i < j = elim (dec_lt i j) [ yes y ↦ y | no y ↦ absurd (d (omega arith)) ] in omega arith)
        ]

    pub other_key : key_in j t' ≡ key_in j t
    other_key =
        let e : j * entry_length ≡ j * entry_length + 0 = omega arith in
        ap (λ (k : ℕ). le_number (slot k key_bytes t')) e
        ∙ ap le_number (apart 0 key_bytes (omega arith))
        ∙ ap (λ (k : ℕ). le_number (slot k key_bytes t)) (sym e)

    pub other-labels : saved_labels j t' ≡ saved_labels j t
    other-labels = ap labels_in (apart name_bytes state_length (omega arith))

-- ---- where a key is
module _ (key : ℕ) (t : List ℕ) where
  pub found : (n : ℕ) → n ≤ max_positions → place n key t < max_positions → (place n key t < n) × (key_in (place n key t) t ≡ key)
  unfolding place
  found zero h l = absurd (omega arith)
  found (suc n) h l =
      let w : cond (eqb (key_in n t) key) n (place n key t) < max_positions = l in
      elim (ℕ_discrete (key_in n t) key) [
        | yes q ↦ rw (eq-eqb (key_in n t) key q) (omega arith, q)
        | no q ↦
            let r = found n (omega arith) (rw (ne_eqb (key_in n t) key q) at w) in
            rw (ne_eqb (key_in n t) key q) (omega (arith, r.0), r.1)
      ]

  pub missing : (n : ℕ) → n ≤ max_positions → max_positions ≤ place n key t → (j : ℕ) → j < n → key_in j t ≢ key
  unfolding place
  missing zero h l j w = absurd (omega arith)
  missing (suc n) h l j w =
      let x : max_positions ≤ cond (eqb (key_in n t) key) n (place n key t) = l in
      elim (ℕ_discrete (key_in n t) key) [
        | yes q ↦ absurd (let y : max_positions ≤ n = rw (eq-eqb (key_in n t) key q) at x in omega arith)
        | no q ↦ elim (ℕ_discrete j n) [
          | yes p ↦ λ y. q (ap (λ (m : ℕ). key_in m t) (sym p) ∙ y)
          | no p ↦ missing n (omega arith) (rw (ne_eqb (key_in n t) key q) at x) j (omega arith)
        ]
      ]

  -- the only entry with a key
  pub only : (n i : ℕ) → i < n → key_in i t ≡ key → ((j : ℕ) → j < n → key_in j t ≡ key → j ≡ i) → place n key t ≡ i
  unfolding place
  only zero i h e u = absurd (omega arith)
  only (suc n) i h e u =
      elim (ℕ_discrete (key_in n t) key) [
        | yes q ↦ rw (eq-eqb (key_in n t) key q) (u n (omega arith) q)
        | no q ↦ rw (ne_eqb (key_in n t) key q)
            (only n i (let x : i ≢ n = λ y. q (ap (λ (m : ℕ). key_in m t) (sym y) ∙ e) in omega arith) e (λ j w. u j (omega arith)))
      ]

-- tables that have a key in the same entries
pub same_place : (n key : ℕ) (s t : List ℕ) → ((j : ℕ) → j < n → eqb (key_in j s) key ≡ eqb (key_in j t) key) → place n key s ≡ place n key t
unfolding place
same_place zero key s t h = refl
same_place (suc n) key s t h = rw (h n (omega arith), same_place n key s t (λ j w. h j (omega arith)))
