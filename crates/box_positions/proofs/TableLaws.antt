-- Lookup after save, after forget and in a cleared table.
use Prim.Native.Nat.{ℕ, ◌*◌, ◌^◌, ◌≤◌, ◌<◌}
use native.Mathlib.Omega.{arith}
use native.Mathlib.Decide.{dec_lt}
use mathlib.Core.Path.{◌≡◌, sym, ap, ◌∙◌, subst}
use mathlib.Core.Logic.{◌≢◌, ◌⊎◌, inl, inr, ⊎_elim}
use mathlib.Core.Option.{some, none}
use mathlib.Core.List.{List}
use lib.ListN.{length}
use borrow.Author.Tests.{lt-ltb, le-ltb}
use Rattle.spec_base.specs.Limits.{label_bytes, max_positions, name_bytes}
use Rattle.spec_base.specs.Bytes.{le_number}
use Rattle.spec_base.specs.Parts.{slot, zeros}
use Rattle.numbers.proofs.Zeros.{length-zeros, slot-zeros, zeros_number}
use Rattle.spec_bay.specs.Table.{key_bytes, entry_length, table_length, entry_of, key_in, lookup, Kept, kept, number_kept, table_kept, written, cleared, save_of, forget_of}
use Rattle.box_positions.specs.Places.{key_of, place, place_of, place_for, Formed}
use Rattle.box_positions.proofs.Entries.{entry-sized, entry_key, entry-labels, length-entry, found, missing}
use Rattle.box_positions.proofs.Searching.{save_is, forget_is}
use Rattle.box_positions.proofs.Lookups.{lookup-none, key-found, key-missing, absent, lookup-apart, lookup-own, formed-named, formed-free, lookup-gone}

-- ---- save
-- entry i has this name, or no entry has it and i is free
abbrev pub Place : (name : ℕ) (t : List ℕ) (i : ℕ) → Type 0
Place name t i = (key_in i t ≡ key_of name) ⊎ ((max_positions ≤ place_of name t) × (key_in i t ≡ 0))

module _ (name labels : ℕ) (t : List ℕ) where
  pub data Saving : Type 0 where
    placed : (i : ℕ) → i < max_positions → Place name t i → save_of name labels t ≡ kept 0 (written i name labels t) → Saving
    full : max_positions ≤ place_of name t → ((j : ℕ) → j < max_positions → key_in j t ≢ 0) → save_of name labels t ≡ kept 16 t → Saving

  pub saving : Saving
  saving =
      elim (dec_lt (place_of name t) max_positions) [
        | yes w ↦
            let e : place_for name t ≡ place_of name t = rw (lt-ltb (place_of name t) max_positions w) in
            let l : place_for name t < max_positions = omega arith in
            placed (place_for name t) l (inl (ap (λ (m : ℕ). key_in m t) e ∙ key-found name t w)) (save_is name labels t ∙ rw (lt-ltb (place_for name t) max_positions l))
        | no w ↦
            let e : place_for name t ≡ place max_positions 0 t = rw (le-ltb (place_of name t) max_positions (omega arith)) in
            elim (dec_lt (place_for name t) max_positions) [
              | yes l ↦ placed (place_for name t) l
                  (inr (omega arith, ap (λ (m : ℕ). key_in m t) e ∙ (found 0 t max_positions (omega arith) (omega arith)).1))
                  (save_is name labels t ∙ rw (lt-ltb (place_for name t) max_positions l))
              | no l ↦ full (omega arith) (missing 0 t max_positions (omega arith) (omega arith))
                  (save_is name labels t ∙ rw (le-ltb (place_for name t) max_positions (omega arith)))
            ]
      ]

  pub save_refused : number_kept (save_of name labels t) ≢ 0 → table_kept (save_of name labels t) ≡ t
  save_refused h = go saving
    where
      go : Saving → table_kept (save_of name labels t) ≡ t
      go (placed i l p w) = absurd (h (ap number_kept w))
      go (full u e w) = ap table_kept w

  pub save-sized : length t ≡ table_length → length (table_kept (save_of name labels t)) ≡ table_length
  save-sized z = go saving
    where
      go : Saving → length (table_kept (save_of name labels t)) ≡ table_length
      go (placed i l p w) = ap (λ (o : Kept). length (table_kept o)) w ∙ length-entry i (entry_of name labels) t z l (entry-sized name labels)
      go (full u e w) = ap (λ (o : Kept). length (table_kept o)) w ∙ z

module _ (name labels : ℕ) (t : List ℕ) (f : Formed t) (small : name < 256 ^ name_bytes) where
  module _ (i : ℕ) (l : i < max_positions) (p : Place name t i) where
    mine : (j : ℕ) → j < max_positions → key_in j t ≡ key_of name → j ≡ i
    mine j w k = ⊎_elim (λ e. f.single name j i w l k e) (λ q. absurd (key-missing name t q.0 j w k)) p

    fresh : (other : ℕ) → other ≢ name → key_in i t ≢ key_of other
    fresh other d k = ⊎_elim (λ e. d (let x : key_of name ≡ key_of other = sym e ∙ k in omega arith)) (λ q. omega (arith, q.1, k)) p

    key-now : le_number (slot 0 key_bytes (entry_of name labels)) ≡ key_of name
    key-now = entry_key name labels small

    found_after : labels < 256 ^ label_bytes → lookup name (written i name labels t) ≡ some labels
    found_after v =
        lookup-own i (entry_of name labels) t f l (entry-sized name labels) name key-now mine ∙ ap some (entry-labels name labels v)

    same-others : (other : ℕ) → other ≢ name → lookup other (written i name labels t) ≡ lookup other t
    same-others other d =
        lookup-apart i (entry_of name labels) t f l (entry-sized name labels) other
        (λ e. d (let x : key_of name ≡ key_of other = sym key-now ∙ e in omega arith)) (fresh other d)

    formed-after : Formed (written i name labels t)
    formed-after = formed-named i (entry_of name labels) t f l (entry-sized name labels) name key-now mine small

  pub lookup-saved : number_kept (save_of name labels t) ≡ 0 → labels < 256 ^ label_bytes
      → lookup name (table_kept (save_of name labels t)) ≡ some labels
  lookup-saved h v = go (saving name labels t)
    where
      go : Saving name labels t → lookup name (table_kept (save_of name labels t)) ≡ some labels
      go (placed i l p w) = ap (λ (o : Kept). lookup name (table_kept o)) w ∙ found_after i l p v
      go (full u e w) = absurd (let x : ◌≡◌ {A = ℕ} 16 0 = sym (ap number_kept w) ∙ h in omega arith)

  pub lookup_others_saved : (other : ℕ) → other ≢ name → lookup other (table_kept (save_of name labels t)) ≡ lookup other t
  lookup_others_saved other d = go (saving name labels t)
    where
      go : Saving name labels t → lookup other (table_kept (save_of name labels t)) ≡ lookup other t
      go (placed i l p w) = ap (λ (o : Kept). lookup other (table_kept o)) w ∙ same-others i l p other d
      go (full u e w) = ap (λ (o : Kept). lookup other (table_kept o)) w

  pub formed_saved : Formed (table_kept (save_of name labels t))
  formed_saved = go (saving name labels t)
    where
      go : Saving name labels t → Formed (table_kept (save_of name labels t))
      go (placed i l p w) = subst Formed (sym (ap table_kept w)) (formed-after i l p)
      go (full u e w) = subst Formed (sym (ap table_kept w)) f

-- ---- forget
module _ (name : ℕ) (t : List ℕ) where
  pub data Forgetting : Type 0 where
    known : place_of name t < max_positions → forget_of name t ≡ kept 0 (cleared (place_of name t) t) → Forgetting
    unknown : max_positions ≤ place_of name t → forget_of name t ≡ kept 15 t → Forgetting

  pub forgetting : Forgetting
  forgetting =
      elim (dec_lt (place_of name t) max_positions) [
        | yes w ↦ known w (forget_is name t ∙ rw (lt-ltb (place_of name t) max_positions w))
        | no w ↦ unknown (omega arith) (forget_is name t ∙ rw (le-ltb (place_of name t) max_positions (omega arith)))
      ]

  pub forget_refused : number_kept (forget_of name t) ≢ 0 → table_kept (forget_of name t) ≡ t
  forget_refused h = go forgetting
    where
      go : Forgetting → table_kept (forget_of name t) ≡ t
      go (known l w) = absurd (h (ap number_kept w))
      go (unknown l w) = ap table_kept w

  pub forget-sized : length t ≡ table_length → length (table_kept (forget_of name t)) ≡ table_length
  forget-sized z = go forgetting
    where
      go : Forgetting → length (table_kept (forget_of name t)) ≡ table_length
      go (known l w) =
          ap (λ (o : Kept). length (table_kept o)) w ∙ length-entry (place_of name t) (zeros entry_length) t z l (length-zeros entry_length)
      go (unknown l w) = ap (λ (o : Kept). length (table_kept o)) w ∙ z

no_key : le_number (slot 0 key_bytes (zeros entry_length)) ≡ 0
no_key = ap le_number (slot-zeros 0 key_bytes entry_length (omega arith)) ∙ zeros_number key_bytes

module _ (name : ℕ) (t : List ℕ) (f : Formed t) where
  pub lookup-forgotten : lookup name (table_kept (forget_of name t)) ≡ none
  lookup-forgotten = go (forgetting name t)
    where
      go : Forgetting name t → lookup name (table_kept (forget_of name t)) ≡ none
      go (known l w) =
          ap (λ (o : Kept). lookup name (table_kept o)) w
          ∙ lookup-gone (place_of name t) (zeros entry_length) t f l (length-zeros entry_length) no_key name (key-found name t l)
      go (unknown l w) = ap (λ (o : Kept). lookup name (table_kept o)) w ∙ lookup-none name t l

  pub lookup_others_forgotten : (other : ℕ) → other ≢ name → lookup other (table_kept (forget_of name t)) ≡ lookup other t
  lookup_others_forgotten other d = go (forgetting name t)
    where
      go : Forgetting name t → lookup other (table_kept (forget_of name t)) ≡ lookup other t
      go (known l w) =
          ap (λ (o : Kept). lookup other (table_kept o)) w
          ∙ lookup-apart (place_of name t) (zeros entry_length) t f l (length-zeros entry_length) other (λ e. omega (arith, no_key, e))
          (λ e. d (let x : key_of name ≡ key_of other = sym (key-found name t l) ∙ e in omega arith))
      go (unknown l w) = ap (λ (o : Kept). lookup other (table_kept o)) w

  pub formed_forgotten : Formed (table_kept (forget_of name t))
  formed_forgotten = go (forgetting name t)
    where
      go : Forgetting name t → Formed (table_kept (forget_of name t))
      go (known l w) =
          subst Formed (sym (ap table_kept w)) (formed-free (place_of name t) (zeros entry_length) t f l (length-zeros entry_length) no_key)
      go (unknown l w) = subst Formed (sym (ap table_kept w)) f

-- ---- a cleared table
zeros_key : (i : ℕ) → i < max_positions → key_in i (zeros table_length) ≡ 0
zeros_key i l = ap le_number (slot-zeros (i * entry_length) key_bytes table_length (omega arith)) ∙ zeros_number key_bytes

pub formed_zeros : Formed (zeros table_length)
formed_zeros = record {
  sized = length-zeros table_length;
  single = λ name i j a b p q. absurd (omega (arith, zeros_key i a, p));
  named = λ i a. inl (zeros_key i a);
}

pub lookup-zeros : (name : ℕ) → lookup name (zeros table_length) ≡ none
lookup-zeros name = absent name (zeros table_length) (λ j w p. omega (arith, zeros_key j w, p))
