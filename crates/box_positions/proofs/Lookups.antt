-- What is found in a table, and what an entry that is written anew changes of it.
use Prim.Native.Nat.{ℕ, ◌*◌, ◌^◌, ◌≤◌, ◌<◌}
use native.Mathlib.Omega.{arith}
use native.Mathlib.Decide.{dec_lt, ℕ_discrete}
use mathlib.Core.Path.{◌≡◌, refl, sym, ap, ◌∙◌, subst}
use mathlib.Core.Logic.{◌≢◌, inl, inr}
use mathlib.Core.Option.{some, none}
use mathlib.Core.List.{List}
use lib.ListN.{length}
use lib.Dec.{eqb}
use borrow.Author.Tests.{ne_eqb, lt-ltb, le-ltb}
use Rattle.spec_base.specs.Limits.{max_positions, name_bytes}
use Rattle.spec_base.specs.Bytes.{le_number}
use Rattle.spec_tick.specs.StateRecord.{state_length, labels_in}
use Rattle.spec_base.specs.Parts.{slot, put}
use Rattle.spec_bay.specs.Table.{key_bytes, entry_length, key_in, saved_labels, lookup}
use Rattle.box_positions.specs.Places.{key_of, place_of, labels_found, FreeOrNamed, Formed}
use Rattle.box_positions.proofs.Searching.{lookup-is}
use Rattle.box_positions.proofs.Entries.{length-entry, own_key, own-labels, other_key, other-labels, found, missing, only, same_place}

module _ (name : ℕ) (t : List ℕ) where
  pub lookup-at : (i : ℕ) → place_of name t ≡ i → i < max_positions → lookup name t ≡ some (saved_labels i t)
  lookup-at i e l = lookup-is name t ∙ ap (λ (p : ℕ). labels_found p t) e ∙ rw (lt-ltb i max_positions l)

  pub lookup-none : max_positions ≤ place_of name t → lookup name t ≡ none
  lookup-none l = lookup-is name t ∙ rw (le-ltb (place_of name t) max_positions l)

  pub key-found : place_of name t < max_positions → key_in (place_of name t) t ≡ key_of name
  key-found l = (found (key_of name) t max_positions (omega arith) l).1

  pub key-missing : max_positions ≤ place_of name t → (j : ℕ) → j < max_positions → key_in j t ≢ key_of name
  key-missing = missing (key_of name) t max_positions (omega arith)

  pub absent : ((j : ℕ) → j < max_positions → key_in j t ≢ key_of name) → lookup name t ≡ none
  absent h =
      elim (dec_lt (place_of name t) max_positions) [
        | yes w ↦ absurd (h (place_of name t) w (key-found w))
        | no w ↦ lookup-none (omega arith)
      ]

  -- a name that an entry has
  pub present : (i : ℕ) → i < max_positions → key_in i t ≡ key_of name → (labels : ℕ) × (lookup name t ≡ some labels)
  present i l e =
      elim (dec_lt (place_of name t) max_positions) [
        | yes w ↦ (saved_labels (place_of name t) t, lookup-at (place_of name t) refl w)
        | no w ↦ absurd (key-missing (omega arith) i l e)
      ]

-- ---- entry i written anew
module _ (i : ℕ) (bytes t : List ℕ) (f : Formed t) (l : i < max_positions) (sized : length bytes ≡ entry_length) where
  abbrev after : List ℕ
  after = put (i * entry_length) entry_length bytes t

  abbrev new : ℕ
  new = le_number (slot 0 key_bytes bytes)

  key-at : key_in i after ≡ new
  key-at = own_key i bytes t f.sized l sized

  key_apart : (j : ℕ) → j ≢ i → key_in j after ≡ key_in j t
  key_apart = other_key i bytes t f.sized l sized

  -- a name that the entry has not now
  module _ (other : ℕ) (differs : new ≢ key_of other) where
    elsewhere : (j : ℕ) → key_in j after ≡ key_of other → j ≢ i
    elsewhere j p e = differs (sym key-at ∙ ap (λ (m : ℕ). key_in m after) (sym e) ∙ p)

    before : (j : ℕ) → key_in j after ≡ key_of other → key_in j t ≡ key_of other
    before j p = sym (key_apart j (elsewhere j p)) ∙ p

    still-single : (j k : ℕ) → j < max_positions → k < max_positions → key_in j after ≡ key_of other → key_in k after ≡ key_of other → j ≡ k
    still-single j k a b p q = f.single other j k a b (before j p) (before k q)

    -- nor had before
    module _ (old : key_in i t ≢ key_of other) where
      same_test : (j : ℕ) → eqb (key_in j after) (key_of other) ≡ eqb (key_in j t) (key_of other)
      same_test j =
          elim (ℕ_discrete j i) [
            | yes q ↦
                ne_eqb (key_in j after) (key_of other) (λ p. elsewhere j p q)
                ∙ sym (ne_eqb (key_in j t) (key_of other) (λ p. old (ap (λ (m : ℕ). key_in m t) (sym q) ∙ p)))
            | no q ↦ ap (λ (k : ℕ). eqb k (key_of other)) (key_apart j q)
          ]

      pub lookup-apart : lookup other after ≡ lookup other t
      lookup-apart =
          lookup-is other after
          ∙ ap (λ (p : ℕ). labels_found p after) (same_place max_positions (key_of other) after t (λ j w. same_test j))
          ∙ (let same : labels_found (place_of other t) after ≡ labels_found (place_of other t) t = elim (dec_lt (place_of other t) max_positions) [
            | yes w ↦ rw (lt-ltb (place_of other t) max_positions w)
                (ap some (other-labels i bytes t f.sized l sized (place_of other t)
                (λ e. old (ap (λ (m : ℕ). key_in m t) (sym e) ∙ key-found other t w))))
            | no w ↦ rw (le-ltb (place_of other t) max_positions (omega arith))
          ] in same)
          ∙ sym (lookup-is other t)

  -- each entry is free or named if this one is
  still-named : FreeOrNamed new → (j : ℕ) → j < max_positions → FreeOrNamed (key_in j after)
  still-named h j w =
      elim (ℕ_discrete j i) [
        | yes q ↦ subst FreeOrNamed (sym (ap (λ (m : ℕ). key_in m after) q ∙ key-at)) h
        | no q ↦ subst FreeOrNamed (sym (key_apart j q)) (f.named j w)
      ]

  -- the name that it has now, which no other entry had
  module _ (name : ℕ) (is : new ≡ key_of name) (mine : (j : ℕ) → j < max_positions → key_in j t ≡ key_of name → j ≡ i) where
    mine-after : (j : ℕ) → j < max_positions → key_in j after ≡ key_of name → j ≡ i
    mine-after j w e = elim (ℕ_discrete j i) [ yes q ↦ q | no q ↦ mine j w (sym (key_apart j q) ∙ e) ]

    pub lookup-own : lookup name after ≡ some (labels_in (slot name_bytes state_length bytes))
    lookup-own =
        lookup-at name after i (only (key_of name) after max_positions i l (key-at ∙ is) mine-after) l
        ∙ ap some (own-labels i bytes t f.sized l sized)

    pub formed-named : name < 256 ^ name_bytes → Formed after
    formed-named small = record {
      sized = length-entry i bytes t f.sized l sized;
      single = λ other j k a b p q. elim (ℕ_discrete other name) [
        | yes y ↦ mine-after j a (p ∙ ap key_of y) ∙ sym (mine-after k b (q ∙ ap key_of y))
        | no y ↦ still-single other (λ e. y (let x : key_of name ≡ key_of other = sym is ∙ e in omega arith)) j k a b p q
      ];
      named = still-named (inr (name, small, is));
    }

  -- no name
  module _ (free : new ≡ 0) where
    nobody : (other : ℕ) → new ≢ key_of other
    nobody other e = omega (arith, free, e)

    pub formed-free : Formed after
    formed-free = record {
      sized = length-entry i bytes t f.sized l sized;
      single = λ other. still-single other (nobody other);
      named = still-named (inl free);
    }

    pub lookup-gone : (name : ℕ) → key_in i t ≡ key_of name → lookup name after ≡ none
    lookup-gone name e =
        absent name after (λ j w p. elsewhere name (nobody name) j p (f.single name j i w l (before name (nobody name) j p) e))
