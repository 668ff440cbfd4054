-- What the definition makes of the entry that is searched for, by the number that the code has for it.
use Prim.Native.Nat.{ℕ, zero, suc, ◌^◌, ◌≤◌}
use native.Mathlib.Omega.{arith}
use native.Mathlib.Decide.{dec_lt, ℕ_discrete}
use mathlib.Core.Path.{◌≡◌, refl, ap, ap₂, ◌∙◌}
use mathlib.Core.Bool.{Bool, true, false, cond}
use mathlib.Core.Option.{Option, some, none}
use mathlib.Core.List.{List}
use lib.Dec.{eqb, ltb}
use borrow.Author.Tests.{eq-eqb, ne_eqb, lt-ltb, le-leb, lt-leb}
use Rattle.spec_base.specs.Limits.{max_positions, name_bytes}
use Rattle.spec_bay.specs.Table.{key_in, is_free, name_at, is_of, where_is, saved_labels, last_such, or_else, there, lookup, Kept, kept, written, cleared, save_of, forget_of}
use Rattle.box_positions.specs.Places.{key_of, place, place_of, place_for, labels_found}

-- an entry of a name is one with its key
test : (name : ℕ) (t : List ℕ) (i : ℕ) → is_of name t i ≡ eqb (key_in i t) (key_of name)
test name t i =
    elim (ℕ_discrete (key_in i t) (key_of name)) [
      | yes e ↦ rw (le-leb (256 ^ name_bytes) (key_in i t) (omega arith), eq-eqb (name_at i t) name (omega arith), eq-eqb (key_in i t) (key_of name) e)
      | no e ↦ elim (dec_lt (key_in i t) (256 ^ name_bytes)) [
        | yes l ↦ rw (lt-leb (256 ^ name_bytes) (key_in i t) l, ne_eqb (key_in i t) (key_of name) e)
        | no l ↦ rw (le-leb (256 ^ name_bytes) (key_in i t) (omega arith), ne_eqb (name_at i t) name (λ y. e (omega arith)), ne_eqb (key_in i t) (key_of name) e)
      ]
    ]

same_tests : (f g : ℕ → Bool) → ((i : ℕ) → f i ≡ g i) → (n : ℕ) → last_such n f ≡ last_such n g
unfolding last_such
same_tests f g h zero = refl
same_tests f g h (suc n) = ap₂ (λ (b : Bool) (o : Option ℕ). cond b (some n) o) (h n) (same_tests f g h n)

by_key : (name : ℕ) (t : List ℕ) → where_is name t ≡ last_such max_positions (λ i. eqb (key_in i t) (key_of name))
by_key name t = same_tests (is_of name t) (λ i. eqb (key_in i t) (key_of name)) (test name t) max_positions

module _ {A : Type 0} (nowhere : A) (made : ℕ → A) where
  by_number : (key : ℕ) (t : List ℕ) (n : ℕ) → n ≤ max_positions
      → there nowhere made (last_such n (λ i. eqb (key_in i t) key)) ≡ cond (ltb (place n key t) max_positions) (made (place n key t)) nowhere
  unfolding last_such place
  by_number key t zero h = refl
  by_number key t (suc n) h = go (eqb (key_in n t) key) (by_number key t n (omega arith))
    where
      go : (b : Bool)
          → there nowhere made (last_such n (λ i. eqb (key_in i t) key)) ≡ cond (ltb (place n key t) max_positions) (made (place n key t)) nowhere
          → there nowhere made (cond b (some n) (last_such n (λ i. eqb (key_in i t) key)))
          ≡ cond (ltb (cond b n (place n key t)) max_positions) (made (cond b n (place n key t))) nowhere
      go true r = rw (lt-ltb n max_positions (omega arith))
      go false r = r

  either : (x y : Option ℕ) → there nowhere made (or_else x y) ≡ there (there nowhere made y) made x
  either none y = refl
  either (some i) y = refl

pub lookup-is : (name : ℕ) (t : List ℕ) → lookup name t ≡ labels_found (place_of name t) t
unfolding lookup
lookup-is name t = ap (there none (λ i. some (saved_labels i t))) (by_key name t) ∙ by_number none (λ i. some (saved_labels i t)) (key_of name) t max_positions (omega arith)

pub forget_is : (name : ℕ) (t : List ℕ)
    → forget_of name t ≡ cond (ltb (place_of name t) max_positions) (kept 0 (cleared (place_of name t) t)) (kept 15 t)
unfolding forget_of
forget_is name t = ap (there (kept 15 t) (λ i. kept 0 (cleared i t))) (by_key name t) ∙ by_number (kept 15 t) (λ i. kept 0 (cleared i t)) (key_of name) t max_positions (omega arith)

pub save_is : (name labels : ℕ) (t : List ℕ)
    → save_of name labels t ≡ cond (ltb (place_for name t) max_positions) (kept 0 (written (place_for name t) name labels t)) (kept 16 t)
unfolding save_of
save_is name labels t =
    ap (λ (o : Option ℕ). there (kept 16 t) made (or_else o (last_such max_positions (is_free t)))) (by_key name t)
    ∙ either (kept 16 t) made (last_such max_positions (λ i. eqb (key_in i t) (key_of name))) (last_such max_positions (is_free t))
    ∙ by_number (there (kept 16 t) made (last_such max_positions (is_free t))) made (key_of name) t max_positions (omega arith)
    ∙ ap (λ (o : Kept). cond (ltb (place_of name t) max_positions) (made (place_of name t)) o) (by_number (kept 16 t) made 0 t max_positions (omega arith))
    ∙ go (ltb (place_of name t) max_positions) refl
  where
    made : ℕ → Kept
    made i = kept 0 (written i name labels t)

    go : (b : Bool) → ltb (place_of name t) max_positions ≡ b
        → cond (ltb (place_of name t) max_positions) (made (place_of name t)) (cond (ltb (place max_positions 0 t) max_positions) (made (place max_positions 0 t)) (kept 16 t))
        ≡ cond (ltb (place_for name t) max_positions) (made (place_for name t)) (kept 16 t)
    go true e = rw (e, e)
    go false e = rw e
