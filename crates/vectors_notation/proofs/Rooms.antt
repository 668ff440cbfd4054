-- The loops that gather the bytes of a line, once and as often as it says.
use Prim.Native.Nat.{ℕ, zero, suc, ◌+◌, ◌-◌, ◌≤◌, ◌<◌}
use native.Mathlib.Omega.{arith}
use mathlib.Core.Path.{◌≡◌, refl, sym, ap, ap₂, subst, ◌∙◌}
use mathlib.Core.Logic.{◌⊎◌, inl, inr}
use mathlib.Core.Bool.{Bool, true, false, cond}
use mathlib.Core.List.{List}
use lib.ListN.{length}
use lib.Dec.{ltb}
use borrow.Author.Tests.{lt-ltb, le-ltb}
use Rattle.vectors_notation.specs.Digits.{number_in}
use Rattle.vectors_notation.specs.Words.{next_space, word_value, word_end}
use Rattle.vectors_notation.specs.declared.Bytes.{Bytes}
use Rattle.vectors_notation.specs.Room.{Held, pushed, words_from, appended, again, repeated, zeroed, room_length, malformed_count}

-- what a step keeps or bounds, after what was kept or bounded before it
pub kept_or_fits : {x y z : Bytes} → (z ≡ y) ⊎ (z.count ≤ room_length) → (y ≡ x) ⊎ (y.count ≤ room_length) → (z ≡ x) ⊎ (z.count ≤ room_length)
kept_or_fits (inl e) (inl f) = inl (e ∙ f)
kept_or_fits (inl e) (inr l) = inr (subst (λ (b : Bytes). b.count ≤ room_length) (sym e) l)
kept_or_fits (inr l) g = inr l

module _ (line : List ℕ) where
  -- each word has a byte, so a line has no more words than bytes
  enough : (n m at : ℕ) (h : Held) → length line ≤ at + n → length line ≤ at + m → words_from line n at h ≡ words_from line m at h
  unfolding words_from
  enough zero zero at h a b = refl
  enough zero (suc m) at h a b = rw (le-ltb at (length line) (omega arith))
  enough (suc n) zero at h a b = rw (le-ltb at (length line) (omega arith))
  enough (suc n) (suc m) at h a b =
      let v = number_in 16 line at (next_space line at) in
      ap (λ (x : Held). cond (ltb at (length line)) x h) (enough n m (next_space line at) (pushed h v) (omega arith) (omega arith))

  one_word : (n at : ℕ) (h : Held) → length line ≡ n → at < length line
      → words_from line n at h ≡ appended line (next_space line at) (pushed h (number_in 16 line at (next_space line at)))
  unfolding words_from
  one_word zero at h e l = absurd (omega (arith, e, l))
  one_word (suc n) at h e l =
      rw (lt-ltb at (length line) l)
      (enough n (length line) (next_space line at) (pushed h (number_in 16 line at (next_space line at))) (omega (arith, e, l)) (omega arith))

  no_word : (n at : ℕ) (h : Held) → length line ≤ at → words_from line n at h ≡ h
  unfolding words_from
  no_word zero at h l = refl
  no_word (suc n) at h l = rw (le-ltb at (length line) l)

  pub append-on : (at v e : ℕ) (h more x : Held) → at < length line → v ≡ word_value line at → e ≡ word_end line at → more ≡ pushed h v
      → appended line at h ≡ x → appended line e more ≡ x
  append-on at v e h more x l ev ee em g =
      let t = lt-ltb at (length line) l in
      let p : e ≡ next_space line at = ee ∙ rw t in
      let q : v ≡ number_in 16 line at (next_space line at) = ev ∙ rw t in
      ap₂ (appended line) p (em ∙ ap (pushed h) q) ∙ sym (one_word (length line) at h refl l) ∙ g

  pub append-end : (at : ℕ) (h x : Held) → length line ≤ at → appended line at h ≡ x → h ≡ x
  append-end at h x l g = sym (no_word (length line) at h l) ∙ g

  -- behind a malformed word, all is malformed
  lost : (n at : ℕ) → words_from line n at (zeroed malformed_count) ≡ zeroed malformed_count
  unfolding words_from zeroed
  lost zero at = refl
  lost (suc n) at =
      let next = next_space line at in
      go next (ltb at (length line)) (ltb (number_in 16 line at next) 256) (lost n next)
    where
      bad : Held
      bad = zeroed malformed_count

      go : (next : ℕ) (b d : Bool) → words_from line n next bad ≡ bad → cond b (words_from line n next (cond d bad bad)) bad ≡ bad
      go next true true e = e
      go next true false e = e
      go next false d e = refl

  pub append-none : (at v e : ℕ) (h x : Held) → at < length line → v ≡ word_value line at → e ≡ word_end line at
      → zeroed malformed_count ≡ pushed h v → appended line at h ≡ x → zeroed malformed_count ≡ x
  append-none at v e h x l ev ee em g = sym (lost (length line) e) ∙ append-on at v e h (zeroed malformed_count) x l ev ee em g

  lost_again : (n end : ℕ) → again n line end (zeroed malformed_count) ≡ zeroed malformed_count
  unfolding again
  lost_again zero end = refl
  lost_again (suc n) end = rw (lost (length line) end) (lost_again n end)

  module _ (times done end : ℕ) (h x : Held) (g : again (times - done) line end h ≡ x) where
    pub again-on : (more : Held) → done < times → more ≡ appended line end h → again (times - (done + 1)) line end more ≡ x
    unfolding again
    again-on more l e =
        let q : times - done ≡ suc (times - (done + 1)) = omega (arith, l) in
        rw e (sym (ap (λ (n : ℕ). again n line end h) q) ∙ g)

    pub again-none : done < times → zeroed malformed_count ≡ appended line end h → zeroed malformed_count ≡ x
    again-none l e = sym (lost_again (times - (done + 1)) end) ∙ again-on (zeroed malformed_count) l e

    pub again-end : times ≤ done → h ≡ x
    unfolding again
    again-end l = let q : times - done ≡ 0 = omega (arith, l) in sym (ap (λ (n : ℕ). again n line end h) q) ∙ g

  -- ---- what each return of the repeating gives
  pub repeat-none : (from : ℕ) (h : Held) → length line ≤ from → zeroed malformed_count ≡ repeated line from h
  unfolding repeated
  repeat-none from h l = rw (le-ltb from (length line) l)

  module _ (from end times : ℕ) (h : Held) (l : from < length line) (e : end ≡ next_space line from) (t : times ≡ number_in 10 line from end) where
    number : times ≡ number_in 10 line from (next_space line from)
    number = t ∙ ap (number_in 10 line from) e

    pub repeat_many : room_length ≤ times → zeroed malformed_count ≡ repeated line from h
    unfolding repeated
    repeat_many b =
        rw (lt-ltb from (length line) l, le-ltb (number_in 10 line from (next_space line from)) room_length (omega (arith, number, b)))

    pub repeat-is : times < room_length → again times line end h ≡ repeated line from h
    unfolding repeated
    repeat-is b =
        rw (lt-ltb from (length line) l, lt-ltb (number_in 10 line from (next_space line from)) room_length (omega (arith, number, b)))
        (ap₂ (λ (k x : ℕ). again k line x h) number e)
