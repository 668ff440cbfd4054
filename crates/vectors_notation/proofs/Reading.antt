-- What each return of the reading of a number gives.
use Prim.Native.Nat.{ℕ, zero, suc, ◌+◌, ◌-◌, ◌≤◌, ◌<◌}
use native.Mathlib.Omega.{arith}
use mathlib.Core.Path.{◌≡◌, refl, sym, ap, ◌∙◌}
use mathlib.Core.Logic.{◌≢◌}
use mathlib.Core.List.{List}
use mathlib.Core.Bool.{Bool, true, false, cond}
use lib.Dec.{leb}
use lib.ListN.{get_or, take, drop}
use Rattle.std.proofs.lemmas.List.{get_or-take, get_or-drop}
use borrow.Author.Tests.{eq-eqb, ne_eqb}
use Rattle.vectors_notation.specs.Digits.{no_number, digit_of, extended_by, number_from, number_in}

module _ (base : ℕ) (line : List ℕ) where
  -- behind what is no number there is none
  lost : (n i : ℕ) → number_from base line n i no_number ≡ no_number
  unfolding number_from extended_by
  lost zero i = refl
  lost (suc n) i = go (leb base (digit_of (get_or line i 0))) (lost n (i + 1))
    where
      go : (b : Bool) → number_from base line n (i + 1) no_number ≡ no_number
          → number_from base line n (i + 1) (cond b no_number no_number) ≡ no_number
      go true e = e
      go false e = e

  pub no-space : (at end : ℕ) → get_or line at 0 ≢ 32 → no_number ≡ number_in base line at end
  unfolding number_in
  no-space at end n = rw (ne_eqb (get_or line at 0) 32 n)

  pub no_digit : (at end : ℕ) → get_or line at 0 ≡ 32 → at + 1 ≡ end → no_number ≡ number_in base line at end
  unfolding number_in
  no_digit at end s e = rw (eq-eqb (get_or line at 0) 32 s, eq-eqb (at + 1) end e)

  -- the digits behind the first k with the value so far are those behind the space
  abbrev pub GoesOn : (at end k value : ℕ) → Type 0
  GoesOn at end k value =
      (at + 1 + k ≤ end)
      × (number_from base line (end - (at + 1 + k)) (at + 1 + k) value ≡ number_from base line (end - (at + 1)) (at + 1) 0)

  module _ (at end k value : ℕ) (h : GoesOn at end k value) where
    pub step : (next : ℕ) → at + 1 + k < end
        → next ≡ extended_by base value (get_or (take (end - (at + 1)) (drop (at + 1) line)) k 0)
        → GoesOn at end (k + 1) next
    unfolding number_from
    step next l e = (omega (arith, l), rw on (rw (e ∙ ap (extended_by base value) digit) (sym one ∙ h.1)))
      where
        on : at + 1 + (k + 1) ≡ at + 1 + k + 1
        on = omega arith

        left : end - (at + 1 + k) ≡ suc (end - (at + 1 + k + 1))
        left = omega (arith, l)

        digit : get_or (take (end - (at + 1)) (drop (at + 1) line)) k 0 ≡ get_or line (at + 1 + k) 0
        digit = get_or-take (end - (at + 1)) (drop (at + 1) line) k 0 (omega (arith, l)) ∙ get_or-drop (at + 1) line k 0

        one : number_from base line (end - (at + 1 + k)) (at + 1 + k) value
            ≡ number_from base line (end - (at + 1 + k + 1)) (at + 1 + k + 1) (extended_by base value (get_or line (at + 1 + k) 0))
        one = ap (λ (n : ℕ). number_from base line n (at + 1 + k) value) left

    module _ (s : get_or line at 0 ≡ 32) (n : at + 1 ≢ end) where
      whole : number_from base line (end - (at + 1)) (at + 1) 0 ≡ number_in base line at end
      unfolding number_in
      whole = rw (eq-eqb (get_or line at 0) 32 s, ne_eqb (at + 1) end n)

      pub ends : end ≤ at + 1 + k → value ≡ number_in base line at end
      unfolding number_from
      ends l = sym none_left ∙ h.1 ∙ whole
        where
          none_left : number_from base line (end - (at + 1 + k)) (at + 1 + k) value ≡ value
          none_left = let z : end - (at + 1 + k) ≡ 0 = omega (arith, l) in ap (λ (n : ℕ). number_from base line n (at + 1 + k) value) z

      pub fails : at + 1 + k < end → no_number ≡ extended_by base value (get_or (take (end - (at + 1)) (drop (at + 1) line)) k 0)
          → no_number ≡ number_in base line at end
      fails l e = sym (lost (end - (at + 1 + (k + 1))) (at + 1 + (k + 1))) ∙ (step no_number l e).1 ∙ whole
