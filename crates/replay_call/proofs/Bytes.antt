-- Two lists are the same exactly if they are equal.
use Prim.Native.Nat.{ℕ}
use native.Mathlib.Decide.{ℕ_discrete}
use mathlib.Core.Path.{◌≡◌, refl, sym, ap, ap₂, ◌∙◌, subst}
use mathlib.Core.Bool.{Bool, true, false, ◌&&◌}
use mathlib.Core.List.{List, [], ◌∷◌}
use borrow.Author.Tests.{eq-eqb, ne_eqb}
use Rattle.std.specs.Bool.{Decides}
use Rattle.spec_replay.specs.Replay.{same}

same_itself : (x : List ℕ) → true ≡ same x x
unfolding same
same_itself [] = refl
same_itself (a ∷ x) = same_itself x ∙ ap (λ (c : Bool). c && same x x) (sym (eq-eqb a a refl))

pub same_apart : (x y : List ℕ) → (x ≡ y → ⊥) → false ≡ same x y
unfolding same
same_apart [] [] n = absurd (n refl)
same_apart [] (b ∷ y) n = refl
same_apart (a ∷ x) [] n = refl
same_apart (a ∷ x) (b ∷ y) n =
    elim (ℕ_discrete a b) [
      | yes e ↦ same_apart x y (λ q. n (ap₂ (λ (c : ℕ) (l : List ℕ). c ∷ l) e q)) ∙ ap (λ (c : Bool). c && same x y) (sym (eq-eqb a b e))
      | no m ↦ ap (λ (c : Bool). c && same x y) (sym (ne_eqb a b m))
    ]

pub same_decided : (x y : List ℕ) (r : Bool) → Decides r (x ≡ y) → r ≡ same x y
same_decided x y true d = subst (λ (z : List ℕ). true ≡ same x z) (d.0 refl) (same_itself x)
same_decided x y false d = same_apart x y (λ e. let z : false ≡ true = d.1 e in absurd cc)
