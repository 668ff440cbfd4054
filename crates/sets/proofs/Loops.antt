-- A loop over the members of a set, the lowest first.
use Prim.Native.Nat.{ℕ, ◌<◌}
use mathlib.Core.Path.{◌≡◌, refl, sym, ap, ◌∙◌, subst}
use mathlib.Core.Bool.{Bool, true, false, not, ◌&&◌, true≢false}
use mathlib.Core.Logic.{◌⊎◌, inl, inr, ⊎_elim}
use native.Mathlib.Omega.{arith}
use lib.Dec.{eqb}
use borrow.Author.Tests.{eqb-true, eqb-false, not-true, not-false}
use Rattle.spec_base.specs.Sets.{member, none, remove}
use Rattle.spec_base.specs.Widths.{Lowest}
use Rattle.sets.proofs.Booleans.{clash}
use Rattle.sets.proofs.Members.{member-none, member-remove, in_remove}
use Rattle.sets.proofs.Lowest.{remove_less}

-- the loop's test, b saying that the set is empty
pub some_left : {b : Bool} {s : ℕ} → b ≡ eqb s none → not b ≡ true → s ≡ none → ⊥
some_left {b} {s} e h = eqb-false s none (sym e ∙ not-true b h)

pub none_left : {b : Bool} {s : ℕ} → b ≡ eqb s none → not b ≡ false → s ≡ none
none_left {b} {s} e h = eqb-true s none (sym e ∙ not-false b h)

-- of the members of s that are not left, P holds
pub record Seeking (P : ℕ → Type 0) (s left : ℕ) : Type 0 where
  pub within : (i : ℕ) → member i left ≡ true → member i s ≡ true
  pub passed : (i : ℕ) → member i s ≡ true → member i left ≡ false → P i

pub seek : (P : ℕ → Type 0) (s : ℕ) → Seeking P s s
seek P s = record { within = λ i h. h; passed = λ i h g. clash (member i s) h g }

gone : (a b : Bool) → (a && not b) ≡ false → (a ≡ false) ⊎ (b ≡ true)
gone true true h = inr refl
gone true false h = absurd (true≢false h)
gone false b h = inl refl

module _ (P : ℕ → Type 0) (s left : ℕ) (f : Seeking P s left) where
  pub seek-on : (l next : ℕ) → next ≡ remove l left → P l → Seeking P s next
  seek-on l next e h =
      subst (Seeking P s) (sym e)
      (record {
        within = λ i g. f.within i (in_remove l left i g).0;
        passed = λ i g z. ⊎_elim (f.passed i g) (λ q. subst P (eqb-true l i q) h)
            (gone (member i left) (eqb l i) (sym (member-remove l left i) ∙ z));
      })

  pub seek-as : (Q : ℕ → Type 0) → ((i : ℕ) → P i → Q i) → Seeking Q s left
  seek-as Q h = record { within = f.within; passed = λ i g z. h i (f.passed i g z) }

  pub seek-end : left ≡ none → (i : ℕ) → member i s ≡ true → P i
  seek-end e i h = f.passed i h (ap (member i) e ∙ member-none i)

  module _ (w l : ℕ) (low : Lowest w left l) (g : left ≡ none → ⊥) where
    pub seek-less : (next : ℕ) → next ≡ remove l left → next < left
    seek-less next e = omega (arith, remove_less l left (low.found g))

    pub seek_hit : member l s ≡ true
    seek_hit = f.within l (low.found g)
