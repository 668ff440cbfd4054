-- Row 11 from the tests of the code.
use Prim.Native.Nat.{ℕ}
use mathlib.Core.Path.{◌≡◌, sym, ap, ◌∙◌}
use mathlib.Core.Bool.{Bool, true, false}
use mathlib.Core.Logic.{◌↔◌}
use lib.Dec.{eqb}
use Rattle.spec_base.specs.Sets.{none, empty, Subset, subset}
use Rattle.sets.proofs.Tests.{subset_by}
use Rattle.spec_language.specs.Statement.{Statement}
use Rattle.spec_language.specs.LabelTests.{pauses, valid}
use Rattle.theory_language.specs.Ranks.{mask, compatible}
use Rattle.theory_language.proofs.Compatible.{valid_by}

module _ (p : Statement) (L : ℕ) where
  pub none-invalid : {b : Bool} → b ≡ empty L → b ≡ true → valid p L ≡ false
  none-invalid e h = let z : eqb L none ≡ true = sym e ∙ h in valid_by 0 p L ∙ rw z

  module _ {b : Bool} (e : b ≡ empty L) (h : b ≡ false) (paused : ℕ) (ep : paused ≡ pauses p) {i : Bool} (s : (i ≡ true) ↔ Subset L paused) where
    inside : i ≡ subset L (pauses p)
    inside = subset_by i L paused s ∙ ap (subset L) ep

    pub outside-invalid : i ≡ false → valid p L ≡ false
    outside-invalid g = let z : eqb L none ≡ false = sym e ∙ h in let y : subset L (pauses p) ≡ false = sym inside ∙ g in valid_by 0 p L ∙ rw (z, y)

    pub valid-is : i ≡ true → {m : ℕ} {c : Bool} → m ≡ mask 0 p L → c ≡ compatible 0 p m → valid p L ≡ c
    valid-is g {m} {c} em ec =
        let z : eqb L none ≡ false = sym e ∙ h in
        let y : subset L (pauses p) ≡ true = sym inside ∙ g in
        valid_by 0 p L ∙ rw (z, y) (sym (ec ∙ ap (compatible 0 p) em))
