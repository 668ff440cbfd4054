-- The number that the label rules give, from the tests of the code.
use Prim.Native.Nat.{ℕ}
use mathlib.Core.Path.{◌≡◌, sym, ap, ap₂, ◌∙◌}
use mathlib.Core.Bool.{Bool, true, false}
use mathlib.Core.Logic.{◌↔◌}
use mathlib.Core.List.{List}
use borrow.Author.Tests.{eqb-true}
use Rattle.spec_base.specs.Sets.{member, none, empty, Subset, subset}
use Rattle.sets.proofs.Members.{in_none}
use Rattle.sets.proofs.Tests.{subset-is, subset_by}
use Rattle.spec_language.specs.Statement.{Statement}
use Rattle.spec_language.specs.LabelTests.{pauses, setpauses, distinct, targeted, well_formed}
use Rattle.theory_language.proofs.LabelTests.{setpauses_is, distinct_is, wellFormed-is, no_setpause_formed}
use Rattle.layout.specs.Notes.{Noted, pausesIn, setpausesIn, twice_in}
use Rattle.spec_sequence.specs.Check.{label_rules, number_of}

-- d, s and x are what the code takes from the notes
module _ (p : Statement) (notes : List ℕ) (n : Noted p notes) {d : Bool} (ed : d ≡ empty (twice_in notes)) where
  pub eight : d ≡ false → 8 ≡ number_of (label_rules p)
  eight h = let z : distinct p ≡ false = sym n.once ∙ sym ed ∙ h in rw z

  module _ (h : d ≡ true) (s : ℕ) (es : s ≡ setpausesIn notes) where
    unique : distinct p ≡ true
    unique = sym n.once ∙ sym ed ∙ h

    pub without-setpauses : {b : Bool} → b ≡ empty s → b ≡ true → 0 ≡ number_of (label_rules p)
    without-setpauses e g =
        let z : setpauses p ≡ none = sym (es ∙ n.targeting) ∙ eqb-true s none (sym e ∙ g) in
        let t : targeted p ≡ true = (subset-is (setpauses p) (pauses p)).1 (λ i m. in_none i (ap (member i) (sym z) ∙ m)) in
        let w : well_formed p ≡ true = (wellFormed-is p ((distinct_is p).0 unique)).1
        (no_setpause_formed p (λ l m. in_none l (ap (member l) (sym z) ∙ (setpauses_is p l).1 m))) in
        rw (unique, t, w)

    module _ (x : ℕ) (ex : x ≡ pausesIn notes) {t : Bool} (et : (t ≡ true) ↔ Subset s x) where
      targeting : t ≡ targeted p
      targeting = subset_by t s x et ∙ ap₂ subset (es ∙ n.targeting) (ex ∙ n.paused)

      pub nine : t ≡ false → 9 ≡ number_of (label_rules p)
      nine g = let z : targeted p ≡ false = sym targeting ∙ g in rw (unique, z)

      module _ (g : t ≡ true) {w : Bool} (ew : x ≡ pauses p → targeted p ≡ true → w ≡ well_formed p) where
        aimed : targeted p ≡ true
        aimed = sym targeting ∙ g

        formed : w ≡ well_formed p
        formed = ew (ex ∙ n.paused) aimed

        pub sound : w ≡ true → 0 ≡ number_of (label_rules p)
        sound f = let z : targeted p ≡ true = aimed in let y : well_formed p ≡ true = sym formed ∙ f in rw (unique, z, y)

        pub ten : w ≡ false → 10 ≡ number_of (label_rules p)
        ten f = let z : targeted p ≡ true = aimed in let y : well_formed p ≡ false = sym formed ∙ f in rw (unique, z, y)
