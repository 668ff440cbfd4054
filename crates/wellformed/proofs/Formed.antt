-- Row 10 of a statement, from the clashes in its rows.
use Prim.Native.Nat.{ℕ}
use mathlib.Core.Path.{◌≡◌, refl, sym, ap, ap₂, ◌∙◌}
use mathlib.Core.Bool.{Bool, true, false, not, ◌||◌, true≢false}
use mathlib.Core.Logic.{◌↔◌}
use mathlib.Core.List.{List}
use Rattle.spec_base.specs.Sets.{member}
use Rattle.sets.proofs.Booleans.{never}
use Rattle.spec_language.specs.Statement.{Statement}
use Rattle.spec_language.specs.LabelTests as Esterel
use Rattle.spec_language.specs.LabelTests.{pauses, targeted, exclusive_with, concurrent_with, well_formed}
use Rattle.theory_language.proofs.LabelTests.{rivals_paused, aside_paused, unmixed_is}
use Rattle.labels.specs.declared.Labels.{Labels}
use Rattle.wellformed.specs.Rows.{row_of}
use Rattle.wellformed.specs.Clashes.{RowsWithin, Clash, Clashes}
use Rattle.wellformed.proofs.Clashes.{clashes_of_all}

module _ (p : Statement) (exclusive concurrent : List Labels) (er : (k : ℕ) → row_of exclusive k ≡ exclusive_with p k) (es : (k : ℕ) → row_of concurrent k ≡ concurrent_with p k) where
  pair_is : (k l : ℕ) → (member l (row_of exclusive k) || member k (row_of exclusive l)) ≡ Esterel.exclusive p k l
  pair_is k l = ap₂ (λ (a b : ℕ). member l a || member k b) (er k) (er l)

  -- a label without a pause has no row, if row 9 does not hold
  module _ (s : ℕ) (e : s ≡ pauses p) (h : targeted p ≡ true) where
    rivals-within : RowsWithin (row_of exclusive) s
    rivals-within l k m = ap (member l) e ∙ rivals_paused p l k (sym (ap (member k) (er l)) ∙ m)

    asides-within : RowsWithin (row_of concurrent) s
    asides-within l k m = ap (member l) e ∙ aside_paused p l k h (sym (ap (member k) (es l)) ∙ m)

    by-clashes : (m : Bool) → (m ≡ true) ↔ ((k : ℕ) × Clash (row_of exclusive) (row_of concurrent) k) → not m ≡ well_formed p
    by-clashes true f =
        sym (never (well_formed p)
        (λ w. let x = f.0 refl in
        (unmixed_is p).0 w x.0 x.1.0 (ap (member x.1.0) (sym (es x.0)) ∙ x.1.1) (sym (pair_is x.0 x.1.0) ∙ x.1.2)))
    by-clashes false f =
        sym ((unmixed_is p).1 (λ k l a x. true≢false (sym (f.1 (k, (l, ap (member l) (es k) ∙ a, pair_is k l ∙ x))))))

    pub formed-is : (m : Bool) → Clashes (row_of exclusive) (row_of concurrent) s m → not m ≡ well_formed p
    formed-is m f = by-clashes m (clashes_of_all (row_of exclusive) (row_of concurrent) s m rivals-within asides-within f)
