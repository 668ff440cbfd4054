-- Laws of parts, places and exclusive places: how each statement about a part is one about the whole.
use Prim.Native.Nat.{ℕ}
use mathlib.Core.Path.{◌≡◌, refl, sym, subst, ◌∙◌}
use mathlib.Core.Bool.{true}
use mathlib.Core.List.{◌∷◌, tail-eq_of_cons-eq, head-eq_of_cons-eq}
use native.Mathlib.Omega.{arith}
use Rattle.spec_base.specs.Sets.{member}
use Rattle.spec_language.specs.Statement.{Statement, pause, setpause, par, held}
use Rattle.spec_language.specs.Places.{Part, first, second, PartOf, seq₁, seq₂, par₁, par₂, loop₁, present₁, present₂, signal₁, try₁, suspend₁, Place, At, Exclusive, Compatible}
use Rattle.spec_language.specs.States.{Holds, Distinct, NoSetpause, Source}

pub part_unique : {d : Part} {c c₂ p : Statement} → PartOf d c p → PartOf d c₂ p → c ≡ c₂
part_unique seq₁ seq₁ = refl
part_unique seq₂ seq₂ = refl
part_unique par₁ par₁ = refl
part_unique par₂ par₂ = refl
part_unique loop₁ loop₁ = refl
part_unique present₁ present₁ = refl
part_unique present₂ present₂ = refl
part_unique signal₁ signal₁ = refl
part_unique try₁ try₁ = refl
part_unique suspend₁ suspend₁ = refl

pub first≢second : first ≡ second → ⊥
first≢second e = let z : ◌≡◌ {A = ℕ} 0 1 = cc in omega arith

pub holds_in : {d : Part} {c p : Statement} (x : Statement) → PartOf d c p → Holds c x → Holds p x
holds_in {d} x i h = (d ∷ h.0, At.inside i h.1)

-- two statements that share no label of a pause
abbrev pub Disjoint : Statement → Statement → Type 0
Disjoint p q = (l : ℕ) → Holds p (pause l) → Holds q (pause l) → ⊥

pub distinct_part : {d : Part} {c p : Statement} → PartOf d c p → Distinct p → Distinct c
distinct_part {d} i h l a b x y = tail-eq_of_cons-eq (h l (d ∷ a) (d ∷ b) (At.inside i x) (At.inside i y))

pub disjoint_parts : {c c₂ p : Statement} → PartOf first c p → PartOf second c₂ p → Distinct p → Disjoint c c₂
disjoint_parts i j h l x y =
    first≢second (head-eq_of_cons-eq (h l (first ∷ x.0) (second ∷ y.0) (At.inside i x.1) (At.inside j y.1)))

pub no_setpause_part : {d : Part} {c p : Statement} → PartOf d c p → NoSetpause p → NoSetpause c
no_setpause_part i h l x = h l (holds_in (setpause l) i x)

pub source_part : {d : Part} {c p : Statement} → PartOf d c p → Source p → Source c
source_part i h s K q x = h s K q (holds_in (held s K q) i x)

-- the active pauses are pairwise compatible (the last condition of Valid)
abbrev pub Together : Statement → ℕ → Type 0
Together p L = (k l : ℕ) → member k L ≡ true → member l L ≡ true
    → (a b : Place) → At (pause k) a p → At (pause l) b p → Compatible p a b

pub together_part : {d : Part} {c p : Statement} (L : ℕ) → PartOf d c p → Together p L → Together c L
together_part {d} L i h k l x y a b u v e =
    h k l x y (d ∷ a) (d ∷ b) (At.inside i u) (At.inside i v) (Exclusive.inside i e)

pub other_heads : {d e : Part} {a b x y : Place} → first ∷ x ≡ d ∷ a → second ∷ y ≡ e ∷ b → d ≡ e → ⊥
other_heads h k e = first≢second (head-eq_of_cons-eq h ∙ e ∙ sym (head-eq_of_cons-eq k))

exclusive_at : {d : Part} {c p : Statement} {a b x y : Place} → PartOf d c p → Exclusive p x y → x ≡ d ∷ a → y ≡ d ∷ b → Exclusive c a b
exclusive_at i (Exclusive.apart t) h k = absurd (other_heads h k refl)
exclusive_at i (Exclusive.apart' t) h k = absurd (other_heads k h refl)
exclusive_at {d = d} {c = c} {p = p} {a = a} {b = b} i (Exclusive.inside {d = e} {c = c'} {a = a'} {b = b'} j x) h k =
    let m : PartOf d c' p = subst (λ (z : Part). PartOf z c' p) (head-eq_of_cons-eq h) j in
    let u : Exclusive c' a b' = subst (λ (z : Place). Exclusive c' z b') (tail-eq_of_cons-eq h) x in
    let v : Exclusive c' a b = subst (λ (z : Place). Exclusive c' a z) (tail-eq_of_cons-eq k) u in
    subst (λ (z : Statement). Exclusive z a b) (part_unique m i) v

pub exclusive_part : {d : Part} {c p : Statement} {a b : Place} → PartOf d c p → Exclusive p (d ∷ a) (d ∷ b) → Exclusive c a b
exclusive_part i x = exclusive_at i x refl refl

pub compatible-part : {d : Part} {c p : Statement} {a b : Place} → PartOf d c p → Compatible c a b → Compatible p (d ∷ a) (d ∷ b)
compatible-part i h x = h (exclusive_part i x)

pub compatible_sides : {p q : Statement} {a b : Place} → Compatible (par p q) (first ∷ a) (second ∷ b)
compatible_sides (Exclusive.apart x) = elim x [ ]

pub compatible_sides' : {p q : Statement} {a b : Place} → Compatible (par p q) (second ∷ a) (first ∷ b)
compatible_sides' (Exclusive.apart' x) = elim x [ ]
