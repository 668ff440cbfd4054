-- The loops over the rows, and what their ends tell.
use Prim.Native.Nat.{ℕ}
use mathlib.Core.Path.{◌≡◌, refl, sym, ap, ◌∙◌}
use mathlib.Core.Bool.{Bool, true, false, false≢true}
use mathlib.Core.Logic.{◌↔◌, ◌⊎◌, inl, inr, ⊎_elim}
use Rattle.spec_base.specs.Sets.{member, none, join, remove, Disjoint}
use Rattle.sets.proofs.Booleans.{or_l, or_r, or_cases, clash}
use Rattle.sets.proofs.Members.{in_none, in_l, in_r, in_join}
use Rattle.sets.proofs.Lowest.{some-common}
use Rattle.sets.proofs.Loops.{Seeking, seek, seek-on, seek-as, seek-end}
use Rattle.wellformed.specs.Clashes.{InRowOf, RowsWithin, RowsOf, Clash, ClashIf, Clashes}

pub in_row_end : (rows : ℕ → ℕ) (s k : ℕ) → ((i : ℕ) → member i s ≡ true → member k (rows i) ≡ false) → (false ≡ true) ↔ InRowOf rows s k
in_row_end rows s k f = (λ z. absurd (false≢true z), λ n. clash _ n.2 (f n.0 n.1))

-- ---- the labels of the rows of s
-- those of row l are in t
abbrev pub CoversRow : (rows : ℕ → ℕ) (t l : ℕ) → Type 0
CoversRow rows t l = (k : ℕ) → member k (rows l) ≡ true → member k t ≡ true

-- t has the labels of the rows of the labels of s that are not left, and only labels of the rows of s
pub record Gathering (rows : ℕ → ℕ) (s left t : ℕ) : Type 0 where
  pub covers : Seeking (CoversRow rows t) s left
  pub stands : (k : ℕ) → member k t ≡ true → InRowOf rows s k

pub gather : (rows : ℕ → ℕ) (s t : ℕ) → t ≡ none → Gathering rows s s t
gather rows s t e = record { covers = seek (CoversRow rows t) s; stands = λ k m. in_none k (sym (ap (member k) e) ∙ m) }

module _ (rows : ℕ → ℕ) (s left t : ℕ) (f : Gathering rows s left t) where
  pub gather-on : (l r next more : ℕ) → member l s ≡ true → r ≡ rows l → more ≡ join t r → next ≡ remove l left → Gathering rows s next more
  gather-on l r next more h er em en =
      record {
        covers = seek-on (CoversRow rows more) s left
            (seek-as (CoversRow rows t) s left f.covers (CoversRow rows more) (λ i h k m. ap (member k) em ∙ in_l k t r (h k m)))
            l next en (λ k m. ap (member k) em ∙ in_r k t r (ap (member k) er ∙ m));
        stands = λ k m. ⊎_elim (f.stands k) (λ x. (l, h, sym (ap (member k) er) ∙ x)) (in_join k t r (sym (ap (member k) em) ∙ m));
      }

  pub gather-end : left ≡ none → RowsOf rows s t
  gather-end e k = (f.stands k, λ x. seek-end (CoversRow rows t) s left f.covers e x.0 x.1 k x.2)

-- ---- a clash of one label
module _ (exclusive concurrent : ℕ → ℕ) (P : Type 0) (s k r : ℕ) (es : s ≡ concurrent k) (er : r ≡ exclusive k) where
  beside : (l : ℕ) → member l (concurrent k) ≡ true → member l s ≡ true
  beside l m = ap (member l) es ∙ m

  -- none in the row of k itself
  apart {ℓ} : {A : Type ℓ} → Disjoint s r → (l : ℕ) → member l (concurrent k) ≡ true → member l (exclusive k) ≡ true → A
  apart d l m h = clash _ h (ap (member l) (sym er) ∙ d l (beside l m))

  pub clash-by : (t : Bool) → Disjoint s r → P → (t ≡ true) ↔ InRowOf exclusive s k → (t ≡ true) ↔ ClashIf exclusive concurrent P k
  clash-by t d p n = (
    λ h. let x = n.0 h in (x.0, ap (member x.0) (sym es) ∙ x.1, inr (p, x.2)),
    λ x. ⊎_elim (apart d x.0 x.1) (λ h. n.1 (x.0, beside x.0 x.1, h.1)) x.2,
  )

  pub no-clash : Disjoint s r → (P → ⊥) → (false ≡ true) ↔ ClashIf exclusive concurrent P k
  no-clash d f = (λ z. absurd (false≢true z), λ x. ⊎_elim (apart d x.0 x.1) (λ h. absurd (f h.0)) x.2)

pub clash_at : (exclusive concurrent : ℕ → ℕ) (P : Type 0) (s k r : ℕ) (t : Bool) → s ≡ concurrent k → r ≡ exclusive k → (t ≡ true) ↔ Disjoint s r → t ≡ false
    → (true ≡ true) ↔ ClashIf exclusive concurrent P k
clash_at exclusive concurrent P s k r t es er d h = (
  λ _. let x = some-common s r (λ g. clash _ (d.1 g) h) in
      (x.0, ap (member x.0) (sym es) ∙ x.1, inl (ap (member x.0) (sym er) ∙ x.2)),
  λ _. refl,
)

-- ---- a clash of some label
clash_as : (exclusive concurrent : ℕ → ℕ) (P Q : Type 0) (k : ℕ) → (P → Q) → ClashIf exclusive concurrent P k → ClashIf exclusive concurrent Q k
clash_as exclusive concurrent P Q k f x = (x.0, x.1, ⊎_elim inl (λ h. inr (f h.0, h.1)) x.2)

abbrev pub Clear : (exclusive concurrent : ℕ → ℕ) (all k : ℕ) → Type 0
Clear exclusive concurrent all k = ClashIf exclusive concurrent (member k all ≡ true) k → ⊥

module _ (exclusive concurrent : ℕ → ℕ) (s all : ℕ) (rows : RowsOf exclusive s all) where
  pub clash-found : (k : ℕ) → member k s ≡ true → ClashIf exclusive concurrent (member k all ≡ true) k → Clashes exclusive concurrent s true
  clash-found k m x = (λ _. (k, m, clash_as exclusive concurrent (member k all ≡ true) (InRowOf exclusive s k) k (rows k).0 x), λ _. refl)

  pub clear-end : (left : ℕ) → Seeking (Clear exclusive concurrent all) s left → left ≡ none → Clashes exclusive concurrent s false
  clear-end left f e = (
    λ z. absurd (false≢true z),
    λ x. absurd (seek-end (Clear exclusive concurrent all) s left f e x.0 x.1
        (clash_as exclusive concurrent (InRowOf exclusive s x.0) (member x.0 all ≡ true) x.0 (rows x.0).1 x.2)),
  )

-- if only labels of s have a row, the answer is about all labels
pub clashes_of_all : (exclusive concurrent : ℕ → ℕ) (s : ℕ) (r : Bool) → RowsWithin exclusive s → RowsWithin concurrent s
    → Clashes exclusive concurrent s r → (r ≡ true) ↔ ((k : ℕ) × Clash exclusive concurrent k)
clashes_of_all exclusive concurrent s r g h f = (
  λ e. let x = f.0 e in (x.0, to x.0 x.2),
  λ x. f.1 (x.0, h x.0 x.1.0 x.1.1, from x.0 x.1),
)
  where
    to : (k : ℕ) → ClashIf exclusive concurrent (InRowOf exclusive s k) k → Clash exclusive concurrent k
    to k x = (
      x.0,
      x.1,
      ⊎_elim (or_l (member x.0 (exclusive k)) (member k (exclusive x.0)))
          (λ y. or_r (member x.0 (exclusive k)) (member k (exclusive x.0)) y.1) x.2,
    )

    from : (k : ℕ) → Clash exclusive concurrent k → ClashIf exclusive concurrent (InRowOf exclusive s k) k
    from k x = (
      x.0,
      x.1,
      ⊎_elim inl (λ m. inr ((x.0, g x.0 k m, m), m)) (or_cases (member x.0 (exclusive k)) (member k (exclusive x.0)) x.2),
    )
