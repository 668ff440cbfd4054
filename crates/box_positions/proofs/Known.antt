-- The names of a table are those known, each once; and which number a save and a forget give.
use Prim.Native.Nat.{ℕ, zero, suc, ◌≤◌, ◌<◌}
use native.Mathlib.Omega.{arith}
use native.Mathlib.Decide.{dec_lt, ℕ_discrete}
use mathlib.Core.Path.{◌≡◌, refl, sym, ap, ◌∙◌}
use mathlib.Core.Bool.{cond}
use mathlib.Core.Logic.{◌≢◌, ◌↔◌, ◌⊎◌, inl, inr, ⊎_elim}
use mathlib.Core.Option.{some, none, none-ne-some}
use mathlib.Core.List.{List, ◌∷◌, Memᴰ}
use lib.ListN.{length}
use lib.Dec.{eqb}
use borrow.Author.Tests.{eq-eqb, ne_eqb}
use Rattle.spec_base.specs.Limits.{max_positions}
use Rattle.spec_bay.specs.Names.{Once}
use Rattle.spec_bay.specs.Table.{key_in, saved_labels, lookup, number_kept, save_of, forget_of, SixteenKnown}
use Rattle.box_positions.specs.Places.{key_of, name_of, place_of, names_below, names, Formed}
use Rattle.box_positions.proofs.Lookups.{lookup-at, lookup-none, key-found, present}
use Rattle.box_positions.proofs.Once.{fewer}
use Rattle.box_positions.proofs.TableLaws.{Saving, placed, full, saving, Forgetting, known, unknown, forgetting}

-- ---- which entries are listed
module _ (t : List ℕ) where
  pub listed : (n j : ℕ) → j < n → key_in j t ≢ 0 → Memᴰ (name_of (key_in j t)) (names_below n t)
  unfolding names_below
  listed zero j w u = absurd (omega arith)
  listed (suc n) j w u =
      elim (ℕ_discrete (key_in n t) 0) [
        | yes q ↦ rw (eq-eqb (key_in n t) 0 q) (listed n j (let x : j ≢ n = λ y. u (ap (λ (m : ℕ). key_in m t) y ∙ q) in omega arith) u)
        | no q ↦ rw (ne_eqb (key_in n t) 0 q) (elim (ℕ_discrete j n) [
          | yes y ↦ mathlib.Core.List.Memᴰ.head (ap (λ (m : ℕ). name_of (key_in m t)) y)
          | no y ↦ mathlib.Core.List.Memᴰ.tail (listed n j (omega arith) u)
        ])
      ]

  abbrev Entry : (n name : ℕ) → Type 0
  Entry n name = (j : ℕ) × (j < n) × (key_in j t ≢ 0) × (name ≡ name_of (key_in j t))

  pub unlisted : (n name : ℕ) → Memᴰ name (names_below n t) → Entry n name
  unfolding names_below
  unlisted zero name h = absurd (mathlib.Core.List.Memᴰ.not-nil h)
  unlisted (suc n) name h =
      let w : Memᴰ name (cond (eqb (key_in n t) 0) (names_below n t) (name_of (key_in n t) ∷ names_below n t)) = h in
      elim (ℕ_discrete (key_in n t) 0) [
        | yes q ↦ further (unlisted n name (rw (eq-eqb (key_in n t) 0 q) at w))
        | no q ↦
            let v : Memᴰ name (name_of (key_in n t) ∷ names_below n t) = rw (ne_eqb (key_in n t) 0 q) at w in
            ⊎_elim (λ (e : name ≡ name_of (key_in n t)). (n, omega arith, q, e)) (λ m. further (unlisted n name m)) (mathlib.Core.List.Memᴰ.cases_cons v)
      ]
    where
      further : Entry n name → Entry (suc n) name
      further e = (e.0, omega (arith, e.1), e.2, e.3)

-- ---- of a table that is formed
module _ (t : List ℕ) (f : Formed t) where
  -- the key of an entry that is used
  key_back : (j : ℕ) → j < max_positions → key_in j t ≢ 0 → key_in j t ≡ key_of (name_of (key_in j t))
  key_back j l u = ⊎_elim (λ e. absurd (u e)) (λ q. omega (arith, q.2)) (f.named j l)

  pub names_known : (name : ℕ) → Memᴰ name (names t) ↔ ((labels : ℕ) × (lookup name t ≡ some labels))
  names_known name = (to, from)
    where
      to : Memᴰ name (names t) → (labels : ℕ) × (lookup name t ≡ some labels)
      to h =
          let e = unlisted t max_positions name h in
          present name t e.0 e.1 (key_back e.0 e.1 e.2 ∙ ap key_of (sym e.3))

      from : (labels : ℕ) × (lookup name t ≡ some labels) → Memᴰ name (names t)
      from h =
          elim (dec_lt (place_of name t) max_positions) [
            | yes w ↦
                let k : key_in (place_of name t) t ≡ key_of name = key-found name t w in
                let e : name ≡ name_of (key_in (place_of name t) t) = omega (arith, k) in
                mathlib.Core.List.Memᴰ.cast e (listed t max_positions (place_of name t) w (λ z. omega (arith, z, k)))
            | no w ↦ absurd (none-ne-some h.0 (sym (lookup-none name t (omega arith)) ∙ h.1))
          ]

  once-below : (n : ℕ) → n ≤ max_positions → Once (names_below n t)
  unfolding names_below
  once-below zero h = tt
  once-below (suc n) h =
      elim (ℕ_discrete (key_in n t) 0) [
        | yes q ↦ rw (eq-eqb (key_in n t) 0 q) (once-below n (omega arith))
        | no q ↦ rw (ne_eqb (key_in n t) 0 q) (alone q, once-below n (omega arith))
      ]
    where
      alone : key_in n t ≢ 0 → ¬ Memᴰ (name_of (key_in n t)) (names_below n t)
      alone q m =
          let e = unlisted t n (name_of (key_in n t)) m in
          let l : e.0 < max_positions = omega (arith, e.1, h) in
          let a : key_in n t ≡ key_of (name_of (key_in n t)) = key_back n (omega (arith, h)) q in
          let b : key_in e.0 t ≡ key_of (name_of (key_in n t)) = key_back e.0 l e.2 ∙ ap key_of (sym e.3) in
          let s : n ≡ e.0 = f.single (name_of (key_in n t)) n e.0 (omega (arith, h)) l a b in
          omega (arith, s, e.1)

  pub names-once : Once (names t)
  names-once = once-below max_positions (omega arith)

-- ---- how many
few : (n : ℕ) (t : List ℕ) → length (names_below n t) ≤ n
unfolding names_below
few zero t = omega arith
few (suc n) t =
    let r = few n t in
    elim (ℕ_discrete (key_in n t) 0) [
      | yes q ↦ rw (eq-eqb (key_in n t) 0 q) (omega (arith, r))
      | no q ↦ rw (ne_eqb (key_in n t) 0 q) (omega (arith, r))
    ]

pub at_most_16 : (t : List ℕ) → length (names t) ≤ max_positions
at_most_16 t = few max_positions t

pub all-used : (n : ℕ) (t : List ℕ) → ((j : ℕ) → j < n → key_in j t ≢ 0) → length (names_below n t) ≡ n
unfolding names_below
all-used zero t h = refl
all-used (suc n) t h = rw (ne_eqb (key_in n t) 0 (h n (omega arith))) (ap suc (all-used n t (λ j w. h j (omega arith))))

pub one_free : (n : ℕ) (t : List ℕ) (j : ℕ) → j < n → key_in j t ≡ 0 → length (names_below n t) < n
unfolding names_below
one_free zero t j w e = absurd (omega arith)
one_free (suc n) t j w e =
    elim (ℕ_discrete (key_in n t) 0) [
      | yes q ↦ rw (eq-eqb (key_in n t) 0 q) (omega (arith, few n t))
      | no q ↦
          let r = one_free n t j (let x : j ≢ n = λ y. q (ap (λ (m : ℕ). key_in m t) (sym y) ∙ e) in omega arith) e in
          rw (ne_eqb (key_in n t) 0 q) (omega (arith, r))
    ]

-- ---- the numbers
-- a seventeenth name: exactly if it is not known and 16 are
pub seventeenth : (name labels : ℕ) (t : List ℕ)
    → (number_kept (save_of name labels t) ≡ 16) ↔ ((lookup name t ≡ none) × (length (names t) ≡ max_positions))
seventeenth name labels t = (to (saving name labels t), from (saving name labels t))
  where
    to : Saving name labels t → number_kept (save_of name labels t) ≡ 16 → (lookup name t ≡ none) × (length (names t) ≡ max_positions)
    to (placed i l p w) h = absurd (let x : ◌≡◌ {A = ℕ} 0 16 = sym (ap number_kept w) ∙ h in omega arith)
    to (full u e w) h = (lookup-none name t u, all-used max_positions t e)

    from : Saving name labels t → (lookup name t ≡ none) × (length (names t) ≡ max_positions) → number_kept (save_of name labels t) ≡ 16
    from (placed i l p w) h =
        absurd (⊎_elim
        (λ e. let s = present name t i l e in none-ne-some s.0 (sym h.0 ∙ s.1))
        (λ q. omega (arith, one_free max_positions t i l q.1, h.1)) p)
    from (full u e w) h = ap number_kept w

pub sixteen_others : (name labels : ℕ) (t : List ℕ) → Formed t
    → (number_kept (save_of name labels t) ≡ 16) ↔ ((lookup name t ≡ none) × SixteenKnown t)
sixteen_others name labels t f = (to, from)
  where
    to : number_kept (save_of name labels t) ≡ 16 → (lookup name t ≡ none) × SixteenKnown t
    to h =
        let s = (seventeenth name labels t).0 h in
        (s.0, (names t, names-once t f, s.1, λ n m. (names_known t f n).0 m))

    from : (lookup name t ≡ none) × SixteenKnown t → number_kept (save_of name labels t) ≡ 16
    from h =
        let ns = h.1.0 in
        let l = fewer ns (names t) h.1.1 (λ n m. (names_known t f n).1 (h.1.3 n m)) in
        (seventeenth name labels t).1 (h.0, omega (arith, l, h.1.2, at_most_16 t))

pub save_number : (name labels : ℕ) (t : List ℕ) → (number_kept (save_of name labels t) ≡ 0) ⊎ (number_kept (save_of name labels t) ≡ 16)
save_number name labels t = go (saving name labels t)
  where
    go : Saving name labels t → (number_kept (save_of name labels t) ≡ 0) ⊎ (number_kept (save_of name labels t) ≡ 16)
    go (placed i l p w) = inl (ap number_kept w)
    go (full u e w) = inr (ap number_kept w)

-- an unknown name to forget
pub unknown_forgotten : (name : ℕ) (t : List ℕ) → (number_kept (forget_of name t) ≡ 15) ↔ (lookup name t ≡ none)
unknown_forgotten name t = (to (forgetting name t), from (forgetting name t))
  where
    to : Forgetting name t → number_kept (forget_of name t) ≡ 15 → lookup name t ≡ none
    to (known l w) h = absurd (let x : ◌≡◌ {A = ℕ} 0 15 = sym (ap number_kept w) ∙ h in omega arith)
    to (unknown l w) h = lookup-none name t l

    from : Forgetting name t → lookup name t ≡ none → number_kept (forget_of name t) ≡ 15
    from (known l w) h = absurd (none-ne-some (saved_labels (place_of name t) t) (sym h ∙ lookup-at name t (place_of name t) refl l))
    from (unknown l w) h = ap number_kept w

pub forget_number : (name : ℕ) (t : List ℕ) → (number_kept (forget_of name t) ≡ 0) ⊎ (number_kept (forget_of name t) ≡ 15)
forget_number name t = go (forgetting name t)
  where
    go : Forgetting name t → (number_kept (forget_of name t) ≡ 0) ⊎ (number_kept (forget_of name t) ≡ 15)
    go (known l w) = inl (ap number_kept w)
    go (unknown l w) = inr (ap number_kept w)
