-- What is said of every filling, and what stays said when more is known.
use Prim.Native.Nat.{ℕ}
use mathlib.Core.Path.{◌≡◌, refl, sym, ap, ap₂, ◌∙◌, subst}
use native.Mathlib.Decide.{ℕ_discrete}
use mathlib.Core.Logic.{◌≢◌, ◌↔◌, ◌⊎◌, inl, inr, ⊎_elim}
use mathlib.Core.Bool.{Bool, true, false, not, ◌&&◌, ◌||◌, cond, and-eq-true_iff, true≢false, or-false, and-true}
use mathlib.Core.List.Memᴰ
use mathlib.Core.List.{List, [], ◌∷◌, Memᴰ}
use lib.Dec.{eqb}
use borrow.Author.Tests.{eq-eqb, eqb-true, ne_eqb}
use Rattle.spec_base.specs.Sets.{member, none, join, common, difference, insert, remove, Subset}
use Rattle.spec_base.specs.Subsets.{subsets_below}
use Rattle.sets.proofs.Booleans.{or_first, or_second, clash}
use Rattle.sets.proofs.Members.{member-join, member-common, member-none, member-insert, member-difference, member-remove, ext}
use Rattle.sets.proofs.Subsets.{subsets-are}
use Rattle.spec_bay.specs.declared.Findings.{Findings}
use Rattle.spec_bay.specs.Preview.{filled, openCode, found_in, shared_by, both, gathered, findings, Learned}

-- ---- something that two findings together say exactly if each does
pub record Said (Says : Findings → Type 0) : Type 0 where
  pub split : (x y : Findings) → Says (both x y) → Says x × Says y
  pub merge : (x y : Findings) → Says x → Says y → Says (both x y)

module _ {Says : Findings → Type 0} (s : Said Says) (answers : ℕ → List ℕ) (input unknown : ℕ) where
  abbrev one : ℕ → Findings
  one f = found_in (answers (filled input unknown f))

  from-gathered : (fs : List ℕ) (x : Findings) → Says (gathered answers input unknown x fs)
      → Says x × ((f : ℕ) → Memᴰ f fs → Says (one f))
  unfolding gathered
  from-gathered [] x h = (h, λ f m. absurd (Memᴰ.not-nil m))
  from-gathered (g ∷ fs) x h =
      let i = from-gathered fs (both x (one g)) h in
      let j = s.split x (one g) i.0 in
      (j.0, λ f m. ⊎_elim (λ e. subst (λ (y : ℕ). Says (one y)) (sym e) j.1) (λ t. i.1 f t) (Memᴰ.cases_cons m))

  to-gathered : (fs : List ℕ) (x : Findings) → Says x → ((f : ℕ) → Memᴰ f fs → Says (one f))
      → Says (gathered answers input unknown x fs)
  unfolding gathered
  to-gathered [] x h k = h
  to-gathered (g ∷ fs) x h k =
      to-gathered fs (both x (one g)) (s.merge x (one g) h (k g (Memᴰ.head refl))) (λ f m. k f (Memᴰ.tail m))

  -- EVERY FILLING: said of the preview exactly if of each
  pub every-filling : Says (findings answers input unknown) ↔ ((f : ℕ) → Subset f unknown → Says (one f))
  unfolding findings
  every-filling = (
    λ h f m. let i = from-gathered (subsets_below unknown unknown unknown) (one unknown) h in
        ⊎_elim (λ e. subst (λ (y : ℕ). Says (one y)) (sym e) i.0) (λ t. i.1 f t) (Memᴰ.cases_cons ((subsets-are unknown f).1 m)),
    λ h. to-gathered (subsets_below unknown unknown unknown) (one unknown) (h unknown ((subsets-are unknown unknown).0 (Memᴰ.head refl)))
        (λ f m. h f ((subsets-are unknown f).0 (Memᴰ.tail m))),
  )

-- ---- four such things
abbrev pub Emits : (i : ℕ) → Findings → Type 0
Emits i x = member i x.every ≡ true

abbrev pub Misses : (i : ℕ) → Findings → Type 0
Misses i x = member i x.some ≡ false

abbrev pub Right : Findings → Type 0
Right x = x.wrong ≡ false

abbrev pub Shares : (k : ℕ) → Findings → Type 0
Shares k x = x.code ≡ k

pub emits : (i : ℕ) → Said (Emits i)
unfolding both
emits i =
    record {
      split = λ x y h. (and-eq-true_iff (member i x.every) (member i y.every)).0 (sym (member-common i x.every y.every) ∙ h);
      merge = λ x y a b. member-common i x.every y.every ∙ ap₂ ◌&&◌ a b;
    }

pub misses : (i : ℕ) → Said (Misses i)
unfolding both
misses i =
    record {
      split = λ x y h. let e = sym (member-join i x.some y.some) ∙ h in
          (or_first (member i x.some) (member i y.some) e, or_second (member i x.some) (member i y.some) e);
      merge = λ x y a b. member-join i x.some y.some ∙ ap₂ ◌||◌ a b;
    }

pub right : Said Right
unfolding both
right = record { split = λ x y h. (or_first x.wrong y.wrong h, or_second x.wrong y.wrong h); merge = λ x y a b. ap₂ ◌||◌ a b }

shared_split : (k a b : ℕ) → k ≢ openCode → shared_by a b ≡ k → (a ≡ k) × (b ≡ k)
shared_split k a b z h = go (eqb a b) refl h
  where
    go : (t : Bool) → eqb a b ≡ t → cond t a openCode ≡ k → (a ≡ k) × (b ≡ k)
    go true e q = (q, sym (eqb-true a b e) ∙ q)
    go false e q = absurd (z (sym q))

pub shares : (k : ℕ) → k ≢ openCode → Said (Shares k)
unfolding both
shares k z =
    record {
      split = λ x y h. shared_split k x.code y.code z h;
      merge = λ x y a b. rw (eq-eqb x.code y.code (a ∙ sym b)) a;
    }

-- ---- a filling that shows it: one that is wrong, and one whose code is another
module _ (answers : ℕ → List ℕ) (input unknown : ℕ) where
  abbrev of-filling : ℕ → Findings
  of-filling f = found_in (answers (filled input unknown f))

  wrong-gathered : (fs : List ℕ) (x : Findings) → (gathered answers input unknown x fs).wrong ≡ true
      → (x.wrong ≡ true) ⊎ ((f : ℕ) × Memᴰ f fs × ((of-filling f).wrong ≡ true))
  unfolding gathered both
  wrong-gathered [] x h = inl h
  wrong-gathered (g ∷ fs) x h =
      ⊎_elim (λ w. go x.wrong (of-filling g).wrong refl refl w) (λ r. inr (r.0, Memᴰ.tail r.1, r.2))
      (wrong-gathered fs (both x (of-filling g)) h)
    where
      go : (a b : Bool) → x.wrong ≡ a → (found_in (answers (filled input unknown g))).wrong ≡ b → (a || b) ≡ true
          → (x.wrong ≡ true) ⊎ ((f : ℕ) × Memᴰ f (g ∷ fs) × ((found_in (answers (filled input unknown f))).wrong ≡ true))
      go true b i j w = inl i
      go false true i j w = inr (g, Memᴰ.head refl, j)
      go false false i j w = absurd (true≢false (sym w))

  pub wrong-filling : (findings answers input unknown).wrong ≡ true → (f : ℕ) × Subset f unknown × ((of-filling f).wrong ≡ true)
  unfolding findings
  wrong-filling h =
      ⊎_elim (λ w. (unknown, (subsets-are unknown unknown).0 (Memᴰ.head refl), w))
      (λ r. (r.0, (subsets-are unknown r.0).0 (Memᴰ.tail r.1), r.2))
      (wrong-gathered (subsets_below unknown unknown unknown) (of-filling unknown) h)

  open-gathered : (fs : List ℕ) (x : Findings) → x.code ≢ openCode → (gathered answers input unknown x fs).code ≡ openCode
      → (f : ℕ) × Memᴰ f fs × ((of-filling f).code ≢ x.code)
  unfolding gathered both
  open-gathered [] x z h = absurd (z h)
  open-gathered (g ∷ fs) x z h =
      elim (ℕ_discrete x.code (of-filling g).code) [
        | yes q ↦
            let k : (both x (of-filling g)).code ≡ x.code = rw (eq-eqb x.code (of-filling g).code q) in
            let r = open-gathered fs (both x (of-filling g)) (λ y. z (sym k ∙ y)) h in
            (r.0, Memᴰ.tail r.1, λ y. r.2 (y ∙ sym k))
        | no q ↦ (g, Memᴰ.head refl, λ y. q (sym y))
      ]

  pub open-filling : (of-filling unknown).code ≢ openCode → (findings answers input unknown).code ≡ openCode
      → (f : ℕ) × Subset f unknown × ((of-filling f).code ≢ (of-filling unknown).code)
  unfolding findings
  open-filling z h =
      let r = open-gathered (subsets_below unknown unknown unknown) (of-filling unknown) z h in
      (r.0, (subsets-are unknown r.0).0 (Memᴰ.tail r.1), r.2)

  -- a set is one of its own subsets
  pub all_present : Subset unknown unknown
  all_present = (subsets-are unknown unknown).0 (Memᴰ.head refl)

-- ---- more is known
not_in : (a b : Bool) → (a ≡ true → b ≡ true) → b ≡ false → a ≡ false
not_in true b h e = absurd (true≢false (sym (h refl) ∙ e))
not_in false b h e = refl

-- one input, by its digits: I, U and I', U' and f'
digit : (I U I' U' f : Bool) → (U' ≡ true → U ≡ true) → (f ≡ true → U' ≡ true) → (U ≡ false → I ≡ I')
    → ((I && not U) || (((I' && not U') || f) && U)) ≡ ((I' && not U') || f)
digit I true I' U' f a b c = go I ((I' && not U') || f)
  where
    go : (I x : Bool) → ((I && false) || (x && true)) ≡ x
    go true true = refl
    go true false = refl
    go false true = refl
    go false false = refl
digit I false I' U' f a b c =
    let u : U' ≡ false = not_in U' false a refl in
    let g : f ≡ false = not_in f U' b u in
    rw (u, g, c refl) (go I')
  where
    go : (x : Bool) → ((x && true) || (((x && true) || false) && false)) ≡ ((x && true) || false)
    go true = refl
    go false = refl

pub member-filled : (i input unknown f : ℕ) → member i (filled input unknown f) ≡ ((member i input && not (member i unknown)) || member i f)
member-filled i input unknown f =
    member-join i (difference input unknown) f ∙ ap (λ (b : Bool). b || member i f) (member-difference i input unknown)

pub within : (e unknown : ℕ) → Subset (common e unknown) unknown
within e unknown i h = ((and-eq-true_iff (member i e) (member i unknown)).0 (sym (member-common i e unknown) ∙ h)).1

module _ {input unknown input' unknown' : ℕ} (l : Learned input unknown input' unknown') where
  -- a filling of the one is a filling of the other
  among : (f : ℕ) → Subset f unknown' → filled input unknown (common (filled input' unknown' f) unknown) ≡ filled input' unknown' f
  among f h =
      let e = filled input' unknown' f in
      ext (filled input unknown (common e unknown)) e
      (λ i. member-filled i input unknown (common e unknown)
      ∙ ap (λ (b : Bool). (member i input && not (member i unknown)) || b)
      (member-common i e unknown ∙ ap (λ (b : Bool). b && member i unknown) (member-filled i input' unknown' f))
      ∙ digit (member i input) (member i unknown) (member i input') (member i unknown') (member i f) (l.fewer i) (h i) (l.kept i)
      ∙ sym (member-filled i input' unknown' f))

  -- LEARNING keeps what was said
  pub learned : {Says : Findings → Type 0} → Said Says → (answers : ℕ → List ℕ)
      → Says (findings answers input unknown) → Says (findings answers input' unknown')
  learned {Says} s answers h =
      (every-filling s answers input' unknown').1
      (λ f m. subst (λ (e : ℕ). Says (found_in (answers e))) (among f m)
      ((every-filling s answers input unknown).0 h (common (filled input' unknown' f) unknown) (within (filled input' unknown' f) unknown)))

-- one more status: b of u
pub learned_one : (input unknown u : ℕ) (b : Bool) → member u unknown ≡ true
    → Learned input unknown (cond b (insert u input) (remove u input)) (remove u unknown)
learned_one input unknown u b h =
    record {
      fewer = λ i e. ((and-eq-true_iff (member i unknown) (not (eqb u i))).0 (sym (member-remove u unknown i) ∙ e)).0;
      kept = λ i e. go i b (ne_eqb u i (λ q. clash (member u unknown) h (ap (λ (j : ℕ). member j unknown) q ∙ e)));
    }
  where
    go : (i : ℕ) (b : Bool) → eqb u i ≡ false → member i input ≡ member i (cond b (insert u input) (remove u input))
    go i true q = sym (member-insert u input i ∙ ap (λ (x : Bool). member i input || x) q ∙ or-false (member i input))
    go i false q = sym (member-remove u input i ∙ ap (λ (x : Bool). member i input && not x) q ∙ and-true (member i input))

-- ---- the status given for an unknown input
pub gathered_alike : (answers : ℕ → List ℕ) (input input' unknown : ℕ) → difference input unknown ≡ difference input' unknown
    → (fs : List ℕ) (x : Findings) → gathered answers input unknown x fs ≡ gathered answers input' unknown x fs
unfolding gathered
gathered_alike answers input input' unknown e [] x = refl
gathered_alike answers input input' unknown e (f ∷ fs) x =
    ap (λ (d : ℕ). gathered answers input unknown (both x (found_in (answers (join d f)))) fs) e
    ∙ gathered_alike answers input input' unknown e fs (both x (found_in (answers (filled input' unknown f))))

pub findings_alike : (answers : ℕ → List ℕ) (input input' unknown : ℕ) → difference input unknown ≡ difference input' unknown
    → findings answers input unknown ≡ findings answers input' unknown
unfolding findings
findings_alike answers input input' unknown e =
    ap (λ (d : ℕ). gathered answers input unknown (found_in (answers (join d unknown))) (subsets_below unknown unknown unknown)) e
    ∙ gathered_alike answers input input' unknown e (subsets_below unknown unknown unknown) (found_in (answers (filled input' unknown unknown)))

-- ---- nothing unknown
pub filled_none : (input : ℕ) → filled input none none ≡ input
filled_none input =
    ext (filled input none none) input
    (λ i. member-filled i input none none ∙ ap (λ (b : Bool). (member i input && not b) || b) (member-none i) ∙ go (member i input))
  where
    go : (a : Bool) → ((a && true) || false) ≡ a
    go true = refl
    go false = refl

pub findings-none : (answers : ℕ → List ℕ) (input : ℕ) → findings answers input none ≡ found_in (answers input)
unfolding findings gathered subsets_below none
findings-none answers input = ap (λ (e : ℕ). found_in (answers e)) (filled_none input)

-- ---- the input that then really comes is one of the fillings
module _ (input unknown e : ℕ) (h : (i : ℕ) → member i unknown ≡ false → member i input ≡ member i e) where
  pub as-filled : filled input unknown (common e unknown) ≡ e
  as-filled =
      let l : Learned input unknown e none = record { fewer = λ i m. clash (member i none) m (member-none i); kept = h } in
      ap (λ (x : ℕ). filled input unknown (common x unknown)) (sym (filled_none e)) ∙ among l none (λ i m. m) ∙ filled_none e
