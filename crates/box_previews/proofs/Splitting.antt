-- The fillings of a preview split at an unknown input, and one answer may stand for all of them: findings are determined by what they say of
-- every filling.
use Prim.Native.Nat.{ℕ}
use mathlib.Core.Path.{◌≡◌, refl, sym, ap, ◌∙◌, subst}
use mathlib.Core.Bool.{Bool, true, false, not, ◌&&◌, ◌||◌, or-false, and-false}
use mathlib.Core.List.{List}
use lib.Dec.{eqb}
use borrow.Author.Tests.{eqb-true, ne_eqb}
use Rattle.spec_base.specs.Sets.{member, none, join, difference, insert, remove, Subset, Disjoint}
use Rattle.sets.proofs.Booleans.{clash, Tested, tested}
use Rattle.sets.proofs.Members.{member-join, member-insert, member-difference, member-remove, in_remove, in_none, ext}
use Rattle.spec_bay.specs.declared.Findings.{Findings}
use Rattle.spec_bay.specs.Preview.{filled, found_in, both, findings}
use Rattle.theory_bay.proofs.Gathering.{Said, every-filling, findings_alike}
use Rattle.theory_bay.proofs.Alike.{same-findings}

-- ---- an input e that has no unknown signal
differ : (a b : Bool) → (a ≡ true → b ≡ false) → (a && not b) ≡ a
differ true b h = ap not (h refl)
differ false b h = refl

pub apart : (e free : ℕ) → Disjoint e free → difference e free ≡ e
apart e free d = ext (difference e free) e (λ i. member-difference i e free ∙ differ (member i e) (member i free) (d i))

-- what is left after the known signals are taken out has none of them
pub known_apart : (input unknown : ℕ) → Disjoint (difference input unknown) unknown
known_apart input unknown i h = go (member i input) (member i unknown) (sym (member-difference i input unknown) ∙ h)
  where
    go : (a b : Bool) → (a && not b) ≡ true → b ≡ false
    go a true h = clash (a && false) h (and-false a)
    go a false h = refl

pub known_findings : (answers : ℕ → List ℕ) (input unknown : ℕ) {known : ℕ} {x : Findings} → known ≡ difference input unknown → x ≡ findings answers known unknown
    → x ≡ findings answers input unknown
known_findings answers input unknown h q =
    q ∙ ap (λ (k : ℕ). findings answers k unknown) h
    ∙ findings_alike answers (difference input unknown) input unknown (apart (difference input unknown) unknown (known_apart input unknown))

module _ (answers : ℕ → List ℕ) (e free : ℕ) (d : Disjoint e free) where
  made : (f : ℕ) → filled e free f ≡ join e f
  made f = ap (λ (k : ℕ). join k f) (apart e free d)

  -- ONE FOR ALL: the answer to e is that to each filling
  pub one-for-all : ((f : ℕ) → Subset f free → answers (join e f) ≡ answers e) → findings answers e free ≡ found_in (answers e)
  one-for-all h =
      same-findings (findings answers e free) (found_in (answers e))
      (λ Says s k. subst (λ (a : List ℕ). Says (found_in a)) (ap answers (made none) ∙ h none (λ i. in_none i))
      ((every-filling s answers e free).0 k none (λ i. in_none i)))
      (λ Says s k. (every-filling s answers e free).1 (λ f m. subst (λ (a : List ℕ). Says (found_in a)) (sym (ap answers (made f) ∙ h f m)) k))

  -- SPLIT: at an unknown signal, the fillings without it and those with it
  module _ (x : ℕ) (hit : member x free ≡ true) where
    abbrev rest : ℕ
    rest = remove x free

    fewer : Subset rest free
    fewer i h = (in_remove x free i h).0

    pub apart-without : Disjoint e rest
    apart-without i h = member-remove x free i ∙ ap (λ (b : Bool). b && not (eqb x i)) (d i h)

    pub apart-with : Disjoint (insert x e) rest
    apart-with i h = member-remove x free i ∙ go (tested (eqb x i)) (sym (member-insert x e i) ∙ h)
      where
        go : Tested (eqb x i) → (member i e || eqb x i) ≡ true → (member i free && not (eqb x i)) ≡ false
        go (Tested.yes q) k = rw q (and-false (member i free))
        go (Tested.no q) k = ap (λ (b : Bool). b && not (eqb x i)) (d i (first (member i e) (eqb x i) q k))
          where
            first : (a b : Bool) → b ≡ false → (a || b) ≡ true → a ≡ true
            first true b q k = refl
            first false b q k = clash b k q

    -- a filling without x, and one with it
    made-without : (f : ℕ) → filled e rest f ≡ join e f
    made-without f = ap (λ (k : ℕ). join k f) (apart e rest apart-without)

    made-with : (f : ℕ) → filled (insert x e) rest f ≡ join (insert x e) f
    made-with f = ap (λ (k : ℕ). join k f) (apart (insert x e) rest apart-with)

    more : (f : ℕ) → Subset f rest → Subset (insert x f) free
    more f m i h = go (tested (eqb x i))
      where
        go : Tested (eqb x i) → member i free ≡ true
        go (Tested.yes q) = ap (λ (j : ℕ). member j free) (sym (eqb-true x i q)) ∙ hit
        go (Tested.no q) = fewer i (m i (sym (member-insert x f i ∙ rw q (or-false (member i f))) ∙ h))

    moved : (f : ℕ) → join e (insert x f) ≡ join (insert x e) f
    moved f =
        ext (join e (insert x f)) (join (insert x e) f)
        (λ i. member-join i e (insert x f) ∙ ap (λ (b : Bool). member i e || b) (member-insert x f i) ∙ go (member i e) (member i f) (eqb x i)
        ∙ sym (member-join i (insert x e) f ∙ ap (λ (b : Bool). b || member i f) (member-insert x e i)))
      where
        go : (a b q : Bool) → (a || (b || q)) ≡ ((a || q) || b)
        go true b q = refl
        go false true true = refl
        go false true false = refl
        go false false true = refl
        go false false false = refl

    -- a filling that has x is one more than a filling without it
    put_back : (f : ℕ) → member x f ≡ true → insert x (remove x f) ≡ f
    put_back f h =
        ext (insert x (remove x f)) f
        (λ i. member-insert x (remove x f) i ∙ ap (λ (b : Bool). b || eqb x i) (member-remove x f i) ∙ go (member i f) (eqb x i) (λ q. ap (λ (j : ℕ). member j f) (sym (eqb-true x i q)) ∙ h))
      where
        go : (a q : Bool) → (q ≡ true → a ≡ true) → ((a && not q) || q) ≡ a
        go true true k = refl
        go true false k = refl
        go false true k = sym (k refl)
        go false false k = refl

    less : (f : ℕ) → Subset f free → Subset (remove x f) rest
    less f m i h =
        let w = in_remove x f i h in
        member-remove x free i ∙ rw (m i w.0, ne_eqb x i w.1)

    lacks : (f : ℕ) → Subset f free → member x f ≡ false → Subset f rest
    lacks f m z i h =
        member-remove x free i ∙ rw (m i h, ne_eqb x i (λ q. clash (member i f) h (ap (λ (j : ℕ). member j f) (sym q) ∙ z)))

    pub split_at : findings answers e free ≡ both (findings answers e rest) (findings answers (insert x e) rest)
    split_at =
        same-findings (findings answers e free) (both (findings answers e rest) (findings answers (insert x e) rest)) there back
      where
        there : (Says : Findings → Type 0) → Said Says → Says (findings answers e free) → Says (both (findings answers e rest) (findings answers (insert x e) rest))
        there Says s k =
            let w = (every-filling s answers e free).0 k in
            s.merge (findings answers e rest) (findings answers (insert x e) rest)
            ((every-filling s answers e rest).1
            (λ f m. subst (λ (i : ℕ). Says (found_in (answers i))) (made f ∙ sym (made-without f)) (w f (λ i h. fewer i (m i h)))))
            ((every-filling s answers (insert x e) rest).1
            (λ f m. subst (λ (i : ℕ). Says (found_in (answers i))) (made (insert x f) ∙ moved f ∙ sym (made-with f)) (w (insert x f) (more f m))))

        back : (Says : Findings → Type 0) → Said Says → Says (both (findings answers e rest) (findings answers (insert x e) rest)) → Says (findings answers e free)
        back Says s k =
            let w = s.split (findings answers e rest) (findings answers (insert x e) rest) k in
            (every-filling s answers e free).1 (λ f m. go f m w.0 w.1 (tested (member x f)))
          where
            go : (f : ℕ) → Subset f free → Says (findings answers e rest) → Says (findings answers (insert x e) rest) → Tested (member x f)
                → Says (found_in (answers (filled e free f)))
            go f m a b (Tested.yes h) =
                subst (λ (i : ℕ). Says (found_in (answers i)))
                (made-with (remove x f) ∙ sym (moved (remove x f)) ∙ ap (join e) (put_back f h) ∙ sym (made f))
                ((every-filling s answers (insert x e) rest).0 b (remove x f) (less f m))
            go f m a b (Tested.no h) =
                subst (λ (i : ℕ). Says (found_in (answers i))) (made-without f ∙ sym (made f)) ((every-filling s answers e rest).0 a f (lacks f m h))
