-- Findings are determined by what they say of every filling, so a read-back signal among the unknown inputs changes no byte.
use Prim.Native.Nat.{ℕ}
use native.Mathlib.Decide.{ℕ_discrete}
use mathlib.Core.Path.{◌≡◌, refl, sym, ap, ap₂, ◌∙◌, subst}
use mathlib.Core.Bool.{Bool, true, false, not, ◌&&◌, ◌||◌}
use mathlib.Core.List.{List}
use Rattle.spec_base.specs.Sets.{member, common, Subset}
use Rattle.sets.proofs.Booleans.{same_test}
use Rattle.sets.proofs.Members.{member-common, ext}
use Rattle.spec_tick.specs.Plain.{SameOutside}
use Rattle.theory_tick.proofs.ReadBack.{reply-unread}
use Rattle.spec_bay.specs.declared.Findings.{Findings}
use Rattle.spec_bay.specs.Preview.{filled, openCode, found_in, findings, preview_bytes, answer_in, answers_of}
use Rattle.theory_bay.proofs.Gathering.{Said, Emits, Misses, Right, Shares, every-filling, emits, misses, right, shares, member-filled, within}

same_false : (a b : Bool) → (a ≡ false → b ≡ false) → (b ≡ false → a ≡ false) → a ≡ b
same_false false b f g = sym (f refl)
same_false true false f g = g refl
same_false true true f g = refl

-- ---- two findings of which the same is said
module _ (x y : Findings) (there : (Says : Findings → Type 0) → Said Says → Says x → Says y)
    (back : (Says : Findings → Type 0) → Said Says → Says y → Says x) where
  same-every : x.every ≡ y.every
  same-every =
      ext x.every y.every (λ i. same_test (member i x.every) (member i y.every) (there (Emits i) (emits i)) (back (Emits i) (emits i)))

  same_some : x.some ≡ y.some
  same_some =
      ext x.some y.some (λ i. same_false (member i x.some) (member i y.some) (there (Misses i) (misses i)) (back (Misses i) (misses i)))

  same-wrong : x.wrong ≡ y.wrong
  same-wrong = same_false x.wrong y.wrong (there Right right) (back Right right)

  same_code : x.code ≡ y.code
  same_code =
      elim (ℕ_discrete y.code openCode) [
        | no n ↦ back (Shares y.code) (shares y.code n) refl
        | yes e ↦ elim (ℕ_discrete x.code openCode) [
          | no n ↦ sym (there (Shares x.code) (shares x.code n) refl)
          | yes d ↦ d ∙ sym e
        ]
      ]

  pub same-findings : x ≡ y
  same-findings = λ i. record { every = same-every i; some = same_some i; wrong = same-wrong i; code = same_code i }

-- ---- inputs and unknown sets that agree on every signal that is not read back
digit : (I U f : Bool) → (f ≡ true → U ≡ true) → ((I && not U) || f) ≡ ((I && not U) || (f && U))
digit I U true h = ap (λ (b : Bool). (I && not U) || b) (sym (h refl))
digit I U false h = refl

module _ (sequence state : List ℕ) (read_back input unknown input' unknown' : ℕ)
    (hi : SameOutside read_back input input') (hu : SameOutside read_back unknown unknown') where
  -- a filling of the one and its part in the other
  alike : (f : ℕ) → Subset f unknown → SameOutside read_back (filled input unknown f) (filled input' unknown' (common f unknown'))
  alike f h i n =
      member-filled i input unknown f
      ∙ digit (member i input) (member i unknown) (member i f) (h i)
      ∙ ap₂ (λ (a b : Bool). (a && not b) || (member i f && b)) (hi i n) (hu i n)
      ∙ sym (member-filled i input' unknown' (common f unknown')
      ∙ ap (λ (b : Bool). (member i input' && not (member i unknown')) || b) (member-common i f unknown'))

  answers-alike : (f : ℕ) → Subset f unknown
      → answers_of sequence state read_back (filled input unknown f) ≡ answers_of sequence state read_back (filled input' unknown' (common f unknown'))
  answers-alike f h = ap answer_in (reply-unread read_back state _ _ (alike f h) sequence)

pub said_alike : (sequence state : List ℕ) (read_back input unknown input' unknown' : ℕ) → SameOutside read_back input input'
    → SameOutside read_back unknown unknown' → (Says : Findings → Type 0) → Said Says
    → Says (findings (answers_of sequence state read_back) input unknown) → Says (findings (answers_of sequence state read_back) input' unknown')
said_alike sequence state read_back input unknown input' unknown' hi hu Says s h =
    (every-filling s (answers_of sequence state read_back) input' unknown').1
    (λ f m. subst (λ (a : List ℕ). Says (found_in a))
    (sym (answers-alike sequence state read_back input' unknown' input unknown (λ i n. sym (hi i n)) (λ i n. sym (hu i n)) f m))
    ((every-filling s (answers_of sequence state read_back) input unknown).0 h (common f unknown) (within f unknown)))

-- READ BACK: one preview
pub read-back_bytes : (sequence state : List ℕ) (read_back input unknown input' unknown' : ℕ) → SameOutside read_back input input'
    → SameOutside read_back unknown unknown'
    → preview_bytes (findings (answers_of sequence state read_back) input unknown) ≡ preview_bytes (findings (answers_of sequence state read_back) input' unknown')
read-back_bytes sequence state read_back input unknown input' unknown' hi hu =
    ap preview_bytes
    (same-findings (findings (answers_of sequence state read_back) input unknown) (findings (answers_of sequence state read_back) input' unknown')
    (said_alike sequence state read_back input unknown input' unknown' hi hu)
    (said_alike sequence state read_back input' unknown' input unknown (λ i n. sym (hi i n)) (λ i n. sym (hu i n))))
