-- Emissions: their bytes as they stand in an accepted sequence, their values and what they deliver a farm.
use Prim.Native.Nat.{ℕ, ◌+◌}
use mathlib.Core.Path.{◌≡◌, refl, sym, ap, ◌∙◌, subst}
use mathlib.Core.Bool.{Bool, true, false, cond, and-eq-true_iff}
use mathlib.Core.Option.{Option}
use mathlib.Core.List.{List}
use native.Mathlib.Omega.{arith}
use lib.ListN.{get_or, set}
use lib.Dec.{T, eqb}
use lib.Ieee.{binary32, of_bits, in_unsigned}
use borrow.Author.Tests.{eq-eqb, ne_eqb, ltb-true}
use Rattle.spec_base.specs.Bytes.{le_number, number_at}
use Rattle.spec_base.specs.WholeLitres.{whole, litres}
use Rattle.spec_base.specs.Sets.{none}
use Rattle.spec_language.specs.Statement as Esterel
use Rattle.spec_language.specs.Statement.{nothing}
use Rattle.spec_language.specs.Reaction.{ended, gives}
use Rattle.spec_language.specs.Litres.{amount, brought}
use Rattle.spec_sequence.specs.Amounts.{are_bytes, float_in}
use Rattle.spec_sequence.specs.Commands.{Command, bytes_at}
use Rattle.theory_sequence.proofs.Table.{byte_of}
use Rattle.theory_sequence.proofs.Front.{bytes_taken}
use Rattle.layout.specs.Layout.{Begins}
use Rattle.reaction.specs.Reactions.{capped_of, alone, AccumulatesAt}
use Rattle.reaction.proofs.Accumulating.{farms_more, farms-none}
use Rattle.react_leaves.specs.declared.Value.{Value}
use Rattle.react_leaves.specs.declared.Value.TheVariants.{Pure, Litres}
use Rattle.react_leaves.specs.Emissions.{value_in, amount_of, meant, Whole, Emission}

-- ---- the value by the first byte
pub with_litres : (bs : List ℕ) {n : ℕ} → n ≡ number_at 2 4 bs → get_or bs 0 0 ≡ 12 → Litres (of_bits binary32 n) ≡ value_in bs
with_litres bs h e = ap (λ (x : ℕ). Litres (of_bits binary32 x)) h ∙ rw (eq-eqb (get_or bs 0 0) 12 e)

pub without : (bs : List ℕ) → (get_or bs 0 0 ≡ 12 → ⊥) → Pure ≡ value_in bs
without bs n = rw (ne_eqb (get_or bs 0 0) 12 n)

-- ---- what it brings a farm
exactly : (v : Value) → amount_of v ≡ amount (meant v)
exactly Pure = refl
exactly (Litres x) = refl

module _ (f x : ℕ) (bs b : List ℕ) (o : ℕ) where
  pub brings : {a : List ℕ} {v : Value} {n : ℕ} → a ≡ set b x (capped_of (get_or b x 0 + n)) → n ≡ amount_of v → v ≡ value_in bs
      → AccumulatesAt f b a (alone (gives o ended none nothing) none (brought f x (meant (value_in bs))))
  brings h k e =
      let m = k ∙ ap amount_of e ∙ exactly (value_in bs) in
      farms_more f x (amount (meant (value_in bs))) b (gives o ended none nothing) Option.none 1 none (rw m at h)

  nothing-to : (d : Bool) → AccumulatesAt f b b (alone (gives o ended none nothing) none (cond d 0 0))
  nothing-to true = farms-none (gives o ended none nothing) Option.none 1 none
  nothing-to false = farms-none (gives o ended none nothing) Option.none 1 none

  pub brings-none : (get_or bs 0 0 ≡ 12 → ⊥) → AccumulatesAt f b b (alone (gives o ended none nothing) none (brought f x (meant (value_in bs))))
  brings-none n = rw (← without bs n) (nothing-to (eqb x f))

-- ---- the bytes of an emission in an accepted sequence
holds : (b : Bool) → b ≡ true → T b
holds true h = tt
holds false h = absurd (let z : ◌≡◌ {A = ℕ} 0 1 = cc in omega arith)

module _ {L : (base a : ℕ) → List ℕ → Esterel.Statement → Type 0} {t : List ℕ} {base a : ℕ} {bs : List ℕ} {p : Esterel.Statement} where
  -- 02
  pub pure-emission : get_or bs 0 0 ≡ byte_of Command.emit → Begins L t base a bs p Command.emit
      → Emission bs × (p ≡ Esterel.emit (get_or bs 1 0) (meant (value_in bs)))
  pure-emission e b =
      let n : get_or bs 0 0 ≡ 12 → ⊥ = λ h. absurd (let z : ◌≡◌ {A = ℕ} 2 12 = sym e ∙ h in omega arith) in
      (record { there = b.there; small = ltb-true _ _ b.ranged; fit = λ h. absurd (n h) }, b.parts ∙ ap (λ (v : Value). Esterel.emit (get_or bs 1 0) (meant v)) (without bs n))

  -- 0C
  pub litres-emission : get_or bs 0 0 ≡ byte_of Command.deliver → Begins L t base a bs p Command.deliver
      → Emission bs × (p ≡ Esterel.emit (get_or bs 1 0) (meant (value_in bs)))
  litres-emission e b =
      let m : le_number (bytes_at 2 4 bs) ≡ number_at 2 4 bs = ap le_number (bytes_taken 4 2 bs (omega (arith, b.there))) in
      let w : T (whole (float_in (bytes_at 2 4 bs)))
      = holds (in_unsigned binary32 32 (float_in (bytes_at 2 4 bs))) ((and-eq-true_iff (are_bytes (bytes_at 2 4 bs)) (in_unsigned binary32 32 (float_in (bytes_at 2 4 bs)))).0 b.fit).1 in (
        record { there = omega (arith, b.there); small = ltb-true _ _ b.ranged; fit = λ h. (omega (arith, b.there), subst (λ (x : ℕ). T (whole (of_bits binary32 x))) m w) },
        b.parts ∙ ap (λ (x : ℕ). Esterel.emit (get_or bs 1 0) (Esterel.litres (litres (of_bits binary32 x)))) m
            ∙ ap (λ (v : Value). Esterel.emit (get_or bs 1 0) (meant v)) (with_litres bs refl e),
      )
