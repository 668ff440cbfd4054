-- Commands with parts, by their bytes and by what the table says of them.
use Prim.Native.Nat.{◌≤◌, ◌<◌}
use mathlib.Core.Path.{◌≡◌, refl, sym}
use mathlib.Core.Bool.{true, false, ◌&&◌, false≢true}
use native.Mathlib.Omega.{arith}
use lib.Dec.{eqb}
use Rattle.spec_sequence.specs.Commands.{Command, operandCount, partCount, head_length, declares}
use Rattle.theory_sequence.proofs.Table.{byte_of}

module _ (P : Command → Type 0) where
  with_parts : P Command.loop → P Command.signal → P Command.try → P Command.suspend → P Command.seq → P Command.par → P Command.present
      → (c : Command) → (partCount c ≡ 0 → ⊥) → P c
  with_parts l s t f q p r Command.nothing n = absurd (n refl)
  with_parts l s t f q p r Command.pause n = absurd (n refl)
  with_parts l s t f q p r Command.emit n = absurd (n refl)
  with_parts l s t f q p r Command.exit n = absurd (n refl)
  with_parts l s t f q p r Command.seq n = q
  with_parts l s t f q p r Command.par n = p
  with_parts l s t f q p r Command.loop n = l
  with_parts l s t f q p r Command.present n = r
  with_parts l s t f q p r Command.signal n = s
  with_parts l s t f q p r Command.try n = t
  with_parts l s t f q p r Command.setpause n = absurd (n refl)
  with_parts l s t f q p r Command.suspend n = f
  with_parts l s t f q p r Command.deliver n = absurd (n refl)

-- 04 and 05
pub two_bare : (c : Command) → (partCount c ≡ 0 → ⊥) → byte_of c < 6 → (partCount c ≡ 2) × (1 ≡ head_length c)
two_bare =
    with_parts (λ (c : Command). byte_of c < 6 → (partCount c ≡ 2) × (1 ≡ head_length c))
    (λ l. absurd (omega arith)) (λ l. absurd (omega arith)) (λ l. absurd (omega arith)) (λ l. absurd (omega arith))
    (λ l. (refl, refl)) (λ l. (refl, refl)) (λ l. absurd (omega arith))

-- 07: two parts behind an operand
pub choice : (c : Command) → (partCount c ≡ 0 → ⊥) → (eqb (partCount c) 2 && eqb (operandCount c) 1) ≡ true → (partCount c ≡ 2) × (2 ≡ head_length c)
choice =
    with_parts (λ (c : Command). (eqb (partCount c) 2 && eqb (operandCount c) 1) ≡ true → (partCount c ≡ 2) × (2 ≡ head_length c))
    (λ e. absurd (false≢true e)) (λ e. absurd (false≢true e)) (λ e. absurd (false≢true e)) (λ e. absurd (false≢true e))
    (λ e. absurd (false≢true e)) (λ e. absurd (false≢true e)) (λ e. (refl, refl))

-- 06 and above, but for 07
pub one_part : (c : Command) → (partCount c ≡ 0 → ⊥) → 6 ≤ byte_of c → (eqb (partCount c) 2 && eqb (operandCount c) 1) ≡ false → partCount c ≡ 1
one_part =
    with_parts (λ (c : Command). 6 ≤ byte_of c → (eqb (partCount c) 2 && eqb (operandCount c) 1) ≡ false → partCount c ≡ 1)
    (λ l e. refl) (λ l e. refl) (λ l e. refl) (λ l e. refl) (λ l e. absurd (omega arith)) (λ l e. absurd (omega arith)) (λ l e. absurd (false≢true (sym e)))

-- 08: a declaration
pub declaration : (c : Command) → (partCount c ≡ 0 → ⊥) → eqb (declares c) 1 ≡ true → (partCount c ≡ 1) × (2 ≡ head_length c) × (declares c ≡ 1)
declaration =
    with_parts (λ (c : Command). eqb (declares c) 1 ≡ true → (partCount c ≡ 1) × (2 ≡ head_length c) × (declares c ≡ 1))
    (λ e. absurd (false≢true e)) (λ e. (refl, refl, refl)) (λ e. absurd (false≢true e)) (λ e. absurd (false≢true e))
    (λ e. absurd (false≢true e)) (λ e. absurd (false≢true e)) (λ e. absurd (false≢true e))

pub plain : (c : Command) → (partCount c ≡ 0 → ⊥) → eqb (declares c) 1 ≡ false → declares c ≡ 0
plain =
    with_parts (λ (c : Command). eqb (declares c) 1 ≡ false → declares c ≡ 0)
    (λ e. refl) (λ e. absurd (false≢true (sym e))) (λ e. refl) (λ e. refl) (λ e. refl) (λ e. refl) (λ e. refl)
