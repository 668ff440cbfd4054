-- The head of a command from its bytes: one law for each way in which a head is answered.
use mathlib.Core.Path.{◌≡◌, refl, sym, ap, ◌∙◌}
use mathlib.Core.Bool.{Bool, true, false}
use mathlib.Core.Option.{some}
use mathlib.Core.List.{List, ◌∷◌}
use Prim.Native.Nat.{ℕ, zero, suc, ◌-◌, ◌*◌, ◌≤◌, ◌<◌}
use native.Mathlib.Omega.{arith}
use lib.ListN.{length, get_or}
use lib.Dec.{ltb}
use lib.Ieee.{binary32, of_bits, in_unsigned}
use borrow.Author.Tests.{lt-ltb, le-ltb}
use Rattle.spec_base.specs.Limits.{signal_count}
use Rattle.spec_base.specs.Bytes.{number_at}
use Rattle.spec_sequence.specs.Amounts.{are_bytes}
use Rattle.spec_sequence.specs.Commands.{Command, command_of, operandCount, operands_of, partCount, bytes_at, in_range, litres_fit, head_length}
use Rattle.spec_sequence.specs.Reader.{Front, front}
use Rattle.layout.specs.Walk.{head_of, row_unit}
use Rattle.theory_sequence.proofs.Table.{byte_of, command_of_byte, leaves, free, no_amount}
use Rattle.theory_sequence.proofs.Front.{Fronts, front-is, bytes_taken}

pub heads : (s : List ℕ) (f : Front) → Fronts s f → head_of f ≡ head_of (front s)
heads s f v = ap head_of (sym (front-is s f v))

first : (n : ℕ) (s : List ℕ) → 1 ≤ n → bytes_at 1 n s ≡ get_or s 1 0 ∷ bytes_at 2 (n - 1) s
first zero s h = absurd (omega arith)
first (suc n) s h = let e : n ≡ suc n - 1 = omega arith in ap (λ (k : ℕ). get_or s 1 0 ∷ bytes_at 2 k s) e

are_bytes_lem : (n i : ℕ) (s : List ℕ) → ((k : ℕ) → get_or s k 0 < 256) → are_bytes (bytes_at i n s) ≡ true
are_bytes_lem zero i s h = refl
are_bytes_lem (suc n) i s h = rw (lt-ltb (get_or s i 0) 256 (h i), are_bytes_lem n (suc i) s h)

module _ (s : List ℕ) (c : Command) (byte : command_of (get_or s 0 0) ≡ some c) where
  pub short : 0 < length s → length s < head_length c → 4 * row_unit ≡ head_of (front s)
  short n l = heads s _ (Fronts.short c n byte l)

  pub bare : operandCount c ≡ 0 → 0 < length s → 1 ≡ head_of (front s)
  bare z n =
      let w : 1 ≡ head_length c = omega arith in
      w ∙ heads s _ (Fronts.whole c _ (record { byte = byte; long = omega arith; operands = refl; ranged = free c _ z; fit = no_amount c _ (omega arith) }))

  module _ (some : 1 ≤ operandCount c) (long : head_length c ≤ length s) {r : Bool} (is : (xs : List ℕ) → r ≡ in_range c (get_or s 1 0 ∷ xs)) where
    pub range : in_range c (operands_of c s) ≡ r
    range = ap (in_range c) (first (operandCount c) s some) ∙ sym (is _)

    pub outside : r ≡ false → 5 * row_unit ≡ head_of (front s)
    outside h = heads s _ (Fronts.outside c byte long (range ∙ h))

    pub one : operandCount c ≡ 1 → r ≡ true → 2 ≡ head_of (front s)
    one o h =
        let w : 2 ≡ head_length c = omega arith in
        w ∙ heads s _ (Fronts.whole c _ (record { byte = byte; long = long; operands = refl; ranged = range ∙ h; fit = no_amount c _ (omega arith) }))

-- ---- a command without parts has an operand but for nothing, and no more than one but for litres
pub leaf_operands : (c : Command) → partCount c ≡ 0 → (byte_of c ≡ 0 → ⊥) → (1 ≤ operandCount c) × ((byte_of c ≡ 12 → ⊥) → operandCount c ≡ 1)
leaf_operands =
    leaves (λ (c : Command). (byte_of c ≡ 0 → ⊥) → (1 ≤ operandCount c) × ((byte_of c ≡ 12 → ⊥) → operandCount c ≡ 1))
    (λ n. absurd (n refl)) (λ n. (omega arith, λ m. refl)) (λ n. (omega arith, λ m. refl)) (λ n. (omega arith, λ m. refl))
    (λ n. (omega arith, λ m. refl)) (λ n. (omega arith, λ m. absurd (m refl)))

-- ---- the operand of a command with parts is a signal
abbrev Signal : Command → Type 0
Signal c = (operandCount c ≡ 1) × ((x : ℕ) (xs : List ℕ) → ltb x signal_count ≡ in_range c (x ∷ xs))

pub signal_operand : (c : Command) → (partCount c ≡ 0 → ⊥) → 1 ≤ operandCount c → Signal c
signal_operand Command.nothing n l = absurd (n refl)
signal_operand Command.pause n l = absurd (n refl)
signal_operand Command.emit n l = absurd (n refl)
signal_operand Command.exit n l = absurd (n refl)
signal_operand Command.seq n l = absurd (omega arith)
signal_operand Command.par n l = absurd (omega arith)
signal_operand Command.loop n l = absurd (omega arith)
signal_operand Command.present n l = (refl, λ x xs. refl)
signal_operand Command.signal n l = (refl, λ x xs. refl)
signal_operand Command.try n l = absurd (omega arith)
signal_operand Command.setpause n l = absurd (n refl)
signal_operand Command.suspend n l = (refl, λ x xs. refl)
signal_operand Command.deliver n l = absurd (n refl)

-- ---- the command 0C
module _ (s : List ℕ) (e : get_or s 0 0 ≡ 12) where
  deliver-byte : command_of (get_or s 0 0) ≡ some Command.deliver
  deliver-byte = ap command_of e ∙ command_of_byte Command.deliver

  pub deliver-short : 0 < length s → length s ≤ 5 → 4 * row_unit ≡ head_of (front s)
  deliver-short n l = short s Command.deliver deliver-byte n (omega arith)

  module _ (long : 6 ≤ length s) where
    pub deliver-outside : signal_count ≤ get_or s 1 0 → 5 * row_unit ≡ head_of (front s)
    deliver-outside h = outside s Command.deliver deliver-byte (omega arith) (omega arith) (λ xs. refl) (le-ltb (get_or s 1 0) signal_count h)

    module _ (bytes : (k : ℕ) → get_or s k 0 < 256) (ranged : get_or s 1 0 < signal_count) {v : ℕ} {u : Bool} (read : v ≡ number_at 2 4 s)
        (tests : u ≡ in_unsigned binary32 32 (of_bits binary32 v)) where
      in-range : in_range Command.deliver (operands_of Command.deliver s) ≡ true
      in-range = lt-ltb (get_or s 1 0) signal_count ranged

      amount : litres_fit Command.deliver (operands_of Command.deliver s) ≡ u
      amount =
          rw (are_bytes_lem 4 2 s bytes, bytes_taken 4 2 s (omega arith)) (sym (tests ∙ ap (λ (x : ℕ). in_unsigned binary32 32 (of_bits binary32 x)) read))

      pub deliver-whole : u ≡ true → 6 ≡ head_of (front s)
      deliver-whole i =
          heads s _ (Fronts.whole Command.deliver _ (record { byte = deliver-byte; long = omega arith; operands = refl; ranged = in-range; fit = amount ∙ i }))

      pub deliver-unfit : u ≡ false → 18 * row_unit ≡ head_of (front s)
      deliver-unfit i = heads s _ (Fronts.unfit Command.deliver deliver-byte (omega arith) in-range (amount ∙ i))
