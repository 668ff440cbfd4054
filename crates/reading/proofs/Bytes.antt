-- A test of a command's byte, and what the table says of the command.
use Prim.Native.Nat.{ℕ}
use mathlib.Core.Path.{◌≡◌, refl, ap, ◌∙◌}
use mathlib.Core.Bool.{◌&&◌}
use mathlib.Core.Option.{Option, none, some}
use native.Mathlib.Omega.{arith}
use lib.Dec.{eqb}
use borrow.Author.Tests.{ne_eqb}
use Rattle.spec_sequence.specs.Commands.{Command, command_of, operandCount, partCount, declares}
use Rattle.theory_sequence.proofs.Table.{byte_of, byte_is, unnamed}
use Rattle.reading.specs.Steps.{isChoice, is_declaration}

choice : (c : Command) → eqb (byte_of c) 7 ≡ (eqb (partCount c) 2 && eqb (operandCount c) 1)
choice Command.nothing = refl
choice Command.pause = refl
choice Command.emit = refl
choice Command.exit = refl
choice Command.seq = refl
choice Command.par = refl
choice Command.loop = refl
choice Command.present = refl
choice Command.signal = refl
choice Command.try = refl
choice Command.setpause = refl
choice Command.suspend = refl
choice Command.deliver = refl

pub is-choice : (b : ℕ) → eqb b 7 ≡ isChoice (command_of b)
is-choice b = go (command_of b) refl
  where
    go : (o : Option Command) → command_of b ≡ o → eqb b 7 ≡ isChoice o
    go (some c) e = ap (λ (k : ℕ). eqb k 7) (byte_is b c e) ∙ choice c
    go none e = ne_eqb b 7 (λ z. omega (arith, unnamed b e, z))

declaration : (c : Command) → eqb (byte_of c) 8 ≡ eqb (declares c) 1
declaration Command.nothing = refl
declaration Command.pause = refl
declaration Command.emit = refl
declaration Command.exit = refl
declaration Command.seq = refl
declaration Command.par = refl
declaration Command.loop = refl
declaration Command.present = refl
declaration Command.signal = refl
declaration Command.try = refl
declaration Command.setpause = refl
declaration Command.suspend = refl
declaration Command.deliver = refl

pub is_declaration_lem : (b : ℕ) → eqb b 8 ≡ is_declaration (command_of b)
is_declaration_lem b = go (command_of b) refl
  where
    go : (o : Option Command) → command_of b ≡ o → eqb b 8 ≡ is_declaration o
    go (some c) e = ap (λ (k : ℕ). eqb k 8) (byte_is b c e) ∙ declaration c
    go none e = ne_eqb b 8 (λ z. omega (arith, unnamed b e, z))
