use Prim.Native.Nat.{ℕ}
use mathlib.Core.Path.{◌≡◌, refl, ap, ◌∙◌}
use mathlib.Core.Logic.{◌⊎◌, inl, inr}
use mathlib.Core.Option.{Option, none, some}
use lib.Dec.{ltb}
use native.Mathlib.Omega.{arith}
use borrow.Author.Tests.{le-leb, lt-leb}
use Rattle.spec_base.specs.Limits.{signal_count, label_count}
use Rattle.spec_sequence.specs.Commands.{Command, command_of}
use Rattle.theory_sequence.proofs.Table.{byte_of, byte_is, command_of_byte}
use Rattle.commands.specs.Counts.{operand_in_range}
use Rattle.commands.proofs.in_range.Goals as goal

at : {b : ℕ} (c : Command) → b ≡ byte_of c → command_of b ≡ some c
at c e = ap command_of e ∙ command_of_byte c

labels : (b x : ℕ) → (b ≡ 1) ⊎ (b ≡ 10) → ltb x label_count ≡ operand_in_range (command_of b) x
labels b x (inl e) = rw (at Command.pause e)
labels b x (inr e) = rw (at Command.setpause e)

-- an operand that is neither an exit nor a label is a signal
signals : (x : ℕ) (c : Command) → (byte_of c ≡ 3 → ⊥) → (byte_of c ≡ 1 → ⊥) → (byte_of c ≡ 10 → ⊥) → ltb x signal_count ≡ operand_in_range (some c) x
signals x Command.nothing n3 n1 n10 = refl
signals x Command.pause n3 n1 n10 = absurd (n1 refl)
signals x Command.emit n3 n1 n10 = refl
signals x Command.exit n3 n1 n10 = absurd (n3 refl)
signals x Command.seq n3 n1 n10 = refl
signals x Command.par n3 n1 n10 = refl
signals x Command.loop n3 n1 n10 = refl
signals x Command.present n3 n1 n10 = refl
signals x Command.signal n3 n1 n10 = refl
signals x Command.try n3 n1 n10 = refl
signals x Command.setpause n3 n1 n10 = absurd (n10 refl)
signals x Command.suspend n3 n1 n10 = refl
signals x Command.deliver n3 n1 n10 = refl

others : (b x : ℕ) (o : Option Command) → command_of b ≡ o → (b ≡ 3 → ⊥) → (b ≡ 1 → ⊥) → (b ≡ 10 → ⊥) → ltb x signal_count ≡ operand_in_range o x
others b x none e n3 n1 n10 = refl
others b x (some c) e n3 n1 n10 =
    let z = byte_is b c e in
    signals x c (λ h. n3 (z ∙ h)) (λ h. n1 (z ∙ h)) (λ h. n10 (z ∙ h))

pub returns-in_default-matches : goal.returns-in_default-matches
returns-in_default-matches c = let z : c.args.x ≡ 0 = omega arith in rw (at Command.exit c.in-3.is, z)

pub returns-in_default-matches-2 : goal.returns-in_default-matches-2
returns-in_default-matches-2 c = rw (at Command.exit c.in-3.is, le-leb 1 c.args.x (omega arith), lt-leb c.args.x 15 (omega arith))

pub returns-in-1 : goal.returns-in-1
returns-in-1 c = labels c.args.b c.args.x c.in-1.is

pub returns-in_default : goal.returns-in_default
returns-in_default c = others _ _ _ refl (λ h. grind (arith, h)) (λ h. grind (arith, h)) (λ h. grind (arith, h))
