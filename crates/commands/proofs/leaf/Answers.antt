use Prim.Native.Nat.{ℕ, ◌≤◌}
use mathlib.Core.Path.{◌≡◌, refl, sym, ap, ◌∙◌}
use mathlib.Core.Bool.{true}
use mathlib.Core.Option.{some}
use mathlib.Core.List.{List}
use native.Mathlib.Omega.{arith}
use lib.ListN.{length, get_or}
use Rattle.spec_sequence.specs.Commands.{Command, command_of, operandCount}
use Rattle.theory_sequence.proofs.Table.{byte_of, byte_is, command_of_byte}
use Rattle.commands.specs.Counts.{parts_at, is_leaf}
use Rattle.commands.proofs.Counts.{some_leaf, operand_of}
use Rattle.spec_sequence.specs.Reader.{front}
use Rattle.layout.specs.Walk.{head_of}
use Rattle.commands.proofs.Fronting.{short, bare, outside, one, leaf_operands}
use Rattle.commands.proofs.leaf.Goals as goal

-- the command of the byte
record Found (b : ℕ) (s : List ℕ) : Type 0 where
  pub of : Command
  pub named : command_of b ≡ some of
  pub byte : command_of (get_or s 0 0) ≡ some of
  pub some : (b ≡ 0 → ⊥) → 1 ≤ operandCount of
  pub one : (b ≡ 0 → ⊥) → (b ≡ 12 → ⊥) → operandCount of ≡ 1

found : (b : ℕ) (s : List ℕ) → b ≡ get_or s 0 0 → is_leaf (parts_at b) ≡ true → Found b s
found b s e h =
    let f = some_leaf (command_of b) h in
    let is : b ≡ byte_of f.0 = byte_is b f.0 f.1.0 in
    record {
      of = f.0;
      named = f.1.0;
      byte = ap command_of (sym e) ∙ f.1.0;
      some = λ n. (leaf_operands f.0 f.1.1 (λ z. n (is ∙ z))).0;
      one = λ n m. (leaf_operands f.0 f.1.1 (λ z. n (is ∙ z))).1 (λ z. m (is ∙ z));
    }

pub returns-then-b-eq-NOTHING : goal.returns-then-b-eq-NOTHING
returns-then-b-eq-NOTHING c =
    bare c.args.s.now Command.nothing (ap command_of (sym c.requires.s_nonzero.1 ∙ c.if-b-eq-NOTHING.true) ∙ command_of_byte Command.nothing) refl c.requires.s_nonzero.0

pub returns-then-s-le1 : goal.returns-then-s-le1
returns-then-s-le1 c =
    let f = found c.args.b c.args.s.now c.requires.s_nonzero.1 c.requires.b_value in
    short c.args.s.now f.of f.byte c.requires.s_nonzero.0 (omega (arith, c.if-s-le1.true, f.some c.if-b-eq-NOTHING.false))

pub returns-then-in_range : goal.returns-then-in_range
returns-then-in_range c =
    let f = found c.args.b c.args.s.now c.requires.s_nonzero.1 c.requires.b_value in
    let o = f.one c.if-b-eq-NOTHING.false c.if-b-eq-DELIVER.false in
    one c.args.s.now f.of f.byte (omega (arith, o)) (omega (arith, o, c.if-s-le1.false))
    (λ xs. c.in_range.ensures ∙ operand_of f.of _ f.named (omega (arith, o)) xs) o c.if-in_range.true

pub returns-else-in_range : goal.returns-else-in_range
returns-else-in_range c =
    let f = found c.args.b c.args.s.now c.requires.s_nonzero.1 c.requires.b_value in
    let o = f.one c.if-b-eq-NOTHING.false c.if-b-eq-DELIVER.false in
    outside c.args.s.now f.of f.byte (omega (arith, o)) (omega (arith, o, c.if-s-le1.false))
    (λ xs. c.in_range.ensures ∙ operand_of f.of _ f.named (omega (arith, o)) xs) c.if-in_range.false
