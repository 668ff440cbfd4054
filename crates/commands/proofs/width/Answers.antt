use Prim.Native.Nat.{ℕ}
use mathlib.Core.Path.{◌≡◌, sym, ap, ◌∙◌}
use mathlib.Core.Bool.{false}
use mathlib.Core.Option.{some}
use mathlib.Core.List.{List}
use native.Mathlib.Omega.{arith}
use lib.ListN.{get_or}
use borrow.Author.Tests.{lt-ltb, le-ltb}
use Rattle.spec_base.specs.Limits.{signal_count}
use Rattle.spec_sequence.specs.Commands.{Command, command_of, operandCount, partCount}
use Rattle.theory_sequence.proofs.Table.{unnamed}
use Rattle.theory_sequence.proofs.Front.{Fronts}
use Rattle.std.specs.Prelude.{Some}
use Rattle.commands.specs.Counts.{count_of, operands_at, parts_at, is_leaf}
use Rattle.commands.proofs.Counts.{of_command, of_none, with_parts}
use Rattle.commands.proofs.Fronting.{heads, short, bare, outside, one, signal_operand}
use Rattle.commands.proofs.width.Goals as goal

-- the command of the byte, and its operand bytes
record Found (b : ℕ) (s : List ℕ) (n : ℕ) : Type 0 where
  pub of : Command
  pub byte : command_of (get_or s 0 0) ≡ some of
  pub counts : n ≡ operandCount of
  pub parted : partCount of ≡ 0 → ⊥

found : (b : ℕ) (s : List ℕ) → b ≡ get_or s 0 0 → is_leaf (parts_at b) ≡ false → (n : ℕ) → Some n ≡ count_of (operands_at b) → Found b s n
found b s e h n o =
    let f = of_command operandCount (command_of b) n o in
    record { of = f.0; byte = ap command_of (sym e) ∙ f.1.0; counts = f.1.1; parted = with_parts f.0 f.1.0 h }

pub returns-then-n-eq0 : goal.returns-then-n-eq0
returns-then-n-eq0 c =
    let f = found c.args.b c.args.s.now c.requires.s_nonzero.1 c.requires.b_value _ (c.in-Some.ensures) in
    bare c.args.s.now f.of f.byte (sym f.counts ∙ c.if-n-eq0.true) c.requires.s_nonzero.0

pub returns-then-s-lt2 : goal.returns-then-s-lt2
returns-then-s-lt2 c =
    let f = found c.args.b c.args.s.now c.requires.s_nonzero.1 c.requires.b_value _ (c.in-Some.ensures) in
    let o = (signal_operand f.of f.parted (omega (arith, f.counts, c.if-n-eq0.false))).0 in
    short c.args.s.now f.of f.byte c.requires.s_nonzero.0 (omega (arith, c.if-s-lt2.true, o))

pub returns-then-s-ge-SIGNALS : goal.returns-then-s-ge-SIGNALS
returns-then-s-ge-SIGNALS c =
    let f = found c.args.b c.args.s.now c.requires.s_nonzero.1 c.requires.b_value _ (c.in-Some.ensures) in
    let o = signal_operand f.of f.parted (omega (arith, f.counts, c.if-n-eq0.false)) in
    outside c.args.s.now f.of f.byte (omega (arith, o.0)) (omega (arith, o.0, c.if-s-lt2.false)) (o.1 _) (le-ltb _ signal_count c.if-s-ge-SIGNALS.true)

pub returns-in-None : goal.returns-in-None
returns-in-None c =
    heads _ _ (Fronts.unknown c.requires.s_nonzero.0 (unnamed _ (ap command_of (sym c.requires.s_nonzero.1) ∙ of_none operandCount (command_of c.args.b) (c.in-None.ensures))))

pub returns-else-s-ge-SIGNALS : goal.returns-else-s-ge-SIGNALS
returns-else-s-ge-SIGNALS c =
    let f = found c.args.b c.args.s.now c.requires.s_nonzero.1 c.requires.b_value _ (c.in-Some.ensures) in
    let o = signal_operand f.of f.parted (omega (arith, f.counts, c.if-n-eq0.false)) in
    one c.args.s.now f.of f.byte (omega (arith, o.0)) (omega (arith, o.0, c.if-s-lt2.false)) (o.1 _) o.0 (lt-ltb (get_or c.args.s.now 1 0) signal_count (omega (arith, c.if-s-ge-SIGNALS.false)))
