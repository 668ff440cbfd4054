use Prim.Native.Nat.{ℕ}
use mathlib.Core.Path.{◌≡◌, refl, sym, ap}
use mathlib.Core.Option.{Option}
use native.Mathlib.Omega.{arith}
use Rattle.spec_sequence.specs.Commands.{Command, command_of, operandCount}
use Rattle.theory_sequence.proofs.Table.{between, above}
use Rattle.std.specs.Prelude.{Some}
use Rattle.commands.specs.Counts.{counted, operands_at, count_of}
use Rattle.commands.proofs.operand_count.Goals as goal

abbrev Counts : ℕ → ℕ → Type 0
Counts n b = Some n ≡ count_of (operands_at b)

pub returns-then-b-eq0 : goal.returns-then-b-eq0
unfolding command_of
returns-then-b-eq0 c = between (Counts 0) 0 1 (refl, tt) c.args.b (omega arith) (omega (arith, c.if-b-eq0.true))

pub returns-then-b-lt4 : goal.returns-then-b-lt4
unfolding command_of
returns-then-b-lt4 c = between (Counts 1) 1 3 (refl, (refl, (refl, tt))) c.args.b (omega arith) (omega arith)

pub returns-then-b-lt7 : goal.returns-then-b-lt7
unfolding command_of
returns-then-b-lt7 c = between (Counts 0) 4 3 (refl, (refl, (refl, tt))) c.args.b (omega arith) (omega arith)

pub returns-then-b-eq9 : goal.returns-then-b-eq9
unfolding command_of
returns-then-b-eq9 c = between (Counts 0) 9 1 (refl, tt) c.args.b (omega arith) (omega arith)

pub returns-then-b-lt-LAST_COMMAND : goal.returns-then-b-lt-LAST_COMMAND
unfolding command_of
returns-then-b-lt-LAST_COMMAND c =
    between (λ (b : ℕ). (b ≡ 9 → ⊥) → Counts 1 b) 7 5
    ((λ n. refl), ((λ n. refl), ((λ n. absurd (n refl)), ((λ n. refl), ((λ n. refl), tt))))) c.args.b (omega arith) (omega arith) c.if-b-eq9.false

pub returns-then-b-eq12 : goal.returns-then-b-eq12
unfolding command_of
returns-then-b-eq12 c = between (Counts 5) 12 1 (refl, tt) c.args.b (omega arith) (omega (arith, c.if-b-eq12.true))

pub returns : goal.returns
returns c =
    let z = c.if-b-eq12.false in
    let y = c.if-b-lt-LAST_COMMAND.false in
    ap (λ (o : Option Command). count_of (counted operandCount o)) (sym (above c.args.b (omega (arith, y, z))))
