use Prim.Native.Nat.{ℕ}
use mathlib.Core.Path.{◌≡◌, refl, sym, ap}
use mathlib.Core.Option.{Option}
use native.Mathlib.Omega.{arith}
use Rattle.spec_sequence.specs.Commands.{Command, command_of, partCount}
use Rattle.theory_sequence.proofs.Table.{between, above}
use Rattle.std.specs.Prelude.{Some}
use Rattle.commands.specs.Counts.{counted, parts_at, count_of}
use Rattle.commands.proofs.part_count.Goals as goal

abbrev Counts : ℕ → ℕ → Type 0
Counts n b = Some n ≡ count_of (parts_at b)

pub returns-then-b-lt4 : goal.returns-then-b-lt4
unfolding command_of
returns-then-b-lt4 c = between (Counts 0) 0 4 (refl, (refl, (refl, (refl, tt)))) c.args.b (omega arith) (omega arith)

pub returns-then-b-lt6 : goal.returns-then-b-lt6
unfolding command_of
returns-then-b-lt6 c = between (Counts 2) 4 2 (refl, (refl, tt)) c.args.b (omega arith) (omega arith)

pub returns-then-b-eq7 : goal.returns-then-b-eq7
unfolding command_of
returns-then-b-eq7 c = between (Counts 2) 7 1 (refl, tt) c.args.b (omega arith) (omega arith)

pub returns-then-b-eq10 : goal.returns-then-b-eq10
unfolding command_of
returns-then-b-eq10 c = between (Counts 0) 10 1 (refl, tt) c.args.b (omega arith) (omega arith)

pub returns-then-b-eq12 : goal.returns-then-b-eq12
unfolding command_of
returns-then-b-eq12 c = between (Counts 0) 12 1 (refl, tt) c.args.b (omega arith) (omega (arith, c.if-b-eq12.true))

pub returns-then-b-gt-LAST_COMMAND : goal.returns-then-b-gt-LAST_COMMAND
returns-then-b-gt-LAST_COMMAND c = ap (λ (o : Option Command). count_of (counted partCount o)) (sym (above c.args.b c.if-b-gt-LAST_COMMAND.true))

pub returns : goal.returns
unfolding command_of
returns c =
    between (λ (b : ℕ). (b ≡ 7 → ⊥) → (b ≡ 10 → ⊥) → (b ≡ 12 → ⊥) → Counts 1 b) 6 7
    ((λ n m k. refl), ((λ n m k. absurd (n refl)), ((λ n m k. refl), ((λ n m k. refl), ((λ n m k. absurd (m refl)), ((λ n m k. refl), ((λ n m k. absurd (k refl)), tt)))))))
    c.args.b (omega arith) (omega arith) c.if-b-eq7.false c.if-b-eq10.false c.if-b-eq12.false
