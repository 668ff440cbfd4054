use Prim.Native.Nat.{ℕ}
use mathlib.Core.Path.{◌≡◌, refl}
use mathlib.Core.Logic.{◌≢◌}
use mathlib.Core.Option.{some}
use native.Mathlib.Omega.{arith}
use Rattle.spec_sequence.specs.Commands.{Command, command_of, partCount, head_length}
use Rattle.theory_sequence.proofs.Table.{between, valued, last_byte}
use Rattle.ceilings.proofs.opens.Goals as goal

abbrev Opens : (bytes parts b : ℕ) → Type 0
Opens n m b = (c : Command) → command_of b ≡ some c → (n ≡ head_length c) × (m ≡ partCount c)

is : {k : Command} (c : Command) → some k ≡ some c → (head_length k ≡ head_length c) × (partCount k ≡ partCount c)
is c e = (valued head_length c e, valued partCount c e)

pub returns-then-b-eq-NOTHING : goal.returns-then-b-eq-NOTHING
unfolding command_of
returns-then-b-eq-NOTHING c = between (Opens 1 0) 0 1 (is, tt) c.args.b (omega arith) (omega (arith, c.if-b-eq-NOTHING.true))

pub returns-then-b-lt-SEQUENCE : goal.returns-then-b-lt-SEQUENCE
unfolding command_of
returns-then-b-lt-SEQUENCE c = between (Opens 2 0) 1 3 (is, (is, (is, tt))) c.args.b (omega (arith, c.if-b-eq-NOTHING.false)) (omega arith)

pub returns-then-b-lt-LOOP : goal.returns-then-b-lt-LOOP
unfolding command_of
returns-then-b-lt-LOOP c = between (Opens 1 2) 4 2 (is, (is, tt)) c.args.b (omega arith) (omega arith)

pub returns-then-b-eq-LOOP : goal.returns-then-b-eq-LOOP
unfolding command_of
returns-then-b-eq-LOOP c = between (Opens 1 1) 6 1 (is, tt) c.args.b (omega arith) (omega (arith, c.if-b-eq-LOOP.true))

pub returns-then-b-eq-PRESENT : goal.returns-then-b-eq-PRESENT
unfolding command_of
returns-then-b-eq-PRESENT c = between (Opens 2 2) 7 1 (is, tt) c.args.b (omega (arith, c.if-b-eq-PRESENT.true)) (omega (arith, c.if-b-eq-PRESENT.true))

pub returns-then-b-eq-TRY : goal.returns-then-b-eq-TRY
unfolding command_of
returns-then-b-eq-TRY c = between (Opens 1 1) 9 1 (is, tt) c.args.b (omega (arith, c.if-b-eq-TRY.true)) (omega (arith, c.if-b-eq-TRY.true))

pub returns-then-b-eq-SETPAUSE : goal.returns-then-b-eq-SETPAUSE
unfolding command_of
returns-then-b-eq-SETPAUSE c = between (Opens 2 0) 10 1 (is, tt) c.args.b (omega (arith, c.if-b-eq-SETPAUSE.true)) (omega (arith, c.if-b-eq-SETPAUSE.true))

pub returns-then-b-eq-DELIVER : goal.returns-then-b-eq-DELIVER
unfolding command_of
returns-then-b-eq-DELIVER c = between (Opens 6 0) 12 1 (is, tt) c.args.b (omega (arith, c.if-b-eq-DELIVER.true)) (omega (arith, c.if-b-eq-DELIVER.true))

-- 08 and 0B
pub returns : goal.returns
unfolding command_of
returns c k e =
    let b = c.args.b in
    between (λ (b : ℕ). b ≢ 7 → b ≢ 9 → b ≢ 10 → b ≢ 12 → Opens 2 1 b) 7 6 (
      (λ s t p d. absurd (s refl)),
      ((λ s t p d. is), ((λ s t p d. absurd (t refl)), ((λ s t p d. absurd (p refl)), ((λ s t p d. is), ((λ s t p d. absurd (d refl)), tt))))),
    )
    b (omega (arith, c.if-b-eq-LOOP.false)) (omega (arith, last_byte b k e))
    c.if-b-eq-PRESENT.false c.if-b-eq-TRY.false c.if-b-eq-SETPAUSE.false c.if-b-eq-DELIVER.false k e
