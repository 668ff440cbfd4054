use Prim.Native.Nat.{ℕ, ◌+◌, ◌*◌}
use mathlib.Core.Path.{sym, ap, ◌∙◌}
use mathlib.Core.Bool.{Bool, cond}
use native.Mathlib.Omega.{arith}
use lib.Seq.{sets}
use borrow.Author.Tests.{eq-eqb, ne_eqb}
use Rattle.spec_base.specs.Bytes.{le_bytes}
use Rattle.spec_sequence.specs.Amounts.{amount_bytes}
use Rattle.spec_bay.specs.Ledgers.{total_in}
use Rattle.box_ledgers.proofs.Totals.{float_in, sum-no-nan, sum-bits}
use Rattle.box_ledgers.proofs.add_to.Goals as goal

pub returns-then-more-eq0 : goal.returns-then-more-eq0
returns-then-more-eq0 c =
    let a = c.args in
    ap (λ (b : Bool). cond b a.ledger.now (sets a.ledger.now (a.farm * 4) (amount_bytes (total_in a.farm a.ledger.now + a.more)))) (sym (eq-eqb a.more 0 c.if-more-eq0.true))

pub int_to_float-sum : goal.int_to_float-sum
int_to_float-sum c = let p = c.requires.2 in float_in _ (omega (arith, p))

pub float_to_bits-sum : goal.float_to_bits-sum
float_to_bits-sum c =
    let a = c.args in
    sum-no-nan a.farm a.ledger.now a.more c.requires.2 c.total.ensures

pub returns : goal.returns
returns c =
    let a = c.args in
    c.put_four.ensures
    ∙ ap (λ (n : ℕ). sets a.ledger.now (a.farm * 4) (le_bytes 4 n)) (sum-bits a.farm a.ledger.now a.more c.requires.2 c.total.ensures)
    ∙ ap (λ (b : Bool). cond b a.ledger.now (sets a.ledger.now (a.farm * 4) (amount_bytes (total_in a.farm a.ledger.now + a.more)))) (sym (ne_eqb a.more 0 c.if-more-eq0.false))
