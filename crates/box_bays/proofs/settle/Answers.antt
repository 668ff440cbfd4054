use Prim.Native.Nat.{ℕ}
use mathlib.Core.Path.{ap, ◌∙◌}
use lib.ListN.{length, get_or}
use Rattle.instants.specs.Written.{writtenFrom}
use Rattle.theory_bay.proofs.Fields.{ledger_sized}
use Rattle.box_bays.proofs.Charging.{written_0, passing, gives-19, still-below, settled}
use Rattle.box_bays.proofs.settle.Goals as goal

pub would_pass-requires-clause-ledger_len : goal.would_pass-requires-clause-ledger_len
would_pass-requires-clause-ledger_len c =
    ap length c.ledger.ensures ∙ ledger_sized c.args.stretch.now c.requires.stretch_len.0

pub returns-then-would_pass : goal.returns-then-would_pass
returns-then-would_pass c =
    gives-19 c.args.stretch.now (λ f. get_or c.args.litres.now f 0) c.args.answer.now (writtenFrom c.args.reaction) (written_0 c.args.reaction)
    (passing c.args.stretch.now (λ f. get_or c.args.litres.now f 0) c.ledger.ensures c.would_pass.ensures c.if-would_pass.true)

pub add-requires-clause-f_value : goal.add-requires-clause-f_value
add-requires-clause-f_value c =
    let x : ℕ → ℕ = λ f. get_or c.args.litres.now f 0 in
    let below = passing c.args.stretch.now x c.ledger.ensures c.would_pass.ensures c.if-would_pass.false in
    still-below c.args.stretch.now x c.requires.stretch_len.0 below c.args.reaction c.finish.ensures

pub returns : goal.returns
returns c =
    let x : ℕ → ℕ = λ f. get_or c.args.litres.now f 0 in
    let below = passing c.args.stretch.now x c.ledger.ensures c.would_pass.ensures c.if-would_pass.false in
    settled c.args.stretch.now x c.requires.stretch_len.0 below c.args.reaction c.finish.ensures c.args.answer.now _ c.add.ensures
