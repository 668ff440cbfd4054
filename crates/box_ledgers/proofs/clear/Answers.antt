use Prim.Native.Nat.{ℕ, ◌*◌, ◌-◌}
use mathlib.Core.Path.{◌≡◌, sym, ap, ◌∙◌}
use mathlib.Core.List.{List}
use native.Mathlib.Omega.{arith}
use lib.ListN.{length}
use lib.Seq.{sets}
use Rattle.spec_bay.specs.Ledgers.{ledger_length, totals_bytes}
use Rattle.box_ledgers.proofs.Totals.{totals_none, totals_all, written_next, zero_bytes}
use Rattle.box_ledgers.proofs.clear.Goals as goal

pub loop-farm-init : goal.loop-farm-init
loop-farm-init c = (c.requires, totals_none _ _)

pub put_le-requires : goal.put_le-requires
put_le-requires c = let l = c.loop-farm.invariant in let t = c.loop-farm-test.true in omega (arith, l, t)

pub loop-farm-preserved : goal.loop-farm-preserved
loop-farm-preserved c =
    let k = c.args.ledger.now in
    let l = c.loop-farm in
    let w = written_next (λ f. 0) ledger_length l.farm k l.ledger _ l.invariant.0 l.invariant.1
    (c.put_le.ensures ∙ ap (λ (v : List ℕ). sets l.ledger (l.farm * 4) v) zero_bytes) in
    (w.0, w.1)

pub shape_of-ledger : goal.shape_of-ledger
shape_of-ledger c = c.loop-farm.invariant.0 ∙ sym c.requires

pub returns : goal.returns
returns c =
    let l = c.loop-farm in
    let e : l.farm ≡ 32 = let t = c.loop-farm-test.false in omega (arith, t, l.auto.farm-end) in
    let k = c.args.ledger.now in
    l.invariant.1 ∙ ap (λ (n : ℕ). sets k 0 (totals_bytes n (λ f. 0))) e ∙ totals_all k 32 (λ f. 0) c.requires
