use native.Mathlib.Omega.{arith}
use Rattle.commands.proofs.Fronting.{deliver-short, deliver-outside, deliver-whole, deliver-unfit}
use Rattle.commands.proofs.delivery.Goals as goal

pub returns-then-s-le5 : goal.returns-then-s-le5
returns-then-s-le5 c = deliver-short c.args.s.now c.requires.1 c.requires.0 c.if-s-le5.true

pub returns-then-s-ge-SIGNALS : goal.returns-then-s-ge-SIGNALS
returns-then-s-ge-SIGNALS c = deliver-outside c.args.s.now c.requires.1 (omega (arith, c.if-s-le5.false)) c.if-s-ge-SIGNALS.true

pub returns-then-is_whole : goal.returns-then-is_whole
returns-then-is_whole c =
    deliver-whole c.args.s.now c.requires.1 (omega (arith, c.if-s-le5.false))
    (λ k. let b = c.shared_slice_known-2-1.given k in omega (arith, b)) (omega (arith, c.if-s-ge-SIGNALS.false))
    c.bits.ensures c.is_whole.ensures c.if-is_whole.true

pub returns-else-is_whole : goal.returns-else-is_whole
returns-else-is_whole c =
    deliver-unfit c.args.s.now c.requires.1 (omega (arith, c.if-s-le5.false))
    (λ k. let b = c.shared_slice_known-2-1.given k in omega (arith, b)) (omega (arith, c.if-s-ge-SIGNALS.false))
    c.bits.ensures c.is_whole.ensures c.if-is_whole.false
