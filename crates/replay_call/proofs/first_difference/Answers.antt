use Prim.Native.Nat.{ℕ, ◌+◌, ◌<◌}
use native.Mathlib.Omega.{arith}
use mathlib.Core.Path.{refl, ap, ◌∙◌, subst}
use lib.ListN.{length}
use Rattle.spec_language.specs.Machines.{State}
use Rattle.spec_tick.specs.StateRecord.{encode_state}
use Rattle.spec_tick.specs.Record.{recordLength}
use Rattle.replay_call.specs.Following.{FollowsFrom}
use Rattle.replay_call.proofs.Walking.{begin, begins, finished, stopped, turned}
use Rattle.replay_call.proofs.first_difference.Goals as goal

pub loop-i-init : goal.loop-i-init
loop-i-init c =
    let h = c.requires in
    rw (c.into_iter-i-iterator.ensures.into_iter_gives, c.enumerate-i-items.ensures.source, c.enumerate-i-items.ensures.count, c.chunks_exact.ensures.rest, c.chunks_exact.ensures.size)
    ((h, (State.fresh, begins h.p, begin _ _ _)), refl)

pub follow-next-requires : goal.follow-next-requires
follow-next-requires c = let i = c.loop-i.invariant.0 in (i.0, (i.1.0, i.1.1))

pub returns-in_default : goal.returns-in_default
returns-in_default c =
    let l = c.loop-i in
    let (h, (s, k, e)) = l.invariant.0 in
    let p = c.in-Some.ensures.steps in
    ap (λ (i : ℕ). i + 1) p.1
    ∙ stopped _ _ (l.i-iterator.count + 1) l.number s _ _ _ p.0.1.0 (p.0.1.1 ∙ l.invariant.1) h.p e
    (subst (FollowsFrom h.p c.args.sequence.now c.args.read_back l.number c.in-Some.trace.now s) c.in_default.is (c.follow-next.ensures h s k))

pub loop-i-preserved : goal.loop-i-preserved
loop-i-preserved c =
    let l = c.loop-i in
    let (h, (s, k, e)) = l.invariant.0 in
    let p = c.in-Some.ensures.steps in (
      (
        h,
        turned _ _ (l.i-iterator.count + 1) l.number s _ _ _ p.0.1.0 (p.0.1.1 ∙ l.invariant.1) h.p e _
            (subst (FollowsFrom h.p c.args.sequence.now c.args.read_back l.number c.in-Some.trace.now s) c.in-Some-next.is (c.follow-next.ensures h s k))
            (ap (λ (i : ℕ). i + 1) p.2) c.following-number.ensures,
      ),
      p.0.0 ∙ l.invariant.1,
    )

pub returns : goal.returns
returns c =
    let l = c.loop-i in
    let (h, (s, k, e)) = l.invariant.0 in
    let p = c.in-None.ensures.steps in
    let few : length l.i-iterator.iter.rest.now < recordLength = omega (arith, p.0.1.0, l.invariant.1) in
    finished _ _ (l.i-iterator.count + 1) l.number (encode_state s) _ e few
