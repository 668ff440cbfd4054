use native.Mathlib.Omega.{arith}
use native.Mathlib.Decide.{dec_lt}
use borrow.Author.Tests.{lt-ltb, le-ltb}
use Rattle.spec_base.specs.Limits.{last_number}
use Rattle.spec_tick.specs.Recording.{following}
use Rattle.records.proofs.following.Goals as goal

pub returns : goal.returns
unfolding following
returns c =
    let n = c.args.number in
    let e = c.saturating_add.ensures in
    let f = c.ranges in
    elim (dec_lt n last_number) [
      | yes l ↦ rw (lt-ltb n last_number l) (omega (arith, e, l, f))
      | no l ↦ rw (le-ltb n last_number (omega (arith, l))) (omega (arith, e, l, f))
    ]
