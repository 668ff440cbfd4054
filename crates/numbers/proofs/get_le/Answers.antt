use Rattle.std.proofs.Common.{◌≤◌, ◌^◌, length, ap, ◌∙◌, arith}
use Rattle.std.proofs.Math.Nat.{pow-le-pow_right}
use lib.ListN.{length-take}
use Rattle.numbers.proofs.get_le.Goals as goal

pub returns-clause-upper_bound : goal.returns-clause-upper_bound
returns-clause-upper_bound c =
    let n = ap length c.part-bytes.ensures ∙ length-take _ _ in
    let q : 256 ^ length c.part-bytes.result.now ≤ 256 ^ c.args.n =
    pow-le-pow_right {n = 256} (omega arith) {i = length c.part-bytes.result.now} {j = c.args.n} (omega (arith, n, c.min.ensures)) in
    omega (arith, q, c.read_le.ensures.upper_bound)
