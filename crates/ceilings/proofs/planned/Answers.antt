use mathlib.Core.Path.{ap}
use Rattle.std.proofs.lemmas.Result.{err_from_is_err_and}
use Rattle.limits.specs.Rows.{call_number}
use Rattle.checks.proofs.Passing.{passed}
use Rattle.ceilings.proofs.Planning.{plan-refused, plan-takes}
use Rattle.ceilings.proofs.planned.Goals as goal

pub returns-in_err-check : goal.returns-in_err-check
returns-in_err-check c =
    let p = err_from_is_err_and c.from_residual.result c.from_residual.ensures.1 in
    rw (p.1, p.2) (plan-refused _ _ _ c.check.ensures c.in_err-check.was)

pub of_accepted-requires : goal.of_accepted-requires
of_accepted-requires c = (_, passed _ _ _ _ _ c.check.ensures (ap call_number c.in_ok-check.was))

pub returns : goal.returns
returns c = plan-takes _ _ (passed _ _ _ _ _ c.check.ensures (ap call_number c.in_ok-check.was)) c.of_accepted.ensures
