use Rattle.boxes.proofs.Calling.{move-refused, move-made}
use Rattle.boxes.proofs.moved.Goals as goal

pub returns-in_err-from : goal.returns-in_err-from
returns-in_err-from c = move-refused _ _ c.args.call _ _ c.from_residual.ensures.1 c.in_err-from.ensures

pub returns : goal.returns
returns c = move-made _ _ c.args.call _ c.in_ok-from.ensures _ _ c.moved.ensures
