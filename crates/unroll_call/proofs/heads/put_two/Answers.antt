use Rattle.unroll_call.proofs.Putting.{put_then}
use Rattle.unroll_call.proofs.heads.put_two.Goals as goal

pub returns : goal.returns
returns c = put_then c.put_one-j.ensures c.put_one.ensures
