use mathlib.Core.Path.{refl}
use Rattle.unroll_call.proofs.Putting.{put_next}
use Rattle.unroll_call.proofs.heads.own.Goals as goal

pub loop-k-init : goal.loop-k-init
loop-k-init g c = record { after = refl; end = refl }

pub loop-k-preserved : goal.loop-k-preserved
loop-k-preserved g c = put_next _ _ _ _ c.loop-k.invariant
