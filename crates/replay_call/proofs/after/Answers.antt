use Rattle.replay_call.proofs.Comparing.{has-ranks, after-waiting}
use Rattle.replay_call.proofs.after.Goals as goal

pub ranks-requires : goal.ranks-requires
ranks-requires c = has-ranks _ _ c.in-Waiting.is c.requires

pub returns-in-Waiting : goal.returns-in-Waiting
returns-in-Waiting c = after-waiting _ _ c.in-Waiting.is _ c.ranks.ensures
