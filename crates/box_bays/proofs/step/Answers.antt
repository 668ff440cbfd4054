use Rattle.box_bays.proofs.Charging.{charged-short, charged-refusal, charged-settled}
use Rattle.limits.proofs.Refusals.{handed-on}
use Rattle.box_bays.proofs.step.Goals as goal

pub returns-then-answer-ne-ANSWER_LENGTH : goal.returns-then-answer-ne-ANSWER_LENGTH
returns-then-answer-ne-ANSWER_LENGTH c = charged-short _ _ _ c.if-answer-ne-ANSWER_LENGTH.true

pub returns-in_err-reaction : goal.returns-in_err-reaction
returns-in_err-reaction c =
    rw (handed-on _ _ c.from_residual.ensures.1)
    (charged-refusal _ _ _ c.requires c.if-answer-ne-ANSWER_LENGTH.false _ c.in_err-reaction.ensures.replies)

pub returns : goal.returns
returns c =
    let replied = c.in_ok-reaction.ensures in
    charged-settled _ _ _ c.requires c.if-answer-ne-ANSWER_LENGTH.false _ replied.replies _
    c.reply_with.new.litres replied.delivers c.settle.ensures
