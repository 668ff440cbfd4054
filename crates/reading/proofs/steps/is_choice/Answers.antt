use Rattle.reading.proofs.Bytes.{is-choice}
use Rattle.reading.proofs.steps.is_choice.Goals as goal

pub returns : goal.returns
returns c = is-choice _
