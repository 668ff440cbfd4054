use Rattle.reading.proofs.Bytes.{is_declaration_lem}
use Rattle.reading.proofs.steps.declares.Goals as goal

pub returns : goal.returns
returns c = is_declaration_lem _
