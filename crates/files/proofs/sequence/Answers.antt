use Rattle.files.proofs.Files.{sequence_part}
use Rattle.files.proofs.sequence.Goals as goal

pub returns : goal.returns
returns c = sequence_part c.args.file.now c.part.result.now c.sequence_length.result c.sequence_length.ensures.value c.part.ensures
