use Rattle.files.proofs.Files.{read-back_part}
use Rattle.files.proofs.read_back.Goals as goal

pub returns : goal.returns
returns c =
    let l = c.sequence_length-at in
    read-back_part c.args.file.now c.get_le.result l.result l.ensures.value c.get_le.ensures.value
