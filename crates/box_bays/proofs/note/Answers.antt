use mathlib.Core.Path.{ap, ◌∙◌}
use lib.ListN.{length}
use Rattle.theory_bay.proofs.Fields.{state_sized}
use Rattle.box_bays.proofs.Recording.{noted}
use Rattle.box_bays.proofs.note.Goals as goal

pub write_record-requires : goal.write_record-requires
write_record-requires c =
    (c.requires.1, ap length c.state.ensures ∙ state_sized c.args.stretch.now c.requires.0)

pub returns : goal.returns
returns c =
    noted c.args.stretch.now _ c.args.answer.now c.args.trace.now c.requires.0 c.requires.1 c.requires.2
    c.count.ensures c.following-number.ensures c.state.ensures c.write_record.ensures
    c.put_le.ensures
