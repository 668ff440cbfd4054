use Rattle.box_positions.proofs.Placing.{entry-written}
use Rattle.box_positions.proofs.write.Goals as goal

pub returns : goal.returns
returns c =
    entry-written _ c.args.table.now c.requires.0 c.requires.1 _ _
    c.put_le.ensures c.write_state.ensures
