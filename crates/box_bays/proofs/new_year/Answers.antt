use Rattle.box_bays.proofs.Charging.{year_turned}
use Rattle.box_bays.proofs.new_year.Goals as goal

pub returns : goal.returns
returns c = year_turned c.args.stretch.now c.clear.ensures
