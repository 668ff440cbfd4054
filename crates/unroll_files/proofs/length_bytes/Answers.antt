use mathlib.Core.Path.{◌∙◌}
use Rattle.unroll_files.proofs.Outputs.{two_bytes}
use Rattle.unroll_files.proofs.length_bytes.Goals as goal

pub returns : goal.returns
returns c = c.to_le_bytes.ensures ∙ two_bytes c.args.count
