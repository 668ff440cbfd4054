use Rattle.spec_language.specs.Statement.{par}
use Prim.Native.Nat.{◌+◌, ◌*◌}
use Rattle.wellformed.proofs.survey.+pass_pass_part_pass_parts.Given as goal

abbrev pub decreases-pass : goal.decreases-pass
decreases-pass l = 3 * l.depth + 1

abbrev pub decreases-pass_part : goal.decreases-pass_part
decreases-pass_part l = 3 * l.depth + 2

abbrev pub decreases-pass_parts : goal.decreases-pass_parts
decreases-pass_parts l = 3 * l.depth
