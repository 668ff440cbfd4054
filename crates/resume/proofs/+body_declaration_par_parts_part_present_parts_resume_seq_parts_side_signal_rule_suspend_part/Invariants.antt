use Prim.Native.Nat.{◌+◌, ◌*◌, ◌-◌}
use Rattle.resume.proofs.+body_declaration_par_parts_part_present_parts_resume_seq_parts_side_signal_rule_suspend_part.Given as goal

abbrev pub decreases-body : goal.decreases-body
decreases-body l = 6 * l.depth + 2

abbrev pub decreases-declaration : goal.decreases-declaration
decreases-declaration l = 6 * l.depth - 1

abbrev pub decreases-par_parts : goal.decreases-par_parts
decreases-par_parts l = 6 * l.depth - 1

abbrev pub decreases-part : goal.decreases-part
decreases-part l = 6 * l.depth + 1

abbrev pub decreases-present_parts : goal.decreases-present_parts
decreases-present_parts l = 6 * l.depth - 1

abbrev pub decreases-resume : goal.decreases-resume
decreases-resume l = 6 * l.depth

abbrev pub decreases-seq_parts : goal.decreases-seq_parts
decreases-seq_parts l = 6 * l.depth - 1

abbrev pub decreases-side : goal.decreases-side
decreases-side l = 6 * l.depth + 2

abbrev pub decreases-signal_rule : goal.decreases-signal_rule
decreases-signal_rule l = 6 * l.depth - 2

abbrev pub decreases-suspend_part : goal.decreases-suspend_part
decreases-suspend_part l = 6 * l.depth - 1
