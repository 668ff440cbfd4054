use Prim.Native.Nat.{◌+◌, ◌*◌, ◌-◌}
use Rattle.react.proofs.+after_body_declaration_par_parts_part_present_parts_react_seq_parts_signal_rule.Given as goal

abbrev pub decreases-after : goal.decreases-after
decreases-after l = 6 * l.depth + 2

abbrev pub decreases-body : goal.decreases-body
decreases-body l = 6 * l.depth + 2

abbrev pub decreases-declaration : goal.decreases-declaration
decreases-declaration l = 6 * l.depth - 1

abbrev pub decreases-par_parts : goal.decreases-par_parts
decreases-par_parts l = 6 * l.depth - 1

abbrev pub decreases-part : goal.decreases-part
decreases-part l = 6 * l.depth + 1

abbrev pub decreases-present_parts : goal.decreases-present_parts
decreases-present_parts l = 6 * l.depth - 1

abbrev pub decreases-react : goal.decreases-react
decreases-react l = 6 * l.depth

abbrev pub decreases-seq_parts : goal.decreases-seq_parts
decreases-seq_parts l = 6 * l.depth - 1

abbrev pub decreases-signal_rule : goal.decreases-signal_rule
decreases-signal_rule l = 6 * l.depth - 2
