use native.Mathlib.Omega.{arith}
use mathlib.Core.Path.{◌∙◌}
use lib.ListN.{length-set}
use Rattle.labels.specs.Labels.{label_set}
use Rattle.spec_tick.specs.StateRecord.{state_length, state_record}
use Rattle.numbers.proofs.Writing.{left_alone}
use Rattle.records.proofs.StateStores.{state_stored}
use Rattle.records.proofs.StateLaws.{state_sized}
use Rattle.records.proofs.write_state.Goals as goal

pub returns-then-state-ne-STATE_LENGTH : goal.returns-then-state-ne-STATE_LENGTH
returns-then-state-ne-STATE_LENGTH c =
    let a = c.args in
    left_alone state_length a.state.now (state_record a.phase (label_set a.labels)) (state_sized a.phase (label_set a.labels)) c.if-state-ne-STATE_LENGTH.true

pub put_labels-requires : goal.put_labels-requires
put_labels-requires c = simp length-set (omega arith)

pub shape_of-state : goal.shape_of-state
shape_of-state c = c.put_labels.auto.buffer ∙ simp length-set

pub returns : goal.returns
returns c =
    let a = c.args in
    c.put_labels.ensures ∙ state_stored a.phase (label_set a.labels) a.state.now c.if-state-ne-STATE_LENGTH.false
