use mathlib.Core.Path.{◌∙◌}
use Rattle.layout.proofs.Leaves.{notes-pause, notes-setpause, notes-farm, notes-none}
use Rattle.notes.proofs.leaf.Goals as goal

pub note_pause-requires : goal.note_pause-requires
note_pause-requires c = (c.requires.pausing c.if-b-eq-PAUSE.true, c.requires.few)

pub returns-then-b-eq-PAUSE : goal.returns-then-b-eq-PAUSE
returns-then-b-eq-PAUSE c d a k x i z f = c.note_pause.ensures ∙ notes-pause _ _ _ c.if-b-eq-PAUSE.true d a k x i z f

pub note_setpause-requires : goal.note_setpause-requires
note_setpause-requires c = c.requires.targeting c.if-b-eq-SETPAUSE.true

pub returns-then-b-eq-SETPAUSE : goal.returns-then-b-eq-SETPAUSE
returns-then-b-eq-SETPAUSE c d a k x i z f = c.note_setpause.ensures ∙ notes-setpause _ _ _ c.if-b-eq-SETPAUSE.true d a k x i z f

pub note_farm-requires : goal.note_farm-requires
note_farm-requires c = c.requires.naming c.if-b-eq-DELIVER.true

pub returns-then-b-eq-DELIVER : goal.returns-then-b-eq-DELIVER
returns-then-b-eq-DELIVER c d a k x i z f = c.note_farm.ensures ∙ notes-farm _ _ _ c.if-b-eq-DELIVER.true d a k x i z f

pub returns-else-b-eq-DELIVER : goal.returns-else-b-eq-DELIVER
returns-else-b-eq-DELIVER c d a k x i z f = notes-none _ _ _ c.if-b-eq-PAUSE.false c.if-b-eq-SETPAUSE.false c.if-b-eq-DELIVER.false d a k x i z f
