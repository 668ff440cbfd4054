use Rattle.layout.specs.Notes.{note_signals}
use Rattle.notes.proofs.signal.Goals as goal

pub returns : goal.returns
unfolding note_signals
returns c = rw (c.max.ensures, c.from.ensures)
