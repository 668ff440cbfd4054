use mathlib.Core.Path.{subst}
use Rattle.std.proofs.lemmas.Result.{err_from_is_err_and}
use Rattle.instants.specs.Replies.{CallStands}
use Rattle.box_previews.proofs.Calls.{other-buffer, turned_down, from_start, stands_at, shown-preview}
use Rattle.box_previews.proofs.preview.Goals as goal

pub returns-then-buffer-ne-PREVIEW_LENGTH : goal.returns-then-buffer-ne-PREVIEW_LENGTH
returns-then-buffer-ne-PREVIEW_LENGTH c = let a = c.args in other-buffer a.sequence.now a.state.now a.input a.unknown a.read_back a.buffer.now c.if-buffer-ne-PREVIEW_LENGTH.true

pub show-requires : goal.show-requires
show-requires c =
    let (h, d) = subst (CallStands _ _ _ _ _) c.in_ok-start.was c.begin.ensures in
    (stands_at _ _ _ h c.in_ok-start.start (from_start _ _ _ h c.in_ok-start.start d), c.if-buffer-ne-PREVIEW_LENGTH.false)

pub returns-in_err-start : goal.returns-in_err-start
returns-in_err-start c =
    let a = c.args in
    let p = err_from_is_err_and c.from_residual.result c.from_residual.ensures.1 in
    rw (p.1, p.2) (turned_down a.sequence.now a.state.now a.input a.unknown a.read_back a.buffer.now c.if-buffer-ne-PREVIEW_LENGTH.false _
    (subst (CallStands _ _ _ _ _) c.in_err-start.was c.begin.ensures))

pub returns : goal.returns
returns c =
    let a = c.args in
    let (h, d) = subst (CallStands _ _ _ _ _) c.in_ok-start.was c.begin.ensures in
    shown-preview a.sequence.now a.state.now a.input a.unknown a.read_back a.buffer.now c.if-buffer-ne-PREVIEW_LENGTH.false h c.in_ok-start.start (from_start _ _ _ h c.in_ok-start.start d) _
    (c.show.ensures h.p h.known.lies)
