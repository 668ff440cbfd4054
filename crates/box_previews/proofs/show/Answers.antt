use Rattle.box_previews.specs.Standing.{answers_at}
use Rattle.box_previews.proofs.Calls.{too_many, shown-bytes}
use Rattle.box_previews.proofs.show.Goals as goal

pub returns-then-size-gt-MAX_UNKNOWN : goal.returns-then-size-gt-MAX_UNKNOWN
returns-then-size-gt-MAX_UNKNOWN c p l =
    let a = c.args in
    too_many (answers_at a.origin p a.read_back) a.input a.unknown a.buffer.now _ c.size.ensures c.if-size-gt-MAX_UNKNOWN.true

pub returns : goal.returns
returns c p l =
    let a = c.args in
    shown-bytes (answers_at a.origin p a.read_back) a.input a.unknown a.buffer.now _ c.size.ensures c.if-size-gt-MAX_UNKNOWN.false _ _
    (c.gather.ensures p l) c.write.ensures
