use mathlib.Core.Path.{refl, ◌∙◌}
use lib.ListN.{length}
use Rattle.numbers.proofs.Writing.{left_alone}
use Rattle.numbers.proofs.Copies.{copied}
use Rattle.records.proofs.write_service.Goals as goal

pub returns-then-view-record : goal.returns-then-view-record
returns-then-view-record c =
    let a = c.args in
    left_alone (length a.«record».now) a.view.now a.«record».now refl c.if-view-record.true

pub returns : goal.returns
returns c =
    let a = c.args in
    c.put_bytes.ensures ∙ copied a.view.now a.«record».now c.if-view-record.false
