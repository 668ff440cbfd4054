use mathlib.Core.Path.{ap, ◌∙◌}
use lib.ListN.{length}
use borrow.Author.Rules.{rules}
use Rattle.theory_bay.proofs.Fields.{ledger_sized}
use Rattle.box_bays.proofs.Charging.{ledger-short, ledger-read}
use Rattle.box_bays.proofs.read_ledger.Goals as goal

pub returns-then-totals-ne-READING_LENGTH : goal.returns-then-totals-ne-READING_LENGTH
returns-then-totals-ne-READING_LENGTH c = ledger-short _ _ c.if-totals-ne-READING_LENGTH.true

pub read-requires : goal.read-requires
read-requires c =
    (ap length c.ledger.ensures ∙ ledger_sized c.args.stretch.now c.requires, search rules)

pub returns : goal.returns
returns c =
    ledger-read c.args.stretch.now c.args.totals.now c.if-totals-ne-READING_LENGTH.false c.ledger.ensures c.read.ensures.reading_after
