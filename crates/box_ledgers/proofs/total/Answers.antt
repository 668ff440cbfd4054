use mathlib.Core.Path.{sym, ◌∙◌}
use lib.Ieee.{binary32, of_bits}
use Rattle.spec_base.specs.WholeLitres.{whole}
use Rattle.litres.proofs.Sums.{whole_pattern}
use Rattle.box_ledgers.proofs.Totals.{holds, zero-whole, read_whole, read-other}
use Rattle.box_ledgers.proofs.total.Goals as goal

pub float_from_bits-result : goal.float_from_bits-result
float_from_bits-result c =
    let n = c.bits-bits.result in
    whole_pattern n (holds (whole (of_bits binary32 n)) (sym c.is_whole.ensures ∙ c.if-is_whole.true))

pub float_from_bits-result-else-is_whole : goal.float_from_bits-result-else-is_whole
float_from_bits-result-else-is_whole c = whole_pattern 0 zero-whole

pub returns-then-is_whole : goal.returns-then-is_whole
returns-then-is_whole c =
    let a = c.args in
    read_whole a.farm a.ledger.now c.bits-bits.ensures (sym c.is_whole.ensures ∙ c.if-is_whole.true)

pub returns-else-is_whole : goal.returns-else-is_whole
returns-else-is_whole c =
    let a = c.args in
    read-other a.farm a.ledger.now c.bits-bits.ensures (sym c.is_whole.ensures ∙ c.if-is_whole.false)
