use Rattle.litres.proofs.Patterns.{small, large, middle_code, unit_pos}
use Rattle.litres.proofs.is_whole.Goals as goal

pub returns-then-v-ge1266679808 : goal.returns-then-v-ge1266679808
returns-then-v-ge1266679808 c = large c.args.v c.if-v-ge1266679808.true

pub returns-then-v-lt1065353216 : goal.returns-then-v-lt1065353216
returns-then-v-lt1065353216 c = small c.args.v c.if-v-lt1065353216.true

pub nonzero_rem-result-2 : goal.nonzero_rem-result-2
nonzero_rem-result-2 c = unit_pos c.args.v c.if-v-lt1065353216.false

pub returns : goal.returns
returns c = middle_code c.args.v c.if-v-lt1065353216.false c.if-v-ge1266679808.false

-- `is_whole` meets its contract. Assumes nothing.
