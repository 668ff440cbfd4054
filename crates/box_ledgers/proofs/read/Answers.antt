use native.Mathlib.Omega.{arith}
use mathlib.Core.Path.{sym, ◌∙◌}
use Rattle.box_ledgers.proofs.Showing.{show-first, show-next, sum-no-nan, show-all}
use Rattle.box_ledgers.proofs.read.Goals as goal

pub loop-farm-init : goal.loop-farm-init
loop-farm-init c =
    show-first _ c.args.reading.now c.requires.1 c.show-t.ensures.value c.show-t.ensures.reading_after

pub show-t-requires-in-loop-farm : goal.show-t-requires-in-loop-farm
show-t-requires-in-loop-farm c =
    (c.requires.0, c.loop-farm.invariant.sized, c.loop-farm-test.true)

pub loop-farm-preserved : goal.loop-farm-preserved
loop-farm-preserved c =
    show-next _ c.loop-farm.invariant c.loop-farm-test.true
    c.show-t-in-loop-farm.ensures.value c.show-t-in-loop-farm.ensures.reading_after

pub float_to_bits-t : goal.float_to_bits-t
float_to_bits-t c = sum-no-nan _ c.loop-farm.invariant

pub put_four-requires : goal.put_four-requires
put_four-requires c = let z = c.loop-farm.invariant.sized in omega (arith, z)

pub shape_of-reading : goal.shape_of-reading
shape_of-reading c = c.put_four.auto.b ∙ c.loop-farm.invariant.sized ∙ sym c.requires.1

pub returns : goal.returns
returns c =
    let w = show-all _ c.loop-farm.invariant c.loop-farm-test.false c.put_four.ensures in
    record { reading_after = w.0; near = w.1 }
