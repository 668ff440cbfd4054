use mathlib.Core.Path.{ap}
use mathlib.Core.Bool.{not}
use mathlib.Core.Path.{sym, ◌∙◌}
use native.Mathlib.Omega.{arith}
use lib.ListN.{get_or}
use borrow.Author.Rules.{rules}
use Rattle.sets.proofs.Loops.{some_left, none_left}
use Rattle.sets.proofs.Lowest.{remove_less}
use Rattle.box_ledgers.proofs.Fields.{adding_none, adding-at, adding-next, adding-all, next_most}
use Rattle.box_ledgers.proofs.add.Goals as goal

pub loop-x-init : goal.loop-x-init
loop-x-init c = adding_none _ _ _ c.requires.ledger_len

pub bounds-litres-farm : goal.bounds-litres-farm
bounds-litres-farm c =
    let l = (adding-at _ _ c.requires.none_outside (search rules) c.loop-x.invariant c.lowest-x.ensures
    (some_left c.is_empty.ensures (ap not c.loop-x-test.true))).0 in
    omega arith

pub add_to-requires : goal.add_to-requires
add_to-requires c =
    let l = c.loop-x in
    let w = adding-at _ _ c.requires.none_outside (search rules) l.invariant c.lowest-x.ensures
    (some_left c.is_empty.ensures (ap not c.loop-x-test.true)) in
    (l.invariant.sized, w.0, next_most (λ f. get_or c.args.litres.now f 0) c.args.ledger.now l.ledger _ c.requires.ledger_len c.requires.f_value w.1 w.0)

pub loop-x-smaller : goal.loop-x-smaller
loop-x-smaller c =
    let r = remove_less _ _ (c.lowest-x.ensures.found
    (some_left c.is_empty.ensures (ap not c.loop-x-test.true))) in
    let e = c.without-left.ensures in
    omega (arith, e, r)

pub loop-x-preserved : goal.loop-x-preserved
loop-x-preserved c =
    adding-next _ _ c.requires.none_outside (search rules) c.loop-x.invariant
    c.lowest-x.ensures
    (some_left c.is_empty.ensures (ap not c.loop-x-test.true))
    c.without-left.ensures c.add_to.ensures

pub shape_of-ledger : goal.shape_of-ledger
shape_of-ledger c = c.loop-x.invariant.sized ∙ sym c.requires.ledger_len

pub returns : goal.returns
returns c =
    adding-all _ _ c.requires.none_outside c.loop-x.invariant (none_left c.is_empty.ensures (ap not c.loop-x-test.false))
