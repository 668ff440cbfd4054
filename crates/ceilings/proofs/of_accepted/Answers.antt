use Rattle.ceilings.proofs.Planning.{whole, few-around, numbers, plannable, by-numbers}
use Rattle.ceilings.proofs.of_accepted.Goals as goal

pub most-requires : goal.most-requires
most-requires c = few-around _ _ _ _ c.requires.1

pub of_sequence-n-requires : goal.of_sequence-n-requires
of_sequence-n-requires c = whole _ _ _ _ c.requires.1

pub under-requires : goal.under-requires
under-requires c =
    let a = c.requires.1 in
    plannable _ _ _ _ a (numbers _ _ _ _ a c.of_sequence-n.ensures c.most.ensures)

pub returns : goal.returns
returns c =
    let a = c.requires.1 in
    by-numbers _ _ _ _ a (numbers _ _ _ _ a c.of_sequence-n.ensures c.most.ensures) c.under.ensures
