use Rattle.rules.proofs.CombiningTwo.{par_joins}
use borrow.Author.Rules.{rules}
use Rattle.rules.proofs.in_parallel.Goals as goal

pub returns : goal.returns
returns c t v a b =
    par_joins t v _ _ a b _ _ _ _ _ _ c.union.ensures c.greater_of-code.ensures c.over_two.ensures
    c.union-3.ensures c.union-2.ensures (search rules, c.if_waiting.ensures)
