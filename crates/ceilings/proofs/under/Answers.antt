use borrow.Author.Rules.{rules}
use Rattle.ceilings.proofs.Products.{power, product-fits, ceiling-fits}
use Rattle.ceilings.proofs.under.Goals as goal

pub overflow_mul-result : goal.overflow_mul-result
overflow_mul-result c = record { fits = product-fits _ _ (search rules) (search rules) }

pub overflow_mul-result-2 : goal.overflow_mul-result-2
overflow_mul-result-2 c = record { fits = ceiling-fits _ _ (search rules) (search rules) _ (search rules) }

pub returns : goal.returns
returns c =
    rw c.size-k.ensures (rw (power _ c.requires.signals))
