use native.Mathlib.Omega.{arith}
use mathlib.Core.Path.{subst}
use Rattle.instants.specs.Written.{WritableCode}
use Rattle.box_previews.proofs.Steps.{ended-found, waiting-found, leaving-found, wrong-found}
use borrow.Author.Rules.{rules}
use Rattle.box_previews.proofs.found.Goals as goal

pub overflow_add-n : goal.overflow_add-n
overflow_add-n c = let h = subst WritableCode c.in-Leaving.is c.requires in omega arith

pub returns-in-Ended : goal.returns-in-Ended
returns-in-Ended c = ended-found _ _ _ (search rules) c.in-Ended.is c.alone.ensures

pub returns-in-Waiting : goal.returns-in-Waiting
returns-in-Waiting c = waiting-found _ _ _ (search rules) c.in-Waiting.is c.alone-in-Waiting.ensures

pub returns-in-Leaving : goal.returns-in-Leaving
returns-in-Leaving c = leaving-found _ _ _ (search rules) c.in-Leaving.is c.alone-in-Leaving.ensures

pub returns-in-Wrong : goal.returns-in-Wrong
returns-in-Wrong c = wrong-found _ _ _ (search rules) c.in-Wrong.is c.alone-in-Wrong.ensures
