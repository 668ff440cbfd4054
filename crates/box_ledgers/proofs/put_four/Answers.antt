use native.Mathlib.Omega.{arith}
use lib.ListN.{length-set}
use borrow.Author.Rules.{rules}
use Rattle.box_ledgers.proofs.Totals.{four_written}
use Rattle.box_ledgers.proofs.put_four.Goals as goal

pub bounds-b-at-2 : goal.bounds-b-at-2
bounds-b-at-2 c = simp length-set (omega arith)

pub bounds-b-at-3 : goal.bounds-b-at-3
bounds-b-at-3 c = simp length-set (omega arith)

pub bounds-b-at-4 : goal.bounds-b-at-4
bounds-b-at-4 c = simp length-set (omega arith)

pub returns : goal.returns
returns c = four_written _ _ c.args.x (search rules)
