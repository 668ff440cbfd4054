use Rattle.wellformed.proofs.exclusion.before_second.Goals as goal

pub returns-then-parallel : goal.returns-then-parallel
returns-then-parallel c = record { excludes = rw c.if-parallel.true; sides = rw c.if-parallel.true c.union.ensures }

pub returns-else-parallel : goal.returns-else-parallel
returns-else-parallel c = record { excludes = rw c.if-parallel.false c.union-else-parallel.ensures; sides = rw c.if-parallel.false }
