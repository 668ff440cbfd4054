use borrow.Author.Tests.{ne_eqb}
use Rattle.unroll_call.proofs.heads.copied_byte.Goals as goal

pub returns-then-b-eq-PAUSE : goal.returns-then-b-eq-PAUSE
returns-then-b-eq-PAUSE c = rw c.if-b-eq-PAUSE.true

pub returns-else-b-eq-PAUSE : goal.returns-else-b-eq-PAUSE
returns-else-b-eq-PAUSE c = rw (ne_eqb _ 1 c.if-b-eq-PAUSE.false)
