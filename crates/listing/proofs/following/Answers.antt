use mathlib.Core.Path.{refl}
use borrow.Author.Tests.{eq-eqb, ne_eqb}
use Rattle.listing.proofs.following.Goals as goal

pub returns-then-phase-eq-OVER : goal.returns-then-phase-eq-OVER
returns-then-phase-eq-OVER c = rw (eq-eqb c.args.phase 2 c.if-phase-eq-OVER.true) refl

pub returns-else-phase-eq-OVER : goal.returns-else-phase-eq-OVER
returns-else-phase-eq-OVER c = rw (ne_eqb c.args.phase 2 c.if-phase-eq-OVER.false) refl
