use borrow.Author.Tests.{lt-ltb, le-ltb}
use Rattle.checks.proofs.after_reading.Goals as goal

pub returns-then-left-size : goal.returns-then-left-size
returns-then-left-size c = rw (← c.size.ensures, lt-ltb _ _ c.if-left-size.true)

pub returns-then-n-bytes : goal.returns-then-n-bytes
returns-then-n-bytes c = rw (← c.size.ensures, le-ltb _ _ c.if-left-size.false, lt-ltb c.args.n c.args.bytes c.if-n-bytes.true)

pub returns : goal.returns
returns c = rw (← c.size.ensures, le-ltb _ _ c.if-left-size.false, le-ltb c.args.n c.args.bytes c.if-n-bytes.false)
