use Rattle.unroll_call.proofs.Putting.{loop_put, byte-room, operands-ready, head-put}
use Rattle.unroll_call.proofs.heads.copied.Goals as goal

pub returns-then-b-eq-LOOP : goal.returns-then-b-eq-LOOP
returns-then-b-eq-LOOP c = loop_put _ _ c.if-b-eq-LOOP.true

pub put_one-j-requires : goal.put_one-j-requires
put_one-j-requires c = byte-room c.requires c.if-b-eq-LOOP.false

pub operands-requires : goal.operands-requires
operands-requires c = operands-ready c.requires c.if-b-eq-LOOP.false (rw c.copied_byte.ensures at c.put_one-j.ensures)

pub returns : goal.returns
returns c =
    head-put c.requires c.if-b-eq-LOOP.false (rw c.copied_byte.ensures at c.put_one-j.ensures) c.operands.ensures
